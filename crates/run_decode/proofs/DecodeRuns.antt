-- The run that is decoded, by steps: what its word and its alarms are, and how long it is.
use Rattle.std.proofs.Common.{◌≡◌, ℕ, zero, suc, ◌+◌, ◌<◌, ◌≤◌, ◌∙◌, Bool, true, false, List, [], ◌∷◌, ◌++◌, length, map, flat_map, filter, filter_map, Option, Some, None, refl, sym, ap, subst, arith, slice_index_or, not, ◌&&◌, length-append}
use Rattle.std.specs.Prelude.{is_some}
use Rattle.std.specs.List.{AllByRecursion, range_with_len}
use Rattle.des_base.proofs.Elements.{all_from, map_has, filter_from}
use Rattle.des_base.specs.Lists.{numbers_below}
use Rattle.des_net.specs.Network.{Net, IsNetwork, label_of}
use Rattle.des_net.specs.Width.{joined, IsPiece}
use Rattle.log_order.specs.Log.{Log, ListsOnce, Keeps, IsValidLog}
use Rattle.question_clauses.specs.Decoded.{alarm_event, comes, is_false_alarm, shown_at, unobservables, arranged, decoded}
use Rattle.question_clauses.specs.LogLaws.{IsArranged}
use Rattle.question_clauses.specs.LogTruth.{LogClausesHold, GuardsHold}
use Rattle.question_clauses.proofs.Lists.{all_at, from_numbers, in_numbers}
use Rattle.question_clauses.proofs.LogSound.{log_is_sound, real_at}
use Rattle.log_encode.proofs.TakenLemmas.{map_count}
use Rattle.prop_core.specs.VariableNames.{Meaning, happens, done}
use Rattle.replay.specs.declared.run.RunStep.{RunStep}
use Rattle.replay.specs.Traced.{word_of, event_of}
use Rattle.question_clauses.proofs.StepsExact.{steps_are_exact}
use Rattle.question_clauses.specs.Steps.{IsOrderOf, events_at, step_sets, StepClausesHold}
use Rattle.run_decode.specs.Decoding.{plain_step, alarm_step, shown_steps, is_plain, plain_events, falls, no_alarm_event, first_steps, decoded_step, decoded_run}
use Rattle.run_decode.proofs.ShownSteps.{shown_word}
use Rattle.run_decode.proofs.SmallPieces.{piece_small}
use Rattle.question_clauses.proofs.LogRules.{false_first}
use Rattle.question_clauses.proofs.StepsSound.{steps_are_sound}
use Rattle.std.proofs.lemmas.List.Elements.{filter_map-append}

-- ---- words

plain_word : (events : List ℕ) → word_of (map plain_step events) ≡ events
plain_word [] = refl
plain_word (e ∷ events) = ap (λ xs. e ∷ xs) (plain_word events)

word_append : (xs ys : List RunStep) → word_of (xs ++ ys) ≡ word_of xs ++ word_of ys
word_append xs ys = filter_map-append event_of xs ys

-- what the clauses of a log settle of its alarms in each step
pub record AreSettled (net : Net) (log : Log) (n : ℕ) (value : Meaning → Bool) : Type 0 where
  pub at : (t i : ℕ) → t < n → i < length log.alarms → comes value i (suc t) && not (is_false_alarm log value i) ≡ is_some (alarm_event net log value t i)
  pub first : (i : ℕ) → i < length log.alarms → comes value i 0 && not (is_false_alarm log value i) ≡ false

pub are_settled : (net : Net) (log : Log) (n : ℕ) (value : Meaning → Bool) (order : List ℕ) → LogClausesHold net log n value → GuardsHold net log value → ListsOnce (length log.alarms) order → Keeps order log.pairs → AreSettled net log n value
are_settled net log n value order logged guarded listed kept = record {
  at = real_at net log n value logged guarded order listed kept;
  first = λ i known. by (value (done i 0)) refl (is_false_alarm log value i) refl (false_first net log n value logged i known);
}
  where
    by : {i : ℕ} (a : Bool) → value (done i 0) ≡ a → (b : Bool) → is_false_alarm log value i ≡ b → (value (done i 0) ≡ true → is_false_alarm log value i ≡ true) → value (done i 0) && not (is_false_alarm log value i) ≡ false
    by true e true f h = rw (e, f) refl
    by true e false f h = let bad : false ≡ true = sym f ∙ h e in cc
    by false e b f h = rw e refl

none_of : (a b : Bool) (o : Option ℕ) → a && not b ≡ is_some o → a && b ≡ true → o ≡ None
none_of true true None h k = refl
none_of true true (Some e) h k = cc
none_of true false o h k = cc
none_of false b o h k = cc

-- the events that can't be seen among those of the step
plain_is : (net : Net) (value : Meaning → Bool) (t : ℕ) → plain_events net value t ≡ unobservables net (events_at net value (suc t))
plain_is net value t = by (numbers_below (length net.events))
  where
    by : (xs : List ℕ) → filter (is_plain net value t) xs ≡ filter (λ e. not (is_some (label_of net e))) (filter (λ e. value (happens e (suc t))) xs)
    by [] = refl
    by (x ∷ xs) = one (value (happens x (suc t))) refl (not (is_some (label_of net x))) refl (by xs)
      where
        one : (b : Bool) → value (happens x (suc t)) ≡ b → (d : Bool) → not (is_some (label_of net x)) ≡ d → filter (is_plain net value t) xs ≡ filter (λ e. not (is_some (label_of net e))) (filter (λ e. value (happens e (suc t))) xs) →
            filter (is_plain net value t) (x ∷ xs) ≡ filter (λ e. not (is_some (label_of net e))) (filter (λ e. value (happens e (suc t))) (x ∷ xs))
        one true h true k later = rw (h, k) (ap (λ rest. x ∷ rest) later)
        one true h false k later = rw (h, k) later
        one false h d k later = rw h later

-- the events of a step, as they are arranged
abbrev piece : Net → Log → (Meaning → Bool) → List ℕ → ℕ → List ℕ
piece net log value order t = unobservables net (events_at net value (suc t)) ++ shown_at net log value order t

pub step_word : (net : Net) (log : Log) (n : ℕ) (value : Meaning → Bool) (order : List ℕ) (t : ℕ) → AreSettled net log n value → AllByRecursion (λ i. i < length log.alarms) order → t < n →
    word_of (decoded_step net log value order t) ≡ piece net log value order t
step_word net log n value order t settled known time =
    let shown = shown_steps log (alarm_event net log value t) (falls log value (suc t)) order in
    word_append (map plain_step (plain_events net value t)) shown
    ∙ ap (λ xs. xs ++ word_of shown) (plain_word (plain_events net value t) ∙ plain_is net value t)
    ∙ ap (λ xs. unobservables net (events_at net value (suc t)) ++ xs) (shown_word log (alarm_event net log value t) (falls log value (suc t)) order (λ i in' fallen.
    none_of (comes value i (suc t)) (is_false_alarm log value i) (alarm_event net log value t i) (settled.at t i time (all_at (λ j. j < length log.alarms) order known i in')) fallen))

first_word : (log : Log) (value : Meaning → Bool) (order : List ℕ) → word_of (first_steps log value order) ≡ []
first_word log value order = shown_word log no_alarm_event (falls log value 0) order (λ i in' h. refl) ∙ none order
  where
    none : (xs : List ℕ) → filter_map no_alarm_event xs ≡ []
    none [] = refl
    none (x ∷ xs) = none xs

-- the pieces from step a on
pieces_from : (net : Net) (log : Log) (value : Meaning → Bool) (order : List ℕ) (a k : ℕ) → arranged net log value order a (map (λ t. events_at net value (suc t)) (range_with_len a k)) ≡ map (piece net log value order) (range_with_len a k)
pieces_from net log value order a zero = refl
pieces_from net log value order a (suc k) =
    let next : suc a ≡ a + 1 = omega arith in
    ap (λ rest. piece net log value order a ∷ rest)
    (ap (λ b. arranged net log value order b (map (λ t. events_at net value (suc t)) (range_with_len (a + 1) k))) next ∙ pieces_from net log value order (a + 1) k)

joined_map : (f : ℕ → List ℕ) (xs : List ℕ) → joined (map f xs) ≡ flat_map f xs
joined_map f [] = refl
joined_map f (x ∷ xs) = ap (λ rest. f x ++ rest) (joined_map f xs)

run_word_from : (net : Net) (log : Log) (n : ℕ) (value : Meaning → Bool) (order xs : List ℕ) → AreSettled net log n value → AllByRecursion (λ i. i < length log.alarms) order → AllByRecursion (λ t. t < n) xs →
    word_of (flat_map (decoded_step net log value order) xs) ≡ flat_map (piece net log value order) xs
run_word_from net log n value order [] settled known times = refl
run_word_from net log n value order (t ∷ xs) settled known times =
    word_append (decoded_step net log value order t) (flat_map (decoded_step net log value order) xs)
    ∙ ap (λ ys. ys ++ word_of (flat_map (decoded_step net log value order) xs)) (step_word net log n value order t settled known times.0) ∙ ap (λ ys. piece net log value order t ++ ys) (run_word_from net log n value order xs settled known times.1)

pub below_all : (n : ℕ) → AllByRecursion (λ t. t < n) (numbers_below n)
below_all n = all_from (λ t. t < n) (numbers_below n) (λ t in'. from_numbers n t in')

-- the word of the run is that of the arranged pieces
pub run_word : (net : Net) (log : Log) (value : Meaning → Bool) (order : List ℕ) (n : ℕ) → AreSettled net log n value → AllByRecursion (λ i. i < length log.alarms) order →
    word_of (decoded_run net log value order n) ≡ joined (decoded net log value order n)
run_word net log value order n settled known =
    word_append (first_steps log value order) (flat_map (decoded_step net log value order) (numbers_below n)) ∙ ap (λ xs. xs ++ word_of (flat_map (decoded_step net log value order) (numbers_below n))) (first_word log value order)
    ∙ run_word_from net log n value order (numbers_below n) settled known (below_all n) ∙ sym (joined_map (piece net log value order) (numbers_below n)) ∙ ap joined (sym (pieces_from net log value order 0 n))

-- ---- its length

map_at : (f : ℕ → List ℕ) (a k t : ℕ) → t < k → slice_index_or (map f (range_with_len a k)) t [] ≡ f (a + t)
map_at f a zero t h = absurd (omega (arith, h))
map_at f a (suc k) zero h = ap f (omega arith)
map_at f a (suc k) (suc t) h = map_at f (a + 1) k t (omega (arith, h)) ∙ ap f (omega arith)

-- the arranged pieces are the steps, and linearise the log
pub decoded_arranged : (net : Net) (log : Log) (n : ℕ) (value : Meaning → Bool) (order : List ℕ) → IsNetwork net → IsValidLog log → LogClausesHold net log n value → GuardsHold net log value → ListsOnce (length log.alarms) order → Keeps order log.pairs →
    IsArranged net log n value order (step_sets net n value)
decoded_arranged net log n value order network valid logged guarded listed kept =
    log_is_sound net log n value (step_sets net n value) order valid listed kept ((steps_are_exact net n value network).in_order) logged guarded

pub shown_short : (log : Log) (event : ℕ → Option ℕ) (dropped : ℕ → Bool) (order : List ℕ) → length (shown_steps log event dropped order) ≤ length order
shown_short log event dropped [] = omega arith
shown_short log event dropped (i ∷ order) = by (alarm_step log event dropped i) refl (shown_short log event dropped order)
  where
    by : (o : Option RunStep) → alarm_step log event dropped i ≡ o → length (shown_steps log event dropped order) ≤ length order → length (shown_steps log event dropped (i ∷ order)) ≤ suc (length order)
    by None e h = rw e (omega (arith, h))
    by (Some s) e h = rw e (omega (arith, h))

-- a step has no more events that can't be seen than the network has components, and the alarms
pub step_small : (net : Net) (log : Log) (n t : ℕ) (value : Meaning → Bool) (order : List ℕ) → IsNetwork net → IsValidLog log → StepClausesHold net n value → LogClausesHold net log n value → GuardsHold net log value →
    ListsOnce (length log.alarms) order → Keeps order log.pairs → t < n → length (decoded_step net log value order t) ≤ length net.components + length order
step_small net log n t value order network valid stepped logged guarded listed kept time =
    let arranged_so = decoded_arranged net log n value order network valid logged guarded listed kept in
    let run = steps_are_sound net n value (decoded net log value order n) network stepped arranged_so.steps in
    let pieces = pieces_from net log value order 0 n in
    let at : slice_index_or (arranged net log value order 0 (step_sets net n value)) t [] ≡ piece net log value order t =
    ap (λ xs. slice_index_or xs t []) pieces ∙ map_at (piece net log value order) 0 n t time ∙ ap (piece net log value order) (omega arith) in
    let order_of_step : IsOrderOf (events_at net value (suc t)) (piece net log value order t) = subst (IsOrderOf (events_at net value (suc t))) at (arranged_so.steps.each t time) in
    let apart = all_at (IsPiece net) (map (piece net log value order) (numbers_below n)) (subst (AllByRecursion (IsPiece net)) pieces run.1.apart) (piece net log value order t) (map_has (piece net log value order) (numbers_below n) t (in_numbers n t time)) in
    let few = piece_small net network (piece net log value order t) (all_from (λ e. e < length net.events) (piece net log value order t) (λ q h.
    from_numbers (length net.events) q (filter_from (λ e. value (happens e (suc t))) (numbers_below (length net.events)) q ((order_of_step.same q).0 h)).1)) apart in
    let parts = length-append (unobservables net (events_at net value (suc t))) (shown_at net log value order t) in
    let plain = ap length (plain_is net value t) in
    let shown = shown_short log (alarm_event net log value t) (falls log value (suc t)) order in
    let whole = length-append (map plain_step (plain_events net value t)) (shown_steps log (alarm_event net log value t) (falls log value (suc t)) order) in
    let mapped = map_count plain_step (plain_events net value t) in
    omega (arith, few, parts, plain, shown, whole, mapped)
