-- What makes clauses and guards true is a linearisation.
use Rattle.std.proofs.Common.{◌≡◌, ◌≢◌, ℕ, zero, suc, ◌+◌, ◌<◌, ◌≤◌, Bool, true, false, List, [], ◌∷◌, ◌++◌, ◌∙◌, length, Option, Some, None, refl, sym, ap, subst, arith, Contains, filter, filter_map, is_some, not, inl, inr, ◌⊎◌, ◌&&◌}
use Rattle.std.specs.List.{AllByRecursion, AllZip}
use Rattle.std.proofs.lemmas.Bool.{cases_lt}
use Rattle.std.proofs.lemmas.List.Elements.{filter-append, All-from_recursion, All-contains, Contains-append_cases, Contains-append_left, Contains-append_right}
use Rattle.des_base.proofs.Elements.{here_first, here_later, none_in_nil, all_from, zip_append, all_append, filter_has, filter_from, pairs_filter, pairs_append, mapped_has, mapped_from}
use Rattle.des_base.proofs.BoolLemmas.{clash}
use Rattle.des_base.specs.Lists.{EachPair}
use Rattle.des_net.specs.Network.{Net, label_of}
use Rattle.des_net.specs.Width.{joined}
use Rattle.question_clauses.proofs.Entries.{alarms_append, real_append, entries_alarms, entries_real, entries_doubted, AreTold, entries_told, has_false}
use Rattle.question_clauses.proofs.Lists.{all_at, found_is, finds, is_before, from_places}
use Rattle.question_clauses.proofs.Pieces.{IsStepSet, AreFrom, pieces_are_steps}
use Rattle.question_clauses.proofs.LogRules as rules
use Rattle.question_clauses.proofs.LogRules.{shows, is_shown, shown_event, matching_alarm, has_event, event_matches, one_alarm, one_event, one_step, false_first, comes_by_match, match_comes, match_real, each_comes, has_alarm, no_step_back}
use Rattle.question_clauses.specs.Decoded.{alarm_event, shown_at, unobservables, is_false_alarm, comes, entries_at, arranged, arranged_order, whole_order}
use Rattle.question_clauses.specs.LogClauses.{matching_events}
use Rattle.question_clauses.specs.LogLaws.{IsArranged, LogIsSound}
use Rattle.question_clauses.specs.LogTruth.{LogClausesHold, GuardsHold}
use Rattle.log_order.specs.Log.{Log, ListsOnce, Keeps, IsValidLog, place_in}
use Rattle.prop_core.specs.VariableNames.{Meaning, happens, matches, done}
use Rattle.replay.specs.Explanation.{Entry, alarms_of, real_alarms, may_stand, observables, Shows, Linearises, is_matching}

-- those of the alarms that stand for an event of the step after t steps
abbrev pub alarms_at : Net → Log → (Meaning → Bool) → List ℕ → ℕ → List ℕ
alarms_at net log value alarms t = filter (λ i. is_some (alarm_event net log value t i)) alarms

filter_none : {X : Type 0} (p : X → Bool) (xs : List X) → ((x : X) → Contains xs x → p x ≡ false) → filter p xs ≡ []
filter_none p [] h = refl
filter_none p (x ∷ xs) h = rw (h x (here_first x xs x refl)) (filter_none p xs (λ y in'. h y (here_later x xs y in')))

filter_each : {X : Type 0} (p : X → Bool) (xs : List X) → ((x : X) → Contains xs x → p x ≡ true) → filter p xs ≡ xs
filter_each p [] h = refl
filter_each p (x ∷ xs) h = rw (h x (here_first x xs x refl)) (ap (λ ys. x ∷ ys) (filter_each p xs (λ y in'. h y (here_later x xs y in'))))

-- different elements that are kept give different ones
mapped_once : {X Y : Type 0} (f : X → Option Y) (xs : List X) → EachPair (λ a b. a ≢ b) xs →
    ((a b : X) (y : Y) → f a ≡ Some y → f b ≡ Some y → a ≡ b) → EachPair (λ a b. a ≢ b) (filter_map f xs)
mapped_once f [] once h = tt
mapped_once f (x ∷ xs) once h = by (f x) refl (mapped_once f xs once.1 h)
  where
    by : (o : Option _) → f x ≡ o → EachPair (λ a b. a ≢ b) (filter_map f xs) → EachPair (λ a b. a ≢ b) (filter_map f (x ∷ xs))
    by None e rest = rw e rest
    by (Some y) e rest = rw e (
      all_from (λ b. y ≢ b) (filter_map f xs) (λ b in' same.
          let found = mapped_from f xs b in' in
          all_at (λ c. x ≢ c) xs once.0 found.0 found.1 (h x found.0 b (e ∙ ap Some same) found.2)),
      rest,
    )

zip_mapped : {X Y : Type 0} (R : Y → X → Type 0) (f : X → Option Y) (xs : List X) → ((x : X) (y : Y) → f x ≡ Some y → R y x) → AllZip R (filter_map f xs) (filter (λ x. is_some (f x)) xs)
zip_mapped R f [] h = tt
zip_mapped R f (x ∷ xs) h = by (f x) refl (zip_mapped R f xs h)
  where
    by : (o : Option _) → f x ≡ o → AllZip R (filter_map f xs) (filter (λ z. is_some (f z)) xs) → AllZip R (filter_map f (x ∷ xs)) (filter (λ z. is_some (f z)) (x ∷ xs))
    by None e rest = rw e rest
    by (Some y) e rest = rw e (h x y e, rest)

module _ (net : Net) (log : Log) (n : ℕ) (value : Meaning → Bool) (held : LogClausesHold net log n value) (guards : GuardsHold net log value)
    (alarms : List ℕ) (complete : ListsOnce (length log.alarms) alarms) (kept : Keeps alarms log.pairs) where
  -- of two alarms in an order the first is another, and no pair wants it the other way round
  sorted : EachPair (λ a b. (a ≢ b) × (Contains log.pairs (b, a) → ⊥)) alarms
  sorted = from_places (λ b a. Contains log.pairs (b, a)) alarms complete.once (λ a b in' in2 pair.
      All-contains (λ (p : ℕ × ℕ). place_in alarms p.0 < place_in alarms p.1) log.pairs (b, a) (All-from_recursion (λ (p : ℕ × ℕ). place_in alarms p.0 < place_in alarms p.1) log.pairs kept) pair)

  stands_for : (t i e : ℕ) → alarm_event net log value t i ≡ Some e → (is_matching net log e i ≡ true) × (value (matches i e (suc t)) ≡ true)
  stands_for t i e h =
      let found = found_is (λ f. value (matches i f (suc t))) (matching_events net log i) e h in
      (event_matches net log e i found.1, found.0)

  has_one : (t i e : ℕ) → t < n → is_matching net log e i ≡ true → value (matches i e (suc t)) ≡ true → alarm_event net log value t i ≡ Some e
  has_one t i e step matching is =
      let found = finds (λ f. value (matches i f (suc t))) (matching_events net log i) e (has_event net log e i matching) is in
      let other = stands_for t i found.0 found.1 in
      found.1 ∙ ap Some (one_event net log n value held i found.0 e t other.0 matching step other.1 is)

  -- the alarms of the arranged order, from the step after t steps on
  by_steps : ℕ → List (List ℕ) → List ℕ
  by_steps t [] = []
  by_steps t (piece ∷ pieces) = filter (λ i. comes value i (suc t)) alarms ++ by_steps (suc t) pieces

  entries_are : (t : ℕ) → alarms_of (entries_at log value alarms t) ≡ filter (λ i. comes value i t) alarms
  entries_are t = entries_alarms log value (filter (λ i. comes value i t) alarms)

  order_is : (t : ℕ) (pieces : List (List ℕ)) → alarms_of (arranged_order log value alarms t pieces) ≡ by_steps t pieces
  unfolding by_steps
  order_is t [] = refl
  order_is t (piece ∷ pieces) =
      alarms_append (entries_at log value alarms (suc t)) (arranged_order log value alarms (suc t) pieces)
      ∙ ap (λ xs. xs ++ alarms_of (arranged_order log value alarms (suc t) pieces)) (entries_are (suc t))
      ∙ ap (λ xs. filter (λ i. comes value i (suc t)) alarms ++ xs) (order_is (suc t) pieces)

  whole_is : (pieces : List (List ℕ)) → alarms_of (whole_order log value alarms pieces) ≡ filter (λ i. comes value i 0) alarms ++ by_steps 0 pieces
  whole_is pieces =
      alarms_append (entries_at log value alarms 0) (arranged_order log value alarms 0 pieces)
      ∙ ap (λ xs. xs ++ alarms_of (arranged_order log value alarms 0 pieces)) (entries_are 0)
      ∙ ap (λ xs. filter (λ i. comes value i 0) alarms ++ xs) (order_is 0 pieces)

  known : (i : ℕ) → Contains alarms i → i < length log.alarms
  known i in' = all_at (λ j. j < length log.alarms) alarms complete.below i in'

  -- The arranged order has the alarms of its steps.
  from_order : (t : ℕ) (pieces : List (List ℕ)) (i : ℕ) → t + length pieces ≡ n → Contains (by_steps t pieces) i →
      (s : ℕ) × (t < s) × (s ≤ n) × (comes value i s ≡ true) × Contains alarms i
  unfolding by_steps
  from_order t [] i count in' = absurd (none_in_nil i in')
  from_order t (piece ∷ pieces) i count in' =
      by (Contains-append_cases (filter (λ j. comes value j (suc t)) alarms) (by_steps (suc t) pieces) i in') (from_order (suc t) pieces i (omega arith))
    where
      by : Contains (filter (λ j. comes value j (suc t)) alarms) i ⊎ Contains (by_steps (suc t) pieces) i →
          (Contains (by_steps (suc t) pieces) i → (s : ℕ) × (suc t < s) × (s ≤ n) × (comes value i s ≡ true) × Contains alarms i) →
          (s : ℕ) × (t < s) × (s ≤ n) × (comes value i s ≡ true) × Contains alarms i
      by (inl here) later = let found = filter_from (λ j. comes value j (suc t)) alarms i here in (suc t, omega arith, omega arith, found.0, found.1)
      by (inr rest) later = let found = later rest in let low = found.1 in (found.0, omega (arith, low), found.2, found.3, found.4)

  in_order : (t : ℕ) (pieces : List (List ℕ)) (i s : ℕ) → t + length pieces ≡ n → i < length log.alarms → comes value i s ≡ true → t < s → s ≤ n → Contains (by_steps t pieces) i
  unfolding by_steps
  in_order t [] i s count here is low high = absurd (omega arith)
  in_order t (piece ∷ pieces) i s count here is low high = by (cases_lt (suc t) s) (λ above. in_order (suc t) pieces i s (omega arith) here is above high)
    where
      by : (suc t < s) ⊎ (s ≤ suc t) → (suc t < s → Contains (by_steps (suc t) pieces) i) → Contains (by_steps t (piece ∷ pieces)) i
      by (inl above) later = Contains-append_right (filter (λ j. comes value j (suc t)) alarms) (by_steps (suc t) pieces) i (later above)
      by (inr below) later =
          let same : s ≡ suc t = omega arith in
          Contains-append_left (filter (λ j. comes value j (suc t)) alarms) (by_steps (suc t) pieces) i
          (filter_has (λ j. comes value j (suc t)) alarms i (subst (λ x. comes value i x ≡ true) same is) (complete.each i here))

  -- alarms of an earlier and a later step
  apart : (a b s t : ℕ) → Contains alarms a → Contains alarms b → s < t → t ≤ n → comes value a s ≡ true → comes value b t ≡ true → (a ≢ b) × (Contains log.pairs (b, a) → ⊥)
  apart a b s t in' in2 less high first second = (
    λ same. let one = one_step net log n value held b s t (known b in2) (omega arith) high (subst (λ x. comes value x s ≡ true) same first) second in omega (arith, one, less),
    λ pair. no_step_back net log n value held guards b a s t (known b in2) pair less high first second,
  )

  order_goes : (t : ℕ) (pieces : List (List ℕ)) → t + length pieces ≡ n → EachPair (λ a b. (a ≢ b) × (Contains log.pairs (b, a) → ⊥)) (by_steps t pieces)
  unfolding by_steps
  order_goes t [] count = tt
  order_goes t (piece ∷ pieces) count =
      pairs_append (λ a b. (a ≢ b) × (Contains log.pairs (b, a) → ⊥)) (filter (λ j. comes value j (suc t)) alarms) (by_steps (suc t) pieces)
      (pairs_filter (λ a b. (a ≢ b) × (Contains log.pairs (b, a) → ⊥)) (λ j. comes value j (suc t)) alarms sorted) (order_goes (suc t) pieces (omega arith)) cross
    where
      cross : (a b : ℕ) → Contains (filter (λ j. comes value j (suc t)) alarms) a → Contains (by_steps (suc t) pieces) b → (a ≢ b) × (Contains log.pairs (b, a) → ⊥)
      cross a b in' in2 =
          let first = filter_from (λ j. comes value j (suc t)) alarms a in' in
          let second = from_order (suc t) pieces b (omega arith) in2 in
          apart a b (suc t) second.0 first.1 second.4 second.1 second.2 first.0 second.3

  whole_goes : (pieces : List (List ℕ)) → length pieces ≡ n → EachPair (λ a b. (a ≢ b) × (Contains log.pairs (b, a) → ⊥)) (alarms_of (whole_order log value alarms pieces))
  whole_goes pieces count =
      subst (λ xs. EachPair (λ a b. (a ≢ b) × (Contains log.pairs (b, a) → ⊥)) xs) (sym (whole_is pieces))
      (pairs_append (λ a b. (a ≢ b) × (Contains log.pairs (b, a) → ⊥)) (filter (λ j. comes value j 0) alarms) (by_steps 0 pieces)
      (pairs_filter (λ a b. (a ≢ b) × (Contains log.pairs (b, a) → ⊥)) (λ j. comes value j 0) alarms sorted) (order_goes 0 pieces (omega arith)) cross)
    where
      cross : (a b : ℕ) → Contains (filter (λ j. comes value j 0) alarms) a → Contains (by_steps 0 pieces) b → (a ≢ b) × (Contains log.pairs (b, a) → ⊥)
      cross a b in' in2 =
          let first = filter_from (λ j. comes value j 0) alarms a in' in
          let second = from_order 0 pieces b (omega arith) in2 in
          apart a b 0 second.0 first.1 second.4 second.1 second.2 first.0 second.3

  whole_each : (pieces : List (List ℕ)) → length pieces ≡ n → (i : ℕ) → i < length log.alarms → Contains (alarms_of (whole_order log value alarms pieces)) i
  whole_each pieces count i here = let found = each_comes net log n value held guards i here in subst (λ xs. Contains xs i) (sym (whole_is pieces)) (by found.0 found.1 found.2)
    where
      by : (s : ℕ) → s ≤ n → comes value i s ≡ true → Contains (filter (λ j. comes value j 0) alarms ++ by_steps 0 pieces) i
      by zero high is = Contains-append_left (filter (λ j. comes value j 0) alarms) (by_steps 0 pieces) i (filter_has (λ j. comes value j 0) alarms i is (complete.each i here))
      by (suc s) high is = Contains-append_right (filter (λ j. comes value j 0) alarms) (by_steps 0 pieces) i (in_order 0 pieces i (suc s) (omega arith) here is (omega arith) high)

  whole_below : (pieces : List (List ℕ)) → length pieces ≡ n → (i : ℕ) → Contains (alarms_of (whole_order log value alarms pieces)) i → i < length log.alarms
  whole_below pieces count i in' = by (Contains-append_cases (filter (λ j. comes value j 0) alarms) (by_steps 0 pieces) i (subst (λ xs. Contains xs i) (whole_is pieces) in'))
    where
      by : Contains (filter (λ j. comes value j 0) alarms) i ⊎ Contains (by_steps 0 pieces) i → i < length log.alarms
      by (inl here) = known i (filter_from (λ j. comes value j 0) alarms i here).1
      by (inr rest) = known i (from_order 0 pieces i (omega arith) rest).4

  -- Of the alarms of a step those are true that have an event there.
  pub real_at : (t i : ℕ) → t < n → i < length log.alarms → comes value i (suc t) && not (is_false_alarm log value i) ≡ is_some (alarm_event net log value t i)
  real_at t i step here = by (alarm_event net log value t i) refl (comes value i (suc t)) refl (is_false_alarm log value i) refl
    where
      by : (o : Option ℕ) → alarm_event net log value t i ≡ o → (a : Bool) → comes value i (suc t) ≡ a → (b : Bool) → is_false_alarm log value i ≡ b → comes value i (suc t) && not (is_false_alarm log value i) ≡ is_some (alarm_event net log value t i)
      by (Some e) is a f b g =
          let stands = stands_for t i e is in
          ap (λ x. x && not (is_false_alarm log value i)) (match_comes net log n value held i e t stands.0 step stands.1)
          ∙ ap not (match_real net log n value held i e t stands.0 step stands.1) ∙ ap is_some (sym is)
      by None is true f true g = ap (λ x. x && not (is_false_alarm log value i)) f ∙ ap not g ∙ ap is_some (sym is)
      by None is true f false g =
          let match = comes_by_match net log n value held i t here step g f in
          let bad : None ≡ Some match.0 = sym is ∙ has_one t i match.0 step match.1 match.2 in cc
      by None is false f b g = ap (λ x. x && not (is_false_alarm log value i)) f ∙ ap is_some (sym is)

  real_entries : (t : ℕ) → t < n → real_alarms (entries_at log value alarms (suc t)) ≡ alarms_at net log value alarms t
  real_entries t step = entries_real log value (λ i. comes value i (suc t)) (λ i. is_some (alarm_event net log value t i)) alarms (λ i in'. real_at t i step (known i in'))

  -- none that is done from the start
  pub real_first : real_alarms (entries_at log value alarms 0) ≡ []
  real_first = entries_real log value (λ i. comes value i 0) (λ i. false) alarms (λ i in'. by (value (done i 0)) refl (is_false_alarm log value i) refl (false_first net log n value held i (known i in'))) ∙ filter_none (λ i. false) alarms (λ i in'. refl)
    where
      by : {i : ℕ} (a : Bool) → value (done i 0) ≡ a → (b : Bool) → is_false_alarm log value i ≡ b → (value (done i 0) ≡ true → is_false_alarm log value i ≡ true) → value (done i 0) && not (is_false_alarm log value i) ≡ false
      by true e true f h = rw (e, f) refl
      by true e false f h = let bad : false ≡ true = sym f ∙ h e in cc
      by false e b f h = rw e refl

  -- The arranged pieces show the arranged order.
  shown_at_observable : (t e : ℕ) → Contains (shown_at net log value alarms t) e → is_some (label_of net e) ≡ true
  shown_at_observable t e in' =
      let found = mapped_from (alarm_event net log value t) alarms e in' in
      is_shown net log e found.0 (stands_for t found.0 e found.2).0

  arranged_matched : (t : ℕ) (pieces : List (List ℕ)) → t + length pieces ≡ n → AllZip (Shows net log) (observables net (joined (arranged net log value alarms t pieces))) (real_alarms (arranged_order log value alarms t pieces))
  arranged_matched t [] count = tt
  arranged_matched t (piece ∷ pieces) count =
      subst (λ xs. AllZip (Shows net log) xs (real_alarms (arranged_order log value alarms t (piece ∷ pieces)))) (sym split)
      (subst (λ ys. AllZip (Shows net log) (shown_at net log value alarms t ++ observables net (joined rest)) ys) (sym true_ones)
      (zip_append (Shows net log) (shown_at net log value alarms t) (alarms_at net log value alarms t) (observables net (joined rest)) (real_alarms (arranged_order log value alarms (suc t) pieces))
      (zip_mapped (Shows net log) (alarm_event net log value t) alarms (λ i e h. shows net log e i (stands_for t i e h).0)) (arranged_matched (suc t) pieces (omega arith))))
    where
      rest : List (List ℕ)
      rest = arranged net log value alarms (suc t) pieces

      true_ones : real_alarms (arranged_order log value alarms t (piece ∷ pieces)) ≡ alarms_at net log value alarms t ++ real_alarms (arranged_order log value alarms (suc t) pieces)
      true_ones =
          real_append (entries_at log value alarms (suc t)) (arranged_order log value alarms (suc t) pieces)
          ∙ ap (λ xs. xs ++ real_alarms (arranged_order log value alarms (suc t) pieces)) (real_entries t (omega arith))

      none_hidden : filter (λ e. is_some (label_of net e)) (unobservables net piece) ≡ []
      none_hidden = filter_none (λ e. is_some (label_of net e)) (unobservables net piece) (λ e in'. flip (is_some (label_of net e)) (filter_from (λ f. not (is_some (label_of net f))) piece e in').0)
        where
          flip : (b : Bool) → not b ≡ true → b ≡ false
          flip true h = cc
          flip false h = refl

      all_shown : filter (λ e. is_some (label_of net e)) (shown_at net log value alarms t) ≡ shown_at net log value alarms t
      all_shown = filter_each (λ e. is_some (label_of net e)) (shown_at net log value alarms t) (shown_at_observable t)

      split : observables net (joined (arranged net log value alarms t (piece ∷ pieces))) ≡ shown_at net log value alarms t ++ observables net (joined rest)
      split =
          filter-append (λ e. is_some (label_of net e)) (unobservables net piece ++ shown_at net log value alarms t) (joined rest)
          ∙ ap (λ xs. xs ++ observables net (joined rest))
          (filter-append (λ e. is_some (label_of net e)) (unobservables net piece) (shown_at net log value alarms t)
          ∙ ap (λ xs. xs ++ observables net (shown_at net log value alarms t)) none_hidden ∙ all_shown)

  whole_matched : (pieces : List (List ℕ)) → length pieces ≡ n → AllZip (Shows net log) (observables net (joined (arranged net log value alarms 0 pieces))) (real_alarms (whole_order log value alarms pieces))
  whole_matched pieces count =
      subst (λ ys. AllZip (Shows net log) (observables net (joined (arranged net log value alarms 0 pieces))) ys)
      (sym (real_append (entries_at log value alarms 0) (arranged_order log value alarms 0 pieces) ∙ ap (λ xs. xs ++ real_alarms (arranged_order log value alarms 0 pieces)) real_first)) (arranged_matched 0 pieces (omega arith))

  -- and are those that are true.
  arranged_piece : (t : ℕ) (piece : List ℕ) → t < n → IsStepSet net value t piece → IsStepSet net value t (unobservables net piece ++ shown_at net log value alarms t)
  arranged_piece t piece step is = record { exact = λ e. (to e, from e); once = once }
    where
      shown_happens : (e : ℕ) → Contains (shown_at net log value alarms t) e → value (happens e (suc t)) ≡ true
      shown_happens e in' =
          let found = mapped_from (alarm_event net log value t) alarms e in' in
          let stands = stands_for t found.0 e found.2 in
          match_at found.0 e stands.0 stands.1
        where
          match_at : (i f : ℕ) → is_matching net log f i ≡ true → value (matches i f (suc t)) ≡ true → value (happens f (suc t)) ≡ true
          match_at i f matching there = rules.alarm_happens net log n value held i f t matching step there

      to : (e : ℕ) → Contains (unobservables net piece ++ shown_at net log value alarms t) e → (e < length net.events) × (value (happens e (suc t)) ≡ true)
      to e in' = by (Contains-append_cases (unobservables net piece) (shown_at net log value alarms t) e in')
        where
          by : Contains (unobservables net piece) e ⊎ Contains (shown_at net log value alarms t) e → (e < length net.events) × (value (happens e (suc t)) ≡ true)
          by (inl a) = (is.exact e).0 (filter_from (λ f. not (is_some (label_of net f))) piece e a).1
          by (inr b) = (shown_event net e (shown_at_observable t e b), shown_happens e b)

      from : (e : ℕ) → (e < length net.events) × (value (happens e (suc t)) ≡ true) → Contains (unobservables net piece ++ shown_at net log value alarms t) e
      from e h = by (is_some (label_of net e)) refl
        where
          by : (b : Bool) → is_some (label_of net e) ≡ b → Contains (unobservables net piece ++ shown_at net log value alarms t) e
          by true seen =
              let found = has_alarm net log n value held guards e t seen step h.1 in
              Contains-append_right (unobservables net piece) (shown_at net log value alarms t) e
              (mapped_has (alarm_event net log value t) alarms found.0 e (complete.each found.0 (matching_alarm net log e found.0 found.1)) (has_one t found.0 e step found.1 found.2))
          by false seen = Contains-append_left (unobservables net piece) (shown_at net log value alarms t) e (filter_has (λ f. not (is_some (label_of net f))) piece e (ap not seen) ((is.exact e).1 h))

      once : EachPair (λ e f. e ≢ f) (unobservables net piece ++ shown_at net log value alarms t)
      once = pairs_append (λ e f. e ≢ f) (unobservables net piece) (shown_at net log value alarms t) (pairs_filter (λ e f. e ≢ f) (λ f. not (is_some (label_of net f))) piece is.once)
          (mapped_once (alarm_event net log value t) alarms complete.once (λ a b y first second.
          let x = stands_for t a y first in let z = stands_for t b y second in one_alarm net log n value held a b y t x.0 z.0 step x.1 z.1))
          (λ x y in' in2 same. clash (is_some (label_of net y)) (shown_at_observable t y in2)
          (flip (is_some (label_of net y)) (subst (λ z. not (is_some (label_of net z)) ≡ true) same (filter_from (λ f. not (is_some (label_of net f))) piece x in').0)))
        where
          flip : (b : Bool) → not b ≡ true → b ≡ false
          flip true h = cc
          flip false h = refl

  arranged_pieces : (t : ℕ) (pieces : List (List ℕ)) → t + length pieces ≡ n → AreFrom net value t pieces → AreFrom net value t (arranged net log value alarms t pieces)
  arranged_pieces t [] count are = tt
  arranged_pieces t (piece ∷ pieces) count are = (arranged_piece t piece (omega arith) are.0, arranged_pieces (suc t) pieces (omega arith) are.1)

arranged_length : (net : Net) (log : Log) (value : Meaning → Bool) (alarms : List ℕ) (t : ℕ) (pieces : List (List ℕ)) → length (arranged net log value alarms t pieces) ≡ length pieces
arranged_length net log value alarms t [] = refl
arranged_length net log value alarms t (piece ∷ pieces) = ap suc (arranged_length net log value alarms (suc t) pieces)

weaken : {X : Type 0} (R S : X → X → Type 0) (xs : List X) → ((a b : X) → R a b → S a b) → EachPair R xs → EachPair S xs
weaken R S [] h each = tt
weaken R S (x ∷ xs) h each = (all_from (S x) xs (λ y in'. h x y (all_at (R x) xs each.0 y in')), weaken R S xs h each.1)

-- A false alarm is doubtful, and each entry says what the names say.
arranged_doubted : (log : Log) (value : Meaning → Bool) (alarms : List ℕ) (t : ℕ) (pieces : List (List ℕ)) → AllByRecursion (λ entry. may_stand log entry ≡ true) (arranged_order log value alarms t pieces)
arranged_doubted log value alarms t [] = tt
arranged_doubted log value alarms t (piece ∷ pieces) =
    all_append (λ entry. may_stand log entry ≡ true) (entries_at log value alarms (suc t)) (arranged_order log value alarms (suc t) pieces)
    (entries_doubted log value (filter (λ i. comes value i (suc t)) alarms)) (arranged_doubted log value alarms (suc t) pieces)

whole_doubted : (log : Log) (value : Meaning → Bool) (alarms : List ℕ) (pieces : List (List ℕ)) → AllByRecursion (λ entry. may_stand log entry ≡ true) (whole_order log value alarms pieces)
whole_doubted log value alarms pieces =
    all_append (λ entry. may_stand log entry ≡ true) (entries_at log value alarms 0) (arranged_order log value alarms 0 pieces)
    (entries_doubted log value (filter (λ i. comes value i 0) alarms)) (arranged_doubted log value alarms 0 pieces)

arranged_told : (log : Log) (value : Meaning → Bool) (alarms : List ℕ) (t : ℕ) (pieces : List (List ℕ)) → AreTold log value (arranged_order log value alarms t pieces)
arranged_told log value alarms t [] = tt
arranged_told log value alarms t (piece ∷ pieces) =
    all_append (λ (entry : Entry). entry.real ≡ not (is_false_alarm log value entry.alarm)) (entries_at log value alarms (suc t)) (arranged_order log value alarms (suc t) pieces)
    (entries_told log value (filter (λ i. comes value i (suc t)) alarms)) (arranged_told log value alarms (suc t) pieces)

whole_told : (log : Log) (value : Meaning → Bool) (alarms : List ℕ) (pieces : List (List ℕ)) → AreTold log value (whole_order log value alarms pieces)
whole_told log value alarms pieces =
    all_append (λ (entry : Entry). entry.real ≡ not (is_false_alarm log value entry.alarm)) (entries_at log value alarms 0) (arranged_order log value alarms 0 pieces)
    (entries_told log value (filter (λ i. comes value i 0) alarms)) (arranged_told log value alarms 0 pieces)

sound_from : (net : Net) (log : Log) (value : Meaning → Bool) (pieces : List (List ℕ)) (alarms : List ℕ) →
    IsValidLog log → ListsOnce (length log.alarms) alarms → Keeps alarms log.pairs → AreFrom net value 0 pieces → LogClausesHold net log (length pieces) value → GuardsHold net log value →
    IsArranged net log (length pieces) value alarms pieces
sound_from net log value pieces alarms valid complete kept are held guards = record {
  steps = (pieces_are_steps net (length pieces) value (arranged net log value alarms 0 pieces)).1
      (arranged_length net log value alarms 0 pieces, arranged_pieces net log (length pieces) value held guards alarms complete kept 0 pieces (omega arith) are);
  linear = linear;
  false_alarms = has_false log value (whole_order log value alarms pieces) lists (whole_told log value alarms pieces);
}
  where
    goes : EachPair (λ a b. (a ≢ b) × (Contains log.pairs (b, a) → ⊥)) (alarms_of (whole_order log value alarms pieces))
    goes = whole_goes net log (length pieces) value held guards alarms complete kept pieces refl

    lists : ListsOnce (length log.alarms) (alarms_of (whole_order log value alarms pieces))
    lists = record {
      below = all_from (λ i. i < length log.alarms) (alarms_of (whole_order log value alarms pieces)) (whole_below net log (length pieces) value held guards alarms complete kept pieces refl);
      each = whole_each net log (length pieces) value held guards alarms complete kept pieces refl;
      once = weaken (λ a b. (a ≢ b) × (Contains log.pairs (b, a) → ⊥)) (λ a b. a ≢ b) (alarms_of (whole_order log value alarms pieces)) (λ a b h. h.0) goes;
    }

    kept_pair : (pair : ℕ × ℕ) → Contains log.pairs pair → place_in (alarms_of (whole_order log value alarms pieces)) pair.0 < place_in (alarms_of (whole_order log value alarms pieces)) pair.1
    kept_pair pair in' =
        let range = all_at (λ (p : ℕ × ℕ). (p.0 < length log.alarms) × (p.1 < length log.alarms)) log.pairs valid.known pair in' in
        let less = all_at (λ (p : ℕ × ℕ). place_in alarms p.0 < place_in alarms p.1) log.pairs kept pair in' in
        is_before (λ a b. (a ≢ b) × (Contains log.pairs (b, a) → ⊥)) (alarms_of (whole_order log value alarms pieces)) pair.0 pair.1 goes (lists.each pair.0 range.0) (lists.each pair.1 range.1)
        (λ same. let places = ap (place_in alarms) same in omega (arith, places, less)) (λ wrong. wrong.1 in')

    linear : Linearises net log (joined (arranged net log value alarms 0 pieces)) (whole_order log value alarms pieces)
    linear = record {
      complete = lists;
      doubted = whole_doubted log value alarms pieces;
      shown = whole_matched net log (length pieces) value held guards alarms complete kept pieces refl;
      kept = all_from (λ (pair : ℕ × ℕ). place_in (alarms_of (whole_order log value alarms pieces)) pair.0 < place_in (alarms_of (whole_order log value alarms pieces)) pair.1) log.pairs kept_pair;
    }

pub log_is_sound : LogIsSound
log_is_sound net log n value pieces alarms valid complete kept are held guards =
    let from = (pieces_are_steps net n value pieces).0 are in
    subst (λ m. IsArranged net log m value alarms pieces) from.0
    (sound_from net log value pieces alarms valid complete kept from.1 (subst (λ m. LogClausesHold net log m value) (sym from.0) held) guards)
