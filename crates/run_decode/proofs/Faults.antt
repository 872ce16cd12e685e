-- The faults of a word in pieces are the true inputs of the counter.
use Rattle.std.proofs.Common.{◌≡◌, ◌≢◌, ◌∙◌, ℕ, suc, ◌+◌, Bool, true, false, ◌&&◌, List, [], ◌∷◌, ◌++◌, length, refl, sym, ap, arith, Contains, map, filter, flat_map, cond, count_by}
use Rattle.std.specs.List.{range_with_len}
use Rattle.std.proofs.lemmas.List.Sums.{sum_by-append, length-filter}
use Rattle.card_counter.proofs.Counts.{count_cons}
use Rattle.des_base.proofs.NumbersBelow.{range_once}
use Rattle.des_base.proofs.Elements.{filter_has, filter_from, pairs_filter}
use Rattle.des_base.specs.Lists.{numbers_below}
use Rattle.des_net.specs.Network.{Net, is_fault}
use Rattle.des_net.specs.Width.{joined}
use Rattle.question_clauses.proofs.Entries.{same_size}
use Rattle.question_clauses.specs.Decoded.{is_false_alarm}
use Rattle.log_order.specs.Log.{Log, is_doubtful}
use Rattle.question_clauses.proofs.Pieces.{IsStepSet, AreFrom, pieces_are_steps}
use Rattle.prop_core.specs.NamedClauses.{named_true}
use Rattle.prop_core.specs.VariableNames.{Meaning, happens, dropped, yes}
use Rattle.question_clauses.proofs.Lists.{in_numbers, from_numbers}
use Rattle.run_decode.specs.DecodedRuns.{FaultsAreInputs}
use Rattle.run_decode.specs.Drawn.{dropped_meanings}
use Rattle.step_encode.specs.FaultInputs.{fault_events, fault_meanings}

pub count_append : {X : Type 0} (p : X → Bool) (xs ys : List X) → count_by p (xs ++ ys) ≡ count_by p xs + count_by p ys
count_append p xs ys = sum_by-append (λ x. cond (p x) 1 0) xs ys

-- ---- one step

-- the faults of a piece are the fault events that happen in its step
piece_faults : (net : Net) (value : Meaning → Bool) (t : ℕ) (piece : List ℕ) → IsStepSet net value t piece → count_by (is_fault net) piece ≡ count_by (λ e. value (happens e (suc t))) (fault_events net)
piece_faults net value t piece is =
    sym (length-filter (is_fault net) piece)
    ∙ same_size (filter (is_fault net) piece) (filter (λ e. value (happens e (suc t))) (fault_events net))
    (pairs_filter (λ a b. a ≢ b) (is_fault net) piece is.once)
    (pairs_filter (λ a b. a ≢ b) (λ e. value (happens e (suc t))) (fault_events net) (pairs_filter (λ a b. a ≢ b) (is_fault net) (numbers_below (length net.events)) (range_once 0 (length net.events))))
    (λ e. (to e, from e))
    ∙ length-filter (λ e. value (happens e (suc t))) (fault_events net)
  where
    to : (e : ℕ) → Contains (filter (is_fault net) piece) e → Contains (filter (λ f. value (happens f (suc t))) (fault_events net)) e
    to e in' =
        let found = filter_from (is_fault net) piece e in' in
        let true' = (is.exact e).0 found.1 in
        filter_has (λ f. value (happens f (suc t))) (fault_events net) e true'.1
        (filter_has (is_fault net) (numbers_below (length net.events)) e found.0 (in_numbers (length net.events) e true'.0))

    from : (e : ℕ) → Contains (filter (λ f. value (happens f (suc t))) (fault_events net)) e → Contains (filter (is_fault net) piece) e
    from e in' =
        let found = filter_from (λ f. value (happens f (suc t))) (fault_events net) e in' in
        let fault = filter_from (is_fault net) (numbers_below (length net.events)) e found.1 in
        filter_has (is_fault net) piece e fault.0 ((is.exact e).1 (from_numbers (length net.events) e fault.1, found.0))

-- ---- all steps

-- the inputs from the step after t steps on
abbrev inputs_from : ℕ → ℕ → List ℕ → List Meaning
inputs_from t n es = flat_map (λ e. map (λ s. happens e (suc s)) (range_with_len t n)) es

one_step : (value : Meaning → Bool) (t n : ℕ) (es : List ℕ) →
    count_by value (inputs_from t (suc n) es) ≡ count_by (λ e. value (happens e (suc t))) es + count_by value (inputs_from (t + 1) n es)
one_step value t n [] = refl
one_step value t n (e ∷ es) =
    let rest = one_step value t n es in
    let cons = count_cons (λ f. value (happens f (suc t))) e es in
    let first = count_cons value (happens e (suc t)) (map (λ s. happens e (suc s)) (range_with_len (t + 1) n)) in
    let left = count_append value (map (λ s. happens e (suc s)) (range_with_len t (suc n))) (inputs_from t (suc n) es) in
    let right = count_append value (map (λ s. happens e (suc s)) (range_with_len (t + 1) n)) (inputs_from (t + 1) n es) in
    omega (arith, rest, cons, first, left, right)

no_steps : (value : Meaning → Bool) (t : ℕ) (es : List ℕ) → count_by value (inputs_from t 0 es) ≡ 0
no_steps value t [] = refl
no_steps value t (e ∷ es) = no_steps value t es

faults_from : (net : Net) (value : Meaning → Bool) (t : ℕ) (pieces : List (List ℕ)) → AreFrom net value t pieces → count_by (is_fault net) (joined pieces) ≡ count_by value (inputs_from t (length pieces) (fault_events net))
faults_from net value t [] are = sym (no_steps value t (fault_events net))
faults_from net value t (piece ∷ pieces) are =
    let rest = faults_from net value (suc t) pieces are.1 in
    let here = piece_faults net value t piece are.0 in
    let both = count_append (is_fault net) piece (joined pieces) in
    let step = one_step value t (length pieces) (fault_events net) in
    let next : t + 1 ≡ suc t = omega arith in
    let moved = ap (λ s. count_by value (inputs_from s (length pieces) (fault_events net))) next in
    omega (arith, rest, here, both, step, moved)

-- names are true as inputs where they are as names
named_count : (value : Meaning → Bool) (names : List Meaning) → count_by (named_true value) (map yes names) ≡ count_by value names
named_count value [] = refl
named_count value (meaning ∷ names) =
    let rest = named_count value names in
    let left = count_cons (named_true value) (yes meaning) (map yes names) in
    let right = count_cons value meaning names in
    omega (arith, rest, left, right)

-- names are true as inputs where they are as names, of doubtful alarms alone
doubtful_count_is : (log : Log) (value : Meaning → Bool) (xs : List ℕ) → count_by value (map (λ i. dropped i) (filter (is_doubtful log) xs)) ≡ count_by (is_false_alarm log value) xs
doubtful_count_is log value [] = refl
doubtful_count_is log value (x ∷ xs) = by (is_doubtful log x) refl (doubtful_count_is log value xs)
  where
    by : (b : Bool) → is_doubtful log x ≡ b → count_by value (map (λ i. dropped i) (filter (is_doubtful log) xs)) ≡ count_by (is_false_alarm log value) xs →
        count_by value (map (λ i. dropped i) (cond b (x ∷ filter (is_doubtful log) xs) (filter (is_doubtful log) xs))) ≡ count_by (is_false_alarm log value) (x ∷ xs)
    by true e rest =
        let left = count_cons value (dropped x) (map (λ i. dropped i) (filter (is_doubtful log) xs)) in
        let right = count_cons (is_false_alarm log value) x xs in
        let same = ap {B = ℕ} (λ b. cond (b && value (dropped x)) 1 0) e in
        omega (arith, rest, left, right, same)
    by false e rest =
        let right = count_cons (is_false_alarm log value) x xs in
        let same = ap {B = ℕ} (λ b. cond (b && value (dropped x)) 1 0) e in
        omega (arith, rest, right, same)

pub faults_are_inputs : FaultsAreInputs
faults_are_inputs net log n value pieces order are false' =
    let from = (pieces_are_steps net n value pieces).0 are in
    let events = faults_from net value 0 pieces from.1 ∙ ap (λ m. count_by value (inputs_from 0 m (fault_events net))) from.0 in
    let alarms = doubtful_count_is log value (numbers_below (length log.alarms)) in
    let both = count_append value (fault_meanings net n) (dropped_meanings log) in
    omega (arith, events, false', alarms, both) ∙ sym (named_count value (fault_meanings net n ++ dropped_meanings log))
