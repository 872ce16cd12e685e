-- What a word costs is what the fault events of its steps weigh.
use Rattle.std.proofs.Common.{◌≡◌, ◌≢◌, ◌↔◌, ◌∙◌, ◌⊎◌, inl, inr, ℕ, suc, ◌+◌, ◌==◌, Bool, true, false, not, List, [], ◌∷◌, length, refl, sym, ap, arith, Contains, map, filter, flat_map, cond, sum_by, count_by, ◌&&◌}
use Rattle.std.specs.List.{range_with_len, AllByRecursion}
use Rattle.std.proofs.lemmas.Bool.{eqb-true, eq-eqb}
use Rattle.std.proofs.lemmas.List.Sums.{sum_by-append, sum_by-cons}
use Rattle.des_base.specs.Lists.{EachPair}
use Rattle.des_net.specs.Network.{Net, is_fault}
use Rattle.des_net.specs.Width.{joined}
use Rattle.des_base.proofs.NumbersBelow.{range_once}
use Rattle.des_base.proofs.Elements.{cons_cases, here_first, here_later, none_in_nil, all_at, filter_has, filter_from, pairs_filter}
use Rattle.des_base.proofs.BoolLemmas.{otherwise, not_true}
use Rattle.question_clauses.proofs.Pieces.{IsStepSet, AreFrom, pieces_are_steps}
use Rattle.question_clauses.specs.Decoded.{is_false_alarm}
use Rattle.log_order.specs.Log.{Log, is_doubtful}
use Rattle.card_counter.proofs.Counts.{count_cons}
use Rattle.prop_core.specs.VariableNames.{Meaning, happens, dropped}
use Rattle.question_clauses.proofs.Lists.{in_numbers, from_numbers}
use Rattle.des_base.specs.Lists.{numbers_below}
use Rattle.step_encode.specs.FaultInputs.{fault_events}
use Rattle.cost_least.specs.Costs.{event_cost}
use Rattle.cost_least.specs.Pricing.{CostsAreWeights, weight_by}

-- ---- lists with the same numbers, each once, have the same sum

others : ℕ → List ℕ → List ℕ
others x ys = filter (λ y. not (y == x)) ys

-- a number that isn't there
none_removed : (f : ℕ → ℕ) (x : ℕ) (ys : List ℕ) → AllByRecursion (λ y. x ≢ y) ys → sum_by f (others x ys) ≡ sum_by f ys
unfolding others
none_removed f x [] apart = refl
none_removed f x (y ∷ ys) apart = by (y == x) refl (none_removed f x ys apart.1)
  where
    by : (b : Bool) → y == x ≡ b → sum_by f (others x ys) ≡ sum_by f ys → sum_by f (cond (not b) (y ∷ others x ys) (others x ys)) ≡ sum_by f (y ∷ ys)
    by true e rest = absurd (apart.0 (sym (eqb-true y x e)))
    by false e rest =
        let a = sum_by-cons f y (others x ys) in
        let b = sum_by-cons f y ys in
        omega (arith, a, b, rest)

removed : (f : ℕ → ℕ) (x : ℕ) (ys : List ℕ) → EachPair (λ a b. a ≢ b) ys → Contains ys x → sum_by f ys ≡ f x + sum_by f (others x ys)
unfolding others
removed f x [] once in' = absurd (none_in_nil x in')
removed f x (y ∷ ys) once in' = by (y == x) refl (cons_cases y ys x in') (removed f x ys once.1)
  where
    by : (b : Bool) → y == x ≡ b → (y ≡ x) ⊎ Contains ys x → (Contains ys x → sum_by f ys ≡ f x + sum_by f (others x ys)) → sum_by f (y ∷ ys) ≡ f x + sum_by f (cond (not b) (y ∷ others x ys) (others x ys))
    by true e cases later =
        let is : y ≡ x = eqb-true y x e in
        let same : f y ≡ f x = ap f is in
        let rest = none_removed f y ys once.0 in
        let moved : sum_by f (others y ys) ≡ sum_by f (others x ys) = ap (λ z. sum_by f (others z ys)) is in
        let a = sum_by-cons f y ys in
        omega (arith, same, rest, moved, a)
    by false e (inl is) later = absurd (let t = eq-eqb y x is in differs (y == x) t e)
      where
        differs : (b : Bool) → b ≡ true → b ≡ false → ⊥
        differs true h k = cc
        differs false h k = cc
    by false e (inr rest) later =
        let less = later rest in
        let a = sum_by-cons f y ys in
        let b = sum_by-cons f y (others x ys) in
        omega (arith, less, a, b)

same_sum : (f : ℕ → ℕ) (xs ys : List ℕ) → EachPair (λ a b. a ≢ b) xs → EachPair (λ a b. a ≢ b) ys → ((x : ℕ) → Contains xs x ↔ Contains ys x) → sum_by f xs ≡ sum_by f ys
unfolding others
same_sum f [] [] once other same = refl
same_sum f [] (y ∷ ys) once other same = absurd (none_in_nil y ((same y).1 (here_first y ys y refl)))
same_sum f (x ∷ xs) ys once other same =
    let rest = same_sum f xs (others x ys) once.1 (pairs_filter (λ a b. a ≢ b) (λ y. not (y == x)) ys other) (λ y. (to y, from y)) in
    let less = removed f x ys other ((same x).0 (here_first x xs x refl)) in
    let cons = sum_by-cons f x xs in
    omega (arith, rest, less, cons)
  where
    to : (y : ℕ) → Contains xs y → Contains (others x ys) y
    to y in' =
        let apart : y == x ≡ false = otherwise (y == x) (λ is. all_at (λ z. x ≢ z) xs y once.0 in' (sym (eqb-true y x is))) in
        filter_has (λ z. not (z == x)) ys y (ap not apart) ((same y).0 (here_later x xs y in'))

    from : (y : ℕ) → Contains (others x ys) y → Contains xs y
    from y in' =
        let found = filter_from (λ z. not (z == x)) ys y in' in
        by (cons_cases x xs y ((same y).1 found.1))
      where
        by : (x ≡ y) ⊎ Contains xs y → Contains xs y
        by (inl is) = absurd (let found = filter_from (λ z. not (z == x)) ys y in' in
            let off = not_true (y == x) found.0 in
            let on = eq-eqb y x (sym is) in
            differs (y == x) on off)
          where
            differs : (b : Bool) → b ≡ true → b ≡ false → ⊥
            differs true h k = cc
            differs false h k = cc
        by (inr rest) = rest

-- what a filter keeps
sum_kept : {X : Type 0} (p : X → Bool) (f : X → ℕ) (xs : List X) → sum_by (λ x. cond (p x) (f x) 0) xs ≡ sum_by f (filter p xs)
sum_kept p f [] = refl
sum_kept p f (x ∷ xs) = by (p x) refl (sum_kept p f xs)
  where
    by : (b : Bool) → p x ≡ b → sum_by (λ y. cond (p y) (f y) 0) xs ≡ sum_by f (filter p xs) → sum_by (λ y. cond (p y) (f y) 0) (x ∷ xs) ≡ sum_by f (cond b (x ∷ filter p xs) (filter p xs))
    by true e rest =
        let here : cond (p x) (f x) 0 ≡ f x = ap (λ b. cond b (f x) 0) e in
        let a = sum_by-cons (λ y. cond (p y) (f y) 0) x xs in
        let b = sum_by-cons f x (filter p xs) in
        omega (arith, here, a, b, rest)
    by false e rest =
        let here : cond (p x) (f x) 0 ≡ 0 = ap (λ b. cond b (f x) 0) e in
        let a = sum_by-cons (λ y. cond (p y) (f y) 0) x xs in
        omega (arith, here, a, rest)

-- ---- one step

piece_costs : (net : Net) (cost : ℕ → ℕ) (value : Meaning → Bool) (t : ℕ) (piece : List ℕ) → IsStepSet net value t piece →
    sum_by (event_cost net cost) piece ≡ sum_by (λ e. cond (value (happens e (suc t))) (cost e) 0) (fault_events net)
piece_costs net cost value t piece is =
    sum_kept (is_fault net) cost piece
    ∙ same_sum cost (filter (is_fault net) piece) (filter (λ e. value (happens e (suc t))) (fault_events net))
    (pairs_filter (λ a b. a ≢ b) (is_fault net) piece is.once)
    (pairs_filter (λ a b. a ≢ b) (λ e. value (happens e (suc t))) (fault_events net) (pairs_filter (λ a b. a ≢ b) (is_fault net) (numbers_below (length net.events)) (range_once 0 (length net.events))))
    (λ e. (to e, from e))
    ∙ sym (sum_kept (λ e. value (happens e (suc t))) cost (fault_events net))
  where
    to : (e : ℕ) → Contains (filter (is_fault net) piece) e → Contains (filter (λ f. value (happens f (suc t))) (fault_events net)) e
    to e in' =
        let found = filter_from (is_fault net) piece e in' in
        let true' = (is.exact e).0 found.1 in
        filter_has (λ f. value (happens f (suc t))) (fault_events net) e true'.1
        (filter_has (is_fault net) (numbers_below (length net.events)) e found.0 (in_numbers (length net.events) e true'.0))

    from : (e : ℕ) → Contains (filter (λ f. value (happens f (suc t))) (fault_events net)) e → Contains (filter (is_fault net) piece) e
    from e in' =
        let found = filter_from (λ f. value (happens f (suc t))) (fault_events net) e in' in
        let fault = filter_from (is_fault net) (numbers_below (length net.events)) e found.1 in
        filter_has (is_fault net) piece e fault.0 ((is.exact e).1 (from_numbers (length net.events) e fault.1, found.0))

-- ---- all steps

abbrev weights_from : (ℕ → ℕ) → ℕ → ℕ → List ℕ → List (Meaning × ℕ)
weights_from cost t n es = flat_map (λ e. map (λ s. (happens e (suc s), cost e)) (range_with_len t n)) es

one_step : (cost : ℕ → ℕ) (value : Meaning → Bool) (t n : ℕ) (es : List ℕ) →
    sum_by (weight_by value) (weights_from cost t (suc n) es) ≡ sum_by (λ e. cond (value (happens e (suc t))) (cost e) 0) es + sum_by (weight_by value) (weights_from cost (t + 1) n es)
one_step cost value t n [] = refl
one_step cost value t n (e ∷ es) =
    let rest = one_step cost value t n es in
    let cons = sum_by-cons (λ f. cond (value (happens f (suc t))) (cost f) 0) e es in
    let first = sum_by-cons (weight_by value) (happens e (suc t), cost e) (map (λ s. (happens e (suc s), cost e)) (range_with_len (t + 1) n)) in
    let left = sum_by-append (weight_by value) (map (λ s. (happens e (suc s), cost e)) (range_with_len t (suc n))) (weights_from cost t (suc n) es) in
    let right = sum_by-append (weight_by value) (map (λ s. (happens e (suc s), cost e)) (range_with_len (t + 1) n)) (weights_from cost (t + 1) n es) in
    omega (arith, rest, cons, first, left, right)

no_steps : (cost : ℕ → ℕ) (value : Meaning → Bool) (t : ℕ) (es : List ℕ) → sum_by (weight_by value) (weights_from cost t 0 es) ≡ 0
no_steps cost value t [] = refl
no_steps cost value t (e ∷ es) = no_steps cost value t es

costs_from : (net : Net) (cost : ℕ → ℕ) (value : Meaning → Bool) (t : ℕ) (pieces : List (List ℕ)) → AreFrom net value t pieces →
    sum_by (event_cost net cost) (joined pieces) ≡ sum_by (weight_by value) (weights_from cost t (length pieces) (fault_events net))
costs_from net cost value t [] are = sym (no_steps cost value t (fault_events net))
costs_from net cost value t (piece ∷ pieces) are =
    let rest = costs_from net cost value (suc t) pieces are.1 in
    let here = piece_costs net cost value t piece are.0 in
    let both = sum_by-append (event_cost net cost) piece (joined pieces) in
    let step = one_step cost value t (length pieces) (fault_events net) in
    let next : t + 1 ≡ suc t = omega arith in
    let moved = ap (λ s. sum_by (weight_by value) (weights_from cost s (length pieces) (fault_events net))) next in
    omega (arith, rest, here, both, step, moved)

-- ---- false alarms

-- a false alarm weighs 1, of doubtful alarms alone
dropped_weigh : (log : Log) (value : Meaning → Bool) (xs : List ℕ) → sum_by (weight_by value) (map (λ i. (dropped i, 1)) (filter (is_doubtful log) xs)) ≡ count_by (is_false_alarm log value) xs
dropped_weigh log value [] = refl
dropped_weigh log value (x ∷ xs) = by (is_doubtful log x) refl (dropped_weigh log value xs)
  where
    by : (b : Bool) → is_doubtful log x ≡ b → sum_by (weight_by value) (map (λ i. (dropped i, 1)) (filter (is_doubtful log) xs)) ≡ count_by (is_false_alarm log value) xs →
        sum_by (weight_by value) (map (λ i. (dropped i, 1)) (cond b (x ∷ filter (is_doubtful log) xs) (filter (is_doubtful log) xs))) ≡ count_by (is_false_alarm log value) (x ∷ xs)
    by true e rest =
        let left = sum_by-cons (weight_by value) (dropped x, 1) (map (λ i. (dropped i, 1)) (filter (is_doubtful log) xs)) in
        let right = count_cons (is_false_alarm log value) x xs in
        let same = ap {B = ℕ} (λ b. cond (b && value (dropped x)) 1 0) e in
        omega (arith, rest, left, right, same)
    by false e rest =
        let right = count_cons (is_false_alarm log value) x xs in
        let same = ap {B = ℕ} (λ b. cond (b && value (dropped x)) 1 0) e in
        omega (arith, rest, right, same)

pub costs_are_weights : CostsAreWeights
costs_are_weights net cost log n value pieces order are false' =
    let from = (pieces_are_steps net n value pieces).0 are in
    let events = costs_from net cost value 0 pieces from.1 ∙ ap (λ m. sum_by (weight_by value) (weights_from cost 0 m (fault_events net))) from.0 in
    let alarms = dropped_weigh log value (numbers_below (length log.alarms)) in
    let both = sum_by-append (weight_by value) (weights_from cost 0 n (fault_events net)) (map (λ i. (dropped i, 1)) (filter (is_doubtful log) (numbers_below (length log.alarms)))) in
    omega (arith, events, false', alarms, both)
