-- "At most one" by pairs or by a chain is exact by name, and its clauses are those of the names.
use Rattle.std.proofs.Common.{◌≡◌, ℕ, zero, suc, ◌+◌, ◌-◌, ◌<◌, ◌≤◌, ◌∙◌, ◌⊎◌, inl, inr, Bool, true, false, List, [], ◌∷◌, length, take, map, Option, Some, refl, sym, ap, subst, arith, Contains, slice_get, ◌||◌, option_map, unwrap_or}
use Rattle.std.specs.List.{list_any}
use Rattle.std.proofs.lemmas.Bool.{cases_lt, cases_eq}
use Rattle.std.proofs.lemmas.List.{length-map}
use Rattle.std.proofs.lemmas.Option.{slice_get_within, slice_get-get_or, slice_get-map}
use Rattle.des_base.proofs.Elements.{contains_at}
use Rattle.prop_core.proofs.Premises.{implied, implies, neither, two_negations}
use Rattle.prop_core.specs.declared.lit.Lit.{Lit}
use Rattle.prop_core.specs.NamedClauses.{named_clause_true}
use Rattle.prop_core.specs.VariableNames.{Meaning, in_state, happens, asked, matches, done, unmatched, closed, dropped, reaches, some_of_first, Exclusion, yes, no, named_literal, named_clause}
use Rattle.card_counter.proofs.CodeLemmas.{read_at, read_length}
use Rattle.card_counter.specs.AtMostOne.{IsNamedChain}
use Rattle.card_counter.specs.CounterState.{positive, negative, input_at}
use Rattle.card_counter.specs.Exclusions.{ExclusionClause, exclusion_clause, IsExclusionClause, input_meaning, two, opens, goes_on, shuts_out, AtMostOneOf, ExclusionsHold, is_chain, with_chains, ExclusionIsSound, ExclusionIsComplete}

-- the chain is open from the first true input on
chain_open : (value : Meaning → Bool) (family : Exclusion) (inputs : List Meaning) → ExclusionsHold value family inputs → 5 ≤ length inputs → (i : ℕ) (x : Meaning) → slice_get inputs i ≡ Some x → value x ≡ true →
    (k : ℕ) → i ≤ k → suc k < length inputs → value (some_of_first family (suc k)) ≡ true
chain_open value family inputs holds long i x at is zero h below =
    let same : i ≡ 0 = omega arith in
    implied (value x) (value (some_of_first family 1)) (holds (opens 0 x) (long, below, subst (λ n. slice_get inputs n ≡ Some x) same at)) is
chain_open value family inputs holds long i x at is (suc k) h below = by (cases_eq i (suc k)) (chain_open value family inputs holds long i x at is k)
  where
    by : (i ≡ suc k) ⊎ (i ≡ suc k → ⊥) → (i ≤ k → suc k < length inputs → value (some_of_first family (suc k)) ≡ true) → value (some_of_first family (suc (suc k))) ≡ true
    by (inl same) later = implied (value x) (value (some_of_first family (suc (suc k)))) (holds (opens (suc k) x) (long, below, subst (λ n. slice_get inputs n ≡ Some x) same at)) is
    by (inr other) later = implied (value (some_of_first family (suc k))) (value (some_of_first family (suc (suc k)))) (holds (goes_on k) (long, below)) (later (omega arith) (omega arith))

pub exclusion_is_sound : ExclusionIsSound
exclusion_is_sound value family inputs holds i zero x y less at_i at_j first second = omega arith
exclusion_is_sound value family inputs holds i (suc j) x y less at_i at_j first second = by (cases_lt 4 (length inputs))
  where
    by : (4 < length inputs) ⊎ (length inputs ≤ 4) → ⊥
    by (inl long) =
        let within = slice_get_within inputs (suc j) y at_j in
        let open_there = chain_open value family inputs holds (omega arith) i x at_i first j (omega arith) within in
        neither (value y) (value (some_of_first family (suc j))) (holds (shuts_out j y) (omega arith, at_j)) second open_there
    by (inr short) = neither (value x) (value y) (holds (two i (suc j) x y) (short, less, at_i, at_j)) first second

pub any_in_front : {X : Type 0} (p : X → Bool) (xs : List X) (i k : ℕ) (x : X) → i < k → slice_get xs i ≡ Some x → p x ≡ true → list_any p (take k xs) ≡ true
any_in_front p [] i k x less at is = cc
any_in_front p (y ∷ xs) i zero x less at is = absurd (omega arith)
any_in_front p (y ∷ xs) zero (suc k) x less at is = let same : y ≡ x = cc in let here : p y ≡ true = ap p same ∙ is in rw here refl
any_in_front p (y ∷ xs) (suc i) (suc k) x less at is = by (p y) (any_in_front p xs i k x (omega arith) at is)
  where
    by : (b : Bool) → list_any p (take k xs) ≡ true → b || list_any p (take k xs) ≡ true
    by true rest = refl
    by false rest = rest

pub any_from_front : {X : Type 0} (p : X → Bool) (xs : List X) (k : ℕ) → list_any p (take k xs) ≡ true → (i : ℕ) × (x : X) × (i < k) × (slice_get xs i ≡ Some x) × (p x ≡ true)
any_from_front p [] zero any = cc
any_from_front p [] (suc k) any = cc
any_from_front p (y ∷ xs) zero any = cc
any_from_front {X} p (y ∷ xs) (suc k) any = by (p y) refl (any_from_front p xs k)
  where
    by : (b : Bool) → p y ≡ b → (list_any p (take k xs) ≡ true → (i : ℕ) × (x : X) × (i < k) × (slice_get xs i ≡ Some x) × (p x ≡ true)) →
        (i : ℕ) × (x : X) × (i < suc k) × (slice_get (y ∷ xs) i ≡ Some x) × (p x ≡ true)
    by true e later = (0, y, omega arith, refl, e)
    by false e later = let rest = later (rw e at any) in (suc rest.0, rest.1, omega (arith, rest.2), rest.3, rest.4)

pub same_but_chains : (inputs : Exclusion → Option (List Meaning)) (value : Meaning → Bool) (meaning : Meaning) → is_chain meaning ≡ false → with_chains inputs value meaning ≡ value meaning
same_but_chains inputs value (in_state c q t) h = refl
same_but_chains inputs value (happens e t) h = refl
same_but_chains inputs value asked h = refl
same_but_chains inputs value (matches i e t) h = refl
same_but_chains inputs value (done i t) h = refl
same_but_chains inputs value (unmatched e k t) h = refl
same_but_chains inputs value (closed e k) h = refl
same_but_chains inputs value (dropped i) h = refl
same_but_chains inputs value (reaches i j) h = refl
same_but_chains inputs value (some_of_first family i) h = cc

-- where at most one input is true, and the chain says of each front whether one of it is
pub chains_hold : (value : Meaning → Bool) (family : Exclusion) (xs : List Meaning) → ((k : ℕ) → value (some_of_first family k) ≡ list_any value (take k xs)) → AtMostOneOf value xs → ExclusionsHold value family xs
chains_hold value family xs chain one (two i j x y) (short, less, at_i, at_j) = two_negations (value x) (value y) (λ a b. one i j x y less at_i at_j a b)
chains_hold value family xs chain one (opens i x) (long, below, at) =
    implies (value x) (value (some_of_first family (suc i))) (λ a. chain (suc i) ∙ any_in_front value xs i (suc i) x (omega arith) at a)
chains_hold value family xs chain one (goes_on i) (long, below) =
    implies (value (some_of_first family (suc i))) (value (some_of_first family (suc (suc i))))
    (λ a. let rest = any_from_front value xs (suc i) (sym (chain (suc i)) ∙ a) in chain (suc (suc i)) ∙ any_in_front value xs rest.0 (suc (suc i)) rest.1 (omega (arith, rest.2)) rest.3 rest.4)
chains_hold value family xs chain one (shuts_out i x) (long, at) =
    two_negations (value x) (value (some_of_first family (suc i)))
    (λ a b. let rest = any_from_front value xs (suc i) (sym (chain (suc i)) ∙ b) in one rest.0 (suc i) rest.1 x rest.2 rest.3 at rest.4 a)

-- the inputs are no chains, so they keep their truth
any_same : (value other : Meaning → Bool) (xs : List Meaning) (k : ℕ) → ((x : Meaning) → Contains xs x → value x ≡ other x) → list_any value (take k xs) ≡ list_any other (take k xs)
any_same value other [] zero same = refl
any_same value other [] (suc k) same = refl
any_same value other (x ∷ xs) zero same = refl
any_same value other (x ∷ xs) (suc k) same =
    let here = same x (0, omega arith, refl) in
    let rest = any_same value other xs k (λ y in'. same y (suc in'.0, omega (arith, in'.1), in'.2)) in
    rw (here, rest) refl

pub exclusion_is_complete : ExclusionIsComplete
exclusion_is_complete inputs value = record {
  others = same_but_chains inputs value;
  kept = λ family k none. ap (λ o. unwrap_or (option_map (λ xs. list_any value (take k xs)) o) (value (some_of_first family k))) none;
  hold = λ family xs some plain one.
      let same : (x : Meaning) → Contains xs x → value x ≡ with_chains inputs value x = λ x in'. sym (same_but_chains inputs value x (plain x in')) in
      chains_hold (with_chains inputs value) family xs
      (λ k. ap (λ o. unwrap_or (option_map (λ ys. list_any value (take k ys)) o) (value (some_of_first family k))) some ∙ any_same value (with_chains inputs value) xs k same)
      (λ i j x y less at_i at_j a b. one i j x y less at_i at_j (same x (contains_at xs i x at_i) ∙ a) (same y (contains_at xs j y at_j) ∙ b));
}

-- what the clauses read: the inputs and the chain of the family
pub exclusion_same : (value other : Meaning → Bool) (family : Exclusion) (inputs : List Meaning) → ((x : Meaning) → Contains inputs x → value x ≡ other x) →
    ((k : ℕ) → value (some_of_first family k) ≡ other (some_of_first family k)) → (which : ExclusionClause) → IsExclusionClause inputs which →
    named_clause_true value (exclusion_clause family which) ≡ named_clause_true other (exclusion_clause family which)
exclusion_same value other family inputs same chain (two i j x y) (short, less, at_i, at_j) =
    let a = same x (contains_at inputs i x at_i) in let b = same y (contains_at inputs j y at_j) in cc
exclusion_same value other family inputs same chain (opens i x) (long, below, at) = let a = same x (contains_at inputs i x at) in let b = chain (suc i) in cc
exclusion_same value other family inputs same chain (goes_on i) (long, below) = let a = chain (suc i) in let b = chain (suc (suc i)) in cc
exclusion_same value other family inputs same chain (shuts_out i x) (long, at) = let a = same x (contains_at inputs (suc i) x at) in let b = chain (suc i) in cc

-- ---- from variables to names

module _ (names : List (ℕ × Meaning)) (family : Exclusion) (called : List Meaning) (inputs : List Lit) (first : ℕ) (reads : named_clause names inputs ≡ Some (map (λ meaning. yes meaning) called)) where
  pub count : length called ≡ length inputs
  count = sym (length-map called (λ (meaning : Meaning). yes meaning)) ∙ read_length names inputs (map (λ meaning. yes meaning) called) reads

  abbrev pub called_at : ℕ → Meaning
  called_at q = input_meaning called q

  pub at_place : (q : ℕ) → q < length inputs → slice_get called q ≡ Some (called_at q)
  at_place q h = slice_get-get_or called q asked (omega (arith, count))

  pub input_reads : (q : ℕ) → q < length inputs → named_literal names (input_at inputs q) ≡ Some (yes (called_at q))
  input_reads q h =
      let at = read_at names inputs (map (λ meaning. yes meaning) called) reads q h in
      let there : slice_get (map (λ meaning. yes meaning) called) q ≡ Some (yes (called_at q)) = slice_get-map (λ (meaning : Meaning). yes meaning) called q ∙ ap (option_map (λ (meaning : Meaning). yes meaning)) (at_place q h) in
      at.as_read ∙ sym at.at ∙ there

  pub open_reads : IsNamedChain names family first (length inputs - 1) → (i : ℕ) → i < length inputs - 1 → (named_literal names (positive (first + i)) ≡ Some (yes (some_of_first family (suc i)))) × (named_literal names (negative (first + i)) ≡ Some (no (some_of_first family (suc i))))
  open_reads chain i h = (ap (option_map (λ (meaning : Meaning). yes meaning)) (chain i h), ap (option_map (λ (meaning : Meaning). no meaning)) (chain i h))
