-- Where the clauses of a chain are true, at most one input is; and where at most one input is, the chain can be chosen.
use Rattle.std.proofs.Common.{◌≡◌, ℕ, zero, suc, ◌+◌, ◌-◌, ◌<◌, ◌≤◌, ◌∙◌, ◌⊎◌, inl, inr, ◌↔◌, Bool, true, false, List, [], ◌∷◌, ◌++◌, length, take, Some, refl, sym, ap, subst, arith, tests, IsTrue, slice_get, not, ◌||◌, nat_le, nat_lt, cond, append_assoc}
use Rattle.std.specs.Bool.{beq}
use Rattle.std.specs.List.{list_any}
use Rattle.std.proofs.lemmas.Bool.{cases_eq, ltb-true, lt-ltb}
use Rattle.std.proofs.lemmas.Option.{slice_get_within, slice_get-get_or, get_or_from_slice_get}
use Rattle.des_base.proofs.Elements.{at_place, pair_at, all_from}
use Rattle.des_base.specs.Lists.{EachPair}
use Rattle.prop_core.specs.declared.lit.Lit.{Lit}
use Rattle.prop_core.specs.Clauses.{Clause, negation, literal_true, clause_true, AllClausesTrue, HasValues}
use Rattle.card_counter.proofs.Exclusions.{any_in_front, any_from_front}
use Rattle.card_counter.proofs.ListLemmas.{flat_each, flat_from, flat_next}
use Rattle.card_counter.proofs.PairLemmas.{pairs_exclude}
use Rattle.card_counter.specs.AtMostOne.{AreNotBothTrue, AtMostOneTrue, excluded_pairs, link_clauses, chain_up_to, chain_clauses, AgreeBut, ExclusionIsExact}
use Rattle.card_counter.specs.CounterState.{positive, negative, input_at}

-- ---- pairs by places

pairs_from : {X : Type 0} (R : X → X → Type 0) (xs : List X) → ((i j : ℕ) (x y : X) → i < j → slice_get xs i ≡ Some x → slice_get xs j ≡ Some y → R x y) → EachPair R xs
pairs_from R [] each = tt
pairs_from R (z ∷ xs) each = (
  all_from (R z) xs (λ y here. let at = at_place xs y here in each 0 (suc at.0) z y (omega arith) refl at.1),
  pairs_from R xs (λ i j x y less at_i at_j. each (suc i) (suc j) x y (omega arith) at_i at_j),
)

-- ---- clauses of two literals

opened : (p s q : Bool) → beq p (not s) || (beq q true || false) ≡ true → beq p s ≡ true → q ≡ true
opened true true true h e = refl
opened true true false h e = cc
opened true false true h e = refl
opened true false false h e = cc
opened false true true h e = refl
opened false true false h e = cc
opened false false true h e = refl
opened false false false h e = cc

opens_up : (p s q : Bool) → (beq p s ≡ true → q ≡ true) → beq p (not s) || (beq q true || false) ≡ true
opens_up true true q h = let is : q ≡ true = h refl in rw is refl
opens_up true false q h = refl
opens_up false true q h = refl
opens_up false false q h = let is : q ≡ true = h refl in rw is refl

shut : (p s q : Bool) → beq p (not s) || (beq q false || false) ≡ true → beq p s ≡ true → q ≡ true → ⊥
shut true true true h e f = cc
shut true true false h e f = cc
shut true false q h e f = cc
shut false true q h e f = cc
shut false false true h e f = cc
shut false false false h e f = cc

shuts : (p s q : Bool) → (beq p s ≡ true → q ≡ true → ⊥) → beq p (not s) || (beq q false || false) ≡ true
shuts true true true h = absurd (h refl refl)
shuts true true false h = refl
shuts true false q h = refl
shuts false true q h = refl
shuts false false true h = absurd (h refl refl)
shuts false false false h = refl

gone_on : (q r : Bool) → beq q false || (beq r true || false) ≡ true → q ≡ true → r ≡ true
gone_on true true h e = refl
gone_on true false h e = cc
gone_on false r h e = cc

goes : (q r : Bool) → (q ≡ true → r ≡ true) → beq q false || (beq r true || false) ≡ true
goes true r h = let is : r ≡ true = h refl in rw is refl
goes false r h = refl

-- ---- where the chain is true

module _ (inputs : List Lit) (first : ℕ) (value : ℕ → Bool) (true_chain : AllClausesTrue value (chain_clauses inputs first)) where
  true_link : (i : ℕ) → i < length inputs - 1 → AllClausesTrue value (link_clauses inputs first i)
  true_link i h = flat_each (λ clause. IsTrue (clause_true value clause)) (link_clauses inputs first) (length inputs - 1) true_chain i h

  open_at : (i : ℕ) → i < length inputs - 1 → literal_true value (input_at inputs i) ≡ true → value (first + i) ≡ true
  open_at i h is = opened (value (input_at inputs i).var) (input_at inputs i).positive (value (first + i)) (true_link i h).0 is

  shut_at : (i : ℕ) → i < length inputs - 1 → value (first + i) ≡ true → literal_true value (input_at inputs (suc i)) ≡ true → ⊥
  shut_at i h opens is = shut (value (input_at inputs (suc i)).var) (input_at inputs (suc i)).positive (value (first + i)) (true_link i h).1.0 is opens

  on_at : (i : ℕ) → suc i < length inputs - 1 → value (first + i) ≡ true → value (first + suc i) ≡ true
  on_at i h is = by (nat_lt (suc i) (length inputs - 1)) (lt-ltb (suc i) (length inputs - 1) h) (true_link i (omega arith)).1.1
    where
      by : (b : Bool) → b ≡ true → AllClausesTrue value (cond b ((negative (first + i) ∷ positive (first + suc i) ∷ []) ∷ []) []) → value (first + suc i) ≡ true
      by true e all = gone_on (value (first + i)) (value (first + suc i)) all.0 is
      by false e all = cc

  open_from : (i : ℕ) → literal_true value (input_at inputs i) ≡ true → (k : ℕ) → i ≤ k → k < length inputs - 1 → value (first + k) ≡ true
  open_from i is zero h below = let same : i ≡ 0 = omega arith in subst (λ n. value (first + n) ≡ true) same (open_at i (omega arith) is)
  open_from i is (suc k) h below = by (cases_eq i (suc k)) (open_from i is k)
    where
      by : (i ≡ suc k) ⊎ (i ≡ suc k → ⊥) → (i ≤ k → k < length inputs - 1 → value (first + k) ≡ true) → value (first + suc k) ≡ true
      by (inl same) later = subst (λ n. value (first + n) ≡ true) same (open_at i (omega arith) is)
      by (inr other) later = on_at k below (later (omega arith) (omega arith))

  apart : (i j : ℕ) → i < j → j < length inputs → literal_true value (input_at inputs i) ≡ true → literal_true value (input_at inputs j) ≡ true → ⊥
  apart i zero less below first_is second_is = omega arith
  apart i (suc j) less below first_is second_is = shut_at j (omega arith) (open_from i first_is j (omega arith) (omega arith)) second_is

  pub chain_excludes : AtMostOneTrue value inputs
  chain_excludes = pairs_from (AreNotBothTrue value) inputs (λ i j x y less at_i at_j x_is y_is.
      let x_at : input_at inputs i ≡ x = get_or_from_slice_get inputs i x (record { var = 0; positive = false }) at_i in
      let y_at : input_at inputs j ≡ y = get_or_from_slice_get inputs j y (record { var = 0; positive = false }) at_j in
      apart i j less (slice_get_within inputs j y at_j) (ap (literal_true value) x_at ∙ x_is) (ap (literal_true value) y_at ∙ y_is))

-- ---- the chain that says what it is for

pub chained : List Lit → ℕ → (ℕ → Bool) → ℕ → Bool
chained inputs first given var = cond (nat_lt var first) (given var) (cond (nat_lt var (first + (length inputs - 1))) (list_any (literal_true given) (take (suc (var - first)) inputs)) (given var))

module _ (inputs : List Lit) (first : ℕ) (given : ℕ → Bool) (made : HasValues first inputs) (one : AtMostOneTrue given inputs) where
  lower : (var : ℕ) → var < first → chained inputs first given var ≡ given var
  unfolding chained
  lower var h = let less = lt-ltb var first h in rw less refl

  not_less : (a b : ℕ) → b ≤ a → nat_lt a b ≡ false
  not_less a b h = search (arith, tests)

  higher : (var : ℕ) → first + (length inputs - 1) ≤ var → chained inputs first given var ≡ given var
  unfolding chained
  higher var h = let above = not_less var first (omega arith) in let beyond = not_less var (first + (length inputs - 1)) h in rw (above, beyond) refl

  along : (i : ℕ) → i < length inputs - 1 → chained inputs first given (first + i) ≡ list_any (literal_true given) (take (suc i) inputs)
  unfolding chained
  along i h =
      let above = not_less (first + i) first (omega arith) in
      let within = lt-ltb (first + i) (first + (length inputs - 1)) (omega arith) in
      let back : first + i - first ≡ i = omega arith in
      rw (above, within, back) refl

  input_same : (i : ℕ) → i < length inputs → literal_true (chained inputs first given) (input_at inputs i) ≡ literal_true given (input_at inputs i)
  input_same i h = ap (λ b. beq b (input_at inputs i).positive) (lower (input_at inputs i).var (made i (record { var = 0; positive = false }) h))

  at : (i : ℕ) → i < length inputs → slice_get inputs i ≡ Some (input_at inputs i)
  at i h = slice_get-get_or inputs i (record { var = 0; positive = false }) h

  opens_clause : (i : ℕ) → i < length inputs - 1 → IsTrue (clause_true (chained inputs first given) (negation (input_at inputs i) ∷ positive (first + i) ∷ []))
  opens_clause i h = opens_up (chained inputs first given (input_at inputs i).var) (input_at inputs i).positive (chained inputs first given (first + i))
      (λ is. along i h ∙ any_in_front (literal_true given) inputs i (suc i) (input_at inputs i) (omega arith) (at i (omega arith)) (sym (input_same i (omega arith)) ∙ is))

  shuts_clause : (i : ℕ) → i < length inputs - 1 → IsTrue (clause_true (chained inputs first given) (negation (input_at inputs (suc i)) ∷ negative (first + i) ∷ []))
  shuts_clause i h = shuts (chained inputs first given (input_at inputs (suc i)).var) (input_at inputs (suc i)).positive (chained inputs first given (first + i))
      (λ is opens. let earlier = any_from_front (literal_true given) inputs (suc i) (sym (along i h) ∙ opens) in
      pair_at (AreNotBothTrue given) inputs earlier.0 (suc i) earlier.1 (input_at inputs (suc i)) one earlier.2 earlier.3 (at (suc i) (omega arith)) earlier.4 (sym (input_same (suc i) (omega arith)) ∙ is))

  goes_clause : (i : ℕ) → suc i < length inputs - 1 → IsTrue (clause_true (chained inputs first given) (negative (first + i) ∷ positive (first + suc i) ∷ []))
  goes_clause i h = goes (chained inputs first given (first + i)) (chained inputs first given (first + suc i))
      (λ is. let earlier = any_from_front (literal_true given) inputs (suc i) (sym (along i (omega arith)) ∙ is) in
      along (suc i) h ∙ any_in_front (literal_true given) inputs earlier.0 (suc (suc i)) earlier.1 (omega (arith, earlier.2)) earlier.3 earlier.4)

  rest_clause : (i : ℕ) (b : Bool) → nat_lt (suc i) (length inputs - 1) ≡ b → AllClausesTrue (chained inputs first given) (cond b ((negative (first + i) ∷ positive (first + suc i) ∷ []) ∷ []) [])
  rest_clause i true e = (goes_clause i (ltb-true (suc i) (length inputs - 1) e), tt)
  rest_clause i false e = tt

  pub chain_holds : AllClausesTrue (chained inputs first given) (chain_clauses inputs first)
  chain_holds = flat_from (λ clause. IsTrue (clause_true (chained inputs first given) clause)) (link_clauses inputs first) (length inputs - 1)
      (λ i h. (opens_clause i h, (shuts_clause i h, rest_clause i (nat_lt (suc i) (length inputs - 1)) refl)))

-- ---- both ways

same_at_most_one : (inputs : List Lit) (a b : ℕ → Bool) → ((i : ℕ) (l : Lit) → slice_get inputs i ≡ Some l → a l.var ≡ b l.var) → AtMostOneTrue a inputs → AtMostOneTrue b inputs
same_at_most_one inputs a b same one = pairs_from (AreNotBothTrue b) inputs (λ i j x y less at_i at_j x_is y_is.
    pair_at (AreNotBothTrue a) inputs i j x y one less at_i at_j (ap (λ v. beq v x.positive) (same i x at_i) ∙ x_is) (ap (λ v. beq v y.positive) (same j y at_j) ∙ y_is))

below_first : (inputs : List Lit) (first i : ℕ) (l : Lit) → HasValues first inputs → slice_get inputs i ≡ Some l → l.var < first
below_first inputs first i l made at =
    let here = made i l (slice_get_within inputs i l at) in
    subst (λ (x : Lit). x.var < first) (get_or_from_slice_get inputs i l l at) here

pub exclusion_is_exact : ExclusionIsExact
unfolding chained
exclusion_is_exact inputs first made given = by (nat_le (length inputs) 4)
  where
    by : (b : Bool) →
        ((assignment : ℕ → Bool) × AgreeBut first (cond b 0 (length inputs - 1)) given assignment × AllClausesTrue assignment (cond b (excluded_pairs inputs) (chain_clauses inputs first))) ↔ AtMostOneTrue given inputs
    by true = (
      (λ found. same_at_most_one inputs found.0 given (λ i l at. found.1 l.var (inl (below_first inputs first i l made at))) ((pairs_exclude found.0 inputs).0 found.2)),
      (λ one. (given, (λ var outside. refl), (pairs_exclude given inputs).1 one)),
    )
    by false = (
      (λ found. same_at_most_one inputs found.0 given (λ i l at. found.1 l.var (inl (below_first inputs first i l made at))) (chain_excludes inputs first found.0 found.2)),
      (λ one. (chained inputs first given, agrees one, chain_holds inputs first given made one)),
    )
      where
        agrees : AtMostOneTrue given inputs → AgreeBut first (length inputs - 1) given (chained inputs first given)
        agrees one var (inl below) = lower inputs first given made one var below
        agrees one var (inr above) = higher inputs first given made one var above

-- one more place
pub chain_next : (inputs : List Lit) (first k : ℕ) (old mid new : List Clause) → mid ≡ old ++ chain_up_to inputs first k → new ≡ mid ++ link_clauses inputs first k → new ≡ old ++ chain_up_to inputs first (k + 1)
chain_next inputs first k old mid new before now =
    let next : suc k ≡ k + 1 = omega arith in
    now ∙ ap (λ xs. xs ++ link_clauses inputs first k) before ∙ append_assoc old (chain_up_to inputs first k) (link_clauses inputs first k)
    ∙ ap (λ xs. old ++ xs) (sym (flat_next (link_clauses inputs first) k)) ∙ ap (λ n. old ++ chain_up_to inputs first n) next
