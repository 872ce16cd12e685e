-- The clauses of a counter say how many of its inputs are true.
use Rattle.std.proofs.Common.{cond, ◌+◌, ◌≡◌, ◌≢◌, ℕ, zero, suc, ◌-◌, ◌<◌, ◌≤◌, ◌∙◌, ◌⊎◌, inl, inr, Bool, true, false, List, [], ◌∷◌, length, Some, refl, sym, ap, subst, arith, slice_get, Contains, IsTrue, not, ◌||◌, take, take_all, count_by, nat_le, unwrap_or, option_map}
use Rattle.std.specs.Bool.{beq}
use Rattle.std.proofs.lemmas.Bool.{leb-true, cases_lt}
use Rattle.std.proofs.lemmas.Option.{slice_get-get_or}
use Rattle.des_base.proofs.Elements.{all_append, all_split, contains_at, all_from}
use Rattle.prop_core.proofs.Premises.{implied, implies, from_premise, one_premise, alone, alone_back, without_literal, with_literal_false, last_literal, last_literal_true}
use Rattle.prop_core.specs.declared.lit.Lit.{Lit}
use Rattle.prop_core.specs.Clauses.{Clause, negation, literal_true, clause_true, AllClausesTrue}
use Rattle.prop_core.specs.NamedClauses.{same_sign, named_true, named_clause_true, assignment_by, AllHold}
use Rattle.prop_core.specs.VariableNames.{Meaning, in_state, happens, asked, matches, done, unmatched, closed, dropped, reaches, some_of_first, NamedLiteral}
use Rattle.card_counter.proofs.ListLemmas.{flat_each, flat_from}
use Rattle.card_counter.proofs.Counts.{count_cons, Reaches, reached, counting}
use Rattle.card_counter.proofs.NameLemmas.{no_name, counter_meanings_stand}
use Rattle.card_counter.specs.CounterClauses.{CountClause, counts_on, counts_up, opposite, count_clause, IsCountClause, IsOfColumns, IsNamedCount}
use Rattle.card_counter.specs.CounterState.{CounterState, IsPlace, IsCounter, variable, column_at, column_before, positive, Reached, always, never, told_by, reached_in, reached_before, under, place_clauses, input_at, column_clauses, counter_clauses, bound_literal, counter_meanings}
use Rattle.card_counter.specs.Counting.{true_count, AgreeOutside, ExtendsOverCounter, CounterIsExact, is_count, with_counts, NamedCountIsExact}
use Rattle.prop_core.specs.Trail.{no_literal}

-- ---- clauses with premises

without_premise : (a b : Bool) → beq a false || b ≡ true → a ≡ true → b ≡ true
without_premise true b h e = h
without_premise false b h e = cc

with_premise : (a b : Bool) → (a ≡ true → b ≡ true) → beq a false || b ≡ true
with_premise true b h = h refl
with_premise false b h = refl

abbrev tells : (ℕ → Bool) → Reached → Bool
tells value always = true
tells value never = false
tells value (told_by var) = value var

under_says : (value : ℕ → Bool) (premise : Reached) (clause : Clause) → AllClausesTrue value (under premise clause) → tells value premise ≡ true → clause_true value clause ≡ true
under_says value always clause all h = all.0
under_says value never clause all h = cc
under_says value (told_by var) clause all h = without_premise (value var) (clause_true value clause) all.0 h

under_said : (value : ℕ → Bool) (premise : Reached) (clause : Clause) → (tells value premise ≡ true → clause_true value clause ≡ true) → AllClausesTrue value (under premise clause)
under_said value always clause h = (h refl, tt)
under_said value never clause h = tt
under_said value (told_by var) clause h = (with_premise (value var) (clause_true value clause) h, tt)

input_is : (inputs : List Lit) (i : ℕ) (x : Lit) → slice_get inputs i ≡ Some x → input_at inputs i ≡ x
input_is [] i x h = cc
input_is (y ∷ inputs) zero x h = cc
input_is (y ∷ inputs) (suc i) x h = input_is inputs i x h

within : {X : Type 0} (xs : List X) (i : ℕ) (x : X) → slice_get xs i ≡ Some x → i < length xs
within [] i x h = cc
within (y ∷ xs) zero x h = omega arith
within (y ∷ xs) (suc i) x h = let rest = within xs i x h in omega arith

-- ---- what true clauses say

module _ (state : CounterState) (value : ℕ → Bool) where
  abbrev Said : List Clause → Type 0
  Said clauses = AllClausesTrue value clauses

  abbrev seen : ℕ → ℕ → Bool
  seen zero j = false
  seen (suc i) zero = false
  seen (suc i) (suc j) = value (variable state i j)

  at_place : Said (counter_clauses state) → (i j : ℕ) → IsPlace state i j → Said (place_clauses (input_at state.inputs i) (column_before state.columns j) (column_at state.columns j) i)
  at_place all i j place =
      let column = flat_each (λ clause. IsTrue (clause_true value clause)) (λ k. column_clauses state.inputs (column_before state.columns k) (column_at state.columns k)) (length state.columns) all j place.column in
      flat_each (λ clause. IsTrue (clause_true value clause)) (λ k. place_clauses (input_at state.inputs k) (column_before state.columns j) (column_at state.columns j) k) (length state.inputs) column i place.input

  parts_at : Said (counter_clauses state) → (i j : ℕ) → IsPlace state i j →
      Said (under (reached_in (column_at state.columns j) i) (positive (variable state i j) ∷ []))
      × Said (under (reached_before (column_before state.columns j) i) (negation (input_at state.inputs i) ∷ positive (variable state i j) ∷ []))
  parts_at all i j place = all_split (λ clause. IsTrue (clause_true value clause)) (under (reached_in (column_at state.columns j) i) (positive (variable state i j) ∷ []))
      (under (reached_before (column_before state.columns j) i) (negation (input_at state.inputs i) ∷ positive (variable state i j) ∷ [])) (at_place all i j place)

  count_up : Said (counter_clauses state) → (i j : ℕ) (x : Lit) → slice_get state.inputs i ≡ Some x → j < length state.columns → literal_true value x ≡ true →
      tells value (reached_before (column_before state.columns j) i) ≡ true → value (variable state i j) ≡ true
  count_up all i j x at h is premise =
      let place : IsPlace state i j = record { input = within state.inputs i x at; column = h } in
      let both = parts_at all i j place in
      let clause = under_says value (reached_before (column_before state.columns j) i) (negation (input_at state.inputs i) ∷ positive (variable state i j) ∷ []) both.1 premise in
      let input : literal_true value (input_at state.inputs i) ≡ true = ap (literal_true value) (input_is state.inputs i x at) ∙ is in
      last_literal (value (variable state i j)) (without_literal (value (input_at state.inputs i).var) (input_at state.inputs i).positive (literal_true value (positive (variable state i j)) || false) clause input)

  pub rules_from : Said (counter_clauses state) → Reaches (literal_true value) state.inputs (length state.columns) seen
  rules_from all = record {
    kept = λ i j inside h is.
        let both = parts_at all (suc i) j (record { input = inside; column = h }) in
        last_literal (value (variable state (suc i) j)) (under_says value (told_by (variable state i j)) (positive (variable state (suc i) j) ∷ []) both.0 is);
    counted = up;
  }
    where
      up : (i j : ℕ) (x : Lit) → slice_get state.inputs i ≡ Some x → j < length state.columns → literal_true value x ≡ true → (j ≡ 0) ⊎ ((1 ≤ i) × (seen i j ≡ true)) → seen (suc i) (suc j) ≡ true
      up i zero x at h is premise = count_up all i 0 x at h is refl
      up i (suc j) x at h is (inl none) = absurd (omega arith)
      up zero (suc j) x at h is (inr some) = absurd (let low = some.0 in omega arith)
      up (suc i) (suc j) x at h is (inr some) = count_up all (suc i) (suc j) x at h is some.1

  -- where each variable counts
  module _ (counts : (i j : ℕ) → IsPlace state i j → value (variable state i j) ≡ nat_le (suc j) (count_by (literal_true value) (take (suc i) state.inputs))) where
    rules : Reaches (literal_true value) state.inputs (length state.columns) (λ i j. nat_le j (count_by (literal_true value) (take i state.inputs)))
    rules = counting (literal_true value) state.inputs (length state.columns)

    kept_said : (i j : ℕ) → IsPlace state i j → Said (under (reached_in (column_at state.columns j) i) (positive (variable state i j) ∷ []))
    kept_said zero j place = tt
    kept_said (suc i) j place =
        let before : IsPlace state i j = record { input = omega (arith, place.input); column = place.column } in
        under_said value (told_by (variable state i j)) (positive (variable state (suc i) j) ∷ [])
        (λ is. last_literal_true (value (variable state (suc i) j)) (counts (suc i) j place ∙ rules.kept i j place.input place.column (sym (counts i j before) ∙ is)))

    counted_said : (i j : ℕ) → IsPlace state i j → Said (under (reached_before (column_before state.columns j) i) (negation (input_at state.inputs i) ∷ positive (variable state i j) ∷ []))
    counted_said i zero place = under_said value always (negation (input_at state.inputs i) ∷ positive (variable state i 0) ∷ []) (λ is.
        with_literal_false (value (input_at state.inputs i).var) (input_at state.inputs i).positive (literal_true value (positive (variable state i 0)) || false) (λ input.
        last_literal_true (value (variable state i 0)) (counts i 0 place ∙ rules.counted i 0 (input_at state.inputs i) (slice_get-get_or state.inputs i no_literal place.input) place.column input (inl refl))))
    counted_said zero (suc j) place = tt
    counted_said (suc i) (suc j) place =
        let before : IsPlace state i j = record { input = omega (arith, place.input); column = omega (arith, place.column) } in
        under_said value (told_by (variable state i j)) (negation (input_at state.inputs (suc i)) ∷ positive (variable state (suc i) (suc j)) ∷ []) (λ is.
        with_literal_false (value (input_at state.inputs (suc i)).var) (input_at state.inputs (suc i)).positive (literal_true value (positive (variable state (suc i) (suc j))) || false) (λ input.
        last_literal_true (value (variable state (suc i) (suc j))) (counts (suc i) (suc j) place
        ∙ rules.counted (suc i) (suc j) (input_at state.inputs (suc i)) (slice_get-get_or state.inputs (suc i) no_literal place.input) place.column input (inr (omega arith, sym (counts i j before) ∙ is)))))

    pub all_said : Said (counter_clauses state)
    all_said = flat_from (λ clause. IsTrue (clause_true value clause)) (λ k. column_clauses state.inputs (column_before state.columns k) (column_at state.columns k)) (length state.columns) (λ j h.
        flat_from (λ clause. IsTrue (clause_true value clause)) (λ k. place_clauses (input_at state.inputs k) (column_before state.columns j) (column_at state.columns j) k) (length state.inputs) (λ i inside.
        let place : IsPlace state i j = record { input = inside; column = h } in
        all_append (λ clause. IsTrue (clause_true value clause)) (under (reached_in (column_at state.columns j) i) (positive (variable state i j) ∷ []))
        (under (reached_before (column_before state.columns j) i) (negation (input_at state.inputs i) ∷ positive (variable state i j) ∷ [])) (kept_said i j place) (counted_said i j place)))

-- ---- the assignment that counts

-- at least j of the first i inputs are true
abbrev truth_of : CounterState → (ℕ → Bool) → Meaning → Bool
truth_of state given (reaches i j) = nat_le j (count_by (literal_true given) (take i state.inputs))
truth_of state given meaning = false

abbrev counting_by : CounterState → (ℕ → Bool) → ℕ → Bool
counting_by state given = assignment_by (counter_meanings state) (truth_of state given) given

count_same : (p q : Lit → Bool) (xs : List Lit) → ((x : Lit) → Contains xs x → p x ≡ q x) → count_by p xs ≡ count_by q xs
count_same p q [] same = refl
count_same p q (x ∷ xs) same =
    let here : p x ≡ q x = same x (0, omega arith, refl) in
    let rest = count_same p q xs (λ y there. same y (suc there.0, omega (arith, there.1), there.2)) in
    count_cons p x xs ∙ ap {B = ℕ} (λ b. cond b 1 0 + count_by p xs) here ∙ ap {B = ℕ} (λ n. cond (q x) 1 0 + n) rest ∙ sym (count_cons q x xs)

take_within : {X : Type 0} (n : ℕ) (xs : List X) (x : X) → Contains (take n xs) x → Contains xs x
take_within zero [] x here = here
take_within zero (y ∷ xs) x (k, below, is) = absurd (omega arith)
take_within (suc n) [] x here = here
take_within (suc n) (y ∷ xs) x (zero, below, is) = (0, omega arith, is)
take_within (suc n) (y ∷ xs) x (suc k, below, is) = let rest = take_within n xs x (k, omega arith, is) in (suc rest.0, omega (arith, rest.1), rest.2)

module _ (state : CounterState) (counter : IsCounter state) where
  -- the same inputs are true by assignments that agree outside the counter
  inputs_agree : (given assignment : ℕ → Bool) → AgreeOutside state given assignment → (x : Lit) → Contains state.inputs x → literal_true assignment x ≡ literal_true given x
  inputs_agree given assignment agree x in' = ap (λ b. beq b x.positive) (agree x.var (λ i j place same. counter.new i j x place in' same))

  counts_agree : (given assignment : ℕ → Bool) → AgreeOutside state given assignment → (n : ℕ) → count_by (literal_true assignment) (take n state.inputs) ≡ count_by (literal_true given) (take n state.inputs)
  counts_agree given assignment agree n = count_same (literal_true assignment) (literal_true given) (take n state.inputs) (λ x here. inputs_agree given assignment agree x (take_within n state.inputs x here))

  outside : (given : ℕ → Bool) → AgreeOutside state given (counting_by state given)
  outside given var other =
      let none = no_name (counter_meanings state) var (all_from (λ entry. entry.0 ≢ var) (counter_meanings state) (λ entry here same.
      let at = (counter_meanings_stand state counter).only entry here in
      other at.0 at.1 at.2 (sym same ∙ ap (λ (e : ℕ × Meaning). e.0) at.3))) in
      ap (λ o. unwrap_or (option_map (truth_of state given) o) (given var)) none

  inside : (given : ℕ → Bool) (i j : ℕ) → IsPlace state i j → counting_by state given (variable state i j) ≡ nat_le (suc j) (count_by (literal_true given) (take (suc i) state.inputs))
  inside given i j place =
      let stand = counter_meanings_stand state counter in
      ap (λ o. unwrap_or (option_map (truth_of state given) o) (given (variable state i j))) (stand.called (counter_meanings state) stand.once (λ entry here. here) i j place)

  counts_itself : (given : ℕ → Bool) (i j : ℕ) → IsPlace state i j → counting_by state given (variable state i j) ≡ nat_le (suc j) (count_by (literal_true (counting_by state given)) (take (suc i) state.inputs))
  counts_itself given i j place = inside given i j place ∙ ap (nat_le (suc j)) (sym (counts_agree given (counting_by state given) (outside given) (suc i)))

  holds : (given : ℕ → Bool) → AllClausesTrue (counting_by state given) (counter_clauses state)
  holds given = all_said state (counting_by state given) (counts_itself given)

  last_place : (k : ℕ) → k < length state.columns → IsPlace state (length state.inputs - 1) k
  last_place k h = let some = counter.filled (omega arith) in record { input = omega arith; column = h }

  whole : (value : ℕ → Bool) → 0 < length state.inputs → count_by (literal_true value) (take (suc (length state.inputs - 1)) state.inputs) ≡ true_count value state.inputs
  whole value some = ap (count_by (literal_true value)) (take_all (suc (length state.inputs - 1)) state.inputs (omega arith))

  bounded_to : (given : ℕ → Bool) (k : ℕ) → k < length state.columns →
      ExtendsOverCounter state given (λ assignment. AllClausesTrue assignment (counter_clauses state) × IsTrue (literal_true assignment (bound_literal state k))) → true_count given state.inputs ≤ k
  bounded_to given k h (assignment, agree, (all, bound)) = by (cases_lt k (true_count given state.inputs))
    where
      some : 0 < length state.inputs
      some = counter.filled (omega arith)

      clash : (b : Bool) → beq b false ≡ true → b ≡ true → ⊥
      clash true f g = cc
      clash false f g = cc

      many : k < true_count given state.inputs → assignment (variable state (length state.inputs - 1) k) ≡ true
      many more = reached (literal_true assignment) state.inputs (length state.columns) (seen state assignment) (rules_from state assignment all) (suc (length state.inputs - 1)) k (omega arith) h
          (omega (arith, counts_agree given assignment agree (suc (length state.inputs - 1)), whole given some, more))

      by : (k < true_count given state.inputs) ⊎ (true_count given state.inputs ≤ k) → true_count given state.inputs ≤ k
      by (inl more) = absurd (clash (assignment (variable state (length state.inputs - 1) k)) bound (many more))
      by (inr few) = few

  bounded_back : (given : ℕ → Bool) (k : ℕ) → k < length state.columns → true_count given state.inputs ≤ k →
      ExtendsOverCounter state given (λ assignment. AllClausesTrue assignment (counter_clauses state) × IsTrue (literal_true assignment (bound_literal state k)))
  bounded_back given k h few = (counting_by state given, outside given, (holds given, bound))
    where
      some : 0 < length state.inputs
      some = counter.filled (omega arith)

      is_false : (b : Bool) → (b ≡ true → ⊥) → beq b false ≡ true
      is_false true no' = absurd (no' refl)
      is_false false no' = refl

      bound : literal_true (counting_by state given) (bound_literal state k) ≡ true
      bound = is_false (counting_by state given (variable state (length state.inputs - 1) k)) (λ is.
          let count = leb-true (suc k) (count_by (literal_true given) (take (suc (length state.inputs - 1)) state.inputs)) (sym (inside given (length state.inputs - 1) k (last_place k h)) ∙ is) in
          omega (arith, count, whole given some, few))

pub counter_is_exact : CounterIsExact
counter_is_exact state counter = record {
  free = λ given. (counting_by state given, outside state counter given, holds state counter given);
  bounded = λ k h given. (bounded_to state counter given k h, bounded_back state counter given k h);
}

-- ---- by name

input_unless : (a p b : Bool) → same_sign (not p) a || b ≡ true → same_sign p a ≡ true → b ≡ true
input_unless true true b h e = h
input_unless true false b h e = cc
input_unless false true b h e = cc
input_unless false false b h e = h

input_unless_back : (a p b : Bool) → (same_sign p a ≡ true → b ≡ true) → same_sign (not p) a || b ≡ true
input_unless_back true true b h = h refl
input_unless_back true false b h = refl
input_unless_back false true b h = refl
input_unless_back false false b h = h refl

module _ (inputs : List NamedLiteral) (value : Meaning → Bool) where
  named_rules : (columns : ℕ) → AllHold (IsNamedCount inputs columns) value → Reaches (named_true value) inputs columns (λ i j. value (reaches i j))
  named_rules columns all = record {
    kept = λ i j inside h is. implied (value (reaches (suc i) (suc j))) (value (reaches (suc (suc i)) (suc j)))
        (all (count_clause (counts_on (suc i) (suc j))) (counts_on (suc i) (suc j), (omega arith, inside, omega arith), omega arith, refl)) is;
    counted = up;
  }
    where
      up : (i j : ℕ) (x : NamedLiteral) → slice_get inputs i ≡ Some x → j < columns → named_true value x ≡ true → (j ≡ 0) ⊎ ((1 ≤ i) × (value (reaches i j) ≡ true)) → value (reaches (suc i) (suc j)) ≡ true
      up i zero x at h is premise =
          alone (value (reaches (suc i) 1)) (input_unless (value x.meaning) x.positive (value (reaches (suc i) 1) || false) (all (count_clause (counts_up i 0 x)) (counts_up i 0 x, (at, inl refl), h, refl)) is)
      up i (suc j) x at h is (inl none) = absurd (omega arith)
      up i (suc j) x at h is (inr some) =
          alone (value (reaches (suc i) (suc (suc j)))) (input_unless (value x.meaning) x.positive (value (reaches (suc i) (suc (suc j))) || false)
          (from_premise (value (reaches i (suc j))) (named_true value (opposite x) || (value (reaches (suc i) (suc (suc j))) || false)) (all (count_clause (counts_up i (suc j) x)) (counts_up i (suc j) x, (at, inr some.0), h, refl)) some.1) is)

  named_few : (columns k : ℕ) → AllHold (IsNamedCount inputs columns) value → k < columns → value (reaches (length inputs) (suc k)) ≡ false → count_by (named_true value) inputs ≤ k
  named_few columns k all h none = by (cases_lt k (count_by (named_true value) inputs))
    where
      all_taken : count_by (named_true value) (take (length inputs) inputs) ≡ count_by (named_true value) inputs
      all_taken = ap (count_by (named_true value)) (take_all (length inputs) inputs (omega arith))

      by : (k < count_by (named_true value) inputs) ⊎ (count_by (named_true value) inputs ≤ k) → count_by (named_true value) inputs ≤ k
      by (inl more) =
          let many = reached (named_true value) inputs columns (λ i j. value (reaches i j)) (named_rules columns all) (length inputs) k (omega arith) h (omega (arith, all_taken, more)) in
          absurd (let clash : true ≡ false = sym many ∙ none in cc)
      by (inr few) = few

  others_stay : (meaning : Meaning) → is_count meaning ≡ false → with_counts inputs value meaning ≡ value meaning
  others_stay (in_state c q t) h = refl
  others_stay (happens e t) h = refl
  others_stay asked h = refl
  others_stay (matches i e t) h = refl
  others_stay (done i t) h = refl
  others_stay (unmatched e k t) h = refl
  others_stay (closed e k) h = refl
  others_stay (dropped i) h = refl
  others_stay (reaches i j) h = cc
  others_stay (some_of_first family i) h = refl

  module _ (plain : (x : NamedLiteral) → Contains inputs x → is_count x.meaning ≡ false) where
    same_input : (x : NamedLiteral) → Contains inputs x → named_true (with_counts inputs value) x ≡ named_true value x
    same_input x here = ap (same_sign x.positive) (others_stay x.meaning (plain x here))

    holds_by_name : (columns : ℕ) (which : CountClause) → IsCountClause inputs which → IsOfColumns columns which → IsTrue (named_clause_true (with_counts inputs value) (count_clause which))
    holds_by_name columns (counts_on zero j) is of = absurd (let low = is.0 in omega arith)
    holds_by_name columns (counts_on (suc i) zero) is of = absurd (let one = is.2 in omega arith)
    holds_by_name columns (counts_on (suc i) (suc j)) is of =
        implies (with_counts inputs value (reaches (suc i) (suc j))) (with_counts inputs value (reaches (suc (suc i)) (suc j))) (λ h. (counting (named_true value) inputs columns).kept i j is.1 of h)
    holds_by_name columns (counts_up i zero x) is of =
        input_unless_back (with_counts inputs value x.meaning) x.positive (with_counts inputs value (reaches (suc i) 1) || false) (λ h.
        alone_back (with_counts inputs value (reaches (suc i) 1)) ((counting (named_true value) inputs columns).counted i 0 x is.0 of (sym (same_input x (contains_at inputs i x is.0)) ∙ h) (inl refl)))
    holds_by_name columns (counts_up i (suc j) x) is of =
        one_premise (with_counts inputs value (reaches i (suc j))) (named_true (with_counts inputs value) (opposite x) || (with_counts inputs value (reaches (suc i) (suc (suc j))) || false)) (λ r.
        input_unless_back (with_counts inputs value x.meaning) x.positive (with_counts inputs value (reaches (suc i) (suc (suc j))) || false) (λ h.
        alone_back (with_counts inputs value (reaches (suc i) (suc (suc j)))) ((counting (named_true value) inputs columns).counted i (suc j) x is.0 of
        (sym (same_input x (contains_at inputs i x is.0)) ∙ h) (inr (low is.1, r)))))
      where
        low : (suc j ≡ 0) ⊎ (1 ≤ i) → 1 ≤ i
        low (inl none) = absurd (omega arith)
        low (inr some) = some

  bound_holds : (k : ℕ) → count_by (named_true value) inputs ≤ k → with_counts inputs value (reaches (length inputs) (suc k)) ≡ false
  bound_holds k few = none (nat_le (suc k) (count_by (named_true value) (take (length inputs) inputs))) (λ h.
      let more = leb-true (suc k) (count_by (named_true value) (take (length inputs) inputs)) h in
      let all_taken = ap (count_by (named_true value)) (take_all (length inputs) inputs (omega arith)) in
      omega (arith, more, all_taken, few))
    where
      none : (b : Bool) → (b ≡ true → ⊥) → b ≡ false
      none true h = absurd (h refl)
      none false h = refl

pub named_count_is_exact : NamedCountIsExact
named_count_is_exact inputs value = record {
  others = others_stay inputs value;
  free = λ plain columns named is. subst (λ literals. IsTrue (named_clause_true (with_counts inputs value) literals)) is.3 (holds_by_name inputs value plain columns is.0 is.1 is.2);
  bound = bound_holds inputs value;
  few = named_few inputs value;
}
