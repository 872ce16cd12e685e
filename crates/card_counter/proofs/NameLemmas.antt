-- The variables of a counter and their names.
use Rattle.std.proofs.Common.{◌≡◌, ◌≢◌, ℕ, zero, suc, List, [], ◌∷◌, map, length, None, Some, refl, sym, ap, subst, arith, Contains}
use Rattle.std.specs.List.{AllByRecursion}
use Rattle.std.proofs.lemmas.Bool.{ne_eqb, eq-eqb}
use Rattle.des_base.proofs.Elements.{all_at}
use Rattle.prop_core.specs.VariableNames.{Meaning, reaches, HasEachOnce, meaning_of}
use Rattle.card_counter.proofs.ListLemmas.{flat_contains, flat_of, map_contains, map_of, pairs_flat, pairs_map}
use Rattle.card_counter.specs.CounterState.{CounterState, IsPlace, IsCounter, variable, counter_meanings}
use Rattle.card_counter.specs.Counting.{CounterMeaningsStand}
use Rattle.des_base.specs.Lists.{numbers_below}

-- the name of a variable that stands among the names
pub named_by_entry : (names : List (ℕ × Meaning)) → HasEachOnce names → (var : ℕ) (meaning : Meaning) → Contains names (var, meaning) → meaning_of names var ≡ Some meaning
named_by_entry [] once var meaning (k, below, is) = absurd (omega arith)
named_by_entry (entry ∷ names) once var meaning (zero, below, is) =
    let v : entry.0 ≡ var = ap (λ (e : ℕ × Meaning). e.0) is in
    let n : entry.1 ≡ meaning = ap (λ (e : ℕ × Meaning). e.1) is in
    rw (eq-eqb entry.0 var v) (ap Some n)
named_by_entry (entry ∷ names) once var meaning (suc k, below, is) =
    let there : Contains names (var, meaning) = (k, omega arith, is) in
    let other = all_at (λ b. (entry.0 ≢ b.0) × (entry.1 ≢ b.1)) names (var, meaning) once.0 there in
    rw (ne_eqb entry.0 var other.0) (named_by_entry names once.1 var meaning there)

pub no_name : (names : List (ℕ × Meaning)) (var : ℕ) → AllByRecursion (λ entry. entry.0 ≢ var) names → meaning_of names var ≡ None
no_name [] var other = refl
no_name (entry ∷ names) var other = rw (ne_eqb entry.0 var other.0) (no_name names var other.1)

module _ (state : CounterState) where
  abbrev entry : ℕ → ℕ → ℕ × Meaning
  entry j i = (variable state i j, reaches (suc i) (suc j))

  abbrev row : ℕ → List (ℕ × Meaning)
  row j = map (entry j) (numbers_below (length state.inputs))

  pub entry_there : (i j : ℕ) → IsPlace state i j → Contains (counter_meanings state) (variable state i j, reaches (suc i) (suc j))
  entry_there i j place = flat_contains row (length state.columns) j (entry j i) place.column (map_contains (entry j) (length state.inputs) i place.input)

  pub entry_only : (e : ℕ × Meaning) → Contains (counter_meanings state) e → (i : ℕ) × (j : ℕ) × IsPlace state i j × (e ≡ (variable state i j, reaches (suc i) (suc j)))
  entry_only e here =
      let column = flat_of row (length state.columns) e here in
      let input = map_of (entry column.0) (length state.inputs) e column.2 in
      (input.0, column.0, record { input = input.1; column = column.1 }, sym input.2)

  abbrev Differ : ℕ × Meaning → ℕ × Meaning → Type 0
  Differ a b = (a.0 ≢ b.0) × (a.1 ≢ b.1)

  entries_differ : IsCounter state → (i j k l : ℕ) → IsPlace state i j → IsPlace state k l → ((i ≡ k) × (j ≡ l) → ⊥) → Differ (entry j i) (entry l k)
  entries_differ counter i j k l here there other = (
    (λ same. other (counter.apart i j k l here there same)),
    (λ same. other (input_same i j k l same, column_same i j k l same)),
  )
    where
      input_same : (i j k l : ℕ) → reaches (suc i) (suc j) ≡ reaches (suc k) (suc l) → i ≡ k
      input_same i j k l same = cc

      column_same : (i j k l : ℕ) → reaches (suc i) (suc j) ≡ reaches (suc k) (suc l) → j ≡ l
      column_same i j k l same = cc

  entries_once : IsCounter state → HasEachOnce (counter_meanings state)
  entries_once counter = pairs_flat Differ row (length state.columns)
      (λ j h. pairs_map Differ (entry j) (length state.inputs) (λ i k less inside.
      entries_differ counter i j k j (record { input = omega arith; column = h }) (record { input = inside; column = h }) (λ same. let e = same.0 in omega arith)))
      (λ j l a b less h here there.
      let first = map_of (entry j) (length state.inputs) a here in
      let second = map_of (entry l) (length state.inputs) b there in
      let differ = entries_differ counter first.0 j second.0 l (record { input = first.1; column = omega arith }) (record { input = second.1; column = h }) (λ same. let e = same.1 in omega arith) in
      subst (λ x. Differ x b) first.2 (subst (Differ (entry j first.0)) second.2 differ))

pub counter_meanings_stand : CounterMeaningsStand
counter_meanings_stand state counter = record {
  once = entries_once state counter;
  there = entry_there state;
  only = entry_only state;
  called = λ names once within i j place. named_by_entry names once (variable state i j) (reaches (suc i) (suc j)) (within (variable state i j, reaches (suc i) (suc j)) (entry_there state i j place));
}
