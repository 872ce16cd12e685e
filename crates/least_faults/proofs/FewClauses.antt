-- A column has at most 2 clauses for each input of the counter, and 5 literals in them.
use Rattle.std.proofs.Common.{ℕ, ◌+◌, ◌*◌, ◌≤◌, List, [], ◌∷◌, ◌++◌, flat_map, length, Option, arith, length-append}
use Rattle.std.specs.List.{sum_by}
use Rattle.std.proofs.Math.Nat.{mul-suc}
use Rattle.std.proofs.lemmas.List.FromFn.{length-range_with_len}
use Rattle.std.proofs.lemmas.List.Sums.{sum_by-append}
use Rattle.card_counter.specs.CounterState.{CounterState, Reached, always, never, told_by, reached_in, reached_before, under, place_clauses, input_at, column_before, next_clauses}
use Rattle.prop_core.specs.Clauses.{Clause}
use Rattle.std.specs.List.{range_with_len}
use Rattle.des_base.specs.Lists.{numbers_below}
use Rattle.prop_core.specs.declared.lit.Lit.{Lit}

-- there are at most `count` clauses, with at most `lits` literals together
pub record AreFew (count lits : ℕ) (clauses : List Clause) : Type 0 where
  pub few : length clauses ≤ count
  pub short : sum_by length clauses ≤ lits

few_append : (a b c d : ℕ) (xs ys : List Clause) → AreFew a b xs → AreFew c d ys → AreFew (a + c) (b + d) (xs ++ ys)
few_append a b c d xs ys first second = record {
  few = omega (arith, length-append xs ys, first.few, second.few);
  short = omega (arith, sum_by-append (λ (clause : Clause). length clause) xs ys, first.short, second.short);
}

-- a clause under a premise has at most one more literal
few_under : (reached : Reached) (clause : Clause) → AreFew 1 (length clause + 1) (under reached clause)
few_under always clause = record { few = omega arith; short = omega arith }
few_under never clause = record { few = omega arith; short = omega arith }
few_under (told_by var) clause = record { few = omega arith; short = omega arith }

pub few_at : (input : Lit) (before : Option (List ℕ)) (column : List ℕ) (i : ℕ) → AreFew 2 5 (place_clauses input before column i)
few_at input before column i = few_append 1 2 1 3 (under (reached_in column i) _) (under (reached_before before i) _) (few_under (reached_in column i) _) (few_under (reached_before before i) _)

pub few_flat : (f : ℕ → List Clause) (a b : ℕ) (ns : List ℕ) → ((n : ℕ) → AreFew a b (f n)) → AreFew (a * length ns) (b * length ns) (flat_map f ns)
few_flat f a b [] each = record { few = omega arith; short = omega arith }
few_flat f a b (n ∷ ns) each =
    let both = few_append a b (a * length ns) (b * length ns) (f n) (flat_map f ns) (each n) (few_flat f a b ns each) in
    let few = both.few in
    let short = both.short in record {
      few = omega (arith, few, mul-suc a (length ns));
      short = omega (arith, short, mul-suc b (length ns));
    }

pub few_in_column : (counter : CounterState) (first : ℕ) → AreFew (2 * length counter.inputs) (5 * length counter.inputs) (next_clauses counter first)
few_in_column counter first =
    rw (length-range_with_len 0 (length counter.inputs)) at
    (few_flat (λ i. place_clauses (input_at counter.inputs i) (column_before counter.columns (length counter.columns)) (range_with_len first (length counter.inputs)) i) 2 5 (numbers_below (length counter.inputs))
    (λ i. few_at (input_at counter.inputs i) (column_before counter.columns (length counter.columns)) (range_with_len first (length counter.inputs)) i))
