-- What a column says of an input, written one clause after another.
use Rattle.std.proofs.Common.{◌≡◌, ℕ, suc, ◌+◌, ◌-◌, ◌*◌, ◌≤◌, ◌∙◌, List, [], ◌∷◌, ◌++◌, flat_map, length, sym, ap, subst, arith, append_assoc, length-append}
use Rattle.std.specs.List.{range_with_len}
use Rattle.std.proofs.Math.Seq.{get_or-append_seam}
use Rattle.prop_core.specs.declared.lit.Lit.{Lit}
use Rattle.prop_core.specs.ClauseStore.{ClauseStore}
use Rattle.prop_core.specs.Clauses.{Clause}
use Rattle.card_counter.proofs.Inputs.{longer_size}
use Rattle.card_counter.proofs.ListLemmas.{flat_next}
use Rattle.card_counter.proofs.States.{at_end, before_front, one_more_column}
use Rattle.card_counter.specs.CounterState.{CounterState, column_at, column_before, column_clauses, place_clauses, input_at, clauses_of_column, clauses_of_input, with_column, next_clauses, longer, with_input, input_clauses}
use Rattle.card_counter.specs.Growing.{AddsWithin}
use Rattle.des_base.specs.Lists.{numbers_below}
use Rattle.prop_core.specs.Trail.{no_literal}

pub adds_both : (old mid new : ClauseStore) (xs ys : List Clause) (m n o p q r : ℕ) → AddsWithin old xs m n mid → AddsWithin mid ys o p new → m + o ≤ q → n + p ≤ r → AddsWithin old (xs ++ ys) q r new
adds_both old mid new xs ys m n o p q r first second clauses literals = record {
  added = second.added ∙ ap (λ zs. zs ++ ys) first.added ∙ append_assoc old.clauses xs ys;
  clauses = let a = first.clauses in let b = second.clauses in omega (arith, a, b, clauses);
  literals = let a = first.literals in let b = second.literals in omega (arith, a, b, literals);
}

-- one more place of a loop
pub adds_next : (f : ℕ → List Clause) (old mid new : ClauseStore) (place : ℕ) (more : List Clause) → more ≡ f place →
    AddsWithin old (flat_map f (numbers_below place)) (2 * place) (5 * place) mid → AddsWithin mid more 2 5 new → AddsWithin old (flat_map f (numbers_below (place + 1))) (2 * (place + 1)) (5 * (place + 1)) new
adds_next f old mid new place more is so_far adds =
    let here = subst (λ xs. AddsWithin mid xs 2 5 new) is adds in
    let both = adds_both old mid new (flat_map f (numbers_below place)) (f place) (2 * place) (5 * place) 2 5 (2 * (place + 1)) (5 * (place + 1)) so_far here (omega arith) (omega arith) in
    let next : suc place ≡ place + 1 = omega arith in
    record {
      added = both.added ∙ ap (λ xs. old.clauses ++ xs) (sym (flat_next f place) ∙ ap (λ n. flat_map f (numbers_below n)) next);
      clauses = both.clauses;
      literals = both.literals;
    }

-- ---- the last column, and the last input

pub last_column : (old : CounterState) (first : ℕ) → clauses_of_column (with_column old first) (length (with_column old first).columns - 1) ≡ next_clauses old first
last_column old first =
    let size = one_more_column old.columns (range_with_len first (length old.inputs)) in
    let last : length (with_column old first).columns - 1 ≡ length old.columns = omega (arith, size) in
    ap (λ k. column_clauses old.inputs (column_before (with_column old first).columns k) (column_at (with_column old first).columns k)) last
    ∙ ap (λ c. column_clauses old.inputs c (column_at (with_column old first).columns (length old.columns))) (before_front old.columns (range_with_len first (length old.inputs)) (length old.columns) (omega arith))
    ∙ ap (column_clauses old.inputs (column_before old.columns (length old.columns))) (at_end old.columns (range_with_len first (length old.inputs)))

pub last_input : (old : CounterState) (input : Lit) (first : ℕ) → clauses_of_input (with_input old input first) (length (with_input old input first).inputs - 1) ≡ input_clauses old input first
last_input old input first =
    let size = length-append old.inputs (input ∷ []) in
    let last : length (old.inputs ++ input ∷ []) - 1 ≡ length old.inputs = omega (arith, size) in
    ap (λ k. flat_map (λ j. place_clauses (input_at (old.inputs ++ input ∷ []) k) (column_before (longer first old.columns) j) (column_at (longer first old.columns) j) k) (numbers_below (length (longer first old.columns)))) last
    ∙ ap (λ l. flat_map (λ j. place_clauses l (column_before (longer first old.columns) j) (column_at (longer first old.columns) j) (length old.inputs)) (numbers_below (length (longer first old.columns)))) (get_or-append_seam old.inputs input [] no_literal)
    ∙ ap (λ n. flat_map (λ j. place_clauses input (column_before (longer first old.columns) j) (column_at (longer first old.columns) j) (length old.inputs)) (numbers_below n)) (longer_size first old.columns)
