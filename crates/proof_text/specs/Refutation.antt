-- The refutation that a book holds, as a formula and a proof of their own (LRAT).
use Rattle.std.specs.Prelude.{◌≡◌, ℕ, zero, suc, ◌+◌, ◌-◌, ◌==◌, Bool, false, All, List, [], ◌∷◌, ◌++◌, map, length, filter_map, slice_get, slice_index_or, Option, None, Some}
use Rattle.std.specs.List.{range_with_len}
use Rattle.proof_ledger.specs.Book.{BookEntry, axiomatic, learnt, final, mark, axioms_of, clauses_of, hints_of, IsValidBook}
use Rattle.proof_ledger.specs.Checking.{check_proof}
use Rattle.proof_ledger.specs.declared.checker.ProofStep.{ProofStep}
use Rattle.proof_ledger.specs.declared.checker.ProofStep.TheVariants.{Add}
use Rattle.proof_ledger.specs.declared.checker.Checked.TheVariants.{Verified}
use Rattle.proof_ledger.specs.declared.entry.Entry.{Entry}
use Rattle.proof_ledger.specs.declared.entry.Entry.TheVariants.{Axiom, Learnt, Final, Mark}
use Rattle.prop_core.specs.Clauses.{Clause, HasValues, NegatesOnly}
use Rattle.prop_core.specs.Derivation.{clause_numbered}
use Rattle.prop_core.specs.declared.lit.Lit.{Lit}
use Rattle.proof_text.specs.PrintedText.{HasNumberAbove, HasVariablesBelow}
use Rattle.proof_text.specs.ProofNumbers.{NumbersAscend, HasNoZero}

-- ---- where it ends

-- the clause of this number is a final one, of negated assumptions alone
pub record EndsIn (book : List BookEntry) (assumed : List Lit) (last : ℕ) : Type 0 where
  pub before : List BookEntry
  pub clause : Clause
  pub hints : List ℕ
  pub later : List BookEntry
  pub whole : book ≡ before ++ final clause hints ∷ later
  pub numbered : last ≡ length (clauses_of before) + 1
  pub negates : NegatesOnly assumed clause

-- the entries up to the clause of this number
abbrev pub front_to : ℕ → List BookEntry → List BookEntry
front_to zero book = []
front_to (suc number) [] = []
front_to (suc number) (axiomatic clause ∷ book) = axiomatic clause ∷ front_to number book
front_to (suc number) (learnt clause hints ∷ book) = learnt clause hints ∷ front_to number book
front_to (suc number) (final clause hints ∷ book) = final clause hints ∷ front_to number book
front_to (suc number) (mark k ∷ book) = mark k ∷ front_to (suc number) book

-- ---- the formula

-- each assumption as a clause of one literal
abbrev pub unit_clauses : List Lit → List Clause
unit_clauses assumed = map (λ (l : Lit). l ∷ []) assumed

-- the axioms in their order, and then the assumptions
abbrev pub refuted_formula : List BookEntry → List Lit → List Clause
refuted_formula book assumed = axioms_of book ++ unit_clauses assumed

-- ---- the proof

-- the clause of an entry that was derived, learnt or final; an axiom and a mark have none
abbrev pub derived_clause_of : BookEntry → Option Clause
derived_clause_of (axiomatic clause) = None
derived_clause_of (learnt clause hints) = Some clause
derived_clause_of (final clause hints) = Some clause
derived_clause_of (mark k) = None

-- the clauses that were derived
abbrev pub derived_of : List BookEntry → List Clause
derived_of book = filter_map derived_clause_of book

-- the new numbers of the clauses of a book, in their order: the axioms go on from one number, and what was derived from another
abbrev pub numbers_from : ℕ → ℕ → List BookEntry → List ℕ
numbers_from first next [] = []
numbers_from first next (axiomatic clause ∷ book) = first ∷ numbers_from (first + 1) next book
numbers_from first next (learnt clause hints ∷ book) = next ∷ numbers_from first (next + 1) book
numbers_from first next (final clause hints ∷ book) = next ∷ numbers_from first (next + 1) book
numbers_from first next (mark k ∷ book) = numbers_from first next book

-- The new number of a clause of the book, by its number there. A number beyond the last clause becomes 1, and 0 becomes what 1 does.
abbrev pub new_number : List ℕ → ℕ → ℕ
new_number numbers number = slice_index_or numbers (number - 1) 1

-- what was derived, step by step, from a number on
abbrev pub derived_steps : List ℕ → ℕ → List BookEntry → List ProofStep
derived_steps numbers next [] = []
derived_steps numbers next (axiomatic clause ∷ book) = derived_steps numbers next book
derived_steps numbers next (learnt clause hints ∷ book) = Add 0 next clause (map (new_number numbers) hints) ∷ derived_steps numbers (next + 1) book
derived_steps numbers next (final clause hints ∷ book) = Add 0 next clause (map (new_number numbers) hints) ∷ derived_steps numbers (next + 1) book
derived_steps numbers next (mark k ∷ book) = derived_steps numbers next book

-- the steps behind `axioms` axioms and `assumptions` assumptions, and the empty clause by the assumptions and the clause that was the last
abbrev pub steps_to_empty_clause : List ℕ → ℕ → ℕ → ℕ → List BookEntry → List ProofStep
steps_to_empty_clause numbers axioms assumptions last book =
    derived_steps numbers (axioms + assumptions + 1) book
    ++ Add 0 (axioms + assumptions + 1 + length (derived_of book)) [] (range_with_len (axioms + 1) assumptions ++ new_number numbers last ∷ []) ∷ []

-- those steps by the new numbers of the clauses: axioms from 1 on, and what was derived behind the axioms and the assumptions
abbrev pub steps_behind : ℕ → ℕ → ℕ → List BookEntry → List ProofStep
steps_behind axioms assumptions last book = steps_to_empty_clause (numbers_from 1 (axioms + assumptions + 1) book) axioms assumptions last book

-- the proof by all that was derived
abbrev pub refutation_steps : List BookEntry → List Lit → List ProofStep
refutation_steps book assumed = steps_behind (length (axioms_of book)) (length assumed) (length (clauses_of book)) book

-- The refutation of a valid book that ends in a final clause checks.
abbrev pub RefutationsCheck : Type 0
RefutationsCheck = (book : List BookEntry) (assumed : List Lit) (last : ℕ) → IsValidBook book → EndsIn book assumed last →
    check_proof (refuted_formula (front_to last book) assumed) (refutation_steps (front_to last book) assumed) ≡ Verified

-- Both can be printed, and both texts can be read: the variables are below a number, and the numbers of the steps ascend behind those of the formula.
pub record CanBePrinted (vars : ℕ) (clauses : List Clause) (steps : List ProofStep) : Type 0 where
  pub clauses_known : All (HasValues vars) clauses
  pub steps_known : All (HasVariablesBelow vars) steps
  pub behind : All (HasNumberAbove (length clauses)) steps
  pub ascend : NumbersAscend 0 steps
  pub above : All HasNoZero steps

-- ---- what the code sees of an entry

-- the entry has the clause of this number; a mark has none
abbrev pub is_numbered : ℕ → Entry → Bool
is_numbered number (Axiom id) = id == number
is_numbered number (Learnt id) = id == number
is_numbered number (Final id) = id == number
is_numbered number (Mark k) = false

-- the step derives the clause of this number in the book, by a new number and with new numbers
abbrev pub IsStepOf : List BookEntry → ℕ → ℕ → List ℕ → ProofStep → Type 0
IsStepOf book id number numbers step = (clause : Clause) (hints : List ℕ) → clause_numbered (clauses_of book) id ≡ Some clause → slice_get (hints_of book) (id - 1) ≡ Some hints →
    step ≡ Add 0 number clause (map (new_number numbers) hints)
