-- What a proof comes to whose steps are taken in order.
use Rattle.std.specs.Prelude.{◌≡◌, ◌⊎◌, ℕ, ◌==◌, Bool, true, false, List, [], ◌∷◌, Option, Some, None, if◌then◌else◌, nat_eq}
use Rattle.std.specs.List.{list_any}
use Rattle.prop_core.specs.Clauses.{Clause, AllClausesTrue}
use Rattle.prop_core.specs.Derivation.{derive, Derivation, derives, fails, clause_numbered}
use Rattle.proof_ledger.specs.declared.checker.ProofStep.{ProofStep}
use Rattle.proof_ledger.specs.declared.checker.ProofStep.TheVariants.{Add, Delete}
use Rattle.proof_ledger.specs.declared.checker.Checked.{Checked}
use Rattle.proof_ledger.specs.declared.checker.Checked.TheVariants.{Verified, Rejected}

-- the clauses that are held after one more is, by its number
abbrev pub with_clause : (ℕ → Option Clause) → ℕ → Clause → ℕ → Option Clause
with_clause held number clause asked = if asked == number then Some clause else held asked

-- and after these numbers are held no longer
abbrev pub without : (ℕ → Option Clause) → List ℕ → ℕ → Option Clause
without held numbers asked = if list_any (nat_eq asked) numbers then None else held asked

-- the clause has no literal, so that no assignment makes it true
abbrev pub is_empty_clause : Clause → Bool
is_empty_clause [] = true
is_empty_clause (l ∷ ls) = false

-- after a step there is an answer, or other clauses are held
pub data Checking : Type 0 where
  answered : Checked → Checking
  holds : (ℕ → Option Clause) → Checking

-- an addition that derives ends the proof where its clause is empty, and else its clause is held; one that fails ends it, by its line and kind
abbrev pub after_add : (ℕ → Option Clause) → ℕ → ℕ → Clause → Derivation → Checking
after_add held line id clause derives = if is_empty_clause clause then answered Verified else holds (with_clause held id clause)
after_add held line id clause (fails at kind) = answered (Rejected line kind)

-- what a step comes to with the clauses that are held: an addition has to derive, and a deletion never fails
abbrev pub after_step : (ℕ → Option Clause) → ProofStep → Checking
after_step held (Add line id clause hints) = after_add held line id clause (derive held clause hints)
after_step held (Delete ids) = holds (without held ids)

-- what the steps give with the clauses that are held so far: without an empty clause a proof proves nothing, which is kind 4 on line 0
abbrev pub check_from : (ℕ → Option Clause) → List ProofStep → Checked
check_from held [] = Rejected 0 4
check_from held (step ∷ steps) = elim (after_step held step) as (λ _. Checked) [ answered checked ↦ checked | holds more ↦ check_from more steps ]

-- Axioms are held by their numbers from 1.
abbrev pub check_proof : List Clause → List ProofStep → Checked
check_proof axioms steps = check_from (clause_numbered axioms) steps

-- what the rest of a proof gives, by what is reached before it
abbrev pub rest_gives : Checking → List ProofStep → Checked
rest_gives (answered checked) steps = checked
rest_gives (holds held) steps = check_from held steps

-- what is reached after one more step: an answer stays
abbrev pub after_next : Checking → ProofStep → Checking
after_next (answered checked) step = answered checked
after_next (holds held) step = after_step held step

-- where memory runs out in an addition, all is as it was, or the clause of its number is held no longer
abbrev pub IsLeftBy : ℕ → Checking → Checking → Type 0
IsLeftBy id old new = (new ≡ old) ⊎ (new ≡ after_next old (Delete (id ∷ [])))

-- no assignment makes all clauses true
abbrev pub IsUnsatisfiable : List Clause → Type 0
IsUnsatisfiable clauses = (value : ℕ → Bool) → AllClausesTrue value clauses → ⊥
