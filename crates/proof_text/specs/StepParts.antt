-- The step that its parts make.
use Rattle.std.specs.Prelude.{ℕ, List}
use Rattle.prop_core.specs.declared.lit.Lit.{Lit}
use Rattle.proof_ledger.specs.declared.checker.ProofStep.{ProofStep}
use Rattle.proof_ledger.specs.declared.checker.ProofStep.TheVariants.{Add, Delete}
use Rattle.proof_text.specs.declared.lrat_line.StepKind.{StepKind}
use Rattle.proof_text.specs.declared.lrat_line.StepKind.TheVariants as kinds

-- the step on a line, by its clause, its numbers of clauses, and what it does with them
abbrev pub step_with : ℕ → List Lit → List ℕ → StepKind → ProofStep
step_with line clause ids (kinds.Add id) = Add line id clause ids
step_with line clause ids kinds.Delete = Delete ids
