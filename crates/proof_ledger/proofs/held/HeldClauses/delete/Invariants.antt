use Rattle.std.proofs.Common.{◌≡◌, ℕ, take}
use Rattle.proof_ledger.specs.HeldClauses.{held_by}
use Rattle.proof_ledger.specs.Checking.{without}
use Rattle.proof_ledger.proofs.held.HeldClauses.delete.Given as goal

abbrev pub invariant-loop-number : goal.invariant-loop-number
invariant-loop-number l = (asked : ℕ) → held_by l.self asked ≡ without (held_by l.initial.self) (take l.number-index l.numbers) asked
