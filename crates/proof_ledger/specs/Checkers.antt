-- What a checker of a proof has come to.
use Rattle.std.specs.Prelude.{Option, Some, None}
use Rattle.proof_ledger.specs.declared.checker.Checked.{Checked}
use Rattle.proof_ledger.specs.declared.checker.Checker.{Checker}
use Rattle.proof_ledger.specs.declared.held.HeldClauses.{HeldClauses}
use Rattle.proof_ledger.specs.HeldClauses.{held_by}
use Rattle.proof_ledger.specs.Checking.{Checking, answered, holds}

-- the outcome if there is one, and otherwise what is held
abbrev pub reached_with : Option Checked → HeldClauses → Checking
reached_with None held = holds (held_by held)
reached_with (Some outcome) held = answered outcome

-- what a checker has reached after the steps that it took
abbrev pub reached : Checker → Checking
reached checker = reached_with checker.outcome checker.held
