use Rattle.std.proofs.Common.{◌≡◌, drop}
use Rattle.prop_core.specs.Derivation.{standing}
use Rattle.proof_ledger.proofs.Fronts.{standing_behind}
use Rattle.proof_ledger.proofs.truths.Truths.standing.Given as goal

abbrev pub invariant-loop-lit : goal.invariant-loop-lit
invariant-loop-lit l = standing_behind l.self l.front (drop l.lit-index l.clause) ≡ standing l.fn.self l.fn.clause
