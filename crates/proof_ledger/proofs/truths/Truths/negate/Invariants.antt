use Rattle.std.proofs.Common.{◌≡◌, map, take}
use Rattle.prop_core.specs.Clauses.{negation}
use Rattle.proof_ledger.proofs.truths.Truths.negate.Given as goal

abbrev pub invariant-loop-lit : goal.invariant-loop-lit
invariant-loop-lit l = l.self ≡ map negation (take l.lit-index l.clause)
