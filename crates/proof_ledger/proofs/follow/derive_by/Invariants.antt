use Rattle.std.proofs.Common.{◌≡◌, drop}
use Rattle.prop_core.specs.Derivation.{follow, derive}
use Rattle.proof_ledger.proofs.follow.derive_by.Given as goal

abbrev pub invariant-loop-hint_at : goal.invariant-loop-hint_at
invariant-loop-hint_at g l = follow (g.H.Holds.held l.holds) l.truths l.hint_at (drop l.hint_at l.hints) ≡ derive (g.H.Holds.held l.fn.holds) l.fn.clause l.fn.hints
