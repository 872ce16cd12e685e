use Rattle.std.proofs.Common.{◌∙◌}
use Rattle.proof_ledger.specs.HeldClauses.{held_by}
use Rattle.proof_ledger.proofs.Helds.{without_more}
use Rattle.proof_ledger.proofs.held.HeldClauses.delete.Goals as goal

pub loop-number-preserved : goal.loop-number-preserved
loop-number-preserved c =
    without_more (held_by c.args.self.now) (held_by c.loop-number.self) (held_by c.remove.new.self) c.args.numbers.now c.loop-number.number-index c.number.inside.0 c.number-item.result c.loop-number-test.true
    (c.number.view_is ∙ c.number-item.is) c.loop-number.invariant c.remove.ensures.held
