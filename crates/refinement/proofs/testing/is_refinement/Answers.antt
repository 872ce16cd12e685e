use Rattle.std.proofs.Common.{arith}
use Rattle.std.proofs.lemmas.Result.{IfOk-weaker}
use Rattle.refinement.proofs.RefinementLemmas.{refines}
use Rattle.refinement.proofs.testing.is_refinement.Goals as goal

pub returns : goal.returns
returns c = IfOk-weaker c.all_follow.result _ _ (λ yes follow e. refines _ _ c.is_built.ensures.whole c.is_built-2.ensures.whole
    (c.if-not-has_components.ensures (grind arith)) (c.if-not-has_events.ensures (grind arith)) (follow e)) c.all_follow.ensures
