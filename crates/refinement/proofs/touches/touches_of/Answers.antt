use Rattle.std.proofs.Common.{arith}
use Rattle.refinement.proofs.TouchLemmas.{event_added}
use Rattle.refinement.proofs.touches.touches_of.Goals as goal

pub loop-event-preserved : goal.loop-event-preserved
loop-event-preserved c =
    let below = c.loop-event-test.true in
    let count = c.events-event-end.ensures in
    event_added _ _ _ _ c.components.ensures.network c.loop-event.invariant (omega arith) c.in_ok-add_event.ensures
