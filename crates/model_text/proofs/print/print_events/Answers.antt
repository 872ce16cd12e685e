use Rattle.model_text.specs.PrintedModel.{line_of_event}
use Rattle.des_net.specs.Network.{no_event}
use Rattle.std.proofs.Common.{[], arith}
use Rattle.model_text.proofs.PrintLemmas.{at_place, named-on}
use Rattle.model_text.proofs.print.print_events.Goals as goal

pub loop-event-preserved : goal.loop-event-preserved
loop-event-preserved c =
    let called = c.is_built.ensures.whole.called in
    let below = c.loop-event-test.true in
    let count = c.events-event-end.ensures in
    named-on (line_of_event c.args.net.now) _ _ _ _ _ _ _ _
    (at_place c.args.net.now.event_names c.loop-event.event [] (omega arith)) (at_place c.args.net.now.events c.loop-event.event no_event (omega arith))
    c.loop-event.invariant c.in_ok-print_event.ensures
