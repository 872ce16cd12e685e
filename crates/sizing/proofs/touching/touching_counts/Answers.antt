use Rattle.std.proofs.Common.{◌∙◌, ap, arith}
use Rattle.des_net.specs.Network.{Event}
use Rattle.sizing.proofs.Counted.{counts_are_few, none_counted, touching_more}
use Rattle.sizing.proofs.touching.touching_counts.Goals as goal

pub loop-event-init : goal.loop-event-init
loop-event-init c = λ k. none_counted 1000 k

pub count_touched-requires-clause-few : goal.count_touched-requires-clause-few
count_touched-requires-clause-few c =
    counts_are_few c.args.net.now c.loop-event.event c.loop-event.counts c.as_slice.result.now (omega (arith, c.loop-event-test.true, c.events-event-end.ensures)) c.is_built.ensures.whole
    (c.as_slice.ensures ∙ ap (λ (e : Event). e.parts) (c.behind-net.view_is ∙ c.event.ensures)) c.loop-event.invariant

pub loop-event-preserved : goal.loop-event-preserved
loop-event-preserved c =
    touching_more c.args.net.now c.loop-event.event c.loop-event.counts c.count_touched.new.counts c.as_slice.result.now (c.as_slice.ensures ∙ ap (λ (e : Event). e.parts) (c.behind-net.view_is ∙ c.event.ensures)) c.loop-event.invariant c.count_touched.ensures
