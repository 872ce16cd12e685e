-- One more step brings its event, if it has one.
use Rattle.std.proofs.Common.{◌∙◌, ◌++◌, ap, sym, arith, length, length-append}
use Rattle.std.specs.Option.{option_to_list}
use Rattle.replay.specs.Traced.{event_of}
use Rattle.replay.proofs.RunLemmas.{word_more, one_event}
use Rattle.replay.proofs.width.events_of.Goals as goal

pub loop-step-preserved : goal.loop-step-preserved
loop-step-preserved c = record {
  events = c.in_ok-push_event.ensures ∙ ap (λ w. w ++ option_to_list (event_of c.step-item.result)) c.loop-step.invariant.events
      ∙ sym (word_more c.args.steps.now c.loop-step.step-index c.step-item.result (omega arith) c.step-item.is);
  few =
      let same = ap length c.in_ok-push_event.ensures in
      let more = length-append c.loop-step.events.items (option_to_list (event_of c.step-item.result)) in
      let one = one_event (event_of c.step-item.result) in
      let before = c.loop-step.invariant.few in
      omega (arith, same, more, one, before);
}
