use Rattle.std.proofs.Common.{◌∙◌, sym, ap, arith}
use Rattle.log_encode.proofs.EndLemmas.{next_fits, one_end_more, no_end_more}
use Rattle.log_encode.proofs.chains.first_ends.Goals.{then-is_observable+in_ok-push, else-is_observable}
use Rattle.log_encode.proofs.chains.first_ends.Goals as goal

pub overflow_add-closed : goal.overflow_add-closed
overflow_add-closed c =
    let fits = next_fits c.args.net.now c.args.asked c.loop-event.event c.loop-event.closed c.requires (omega arith) (sym c.is_observable.ensures ∙ c.if-is_observable.true) c.loop-event.invariant.last in
    omega (arith, fits)

pub loop-event-preserved : goal.loop-event-preserved
loop-event-preserved c =
    elim c.if-is_observable.branch [
      | then-is_observable+in_ok-push w ↦ one_end_more c.args.net.now c.args.asked c.loop-event.event c.loop-event.closed c.if-is_observable.closed c.loop-event.ends.items c.if-is_observable.ends.items
          (sym c.is_observable.ensures ∙ w.if-is_observable.true) c.loop-event.invariant w.closed-is (ap (λ v. v.items) w.ends-is ∙ w.in_ok-push.ensures.items)
      | else-is_observable w ↦ no_end_more c.args.net.now c.args.asked c.loop-event.event c.loop-event.closed c.if-is_observable.closed c.loop-event.ends.items c.if-is_observable.ends.items
          (sym c.is_observable.ensures ∙ w.if-is_observable.false) c.loop-event.invariant w.closed-is (ap (λ v. v.items) w.ends-is)
    ]
