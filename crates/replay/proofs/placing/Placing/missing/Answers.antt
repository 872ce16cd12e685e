-- the first alarm without a place
use Rattle.std.proofs.Common.{◌≡◌, ◌∙◌, ap, sym, subst, not, true, ◌<◌}
use Rattle.log_order.specs.Precedence.{is_in}
use Rattle.log_order.proofs.LeastOrder.{first_below-found}
use Rattle.replay.specs.Placed.{Placed}
use Rattle.replay.proofs.placing.Placing.missing.Goals as goal

pub returns-then-not-has : goal.returns-then-not-has
returns-then-not-has c =
    let free : not (is_in c.args.self.now.order c.loop-alarm.alarm) ≡ true = ap not (sym c.has.ensures ∙ c.if-not-has.true) in
    let below : c.loop-alarm.alarm < c.args.self.now.alarms = subst (λ n. c.loop-alarm.alarm < n) (c.len-alarm-end.ensures ∙ c.self.inside.places.ok.0 ∙ ap (λ (p : Placed). p.alarms) c.self.view_is) c.loop-alarm-test.true in
    record { missing = sym (first_below-found c.args.self.now.alarms c.loop-alarm.alarm (λ i. not (is_in c.args.self.now.order i)) free c.loop-alarm.invariant below); known = below }
