use Rattle.std.proofs.Common.{arith, ◌+◌, subst, sym}
use Rattle.log_order.specs.Log.{Log}
use Rattle.gen_plant.specs.Stages.{AwaitsAlarm}
use Rattle.gen_plant.proofs.AlarmLemmas.{awaits_alarm, number_next, unit_logged}
use Rattle.gen_plant.proofs.alarms.add_alarms.Goals as goal

pub add_if_tripped-requires : goal.add_if_tripped-requires
add_if_tripped-requires c = subst (λ (log : Log). AwaitsAlarm log (c.loop-done.done + 1)) (sym c.loop-done.invariant.logged) (awaits_alarm c.args.start c.loop-done.done (omega arith))

pub loop-done-preserved : goal.loop-done-preserved
loop-done-preserved c =
    let next = number_next c.args.start c.loop-done.done c.loop-done.number c.number_after-number.result c.loop-done.invariant.number c.number_after-number.ensures.next in
    record {
      logged = unit_logged c.args.start c.loop-done.done c.number_after-number.result c.loop-done.log c.add_if_tripped.new.log c.loop-done.invariant.logged next c.in_ok-add_if_tripped.ensures;
      number = next;
      small = c.number_after-number.ensures.small;
    }
