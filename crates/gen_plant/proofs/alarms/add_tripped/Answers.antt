-- The alarm of one more unit, and the pair with the alarm before it.
use Rattle.std.proofs.Common.{◌-◌, arith}
use Rattle.std.proofs.lemmas.Result.{on_ok_weaker}
use Rattle.gen_plant.proofs.AlarmLemmas.{alarm_free, pair_free, next_added}
use Rattle.gen_plant.proofs.alarms.add_tripped.Goals as goal

pub add_alarm-requires : goal.add_alarm-requires
add_alarm-requires c = record { free = alarm_free c.args.log.now c.args.unit c.in_ok-id.id c.in_ok-label.label c.requires c.in_ok-id.ensures }

pub add_before-requires : goal.add_before-requires
add_before-requires c = record {
  free = pair_free c.args.log.now c.add_alarm.new.log c.in_ok-id.id c.in_ok-label.label (c.in_ok-alarm.alarm - 1) c.in_ok-alarm.alarm
      c.in_ok-alarm.ensures.place (omega arith) (omega (arith, c.requires.few, c.in_ok-alarm.ensures.place)) c.requires.row c.in_ok-alarm.ensures.ok;
}

pub returns : goal.returns
returns c = on_ok_weaker c.add_before.result (λ is.
    next_added c.args.log.now c.add_alarm.new.log c.add_before.new.log c.args.unit (c.in_ok-alarm.alarm - 1) c.in_ok-alarm.alarm c.in_ok-id.id c.in_ok-label.label
    c.in_ok-id.ensures c.in_ok-label.ensures c.in_ok-alarm.ensures.place (omega arith) c.requires.row c.in_ok-alarm.ensures.ok is) c.add_before.ensures
