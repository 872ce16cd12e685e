use Rattle.std.proofs.Common.{◌≡◌, ◌∙◌, ◌+◌, sym, ap, arith}
use Rattle.log_encode.proofs.CommitLemmas.{tells_alarm, tells_pair, alarm_committed, pair_committed}
use Rattle.log_encode.proofs.log_code.LogCode.commit.Goals as goal
use Rattle.log_encode.specs.Drafted.{LogCodeState, DraftState}
use Rattle.log_encode.specs.View.{coded}

pub invariant_of-self : goal.invariant_of-self
invariant_of-self c =
    let same : c.draft.inside.code.value.coded ≡ coded c.self.inside = ap (λ (s : DraftState). s.code) c.draft.view_is ∙ c.requires.made_by ∙ sym (ap (λ (s : LogCodeState). s.coded) c.self.view_is) in
    let tells = tells_alarm c.draft.inside (coded c.self.inside) c.in-Alarm.alarm c.in-Alarm.ends c.in-Alarm.guards c.in-Alarm.dropped c.draft.invariant c.in-Alarm.is same in
    let kept = alarm_committed c.self.inside.net.value c.self.inside.grid c.self.inside.asked c.self.inside.vars c.draft.inside.first c.draft.inside.vars (c.draft.inside.first + c.draft.inside.vars)
    c.self.inside.ends.items c.in-Alarm.ends.items c.self.inside.guards.items c.in-Alarm.guards.items c.self.inside.dropped.items c.in-Alarm.dropped.items c.self.inside.alarms.items c.push_alarm.new.alarms.items c.self.inside.pairs.items c.in-Alarm.alarm
    c.self.invariant.kept tells.after_it tells.begins tells.last tells.chains tells.false_ones c.push_alarm.ensures.added in
    record { kept = kept.0; room_for_alarms = omega (arith, c.push_alarm.ensures.len, c.push_alarm.ensures.capacity, c.self.invariant.room_for_alarms); room_for_pairs = c.self.invariant.room_for_pairs }

pub invariant_of-self-in-Pair : goal.invariant_of-self-in-Pair
invariant_of-self-in-Pair c =
    let same : c.draft.inside.code.value.coded ≡ coded c.self.inside = ap (λ (s : DraftState). s.code) c.draft.view_is ∙ c.requires.made_by ∙ sym (ap (λ (s : LogCodeState). s.coded) c.self.view_is) in
    let after = tells_pair c.draft.inside (coded c.self.inside) c.in-Pair.first c.in-Pair.second c.draft.invariant c.in-Pair.is same in
    let kept = pair_committed c.self.inside.net.value c.self.inside.grid c.self.inside.asked c.self.inside.vars c.draft.inside.first c.draft.inside.vars (c.draft.inside.first + c.draft.inside.vars) c.in-Pair.first c.in-Pair.second
    c.self.inside.ends.items c.self.inside.guards.items c.self.inside.dropped.items c.self.inside.alarms.items c.self.inside.pairs.items c.push_pair.new.pairs.items c.self.invariant.kept after c.push_pair.ensures.added in
    record { kept = kept.0; room_for_alarms = c.self.invariant.room_for_alarms; room_for_pairs = omega (arith, c.push_pair.ensures.len, c.push_pair.ensures.capacity, c.self.invariant.room_for_pairs) }
