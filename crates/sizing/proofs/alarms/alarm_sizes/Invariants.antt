-- the size is that of the alarms so far, none of which is too large
use Rattle.std.proofs.Common.{◌≡◌, ◌≤◌, ◌+◌, ◌*◌, ◌^◌}
use Rattle.std.specs.Prelude.{sum_by}
use Rattle.des_base.specs.Lists.{numbers_below}
use Rattle.des_net.specs.Limits.{most_events}
use Rattle.replay.specs.QuestionSize.{matching_count}
use Rattle.sizing.proofs.alarms.alarm_sizes.Given as goal

abbrev pub invariant-loop-alarm : goal.invariant-loop-alarm
invariant-loop-alarm l = record {
  size : l.size ≡ sum_by (λ i. matching_count l.net l.log i ^ 2 + 1) (numbers_below l.alarm);
  few : l.size ≤ l.alarm * (most_events ^ 2 + 1);
}
