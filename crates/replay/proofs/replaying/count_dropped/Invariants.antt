-- the count of the steps so far
use Rattle.std.proofs.Common.{◌≡◌, ◌≤◌, take, not, count_by}
use Rattle.replay.specs.Matching.{is_real}
use Rattle.replay.proofs.replaying.count_dropped.Given as goal

abbrev pub invariant-loop-step : goal.invariant-loop-step
invariant-loop-step l = record {
  count : l.dropped ≡ count_by (λ step. not (is_real step)) (take l.step-index l.steps);
  few : l.dropped ≤ l.step-index;
}
