-- the events of the steps so far
use Rattle.std.proofs.Common.{◌≡◌, ◌≤◌, length, take}
use Rattle.replay.specs.Traced.{word_of}
use Rattle.replay.proofs.width.events_of.Given as goal

abbrev pub invariant-loop-step : goal.invariant-loop-step
invariant-loop-step l = record {
  events : l.events.items ≡ word_of (take l.step-index l.steps);
  few : length l.events.items ≤ l.step-index;
}
