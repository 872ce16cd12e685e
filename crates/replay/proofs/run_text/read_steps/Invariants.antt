-- the steps so far and those of the lines to come are all, and the faults of the lines to come are those of all
use Rattle.std.proofs.Common.{◌≡◌, ◌+◌, ◌<◌, ◌≤◌, ◌++◌, length}
use Rattle.std.specs.Prelude.{All}
use Rattle.replay.specs.Traced.{word_of}
use Rattle.replay.specs.RunText.{steps_of, first_fault_in}
use Rattle.replay.proofs.run_text.read_steps.Given as goal
use Rattle.replay.specs.declared.TheConstants.{MOST_RUN_STEPS}

abbrev pub invariant-loop-line : goal.invariant-loop-line
invariant-loop-line l = record {
  steps : l.run ++ steps_of l.net l.lines ≡ steps_of l.net l.fn.lines;
  known : All (λ e. e < length l.net.events) (word_of l.run);
  left : length l.run + l.left ≡ l.stated;
  few : l.stated ≤ MOST_RUN_STEPS;
  long : length l.run + length l.lines ≡ length l.fn.lines;
  faults : first_fault_in l.net l.left l.lines ≡ first_fault_in l.net l.stated l.fn.lines;
}

abbrev pub decreases-loop-line : goal.decreases-loop-line
decreases-loop-line l = length l.lines
