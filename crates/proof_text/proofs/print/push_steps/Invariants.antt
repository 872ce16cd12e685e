use Rattle.std.proofs.Common.{◌≡◌, ◌++◌, take}
use Rattle.std.specs.Prelude.{All}
use Rattle.proof_text.specs.PrintedText.{steps_text, NumbersFit}
use Rattle.proof_text.proofs.print.push_steps.Given as goal

-- the steps so far are printed
abbrev pub invariant-loop-step : goal.invariant-loop-step
invariant-loop-step l = record {
  text : l.out.items ≡ l.fn.out.items ++ steps_text (take l.step-index l.steps);
  fit : All NumbersFit (take l.step-index l.steps);
}
