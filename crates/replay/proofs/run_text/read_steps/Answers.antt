use Rattle.std.proofs.Common.{◌≡◌, ◌∙◌, ◌-◌, ◌+◌, ◌++◌, ◌∷◌, [], ℕ, suc, ◌<◌, List, Option, Some, None, length, append_assoc, length-append, sym, subst, ap, arith}
use Rattle.std.specs.Prelude.{All}
use Rattle.des_base.specs.CountedLines.{NumberedLine, numbered, tokens_of}
use Rattle.des_net.specs.Network.{Net}
use Rattle.replay.specs.declared.run.RunStep.{RunStep}
use Rattle.replay.specs.declared.run_text.RunFault.{RunFault}
use Rattle.replay.specs.Traced.{word_of}
use Rattle.replay.specs.RunText.{step_of, steps_of, step_code, first_fault_in}
use Rattle.replay.proofs.RunLemmas.{known_more}
use Rattle.replay.proofs.TextLemmas.{some_left}
use Rattle.replay.proofs.run_text.read_steps.Goals as goal

-- a line's step stands before those of the lines behind it
more_steps : (net : Net) (run all : List RunStep) (step : RunStep) (number : ℕ) (text : List ℕ) (before after : List NumberedLine) → before ≡ numbered number text ∷ after →
    step_of net (tokens_of text) ≡ Some step → run ++ steps_of net before ≡ all → (run ++ step ∷ []) ++ steps_of net after ≡ all
more_steps net run all step number text before after front is had = grind (arith, append_assoc)

-- a line without a fault leaves those of the lines behind it
more_faults : (net : Net) (left number : ℕ) (text : List ℕ) (before after : List NumberedLine) (all : Option RunFault) → before ≡ numbered number text ∷ after →
    step_code net left (tokens_of text) ≡ None → first_fault_in net left before ≡ all → first_fault_in net (left - 1) after ≡ all
more_faults net left number text before after all front well had = grind arith

pub loop-line-preserved : goal.loop-line-preserved
loop-line-preserved c =
    let net = c.args.net.now in
    let line = c.in-Some.line in
    let step = c.in_ok-step.step in
    let pushed = c.in_ok-push.ensures.ok in
    let longer : length c.push.new.self ≡ length c.loop-line.run + 1 = ap (λ (run : List RunStep). length run) pushed ∙ length-append c.loop-line.run (step ∷ []) in
    let shorter : length c.loop-line.lines ≡ suc (length c.next_line.new.self) = ap (λ (lines : List NumberedLine). length lines) c.in-Some.ensures.line in
    record {
      steps = ap (λ (run : List RunStep). run ++ steps_of net c.next_line.new.self) pushed
          ∙ more_steps net c.loop-line.run _ step line.number line.text.now c.loop-line.lines c.next_line.new.self c.in-Some.ensures.line c.in_ok-step.ensures.step c.loop-line.invariant.steps;
      known = subst (λ (run : List RunStep). All (λ e. e < length net.events) (word_of run)) (sym pushed) (known_more c.loop-line.run step (length net.events) c.loop-line.invariant.known c.in_ok-step.ensures.known);
      left = omega (arith, longer, shorter, c.loop-line.invariant.left, some_left net c.loop-line.left (tokens_of line.text.now) c.in_ok-step.ensures.well);
      few = c.loop-line.invariant.few;
      long = omega (arith, longer, shorter, c.loop-line.invariant.long);
      faults = more_faults net c.loop-line.left line.number line.text.now c.loop-line.lines c.next_line.new.self _ c.in-Some.ensures.line c.in_ok-step.ensures.well c.loop-line.invariant.faults;
    }
