-- The parts read, and those of the tokens to come, are those of all tokens.
use Rattle.std.proofs.Common.{◌≡◌, ◌+◌, length}
use Rattle.std.specs.Prelude.{map}
use Rattle.des_base.specs.CountedLines.{texts_of}
use Rattle.model_text.specs.ModelLines.{parts_of_tokens}
use Rattle.model_text.specs.Shapes.{part_said}
use Rattle.model_text.proofs.PieceLemmas.{more_parts}
use Rattle.model_text.proofs.part_name.part_names.Given as goal

abbrev pub invariant-loop-token : goal.invariant-loop-token
invariant-loop-token l = record {
  parts : parts_of_tokens (texts_of l.fn.tokens) ≡ more_parts (map part_said l.parts.items) (texts_of l.tokens);
  count : length l.parts.items + length l.tokens ≡ length l.fn.tokens;
}

abbrev pub decreases-loop-token : goal.decreases-loop-token
decreases-loop-token l = length l.tokens
