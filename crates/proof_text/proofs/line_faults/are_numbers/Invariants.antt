use Rattle.std.proofs.Common.{◌≡◌, length}
use Rattle.std.specs.List.{list_all}
use Rattle.des_base.specs.CountedLines.{texts_of}
use Rattle.proof_text.specs.SignedNumbers.{is_number}
use Rattle.proof_text.proofs.line_faults.are_numbers.Given as goal

abbrev pub invariant-loop-token : goal.invariant-loop-token
invariant-loop-token l = list_all is_number (texts_of l.tokens) ≡ list_all is_number (texts_of l.fn.tokens)

abbrev pub decreases-loop-token : goal.decreases-loop-token
decreases-loop-token l = length l.tokens
