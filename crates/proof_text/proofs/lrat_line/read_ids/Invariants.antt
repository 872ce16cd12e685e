use Rattle.std.proofs.Common.{length}
use Rattle.des_base.specs.CountedLines.{texts_of}
use Rattle.proof_text.specs.SignedNumbers.{size_of}
use Rattle.proof_text.specs.LineReading.{is_id}
use Rattle.proof_text.proofs.LineLemmas.{Remains}
use Rattle.proof_text.proofs.lrat_line.read_ids.Given as goal

abbrev pub invariant-loop-token : goal.invariant-loop-token
invariant-loop-token l = Remains is_id size_of (texts_of l.fn.tokens) l.ids.items (texts_of l.tokens)

abbrev pub decreases-loop-token : goal.decreases-loop-token
decreases-loop-token l = length l.tokens
