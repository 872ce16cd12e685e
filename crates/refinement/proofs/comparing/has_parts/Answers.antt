use Rattle.std.proofs.Common.{arith}
use Rattle.refinement.proofs.RefinementLemmas.{have_further}
use Rattle.refinement.proofs.comparing.has_parts.Goals as goal

pub returns-then-are_same_parts : goal.returns-then-are_same_parts
returns-then-are_same_parts c = λ e. have_further _ _ _ (grind arith) (grind arith)
