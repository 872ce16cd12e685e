use Rattle.std.proofs.Common.{◌∙◌, sym}
use Rattle.refinement.proofs.Lists.{same_trans, same_pointwise}
use Rattle.refinement.proofs.comparing.are_same_trans.Goals as goal

pub returns : goal.returns
returns c = λ e. same_pointwise _ same_trans _ _ (sym c.eq.ensures ∙ e)
