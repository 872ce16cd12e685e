use Rattle.prop_core.proofs.Listed.{listed_are_equal}
use Rattle.prop_core.proofs.laws.listed_are_equal.Goals as goal

pub returns : goal.returns
returns c = listed_are_equal
