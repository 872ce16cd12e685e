use Rattle.prop_core.proofs.Listed.{listed_are_code}
use Rattle.prop_core.proofs.laws.listed_are_code.Goals as goal

pub returns : goal.returns
returns c = listed_are_code
