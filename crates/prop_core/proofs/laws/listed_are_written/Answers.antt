use Rattle.prop_core.proofs.Listed.{listed_are_written}
use Rattle.prop_core.proofs.laws.listed_are_written.Goals as goal

pub returns : goal.returns
returns c = listed_are_written
