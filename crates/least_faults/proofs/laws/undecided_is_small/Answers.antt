use Rattle.least_faults.proofs.Deciding.{undecided_is_small}
use Rattle.least_faults.proofs.laws.undecided_is_small.Goals as goal

pub returns : goal.returns
returns c = undecided_is_small
