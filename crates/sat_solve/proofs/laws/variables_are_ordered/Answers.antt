use Rattle.sat_solve.proofs.Ordering as ordering
use Rattle.sat_solve.proofs.laws.variables_are_ordered.Goals as goal

pub returns : goal.returns
returns c = ordering.variables_are_ordered
