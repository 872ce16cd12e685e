use Rattle.sat_solve.specs.declared.restarts.TheConstants.{MOST}
use Rattle.sat_solve.proofs.Moving.{moved_bound}
use Rattle.sat_solve.proofs.restarts.moved_mean.Goals as goal

pub returns-clause-bound : goal.returns-clause-bound
returns-clause-bound c = moved_bound c.args.mean c.args.number c.args.part MOST c.requires.part c.requires.mean c.requires.number
