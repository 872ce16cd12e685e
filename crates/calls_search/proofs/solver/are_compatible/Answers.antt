use Rattle.std.proofs.Common.{◌∙◌, sym}
use Rattle.sat_solve.proofs.Standing.{compatible_from}
use Rattle.calls_search.proofs.solver.are_compatible.Goals as goal

pub returns : goal.returns
returns g c = compatible_from g.args.literals.now (sym g.none_negated.ensures ∙ c)
