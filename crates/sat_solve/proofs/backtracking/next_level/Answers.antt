use Rattle.std.proofs.Common.{◌∙◌, sym}
use Rattle.sat_solve.proofs.AssumedLevels.{begins_anew}
use Rattle.sat_solve.proofs.backtracking.next_level.Goals as goal

pub returns-then-begins_anew-clause-value : goal.returns-then-begins_anew-clause-value
returns-then-begins_anew-clause-value c =
    begins_anew c.args.advice.now.means c.args.trail.now c.args.assumptions.now c.level-present.result c.assumed_level.result c.min.result (sym c.begins_anew.ensures.due ∙ c.if-begins_anew.true) c.level-present.ensures c.assumed_level.ensures c.min.ensures
