use Rattle.std.proofs.Common.{◌/◌, get_or, arith}
use Rattle.std.proofs.lemmas.Grind.{common_steps}
use Rattle.std.proofs.lemmas.List.Edits.{map_over_more}
use Rattle.sat_solve.specs.declared.activity.TheConstants.{DIVISOR}
use Rattle.sat_solve.proofs.activity.divide.Goals as goal

pub loop-activity-preserved : goal.loop-activity-preserved
loop-activity-preserved c =
    map_over_more (λ a. a / DIVISOR) c.args.activities.now c.loop-activity.activities c.loop-activity.activity-index (get_or c.loop-activity.activities c.loop-activity.activity-index 0) c.loop-activity-test.true c.loop-activity.invariant
    (let n = c.loop-activity.auto.activities in let t = c.loop-activity-test.true in grind (arith, common_steps))
