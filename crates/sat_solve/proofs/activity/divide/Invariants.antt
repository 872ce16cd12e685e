use Rattle.std.specs.Prelude.{◌≡◌, ◌/◌, ◌++◌, take, drop, map}
use Rattle.sat_solve.specs.declared.activity.TheConstants.{DIVISOR}
use Rattle.sat_solve.proofs.activity.divide.Given as goal

abbrev pub invariant-loop-activity : goal.invariant-loop-activity
invariant-loop-activity l = l.activities ≡ map (λ activity. activity / DIVISOR) (take l.activity-index l.initial.activities) ++ drop l.activity-index l.initial.activities
