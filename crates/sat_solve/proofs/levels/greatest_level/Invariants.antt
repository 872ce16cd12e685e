use Rattle.std.specs.Prelude.{take}
use Rattle.sat_prop.specs.Levels.{IsGreatestLevel}
use Rattle.sat_solve.proofs.levels.greatest_level.Given as goal

abbrev pub invariant-loop-lit : goal.invariant-loop-lit
invariant-loop-lit l = IsGreatestLevel l.trail.literals l.trail.reasons (take l.lit-index l.literals) l.greatest
