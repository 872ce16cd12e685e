use Rattle.std.specs.Prelude.{◌≡◌, ◌≤◌, length, take}
use Rattle.sat_solve.specs.LevelCount.{AreLevelsOf, marked_of}
use Rattle.sat_solve.proofs.levels.Levels.count.Given as goal

abbrev pub invariant-loop-lit : goal.invariant-loop-lit
invariant-loop-lit l = record {
  size : length l.self-inside.counted ≡ length l.fn.self;
  levels : AreLevelsOf l.trail (take l.lit-index l.clause) l.self-inside.counted;
  count : l.levels ≡ marked_of l.self-inside.counted;
  few : l.levels ≤ l.lit-index;
}
