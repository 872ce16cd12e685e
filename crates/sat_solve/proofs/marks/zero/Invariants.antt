use Rattle.std.specs.Prelude.{◌≡◌, ◌++◌, drop, replicate}
use Rattle.sat_solve.proofs.marks.zero.Given as goal

abbrev pub invariant-loop-place : goal.invariant-loop-place
invariant-loop-place l = l.numbers.items ≡ replicate l.place 0 ++ drop l.place l.fn.numbers.items
