use Rattle.std.specs.Prelude.{◌≡◌, take}
use Rattle.sat_solve.specs.Activity.{with_clause_part}
use Rattle.sat_solve.proofs.advice.bump_all.Given as goal

abbrev pub invariant-loop-lit : goal.invariant-loop-lit
invariant-loop-lit l = l.activity ≡ with_clause_part l.fn.activity (take l.lit-index l.clause)
