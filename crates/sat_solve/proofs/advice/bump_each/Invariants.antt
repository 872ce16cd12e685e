use Rattle.std.specs.Prelude.{◌≡◌, take}
use Rattle.sat_solve.specs.Advice.{with_hints_part}
use Rattle.sat_solve.proofs.advice.bump_each.Given as goal

abbrev pub invariant-loop-hint : goal.invariant-loop-hint
invariant-loop-hint l = l.activity ≡ with_hints_part l.fn.activity l.clauses.clauses (take l.hint-index l.hints)
