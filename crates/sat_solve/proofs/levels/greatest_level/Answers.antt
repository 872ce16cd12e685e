use Rattle.std.proofs.Common.{◌≡◌, ◌∙◌, get_or}
use Rattle.std.proofs.lemmas.List.{get_or_default}
use Rattle.prop_core.specs.Trail.{no_literal}
use Rattle.sat_solve.proofs.LevelMarks.{greatest_more, greatest_same}
use Rattle.sat_solve.proofs.levels.greatest_level.Goals as goal
use Rattle.sat_solve.proofs.levels.greatest_level.Goals.{in-Some, in_default}

pub loop-lit-preserved : goal.loop-lit-preserved
loop-lit-preserved c =
    let i = c.loop-lit.invariant in
    let h = c.loop-lit-test.true in
    let item : c.lit-item.result ≡ get_or c.args.literals.now c.loop-lit.lit-index no_literal = c.lit-item.is ∙ get_or_default c.args.literals.now c.loop-lit.lit-index c.lit-item.result no_literal h in
    let t = c.args.trail.now in
    elim c.match-level_of.branch [
      | in-Some w ↦ greatest_more t c.args.literals.now c.loop-lit.lit-index c.loop-lit.greatest w.in-Some.level _ h i (rw (c.var.ensures, item) at w.in-Some.ensures.some) (rw (c.var.ensures, item) at w.in-Some.ensures.single) (w.greatest-is ∙ w.max-greatest.ensures)
      | in_default w ↦ rw w.greatest-is (greatest_same t c.args.literals.now c.loop-lit.lit-index c.loop-lit.greatest h i (rw (w.in_default.is, c.var.ensures, item) at c.level_of.ensures.none))
    ]
