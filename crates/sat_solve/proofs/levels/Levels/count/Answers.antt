use Rattle.std.proofs.Common.{◌≡◌, ◌∙◌, ℕ, ◌+◌, Bool, true, false, length, ap, sym, get_or, arith}
use Rattle.std.proofs.lemmas.List.{get_or_default, length-set, length-map}
use Rattle.prop_core.specs.Trail.{no_literal}
use Rattle.sat_solve.proofs.LevelMarks.{levels_more, levels_same, levels_none, marked_none, marked_first, marked_again}
use Rattle.sat_solve.proofs.levels.Levels.count.Goals as goal
use Rattle.sat_solve.proofs.levels.Levels.count.Goals.{in-Some+then-mark, in-Some+else-mark, in_default}

pub loop-lit-init : goal.loop-lit-init
loop-lit-init c = record {
  size = rw c.clear.ensures (length-map c.self.inside.counted (λ (b : Bool). false) ∙ ap length c.self.view_is);
  levels = rw c.clear.ensures (levels_none c.args.trail.now c.args.clause.now c.self.inside.counted);
  count = rw c.clear.ensures (sym (marked_none c.self.inside.counted));
  few = omega arith;
}

pub loop-lit-preserved : goal.loop-lit-preserved
loop-lit-preserved c =
    let i = c.loop-lit.invariant in
    let few = i.few in
    let t = c.args.trail.now in
    let h = c.loop-lit-test.true in
    let item : c.lit-item.result ≡ get_or c.args.clause.now c.loop-lit.lit-index no_literal = c.lit-item.is ∙ get_or_default c.args.clause.now c.loop-lit.lit-index c.lit-item.result no_literal h in
    elim c.match-level_of.branch [
      | in-Some+then-mark w ↦ record {
        size = rw (w.self-inside-is, w.mark.ensures.marked) (length-set c.loop-lit.self-inside.counted w.in-Some.level true ∙ i.size);
        levels = rw (w.self-inside-is, w.mark.ensures.marked) (levels_more c.args.trail.now c.args.clause.now c.loop-lit.lit-index w.in-Some.level c.loop-lit.self-inside.counted h i.levels (rw (c.var.ensures, item) at w.in-Some.ensures.some) (rw (c.var.ensures, item) at w.in-Some.ensures.single));
        count = rw (w.levels-is, w.self-inside-is, w.mark.ensures.marked) (ap (λ (n : ℕ). n + 1) i.count ∙ sym (marked_first c.loop-lit.self-inside.counted w.in-Some.level (sym w.mark.ensures.first ∙ w.if-mark.true)));
        few = rw w.levels-is (omega arith);
      }
      | in-Some+else-mark w ↦ record {
        size = rw (w.self-inside-is, w.mark.ensures.marked) (length-set c.loop-lit.self-inside.counted w.in-Some.level true ∙ i.size);
        levels = rw (w.self-inside-is, w.mark.ensures.marked) (levels_more c.args.trail.now c.args.clause.now c.loop-lit.lit-index w.in-Some.level c.loop-lit.self-inside.counted h i.levels (rw (c.var.ensures, item) at w.in-Some.ensures.some) (rw (c.var.ensures, item) at w.in-Some.ensures.single));
        count = rw (w.levels-is, w.self-inside-is, w.mark.ensures.marked, marked_again c.loop-lit.self-inside.counted w.in-Some.level (sym w.mark.ensures.first ∙ w.if-mark.false)) i.count;
        few = rw w.levels-is (omega arith);
      }
      | in_default w ↦ record {
        size = rw w.self-inside-is i.size;
        levels = rw w.self-inside-is (levels_same c.args.trail.now c.args.clause.now c.loop-lit.lit-index c.loop-lit.self-inside.counted h i.levels (rw (w.in_default.is, c.var.ensures, item) at c.level_of.ensures.none));
        count = rw (w.levels-is, w.self-inside-is) i.count;
        few = rw w.levels-is (omega arith);
      }
    ]
