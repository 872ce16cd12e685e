use Rattle.std.proofs.Common.{◌≡◌, ◌∙◌, ◌<◌, refl, true, false, length, get_or, arith}
use Rattle.std.proofs.lemmas.Grind.{common_steps}
use Rattle.std.proofs.lemmas.List.{get_or_default}
use Rattle.prop_core.specs.Trail.{no_literal}
use Rattle.sat_learn.proofs.Seeing.{count_on, count_below, each_step}
use Rattle.sat_prop.proofs.Justifying.{justified_once}
use Rattle.sat_learn.proofs.resolving.see.Goals as goal
use Rattle.sat_learn.proofs.resolving.see.Goals.{then-not-seen-place+then-start-place, then-not-seen-place+else-start-place, else-not-seen-place}

pub loop-lit-preserved : goal.loop-lit-preserved
loop-lit-preserved c =
    let h : c.loop-lit.lit-index < length c.args.clause.now = c.loop-lit-test.true in
    let item : c.lit-item.result ≡ get_or c.args.clause.now c.loop-lit.lit-index no_literal = c.lit-item.is ∙ get_or_default c.args.clause.now c.loop-lit.lit-index c.lit-item.result no_literal h in
    let at = rw (c.var.ensures, item) at c.place_of-place.ensures.at in
    let once = justified_once _ _ _ _ _ c.is_sound.ensures.state.justified in
    let size = c.requires.size in
    let was : length c.loop-lit.seen ≡ length c.args.seen.now = c.loop-lit.invariant.size in
    let within : c.place_of-place.result < length c.loop-lit.seen = let w = c.place_of-place.ensures.within in rw (was, size) w in
    elim c.if-not-seen-place.branch [
      | then-not-seen-place+then-start-place w ↦
          let unset : get_or c.loop-lit.seen c.place_of-place.result false ≡ false = w.if-not-seen-place.true in
          let n = c.loop-lit.invariant.counted in
          let m = count_on c.args.start c.loop-lit.seen c.place_of-place.result w.if-start-place.true within unset in
          record {
            size = rw w.seen-is (grind (arith, common_steps));
            each = rw w.seen-is (each_step c.args.trail.now.literals once c.args.clause.now c.loop-lit.lit-index c.loop-lit.seen _ c.args.seen.now c.place_of-place.result h c.place_of-place.ensures.within at size c.loop-lit.invariant.each (grind (arith, common_steps)) (λ k n. grind (arith, common_steps)));
            counted = rw (w.seen-is, w.more-is) (omega arith);
          }
      | then-not-seen-place+else-start-place w ↦
          let unset : get_or c.loop-lit.seen c.place_of-place.result false ≡ false = w.if-not-seen-place.true in
          let n = c.loop-lit.invariant.counted in
          let b = w.if-start-place.false in
          let m = count_below c.args.start c.loop-lit.seen c.place_of-place.result true b in
          record {
            size = rw w.seen-is (grind (arith, common_steps));
            each = rw w.seen-is (each_step c.args.trail.now.literals once c.args.clause.now c.loop-lit.lit-index c.loop-lit.seen _ c.args.seen.now c.place_of-place.result h c.place_of-place.ensures.within at size c.loop-lit.invariant.each (grind (arith, common_steps)) (λ k n. grind (arith, common_steps)));
            counted = rw (w.seen-is, w.more-is) (m ∙ n);
          }
      | else-not-seen-place w ↦
          let on : get_or c.loop-lit.seen c.place_of-place.result false ≡ true = w.if-not-seen-place.false in
          record {
            size = rw w.seen-is was;
            each = rw w.seen-is (each_step c.args.trail.now.literals once c.args.clause.now c.loop-lit.lit-index c.loop-lit.seen _ c.args.seen.now c.place_of-place.result h c.place_of-place.ensures.within at size c.loop-lit.invariant.each on (λ k n. refl));
            counted = rw (w.seen-is, w.more-is) c.loop-lit.invariant.counted;
          }
    ]
