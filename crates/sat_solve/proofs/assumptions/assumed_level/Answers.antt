use Rattle.std.proofs.Common.{◌≡◌, ◌<◌, length, true, false, arith}
use Rattle.std.specs.Prelude.{is_none}
use Rattle.std.proofs.lemmas.Grind.{common_steps}
use Rattle.prop_core.specs.Clauses.{is_true}
use Rattle.sat_prop.specs.TrailState.{literal_at, reason_at}
use Rattle.sat_solve.proofs.AssumedLevels.{assumed_next, forced_passes}
use Rattle.sat_solve.proofs.assumptions.assumed_level.Goals as goal
use Rattle.sat_solve.proofs.assumptions.assumed_level.Goals.{then-is_none+else-not-contains, else-is_none}

pub loop-place-preserved : goal.loop-place-preserved
loop-place-preserved c =
    let i = c.loop-place.invariant in
    let t = c.args.trail.now in
    let place = c.loop-place.place in
    let same = c.is_sound.ensures.state.justified.same in
    let within : place < length t.literals = let e = c.loop-place-test.true in let n = c.literals-literals.ensures in grind (arith, common_steps) in
    elim c.if-is_none.branch [
      | then-is_none+else-not-contains w ↦
          let n : is_none (reason_at t.reasons place) ≡ true = let a = w.if-is_none.true in let b = c.is_none.ensures in let d = c.index-reasons-place.is in let e = c.reasons-reasons.ensures in grind (arith, common_steps) in
          let a : is_true c.args.assumptions.now (literal_at t.literals place) ≡ true = let a = w.if-not-contains.false in let b = w.contains.ensures in grind (arith, common_steps) in
          let more = assumed_next t.literals t.reasons c.args.assumptions.now place same within n a in
          record { counted = omega (arith, i.counted, more, w.level-is); within = omega (arith, i.within, w.level-is) }
      | else-is_none w ↦
          let n : is_none (reason_at t.reasons place) ≡ false = let a = w.if-is_none.false in let b = c.is_none.ensures in let d = c.index-reasons-place.is in let e = c.reasons-reasons.ensures in grind (arith, common_steps) in
          let passes = forced_passes t.literals t.reasons c.args.assumptions.now place same within n in
          record { counted = omega (arith, i.counted, passes, w.level-is); within = omega (arith, i.within, w.level-is) }
    ]
