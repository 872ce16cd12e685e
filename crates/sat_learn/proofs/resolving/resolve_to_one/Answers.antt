use Rattle.std.proofs.Common.{refl, arith}
use Rattle.sat_learn.proofs.Descending.{found_one, found_first, above_next}
use Rattle.sat_learn.proofs.resolving.resolve_to_one.Goals as goal
use Rattle.sat_learn.proofs.resolving.resolve_to_one.Goals.{then-seen-place+else-count-eq1+in_ok-more, else-seen-place}

pub returns-then-count-eq1-clause-found : goal.returns-then-count-eq1-clause-found
returns-then-count-eq1-clause-found c =
    let n = c.down.invariant.counted in
    let s = c.if-count-eq1.true in
    found_one c.args.on.now.start c.down.seen c.down.place c.down.invariant.from c.down.invariant.within c.if-seen-place.true (omega arith)

pub returns-clause-found : goal.returns-clause-found
returns-clause-found c = found_first c.args.on.now.start c.down.seen c.down.place c.down.invariant.from c.down-test.false c.down.invariant.within (let n = c.down.invariant.counted in let s = c.down.invariant.some in omega arith) c.down.invariant.above

pub down-preserved : goal.down-preserved
down-preserved c =
    let t = c.down-test.true in
    let b = c.down.invariant.within in
    let size = c.down.invariant.size in
    let was = c.requires.analysed.size in
    elim c.if-seen-place.branch [
      | then-seen-place+else-count-eq1+in_ok-more w ↦
          let n = c.down.invariant.counted in
          let s = c.down.invariant.some in
          let f = w.if-count-eq1.false in
          let r = w.in_ok-more.ensures.counted (let m = c.down.invariant.from in m) in
          let z = w.in_ok-more.ensures.size in
          record {
            size = rw w.seen-is (omega arith);
            from = omega arith;
            within = rw w.seen-is (omega arith);
            counted = rw (w.count-is, w.seen-is) (omega arith);
            some = rw w.count-is (omega arith);
            above = rw w.seen-is (above_next c.down.seen _ c.down.place (omega arith) w.in_ok-more.ensures.resolved.cleared (λ i m k. w.in_ok-more.ensures.resolved.above i m (omega arith)) c.down.invariant.above);
            refuted = rw (w.seen-is, w.hints-is) (λ also h. w.in_ok-more.ensures.refuted also (c.down.invariant.refuted also h));
          }
      | else-seen-place w ↦
          record {
            size = rw w.seen-is size;
            from = omega arith;
            within = rw w.seen-is (omega arith);
            counted = rw (w.count-is, w.seen-is) c.down.invariant.counted;
            some = rw w.count-is c.down.invariant.some;
            above = rw w.seen-is (above_next c.down.seen c.down.seen c.down.place refl w.if-seen-place.false (λ i m k. refl) c.down.invariant.above);
            refuted = rw (w.seen-is, w.hints-is) c.down.invariant.refuted;
          }
    ]
