use Rattle.std.proofs.Common.{◌∙◌, arith}
use Rattle.sat_learn.proofs.Finishing.{decided_to_next}
use Rattle.sat_learn.proofs.shortening.shorten.Goals as goal

pub down-preserved-in_ok-resolve : goal.down-preserved-in_ok-resolve
down-preserved-in_ok-resolve c =
    let z = c.in_ok-resolve.ensures.size in
    let size = c.down.invariant.size in
    let w = c.down.invariant.within in
    let t = c.down-test.true in
    record {
      size = omega arith;
      within = omega arith;
      above = λ later h b. c.in_ok-resolve.ensures.resolved.above later (omega arith) (let was = c.requires.analysed.size in omega arith) ∙ c.down.invariant.above later h b;
      decided = let start = c.requires.start in decided_to_next c.args.on.now.trail.now.reasons c.args.decisions_to c.down.seen c.resolve.new.seen _ c.down.place c.args.on.now.start (omega arith) (omega arith) c.in_ok-resolve.ensures.resolved c.down.invariant.decided;
      refuted = λ also h. c.in_ok-resolve.ensures.refuted also (c.down.invariant.refuted also h);
    }
