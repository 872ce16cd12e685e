use Rattle.std.proofs.Common.{◌≡◌, ◌∙◌, false, true, arith, sym}
use Rattle.sat_learn.proofs.Closing.{decided_next}
use Rattle.sat_learn.proofs.resolving.resolve_to_decisions.Goals as goal

pub down-preserved-in_ok-resolve : goal.down-preserved-in_ok-resolve
down-preserved-in_ok-resolve c =
    let z = c.in_ok-resolve.ensures.size in
    let size = c.down.invariant.size in
    let was = c.requires.size in
    let w = c.down.invariant.within in
    let t = c.down-test.true in
    record {
      size = omega arith;
      within = omega arith;
      decided = decided_next _ c.down.seen _ _ z (λ i m b. c.in_ok-resolve.ensures.resolved.above i m (omega arith)) (λ e. absurd (let a = c.in_ok-resolve.ensures.resolved.cleared in let y : true ≡ false = sym e ∙ a in cc))
          (λ i m. c.down.invariant.decided i (omega arith));
      refuted = λ also h. c.in_ok-resolve.ensures.refuted also (c.down.invariant.refuted also h);
    }
