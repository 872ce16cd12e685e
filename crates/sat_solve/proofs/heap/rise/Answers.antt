use Rattle.std.proofs.Common.{refl, ◌≡◌, ◌∙◌, ◌<◌, length, get_or, arith}
use Rattle.std.proofs.lemmas.Grind.{common_steps}
use Rattle.sat_solve.proofs.Places.{moved, moved_waiting}
use Rattle.sat_solve.proofs.heap.rise.Goals as goal

pub up-preserved : goal.up-preserved
up-preserved c =
    let i = c.up.invariant in
    let free = i.place in
    let b = c.in-Some.ensures in
    let other : c.in-Some.above < length c.up.vars = grind (arith, common_steps) in
    let apart : c.in-Some.above ≡ c.up.place → ⊥ = λ e. absurd (grind (arith, common_steps)) in
    let vars = c.put.ensures.vars in
    let places = c.put.ensures.places in
    record {
      place = rw vars (grind (arith, common_steps));
      known = let k = i.known in rw places (grind (arith, common_steps));
      placed = rw (vars, places) (moved c.up.vars c.up.places c.up.place c.in-Some.above c.args.var (get_or c.up.vars c.in-Some.above 0) free other apart i.known refl i.placed);
      waiting = rw places (moved_waiting c.up.vars c.up.places c.up.place c.in-Some.above c.args.var (get_or c.up.vars c.in-Some.above 0) free other apart i.known refl i.placed ∙ i.waiting);
    }
