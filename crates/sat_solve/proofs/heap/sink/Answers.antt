use Rattle.std.proofs.Common.{refl, ◌≡◌, ◌∙◌, ◌<◌, length, get_or, arith}
use Rattle.std.proofs.lemmas.Grind.{common_steps}
use Rattle.sat_solve.proofs.Places.{moved, moved_waiting}
use Rattle.sat_solve.proofs.heap.sink.Goals as goal

pub down-preserved : goal.down-preserved
down-preserved c =
    let i = c.down.invariant in
    let free = i.place in
    let b = c.in-Some.ensures in
    let other : c.in-Some.below < length c.down.vars = grind (arith, common_steps) in
    let apart : c.in-Some.below ≡ c.down.place → ⊥ = λ e. absurd (grind (arith, common_steps)) in
    let vars = c.put.ensures.vars in
    let places = c.put.ensures.places in
    record {
      place = rw vars (grind (arith, common_steps));
      known = let k = i.known in rw places (grind (arith, common_steps));
      placed = rw (vars, places) (moved c.down.vars c.down.places c.down.place c.in-Some.below c.args.var (get_or c.down.vars c.in-Some.below 0) free other apart i.known refl i.placed);
      waiting = rw places (moved_waiting c.down.vars c.down.places c.down.place c.in-Some.below c.args.var (get_or c.down.vars c.in-Some.below 0) free other apart i.known refl i.placed ∙ i.waiting);
    }
