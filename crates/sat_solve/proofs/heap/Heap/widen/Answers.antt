use Rattle.std.proofs.Common.{refl, ◌≡◌, ℕ, ◌-◌, ◌++◌, List, Bool, false, length, replicate, subst, arith}
use Rattle.std.proofs.lemmas.Grind.{common_steps}
use Rattle.sat_solve.specs.Heap.{has_place}
use Rattle.sat_solve.specs.declared.heap.TheConstants.{ABSENT}
use Rattle.sat_solve.proofs.Places.{places_wider, has_wider, held_wider}
use Rattle.sat_solve.proofs.heap.Heap.widen.Goals as goal

pub invariant_of-self-2 : goal.invariant_of-self-2
invariant_of-self-2 c =
    let more : ℕ = c.max-count.result - length c.self.inside.places.items in
    let e : c.resize.new.self.items ≡ c.self.inside.places.items ++ replicate (c.max-count.result - length c.self.inside.places.items) ABSENT = let a = c.in_ok-resize.ensures.items in let m = c.max-count.ensures in let n = c.len.ensures in grind (arith, common_steps) in
    record {
      placed = rw (c.in_ok-reserve.ensures.items, e) (places_wider c.self.inside.vars.items c.self.inside.places.items (c.max-count.result - length c.self.inside.places.items) c.self.invariant.placed);
      count = rw (c.in_ok-reserve.ensures.items, e, has_wider c.self.inside.places.items (c.max-count.result - length c.self.inside.places.items), held_wider (has_place c.self.inside.places.items) (c.max-count.result - length c.self.inside.places.items)) c.self.invariant.count;
      limit = let n = c.in_ok-resize.ensures.len in let m = c.max-count.ensures in let l = c.self.invariant.limit in let v = c.ranges.vars in grind (arith, common_steps);
      fits = let n = c.in_ok-resize.ensures.len in let o = c.in_ok-reserve.ensures.ok in let a = c.len-2.ensures in grind (arith, common_steps);
    }

pub returns-clause-ok : goal.returns-clause-ok
returns-clause-ok c =
    let e : c.resize.new.self.items ≡ c.self.inside.places.items ++ replicate (c.max-count.result - length c.self.inside.places.items) ABSENT = let a = c.in_ok-resize.ensures.items in let m = c.max-count.ensures in let n = c.len.ensures in grind (arith, common_steps) in
    let n : length (has_place c.self.inside.places.items) ≡ length c.self.inside.places.items = grind (arith, common_steps) in
    let m : c.max-count.result - length c.self.inside.places.items ≡ c.args.vars - length c.self.inside.places.items = let a = c.max-count.ensures in let l = c.len.ensures in grind (arith, common_steps) in
    subst (λ (bs : List Bool). has_place c.resize.new.self.items ≡ bs ++ replicate (c.args.vars - length bs) false) c.self.view_is
    (rw (e, has_wider c.self.inside.places.items (c.max-count.result - length c.self.inside.places.items), m, n) refl)
