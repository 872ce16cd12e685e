use Rattle.std.proofs.Common.{◌≡◌, ◌∙◌, ◌++◌, ◌∷◌, [], ℕ, take, drop, length, ap, arith}
use Rattle.std.specs.Prelude.{slice_set, vec_capacity}
use Rattle.std.proofs.lemmas.Grind.{common_steps}
use Rattle.sat_solve.specs.Heap.{has_place}
use Rattle.sat_solve.proofs.Places.{written}
use Rattle.sat_solve.proofs.Adding.{fits_more, last_placed, waits_more, more_heap}
use Rattle.sat_solve.proofs.heap.add_last.Goals as goal

pub unwrap-requires : goal.unwrap-requires
unwrap-requires c =
    let h = c.requires.heap in
    let more = fits_more c.args.vars.now.items c.args.places.now (vec_capacity c.args.vars.now) c.args.var h c.requires.known c.requires.absent in
    c.push.ensures.succeeds (let fits = h.fits in grind (arith, common_steps))

pub rise-requires-clause-placed : goal.rise-requires-clause-placed
rise-requires-clause-placed c =
    let pushed : c.push.new.self.items ≡ c.args.vars.now.items ++ c.args.var ∷ [] = let a = c.push.ensures.items in let o = c.unwrap.ensures in grind (arith, common_steps) in
    let place : c.len-place.result ≡ length c.args.vars.now.items = let e = c.len-place.ensures in grind (arith, common_steps) in
    rw (c.deref_mut.ensures.value, pushed, place) (last_placed c.args.vars.now.items c.args.places.now (vec_capacity c.args.vars.now) c.args.var c.requires.heap c.requires.known c.requires.absent)

pub returns-clause-waiting : goal.returns-clause-waiting
returns-clause-waiting c =
    let place : c.len-place.result ≡ length c.args.vars.now.items = let e = c.len-place.ensures in grind (arith, common_steps) in
    c.rise.ensures.waiting ∙ ap (λ (n : ℕ). has_place (slice_set c.args.places.now c.args.var n)) place ∙ waits_more c.args.vars.now.items c.args.places.now (vec_capacity c.args.vars.now) c.args.var c.requires.heap c.requires.known c.requires.absent

pub returns-clause-heap : goal.returns-clause-heap
returns-clause-heap c =
    let place : c.len-place.result ≡ length c.args.vars.now.items = let e = c.len-place.ensures in grind (arith, common_steps) in
    let long : length c.rise.new.vars ≡ length c.push.new.self.items = let a = c.rise.auto.vars in let e = c.deref_mut.ensures.value in grind (arith, common_steps) in
    let vars : take c.push.new.self.len (c.rise.new.vars ++ drop (length c.rise.new.vars) c.push.new.self.items) ≡ c.rise.new.vars = written c.rise.new.vars c.push.new.self.items c.push.new.self.len long (grind (arith, common_steps)) in
    rw vars (more_heap c.args.vars.now.items c.args.places.now (vec_capacity c.args.vars.now) c.args.var c.requires.heap c.requires.known c.requires.absent c.rise.new.vars c.rise.new.places (vec_capacity c.push.new.self) c.rise.ensures.placed
    (c.rise.ensures.waiting ∙ ap (λ (n : ℕ). has_place (slice_set c.args.places.now c.args.var n)) place) (let a = c.push.ensures.items in let o = c.unwrap.ensures in grind (arith, common_steps)) c.rise.auto.places (let a = c.push.ensures.capacity in grind (arith, common_steps)))
