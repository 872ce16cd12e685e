use Rattle.std.proofs.Common.{◌≡◌, ◌∙◌, ℕ, ◌++◌, List, Bool, true, length, take, drop, ap, arith}
use Rattle.std.specs.Prelude.{slice_set}
use Rattle.std.proofs.lemmas.Grind.{common_steps}
use Rattle.sat_solve.specs.Heap.{has_place}
use Rattle.sat_solve.specs.declared.heap.TheConstants.{ABSENT}
use Rattle.sat_solve.proofs.Adding.{known_of}
use Rattle.sat_solve.proofs.Places.{place_set, written}
use Rattle.sat_solve.proofs.heap.Heap.raise.Goals as goal

pub returns-else-place : goal.returns-else-place
returns-else-place c =
    let k = known_of c.self.inside.places.items c.args.self.now c.args.var c.self.view_is c.requires in
    let there : c.index-place.result.now ≡ ABSENT → ⊥ = c.if-place.false in
    let places : take c.self.inside.places.len (c.rise.new.places ++ drop (length c.rise.new.places) c.self.inside.places.items) ≡ c.rise.new.places = written c.rise.new.places c.self.inside.places.items c.self.inside.places.len (let a = c.rise.auto.places in let e = c.deref_mut-else-place.ensures.value in grind (arith, common_steps)) (grind (arith, common_steps)) in
    ap has_place places ∙ c.rise.ensures.waiting ∙ ap (λ (ps : List ℕ). has_place (slice_set ps c.args.var c.index-place.result.now)) c.deref_mut-else-place.ensures.value ∙ place_set c.self.inside.places.items c.args.var c.index-place.result.now there
    ∙ ap (λ (bs : List Bool). slice_set bs c.args.var true) c.self.view_is
