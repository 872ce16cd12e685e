use Rattle.std.proofs.Common.{◌≡◌, List, Bool, true, get_or, sym, subst, arith}
use Rattle.std.specs.Prelude.{slice_set}
use Rattle.std.proofs.lemmas.Grind.{common_steps}
use Rattle.sat_solve.specs.declared.heap.TheConstants.{ABSENT}
use Rattle.sat_solve.proofs.Adding.{known_of}
use Rattle.sat_solve.proofs.Places.{set_waiting}
use Rattle.sat_solve.proofs.heap.Heap.add.Goals as goal

pub returns-then-index : goal.returns-then-index
returns-then-index c =
    let known = known_of c.self.inside.places.items c.args.self.now c.args.var c.self.view_is c.requires in
    let there : get_or c.self.inside.places.items c.args.var 0 ≡ ABSENT → ⊥ = λ z. c.if-index.true (let e = c.index.ensures in grind (arith, common_steps)) in
    subst (λ (bs : List Bool). bs ≡ slice_set bs c.args.var true) c.self.view_is (sym (set_waiting c.self.inside.places.items c.args.var known there))
