use Rattle.std.proofs.Common.{refl, ◌≡◌, ◌-◌, ◌<◌, ◌++◌, List, Bool, false, length, replicate, subst, arith}
use Rattle.std.proofs.lemmas.Grind.{common_steps}
use Rattle.sat_solve.proofs.Rounds.{marked_in, marked_wider}
use Rattle.sat_solve.proofs.marks.Marks.widen.Goals as goal

pub returns-clause-ok : goal.returns-clause-ok
returns-clause-ok c =
    let e : c.resize.new.self.items ≡ c.self.inside.rounds.items ++ replicate (c.max-count.result - length c.self.inside.rounds.items) 0 = let a = c.in_ok-resize.ensures.items in let m = c.max-count.ensures in let n = c.len.ensures in grind (arith, common_steps) in
    let n : length (marked_in c.self.inside.round c.self.inside.rounds.items) ≡ length c.self.inside.rounds.items = grind (arith, common_steps) in
    let m : c.max-count.result - length c.self.inside.rounds.items ≡ c.args.places - length c.self.inside.rounds.items = let a = c.max-count.ensures in let l = c.len.ensures in grind (arith, common_steps) in
    let s : 0 < c.self.inside.round = let a = c.self.invariant.some in omega arith in
    subst (λ (bs : List Bool). marked_in c.self.inside.round c.resize.new.self.items ≡ bs ++ replicate (c.args.places - length bs) false) c.self.view_is
    (rw (e, marked_wider c.self.inside.round c.self.inside.rounds.items (c.max-count.result - length c.self.inside.rounds.items) s, m, n) refl)
