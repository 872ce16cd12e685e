use Rattle.std.proofs.Common.{◌≡◌, ◌∙◌, arith}
use Rattle.std.proofs.Math.Nat.{le-max_right}
use Rattle.sat_solve.proofs.Adopting.{HasOneMore, one_more}
use Rattle.sat_solve.proofs.WaitingVariables.{grown_is}
use Rattle.calls_search.proofs.solver.add.Given as given
use Rattle.calls_search.proofs.solver.add.Goals as goal

more : (g : given.Over) (c : goal.After-adopt-arg-1 g) → HasOneMore c.reserve.new.self.adopted c.add_axiom.new.self.entries c.args.vars
more g c = one_more c.reserve.new.self.adopted c.args.book.now.entries c.add_axiom.new.self.entries c.args.clause.now c.args.vars (c.reserve.ensures.adopted ∙ c.requires.ready.adopted) c.in_ok-add_axiom.ensures.added c.requires.known

pub adopt-requires-clause-grown : goal.adopt-requires-clause-grown
adopt-requires-clause-grown g c = (more g c).grown

pub adopt-requires-clause-room : goal.adopt-requires-clause-room
adopt-requires-clause-room g c =
    let n = (more g c).count in
    let s = le-max_right c.args.solver.now.spare 1 in
    let r = c.in_ok-reserve.ensures.ok.spare in
    omega arith

pub adopt-requires-clause-known : goal.adopt-requires-clause-known
adopt-requires-clause-known g c =
    let k = more g c in
    let r = c.in_ok-reserve.ensures.ok.vars in
    let m = grown_is c.args.solver.now.vars 0 in
    let e = c.requires.ready.count in
    let v : c.reserve.new.self.vars ≡ c.args.vars = omega arith in
    rw v k.known
