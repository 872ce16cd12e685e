use Rattle.std.proofs.Common.{ap, arith, refl}
use Rattle.least_faults.proofs.Reserving.{ready_roomy}
use Rattle.least_faults.proofs.adding.reserve_room.Goals as goal
use Rattle.sat_solve.specs.Solving.{SolverState}

pub returns-in_err-reserve-2-clause-ready : goal.returns-in_err-reserve-2-clause-ready
returns-in_err-reserve-2-clause-ready g c =
    ready_roomy _ _ c.args.parts.now c.reserve.new.self c.reserve_inputs.new.self c.args.parts.now.solver _ c.args.book.now.entries c.reserve-2.new.self.entries c.requires.ready
    c.in_ok-reserve.ensures.code c.in_ok-reserve_inputs.ensures.room refl (omega arith) (λ ranked. ranked) c.in_err-reserve-2.ensures.same

pub returns-in_err-reserve-3-clause-ready : goal.returns-in_err-reserve-3-clause-ready
returns-in_err-reserve-3-clause-ready g c =
    let same = ap (λ (s : SolverState _). s.vars) c.in_err-reserve-3.ensures.err.same in
    ready_roomy _ _ c.args.parts.now c.reserve.new.self c.reserve_inputs.new.self c.reserve-3.new.self _ c.args.book.now.entries c.reserve-2.new.self.entries c.requires.ready
    c.in_ok-reserve.ensures.code c.in_ok-reserve_inputs.ensures.room c.reserve-3.ensures.adopted (omega (arith, same)) c.reserve-3.ensures.ranked c.reserve-2.ensures.same

pub returns-clause-ready : goal.returns-clause-ready
returns-clause-ready g c =
    let more = c.in_ok-reserve-3.ensures.ok.vars in
    ready_roomy _ _ c.args.parts.now c.reserve.new.self c.reserve_inputs.new.self c.reserve-3.new.self _ c.args.book.now.entries c.reserve-2.new.self.entries c.requires.ready
    c.in_ok-reserve.ensures.code c.in_ok-reserve_inputs.ensures.room c.reserve-3.ensures.adopted (omega (arith, more)) c.reserve-3.ensures.ranked c.reserve-2.ensures.same
