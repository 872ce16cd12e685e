use Rattle.std.proofs.Common.{◌+◌, ap}
use Rattle.std.specs.Prelude.{IfOk}
use Rattle.sat_prop.specs.TrailState.{TrailState}
use Rattle.sat_solve.proofs.WaitingVariables.{room_max, room_given}
use Rattle.sat_solve.proofs.Clashing.{closed_put, assumed_same, none_among}
use Rattle.sat_solve.proofs.Keeping.{over_roomier, over_put, searched_put, ended_put, unput}
use Rattle.sat_solve.proofs.search.Search.fail_by_conflict.Given as given
use Rattle.sat_solve.proofs.search.Search.fail_by_conflict.Goals as goal
use Rattle.des_base.proofs.Results.{on_err}
use Rattle.sat_solve.proofs.Booking.{IsClosed}

pub returns-in_err-learnt-clause-err : goal.returns-in_err-learnt-clause-err
returns-in_err-learnt-clause-err g c =
    let s = c.args.self.now in
    let w = room_max s.propagator c.reserve_clauses.new.self (s.spare + 1) c.in_ok-reserve_clauses.ensures.ok in
    on_err _ _ (over_roomier s.order.waiting s.vars s.spare s.propagator c.reserve_clauses.new.self c.args.book.now.entries c.requires.over w)

closed : (g : given.Over) (c : goal.After-drop-learnt-2 g) → IfOk c.put_final.result (IsClosed c.args.assumptions.now c.args.book.now.entries c.put_final.new.self.entries)
closed g c =
    let t = c.reserve_clauses.new.self in
    let w = room_max c.args.self.now.propagator t (c.args.self.now.spare + 1) c.in_ok-reserve_clauses.ensures.ok in
    let assumed = assumed_same c.args.self.now.propagator t c.args.assumptions.now c.requires.assumed (ap (λ (x : TrailState). x.literals) w.same) (ap (λ (x : TrailState). x.reasons) w.same) in
    closed_put c.put_final.result t c.clauses.result.now.clauses _ c.args.assumptions.now c.in_ok-learnt.learnt.clause c.as_slice.result.now c.in_ok-learnt.learnt.hints c.as_slice-2.result.now c.args.book.now.entries c.put_final.new.self.entries
    (rw c.trail.ensures at c.in_ok-learnt.ensures.closing) c.clauses.ensures.clauses assumed (none_among c.args.assumptions.now) c.as_slice.ensures c.put_final.ensures.added c.put_final.ensures.id

pub returns-clause-searched : goal.returns-clause-searched
returns-clause-searched g c = λ budget. searched_put c.put_final.result c.args.assumptions.now c.args.book.now c.put_final.new.self budget (closed g c) c.put_final.ensures.err

pub returns-clause-ended : goal.returns-clause-ended
returns-clause-ended g c = λ budget.
    let s = c.args.self.now in
    let w = room_max s.propagator c.reserve_clauses.new.self (s.spare + 1) c.in_ok-reserve_clauses.ensures.ok in
    ended_put c.put_final.result c.args.assumptions.now _ s.propagator c.args.book.now.entries c.put_final.new.self.entries budget c.requires.over w (room_given s.propagator c.reserve_clauses.new.self (s.spare + 1) c.in_ok-reserve_clauses.ensures.ok) (closed g c)

pub returns-clause-err : goal.returns-clause-err
returns-clause-err g c =
    let s = c.args.self.now in
    let w = room_max s.propagator c.reserve_clauses.new.self (s.spare + 1) c.in_ok-reserve_clauses.ensures.ok in
    over_put c.put_final.result s.order.waiting s.vars s.spare s.propagator c.reserve_clauses.new.self c.args.book.now c.put_final.new.self c.requires.over w c.put_final.ensures.err

pub returns-clause-unput : goal.returns-clause-unput
returns-clause-unput g c = unput c.put_final.result c.args.book.now c.put_final.new.self c.put_final.ensures.err
