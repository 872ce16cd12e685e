use Rattle.std.proofs.Common.{arith}
use Rattle.sat_prop.proofs.Growing.{roomier_either, watched_roomier}
use Rattle.sat_prop.proofs.propagator.Propagator.reserve_clauses.Goals as goal

pub invariant_of-self : goal.invariant_of-self
invariant_of-self c =
    let e = c.reserve.ensures in
    let a = c.self.invariant.room_short in
    let b = c.self.invariant.room_watches in
    let less = e.no_less in
    watched_roomier c.self.inside.trail c.self.inside.watched c.reserve.new.self c.self.inside.trail.spare c.self.invariant e.short e.seen e.watches e.vars (omega arith) (omega arith)

pub invariant_of-self-2 : goal.invariant_of-self-2
invariant_of-self-2 c =
    let e = c.in_ok-reserve.ensures in
    let a = c.self.invariant.room_short in
    let b = c.self.invariant.room_watches in
    let less = e.no_less in
    roomier_either c.reserve_clauses.result c.self.inside.trail c.reserve_clauses.new.self c.self.inside.watched c.reserve.new.self c.args.clauses c.reserve_clauses.ensures.ok c.reserve_clauses.ensures.err c.self.invariant
    e.short e.seen e.watches e.vars (omega arith) (omega arith) e.ok.0 e.ok.1
