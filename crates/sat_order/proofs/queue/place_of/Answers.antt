use Rattle.std.proofs.Common.{get_or, arith}
use Rattle.sat_order.specs.declared.queue.RankRun.{RankRun}
use Rattle.sat_order.proofs.Queues.{IsSought-next, IsPlaceOf-found, sought_inside, run_at}
use Rattle.sat_order.proofs.queue.place_of.Goals as goal

pub on-preserved : goal.on-preserved
on-preserved c =
    let some : RankRun = record { rank = 0; next = 0; end = 0 } in
    let inside = sought_inside c.args.var c.args.runs.now c.on.place c.on.invariant in
    IsSought-next c.args.var c.args.runs.now c.on.place (get_or c.args.runs.now c.on.place some) (run_at c.args.runs.now c.on.place some inside) c.on-test.true c.on.invariant

pub returns-clause-place : goal.returns-clause-place
returns-clause-place c =
    let some : RankRun = record { rank = 0; next = 0; end = 0 } in
    let inside = sought_inside c.args.var c.args.runs.now c.on.place c.on.invariant in
    let past = c.on-test.false in
    IsPlaceOf-found c.args.var c.args.runs.now c.on.place (get_or c.args.runs.now c.on.place some) (run_at c.args.runs.now c.on.place some inside) (omega arith) c.on.invariant
