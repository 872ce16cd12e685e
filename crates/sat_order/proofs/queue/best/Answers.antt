use Rattle.std.proofs.Common.{arith}
use Rattle.sat_order.proofs.Queues.{IsBestBefore-next, IsBestBefore-all, run_at}
use Rattle.sat_order.proofs.queue.best.Goals as goal

pub loop-run-preserved : goal.loop-run-preserved
loop-run-preserved c =
    let k = c.loop-run-test.true in
    IsBestBefore-next c.args.runs.now c.loop-run.run-index _ c.loop-run.best c.better-best.result k (run_at c.args.runs.now c.loop-run.run-index (record { rank = 0; next = 0; end = 0 }) k) c.better-best.ensures c.loop-run.invariant

pub returns : goal.returns
returns c = IsBestBefore-all c.args.runs.now c.loop-run.run-index _ (omega (arith, c.loop-run-test.false)) c.loop-run.invariant
