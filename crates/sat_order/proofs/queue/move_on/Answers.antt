use Rattle.std.proofs.Common.{get_or, arith, ◌++◌, ◌∷◌, []}
use Rattle.sat_order.specs.declared.queue.RankRun.{RankRun}
use Rattle.sat_order.specs.Queue.{IsMovedOn}
use Rattle.sat_order.proofs.Queues.{run_at, one_more_replaced, all_replaced}
use Rattle.sat_order.proofs.queue.move_on.Goals as goal

pub loop-run-preserved : goal.loop-run-preserved
loop-run-preserved c =
    let n = c.loop-run.auto.runs in
    let t = c.loop-run-test.true in
    let before = c.loop-run.invariant in
    let some : RankRun = record { rank = 0; next = 0; end = 0 } in
    let more = one_more_replaced (IsMovedOn c.args.waiting.now) c.args.runs.now c.loop-run.runs before.0 c.loop-run.run-index (get_or c.loop-run.runs c.loop-run.run-index some) c.moved_on.result (omega arith) before.1 before.2
    (run_at c.loop-run.runs c.loop-run.run-index some (omega arith)) c.moved_on.ensures in
    (before.0 ++ c.moved_on.result ∷ [], more.0, more.1)

pub returns : goal.returns
returns c =
    let t = c.loop-run-test.false in
    let before = c.loop-run.invariant in
    all_replaced (IsMovedOn c.args.waiting.now) c.args.runs.now c.loop-run.runs before.0 c.loop-run.run-index (omega arith) before.1 before.2
