use Rattle.std.specs.Prelude.{◌≡◌, ◌++◌, List, take, drop}
use Rattle.std.specs.List.{AllZip}
use Rattle.sat_order.specs.declared.queue.RankRun.{RankRun}
use Rattle.sat_order.specs.Queue.{IsMovedOn}
use Rattle.sat_order.proofs.queue.move_on.Given as goal

abbrev pub invariant-loop-run : goal.invariant-loop-run
invariant-loop-run l = (done : List RankRun) × (l.runs ≡ done ++ drop l.run-index l.initial.runs) × AllZip (IsMovedOn l.waiting) (take l.run-index l.initial.runs) done
