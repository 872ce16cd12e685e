-- What a caller of `verdict` needs: the run that a search found is best.
use Rattle.std.proofs.Common.{ℕ}
use Rattle.des_net.specs.Network.{Net}
use Rattle.fault_verdicts.specs.Judged.{IsBestRun}
use Rattle.answers.specs.Explanations.{IsExplanation}
use Rattle.answers.specs.declared.found.Best.{Best}
use Rattle.log_order.specs.Log.{Log}
use Rattle.replay.specs.Explanation.{IsLeast}

-- a run with the least number of faults is best
pub best_run : (net : Net) (log : Log) (n : ℕ) (best : Best) → IsExplanation net log n best → IsLeast net log n best.faults → IsBestRun net log n best.faults best.run
best_run net log n best given least = record { matched = given.matched; best = record { least = least; explains = given.explains; faults = given.faults } }
