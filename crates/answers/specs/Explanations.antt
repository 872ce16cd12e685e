-- What an answer says of its run, whoever found it.
use Rattle.std.specs.Prelude.{◌≡◌, ℕ}
use Rattle.des_net.specs.Network.{Net}
use Rattle.log_order.specs.Log.{Log}
use Rattle.replay.specs.Explanation.{Explains, faults_of}
use Rattle.replay.specs.Matching.{IsWellMatched, order_of}
use Rattle.replay.specs.Traced.{word_of}
use Rattle.answers.specs.declared.found.Best.{Best}

-- a run that explains the log, and the number of its faults
pub record IsExplanation (net : Net) (log : Log) (n : ℕ) (best : Best) : Type 0 where
  pub matched : IsWellMatched net log best.run
  pub explains : Explains net log n (word_of best.run) (order_of log best.run)
  pub faults : faults_of net (word_of best.run) (order_of log best.run) ≡ best.faults
