-- What is known of the log's code where the solver is advised.
use Rattle.std.specs.Prelude.{◌≡◌, length}
use Rattle.des_net.specs.Network.{Net}
use Rattle.log_encode.specs.CodedLog.{CodedLog}
use Rattle.log_order.specs.Log.{Log}

-- the code is of this network and of as many alarms as the log has
pub record IsCodeFor (net : Net) (log : Log) (code : CodedLog) : Type 0 where
  pub of_net : code.net ≡ net
  pub alarms : length code.log.alarms ≡ length log.alarms
