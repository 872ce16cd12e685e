-- The log's code is of this network and of as many alarms.
use Rattle.std.proofs.Common.{◌∙◌, length, ap}
use Rattle.des_net.specs.Network.{Net}
use Rattle.least_faults.specs.Trying.{IsCodeFor}
use Rattle.log_encode.specs.CodedLog.{CodedLog}
use Rattle.log_order.specs.Log.{Log}
use Rattle.run_decode.specs.Decoding.{BelongTogether}
use Rattle.step_encode.specs.Coded.{CodedSteps}

pub code_for : (net : Net) (log : Log) (steps : CodedSteps) (code : CodedLog) → BelongTogether net log steps code → IsCodeFor net log code
code_for net log steps code belong = record {
  of_net = belong.beside.net ∙ belong.of_steps;
  alarms = ap (λ (l : Log). length l.alarms) belong.same_log;
}
