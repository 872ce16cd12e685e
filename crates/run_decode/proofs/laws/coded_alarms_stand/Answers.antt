use Rattle.run_decode.proofs.RunNames.{coded_alarms_stand}
use Rattle.run_decode.proofs.laws.coded_alarms_stand.Goals as goal

pub returns : goal.returns
returns c = coded_alarms_stand
