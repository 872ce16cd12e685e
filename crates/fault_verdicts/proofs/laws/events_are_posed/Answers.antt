use Rattle.fault_verdicts.proofs.Drawing.{events_are_posed}
use Rattle.fault_verdicts.proofs.laws.events_are_posed.Goals as goal

pub returns : goal.returns
returns c = events_are_posed
