use Rattle.fault_verdicts.proofs.Apart.{verdicts_are_apart}
use Rattle.fault_verdicts.proofs.laws.verdicts_are_apart.Goals as goal

pub returns : goal.returns
returns c = verdicts_are_apart
