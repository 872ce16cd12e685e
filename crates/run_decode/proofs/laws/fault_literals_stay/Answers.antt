use Rattle.run_decode.proofs.Reading.{fault_literals_stay}
use Rattle.run_decode.proofs.laws.fault_literals_stay.Goals as goal

pub returns : goal.returns
returns c = fault_literals_stay
