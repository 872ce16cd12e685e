use Rattle.run_decode.proofs.Faults.{faults_are_inputs}
use Rattle.run_decode.proofs.laws.faults_are_inputs.Goals as goal

pub returns : goal.returns
returns c = faults_are_inputs
