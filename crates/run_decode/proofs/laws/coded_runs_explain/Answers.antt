use Rattle.run_decode.proofs.RunNames.{coded_runs_explain}
use Rattle.run_decode.proofs.laws.coded_runs_explain.Goals as goal

pub returns : goal.returns
returns c = coded_runs_explain
