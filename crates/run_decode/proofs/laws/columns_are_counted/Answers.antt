use Rattle.run_decode.proofs.Built.{columns_are_counted}
use Rattle.run_decode.proofs.laws.columns_are_counted.Goals as goal

pub returns : goal.returns
returns c = columns_are_counted
