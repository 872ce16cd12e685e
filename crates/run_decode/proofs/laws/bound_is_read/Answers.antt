use Rattle.run_decode.proofs.Reading.{bound_is_read}
use Rattle.run_decode.proofs.laws.bound_is_read.Goals as goal

pub returns : goal.returns
returns c = bound_is_read
