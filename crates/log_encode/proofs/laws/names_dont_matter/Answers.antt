use Rattle.log_encode.proofs.laws.names_dont_matter.Goals as goal
use Rattle.log_encode.proofs.Nameless.{names_dont_matter}

pub returns : goal.returns
returns c = names_dont_matter
