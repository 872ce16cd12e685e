use Rattle.card_counter.proofs.Listed.{exclusions_are_listed}
use Rattle.card_counter.proofs.laws.exclusions_are_listed.Goals as goal

pub returns : goal.returns
returns c = exclusions_are_listed
