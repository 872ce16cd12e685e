use Rattle.verdict_telling.proofs.Deciding.{open_is_small}
use Rattle.verdict_telling.proofs.laws.open_is_small.Goals as goal

pub returns : goal.returns
returns c = open_is_small
