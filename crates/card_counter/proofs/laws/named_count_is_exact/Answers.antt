use Rattle.card_counter.proofs.Exact.{named_count_is_exact}
use Rattle.card_counter.proofs.laws.named_count_is_exact.Goals as goal

pub returns : goal.returns
returns c = named_count_is_exact
