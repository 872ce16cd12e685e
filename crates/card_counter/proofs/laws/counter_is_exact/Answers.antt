use Rattle.card_counter.proofs.Exact.{counter_is_exact}
use Rattle.card_counter.proofs.laws.counter_is_exact.Goals as goal

pub returns : goal.returns
returns c = counter_is_exact
