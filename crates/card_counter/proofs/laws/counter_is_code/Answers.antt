use Rattle.card_counter.proofs.CodeLemmas.{counter_is_code}
use Rattle.card_counter.proofs.laws.counter_is_code.Goals as goal

pub returns : goal.returns
returns c = counter_is_code
