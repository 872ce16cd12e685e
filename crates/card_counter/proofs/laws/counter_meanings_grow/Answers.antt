use Rattle.card_counter.proofs.CodeLemmas.{counter_meanings_grow}
use Rattle.card_counter.proofs.laws.counter_meanings_grow.Goals as goal

pub returns : goal.returns
returns c = counter_meanings_grow
