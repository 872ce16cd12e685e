use Rattle.card_counter.proofs.NameLemmas.{counter_meanings_stand}
use Rattle.card_counter.proofs.laws.counter_meanings_stand.Goals as goal

pub returns : goal.returns
returns c = counter_meanings_stand
