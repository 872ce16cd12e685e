use Rattle.card_counter.proofs.States.{columns_add_meanings}
use Rattle.card_counter.proofs.laws.columns_add_meanings.Goals as goal

pub returns : goal.returns
returns c = columns_add_meanings
