use Rattle.card_counter.proofs.Adding.{many_inputs_add}
use Rattle.card_counter.proofs.laws.many_inputs_add.Goals as goal

pub returns : goal.returns
returns c = many_inputs_add
