use Rattle.card_counter.proofs.Inputs.{inputs_grow}
use Rattle.card_counter.proofs.laws.inputs_grow.Goals as goal

pub returns : goal.returns
returns c = inputs_grow
