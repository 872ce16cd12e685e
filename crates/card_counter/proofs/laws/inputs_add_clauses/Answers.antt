use Rattle.card_counter.proofs.Inputs.{inputs_add_clauses}
use Rattle.card_counter.proofs.laws.inputs_add_clauses.Goals as goal

pub returns : goal.returns
returns c = inputs_add_clauses
