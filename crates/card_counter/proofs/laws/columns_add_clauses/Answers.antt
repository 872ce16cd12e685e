use Rattle.card_counter.proofs.States.{columns_add_clauses}
use Rattle.card_counter.proofs.laws.columns_add_clauses.Goals as goal

pub returns : goal.returns
returns c = columns_add_clauses
