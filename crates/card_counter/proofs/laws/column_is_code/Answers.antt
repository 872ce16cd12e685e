use Rattle.card_counter.proofs.CodeLemmas.{column_is_code}
use Rattle.card_counter.proofs.laws.column_is_code.Goals as goal

pub returns : goal.returns
returns c = column_is_code
