use Rattle.card_counter.proofs.CodeLemmas.{named_columns_grow}
use Rattle.card_counter.proofs.laws.named_columns_grow.Goals as goal

pub returns : goal.returns
returns c = named_columns_grow
