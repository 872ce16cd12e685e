use Rattle.des_base.proofs.LawLemmas as laws
use Rattle.des_base.proofs.laws.tokens_are_pieces.Goals as goal

pub returns : goal.returns
returns c = laws.tokens_are_pieces
