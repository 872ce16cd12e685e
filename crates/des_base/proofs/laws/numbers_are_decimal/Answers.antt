use Rattle.des_base.proofs.LawLemmas as laws
use Rattle.des_base.proofs.laws.numbers_are_decimal.Goals as goal

pub returns : goal.returns
returns c = laws.numbers_are_decimal
