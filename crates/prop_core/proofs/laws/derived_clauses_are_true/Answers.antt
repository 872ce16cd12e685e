use Rattle.prop_core.proofs.Entailed as laws
use Rattle.prop_core.proofs.laws.derived_clauses_are_true.Goals as goal

pub returns : goal.returns
returns c = laws.derived_clauses_are_true
