-- That literals are the same is an equivalence.
use Rattle.std.specs.Cmp.{IsEquivalence, nat_eq_equiv, bool_eq_equiv, on_equiv, and_equiv}
use Rattle.prop_core.specs.declared.lit.Lit.{Lit}
use Rattle.prop_core.specs.Clauses.{same_literal}

pub same_literal_equiv : IsEquivalence same_literal
same_literal_equiv = and_equiv (on_equiv (λ (l : Lit). l.var) nat_eq_equiv) (on_equiv (λ (l : Lit). l.positive) bool_eq_equiv)
