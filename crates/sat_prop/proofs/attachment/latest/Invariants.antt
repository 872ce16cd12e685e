use Rattle.std.specs.Prelude.{◌≡◌, true, false, take, IfSome, IfNone}
use Rattle.std.specs.List.{list_any, list_all}
use Rattle.prop_core.specs.Clauses.{same_literal}
use Rattle.sat_prop.proofs.attachment.latest.Given as goal

abbrev pub invariant-loop-lit : goal.invariant-loop-lit
invariant-loop-lit l = record {
  among : IfSome l.best (λ b. list_any (same_literal b) (take l.lit-index l.clause) ≡ true);
  other : IfSome l.best (λ b. IfSome l.but (λ k. same_literal k b ≡ false));
  empty : IfNone l.best (IfNone l.but (l.lit-index ≡ 0));
  alone : IfNone l.best (IfSome l.but (λ k. list_all (same_literal k) (take l.lit-index l.clause) ≡ true));
}
