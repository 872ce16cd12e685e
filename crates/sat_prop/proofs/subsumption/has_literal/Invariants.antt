use Rattle.std.specs.Prelude.{◌≡◌, false, take}
use Rattle.std.specs.List.{list_any}
use Rattle.prop_core.specs.Clauses.{same_literal}
use Rattle.sat_prop.proofs.subsumption.has_literal.Given as goal

abbrev pub invariant-loop-other : goal.invariant-loop-other
invariant-loop-other l = list_any (same_literal l.lit) (take l.other-index l.clause) ≡ false
