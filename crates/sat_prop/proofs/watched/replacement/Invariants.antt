use Rattle.std.specs.Prelude.{◌≡◌, ◌+◌, ◌||◌, true, take}
use Rattle.std.specs.List.{list_all}
use Rattle.prop_core.specs.Clauses.{same_literal, is_false}
use Rattle.sat_prop.proofs.watched.replacement.Given as goal

abbrev pub invariant-loop-lit : goal.invariant-loop-lit
invariant-loop-lit l = list_all (λ k. same_literal l.other k || is_false (take (l.place + 1) l.trail.literals) k) (take l.lit-index l.clause) ≡ true
