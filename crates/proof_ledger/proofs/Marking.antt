-- Marks for the literals that are taken as true.
use Rattle.std.proofs.Common.{◌≡◌, Bool, true, false, List, get_or}
use Rattle.prop_core.specs.declared.lit.Lit.{Lit}
use Rattle.prop_core.specs.Clauses.{is_true}
use Rattle.prop_core.specs.LiteralNumbers.{literal_number}

-- what is still marked is among those that follow
abbrev pub MarkedAmong : List Bool → List Lit → Type 0
MarkedAmong marks rest = (l : Lit) → get_or marks (literal_number l) false ≡ true → is_true rest l ≡ true
