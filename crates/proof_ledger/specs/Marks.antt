-- Marks for the literals that are taken as true, so that each is found at once.
use Rattle.std.specs.Prelude.{◌≡◌, Bool, false, List, slice_index_or}
use Rattle.prop_core.specs.declared.lit.Lit.{Lit}
use Rattle.prop_core.specs.Clauses.{is_true}
use Rattle.prop_core.specs.LiteralNumbers.{literal_number}

-- exactly the literals that are taken are marked, each at the place of its number
abbrev pub AreMarked : List Bool → List Lit → Type 0
AreMarked marks taken = (l : Lit) → slice_index_or marks (literal_number l) false ≡ is_true taken l
