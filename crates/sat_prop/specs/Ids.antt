-- A list of numbers of clauses, of which a snapshot shows all but the last.
use Rattle.std.specs.Prelude.{ℕ, List, [], ◌∷◌, ◌++◌}
use Rattle.sat_prop.specs.declared.ids.Ids.{Ids, Empty, More'}

-- the numbers, the first one first
abbrev pub ids_of : Ids → List ℕ
ids_of Empty = []
ids_of (More' marker before last) = ids_of before ++ last ∷ []
