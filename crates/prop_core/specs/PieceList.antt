-- Lists that stand one behind another among their items.
use Rattle.std.specs.Prelude.{◌≡◌, ℕ, ◌+◌, ◌≤◌, List, [], ◌∷◌, slice_range}

-- the lists in their order, and for how many more lists and items there is room
pub record PieceList (X : Type 0) : Type 0 where
  pub pieces : List (List X)
  pub spare_pieces : ℕ
  pub spare_items : ℕ

-- the lists from a place of the items on, of which each ends where the next begins
abbrev pub pieces_by_ends : {X : Type 0} → List X → ℕ → List ℕ → List (List X)
pieces_by_ends items start [] = []
pieces_by_ends items start (end ∷ ends) = slice_range items start end ∷ pieces_by_ends items end ends

-- the lists from the first item on, by the places where they end
abbrev pub pieces_of : {X : Type 0} → List X → List ℕ → List (List X)
pieces_of items ends = pieces_by_ends items 0 ends

-- from a place on the ends ascend, and the last is this one
abbrev pub EndsAscend : ℕ → ℕ → List ℕ → Type 0
EndsAscend start last [] = start ≡ last
EndsAscend start last (end ∷ ends) = (start ≤ end) × EndsAscend end last ends

-- an end that comes `later` items later
abbrev pub later_by : ℕ → ℕ → ℕ
later_by later end = later + end
