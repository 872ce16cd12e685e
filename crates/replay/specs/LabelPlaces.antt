-- The places that labels lead to, and the marks there.
use Rattle.std.specs.Prelude.{◌≡◌, ℕ, ◌+◌, ◌*◌, ◌%◌, ◌<◌, Bool, false, true, List, [], ◌∷◌, length, slice_index_or}

-- the place that these bytes lead to from a place
abbrev pub place_after : ℕ → List ℕ → ℕ
place_after place [] = place
place_after place (byte ∷ bytes) = place_after ((place * 31 + byte) % 4096) bytes

-- the place that a label leads to
abbrev pub mark_place : List ℕ → ℕ
mark_place label = place_after 0 label

-- there are 4096 marks, and one at the place of each of the first n labels
pub record HaveMarks (marks : List Bool) (labels : List (List ℕ)) (n : ℕ) : Type 0 where
  pub long : length marks ≡ 4096
  pub each : (i : ℕ) (d : List ℕ) → i < n → slice_index_or marks (mark_place (slice_index_or labels i d)) false ≡ true
