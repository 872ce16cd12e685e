-- The numbers that pairs put before each, in lists, and what is held back by them.
use Rattle.std.specs.Prelude.{◌≡◌, ℕ, Bool, not, ◌||◌, ◌&&◌, ◌==◌, List, [], slice_index_or}
use Rattle.std.specs.List.{list_any, list_all}

-- a number isn't free where it is taken, or one that stands before it isn't
abbrev pub is_held_back_in : List (List ℕ) → (ℕ → Bool) → ℕ → Bool
is_held_back_in lists taken i = taken i || not (list_all taken (slice_index_or lists i []))

-- the lists have, for each number, those that a pair puts before it: all of them are taken exactly if each such pair's first number is
abbrev pub AreBefore : List (ℕ × ℕ) → List (List ℕ) → Type 0
AreBefore pairs lists = (taken : ℕ → Bool) (i : ℕ) → not (list_all taken (slice_index_or lists i [])) ≡ list_any (λ pair. pair.1 == i && not (taken pair.0)) pairs
