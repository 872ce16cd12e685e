-- The order that takes, of the numbers whose predecessors are all taken, the smallest first.
use Rattle.std.specs.Prelude.{ℕ, zero, suc, Bool, not, ◌&&◌, ◌||◌, ◌==◌, List, [], ◌∷◌, ◌++◌, Option, None, Some, if◌then◌else◌}
use Rattle.std.specs.List.{list_any}
use Rattle.std.specs.Option.{option_map_or}
use Rattle.log_order.specs.Precedence.{is_in}

-- the smallest number below m that the test holds of
abbrev pub first_below : ℕ → (ℕ → Bool) → Option ℕ
first_below zero p = None
first_below (suc m) p = option_map_or (λ i. Some i) (first_below m p) (if p m then Some m else None)

-- a number isn't free where it is taken, or a number that a pair puts before it isn't
abbrev pub is_held_back : (ℕ → Bool) → List (ℕ × ℕ) → ℕ → Bool
is_held_back taken pairs i = taken i || list_any (λ pair. pair.1 == i && not (taken pair.0)) pairs

-- the smallest free number is taken next
abbrev pub with_next : ℕ → List (ℕ × ℕ) → List ℕ → List ℕ
with_next m pairs taken = option_map_or (λ i. taken ++ i ∷ []) (first_below m (λ i. not (is_held_back (is_in taken) pairs i))) taken

-- the first k that are taken
abbrev pub taken_first : ℕ → List (ℕ × ℕ) → ℕ → List ℕ
taken_first m pairs zero = []
taken_first m pairs (suc k) = with_next m pairs (taken_first m pairs k)

-- the numbers below m in this order; a number that comes after a cycle of the pairs, or stands on one, is never taken
abbrev pub least_order : ℕ → List (ℕ × ℕ) → List ℕ
least_order m pairs = taken_first m pairs m
