-- Pairs of numbers below a count, and what is kept beside them so that a cycle is found in one pass.
use Rattle.std.specs.Prelude.{◌≡◌, ℕ, Bool, false, not, ◌==◌, List, [], ◌∷◌, ◌++◌, length, slice_index_or, slice_set}
use Rattle.std.specs.List.{list_any, filter}
use Rattle.log_order.specs.Log.{ListsOnce, Keeps, AreKnown, has_pair}

-- numbers below a count, and pairs of them, "the first before the second", in the order in which they were added
pub record Precedence : Type 0 where
  pub count : ℕ
  pub pairs : List (ℕ × ℕ)

-- no numbers, and no pairs
abbrev pub no_precedence : Precedence
no_precedence = record { count = 0; pairs = [] }

-- the number stands in the list
abbrev pub is_in : List ℕ → ℕ → Bool
is_in xs i = list_any (λ x. x == i) xs

-- whether a number has a mark; one past the marks has none
abbrev pub is_marked : List Bool → ℕ → Bool
is_marked marks i = slice_index_or marks i false

-- those that the test holds of, behind the others
abbrev pub moved : (ℕ → Bool) → List ℕ → List ℕ
moved p xs = filter (λ x. not (p x)) xs ++ filter p xs

-- the second number is one more of the first's
abbrev pub with_follower : List (List ℕ) → ℕ → ℕ → List (List ℕ)
with_follower lists first second = slice_set lists first (slice_index_or lists first [] ++ second ∷ [])

-- for each number, the second numbers of its pairs
pub record AreFollowers (pairs : List (ℕ × ℕ)) (followers : List (List ℕ)) : Type 0 where
  pub same : (i j : ℕ) → is_in (slice_index_or followers i []) j ≡ has_pair pairs i j

-- the order has all numbers and keeps the pairs, and beside it stand the followers of each number
pub record IsKeptOrder (pairs : List (ℕ × ℕ)) (order : List ℕ) (lists : List (List ℕ)) : Type 0 where
  pub known : AreKnown (length order) pairs
  pub listed : ListsOnce (length order) order
  pub kept : Keeps order pairs
  pub matched : length lists ≡ length order
  pub followers : AreFollowers pairs lists
