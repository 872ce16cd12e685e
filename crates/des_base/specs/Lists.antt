-- Lists: elements two at a time, the numbers below a bound, and a list that was appended to.
use Rattle.std.specs.Prelude.{◌≡◌, ⊤, ℕ, List, [], ◌∷◌, ◌++◌}
use Rattle.std.specs.List.{AllByRecursion, range_with_len}

-- R holds of each element and each later one
abbrev pub EachPair : {X : Type 0} → (X → X → Type 0) → List X → Type 0
EachPair R [] = ⊤
EachPair R (x ∷ xs) = AllByRecursion (R x) xs × EachPair R xs

-- from 0 on, in order
abbrev pub numbers_below : ℕ → List ℕ
numbers_below n = range_with_len 0 n

-- some was appended
pub record Extends {X : Type 0} (old new : List X) : Type 0 where
  pub more : List X
  pub is : new ≡ old ++ more
