-- Variables that wait in a list, the place of each in it, and which of them comes first.
use Rattle.std.specs.Prelude.{◌≡◌, ℕ, ◌<◌, ◌≤◌, ◌==◌, Bool, true, false, not, List, length, map, count_by, slice_index, slice_set, nat_lt, if◌then◌else◌, Option, Some, None}
use Rattle.sat_order.specs.Waiting.{waits, NoneWaits}
use Rattle.sat_solve.specs.declared.heap.TheConstants.{ABSENT}

-- which variables have a place
abbrev pub has_place : List ℕ → List Bool
has_place places = map (λ place. not (place == ABSENT)) places

-- how many variables wait
abbrev pub held_of : List Bool → ℕ
held_of waiting = count_by (λ b. b) waiting

-- Each variable of the list has its place in it, and each other variable has none. So none stands there twice.
pub record ArePlaced (heap places : List ℕ) : Type 0 where
  pub limit : length heap ≤ ABSENT
  pub known : (place : ℕ) → place < length heap → slice_index heap place < length places
  pub placed : (place : ℕ) → place < length heap → slice_index places (slice_index heap place) ≡ place
  pub within : (var : ℕ) → var < length places → (slice_index places var ≡ ABSENT → ⊥) → slice_index places var < length heap
  pub found : (var : ℕ) → var < length places → (slice_index places var ≡ ABSENT → ⊥) → slice_index heap (slice_index places var) ≡ var

-- They are all that have a place, and there is room for each variable.
pub record IsHeap (heap places : List ℕ) (room : ℕ) : Type 0 where
  pub placed : ArePlaced heap places
  pub count : length heap ≡ held_of (has_place places)
  pub limit : length places ≤ ABSENT
  pub fits : length places ≤ room

-- a variable that waited is taken, or none waited
abbrev pub Takes : List Bool → List Bool → Option ℕ → Type 0
Takes old new None = (new ≡ old) × NoneWaits old
Takes old new (Some var) = (new ≡ slice_set old var false) × (waits old var ≡ true)

-- Of two variables the more active one comes first, of equal activities the one of greater rank, of equal ranks the one of smaller number.
abbrev pub comes_before : List ℕ → List ℕ → ℕ → ℕ → Bool
comes_before activities ranks var other =
    if slice_index activities var == slice_index activities other
    then (if slice_index ranks var == slice_index ranks other then nat_lt var other else nat_lt (slice_index ranks other) (slice_index ranks var))
    else nat_lt (slice_index activities other) (slice_index activities var)

-- None is before itself, of two that differ exactly one is before the other, and what is before another is before all that come after that.
pub record IsStrictOrder (before : ℕ → ℕ → Bool) : Type 0 where
  pub never_itself : (one : ℕ) → before one one ≡ false
  pub just_one : (one other : ℕ) → (one ≡ other → ⊥) → before other one ≡ not (before one other)
  pub onward : (one other third : ℕ) → before one other ≡ true → before other third ≡ true → before one third ≡ true

-- variables stand in one order, whatever their activities and ranks
abbrev pub VariablesAreOrdered : Type 0
VariablesAreOrdered = (activities ranks : List ℕ) → IsStrictOrder (comes_before activities ranks)
