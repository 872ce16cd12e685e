-- What events cost, as numbers in a table.
use Rattle.std.specs.Prelude.{ℕ, ◌≤◌, List, Option, None, unwrap_or, slice_index_or}
use Rattle.std.specs.Prelude.{IfSome}
use Rattle.event_costs.specs.declared.TheConstants.{MOST_COST}

-- a number that an event may cost
pub record IsPrice (cost : ℕ) : Type 0 where
  pub from_one : 1 ≤ cost
  pub bounded : cost ≤ MOST_COST

-- it is one where it is given
abbrev pub IsPriceIfGiven : Option ℕ → Type 0
IsPriceIfGiven given = IfSome given IsPrice

-- what is given to event e: nothing to a number that no event has
abbrev pub given_at : List (Option ℕ) → ℕ → Option ℕ
given_at table e = slice_index_or table e None

-- what event e costs: 1 where nothing is given
abbrev pub cost_at : List (Option ℕ) → ℕ → ℕ
cost_at table e = unwrap_or (given_at table e) 1
