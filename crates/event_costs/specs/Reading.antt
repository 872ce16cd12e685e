-- How the reader goes through a cost text: what a line comes to over a table, and what all lines do.
use Rattle.std.specs.Prelude.{◌≡◌, ⊤, ℕ, ◌<◌, false, true, List, [], length, Option, None, Some, Result, Ok, Err, slice_set}
use Rattle.des_base.specs.CountedLines.{NumberedLine}
use Rattle.des_net.specs.Network.{Net, is_fault}
use Rattle.event_costs.specs.declared.fault.CostFault.{CostFault}
use Rattle.event_costs.specs.declared.fault.CostRefusal.{CostRefusal}
use Rattle.event_costs.specs.declared.fault.CostRefusal.TheVariants.{Fault, Memory}
use Rattle.event_costs.specs.declared.table.Price.{Price}
use Rattle.event_costs.specs.Prices.{given_at, cost_at}
use Rattle.event_costs.specs.CostText.{CostLine, line_price, cost_shape_code, first_cost_code, prices_of, given_to}

-- the table with this price
abbrev pub HasGiven : Price → List (Option ℕ) → List (Option ℕ) → Type 0
HasGiven price old new = new ≡ slice_set old price.event (Some price.cost)

-- a place for each of `events` events, and nothing given
pub record IsEmptyTable (events : ℕ) (table : List (Option ℕ)) : Type 0 where
  pub long : length table ≡ events
  pub none : (e : ℕ) → given_at table e ≡ None

-- the table has what these prices give
abbrev pub IsPriceTable : List Price → List (Option ℕ) → Type 0
IsPriceTable earlier table = (e : ℕ) → given_at table e ≡ given_to earlier e

-- The line gives this price, of a fault event to which the table gives nothing yet. It has no code where the table holds what the lines before it give, whatever they are.
pub record GivesPrice (net : Net) (table : List (Option ℕ)) (line : Option CostLine) (price : Price) : Type 0 where
  pub said : line_price net line ≡ Some price
  pub within : price.event < length net.events
  pub fault : is_fault net price.event ≡ true
  pub free : given_at table price.event ≡ None
  pub well : (earlier : List Price) → IsPriceTable earlier table → cost_shape_code net earlier line ≡ None

-- the line has the code of the fault, where the table holds what the lines before it give
pub record HasCode (net : Net) (table : List (Option ℕ)) (number : ℕ) (line : Option CostLine) (fault : CostFault) : Type 0 where
  pub line_is : fault.line ≡ number
  pub code_is : (earlier : List Price) → IsPriceTable earlier table → cost_shape_code net earlier line ≡ Some fault.code

-- a line gives a price or has a code
abbrev pub ReadsPrice : Net → List (Option ℕ) → ℕ → Option CostLine → Result Price CostFault → Type 0
ReadsPrice net table number line (Ok price) = GivesPrice net table line price
ReadsPrice net table number line (Err fault) = HasCode net table number line fault

-- a table says what the lines give, and what isn't a fault event costs 1 by it
pub record IsTableOfLines (net : Net) (lines : List NumberedLine) (table : List (Option ℕ)) : Type 0 where
  pub long : length table ≡ length net.events
  pub each : (e : ℕ) → given_at table e ≡ given_to (prices_of net lines) e
  pub others : (e : ℕ) → is_fault net e ≡ false → cost_at table e ≡ 1

-- the table of some lines, or their first fault
abbrev pub ReadsPrices : Net → List NumberedLine → Result (List (Option ℕ)) CostRefusal → Type 0
ReadsPrices net lines (Ok table) = (first_cost_code net [] lines ≡ None) × IsTableOfLines net lines table
ReadsPrices net lines (Err (Fault fault)) = first_cost_code net [] lines ≡ Some fault
ReadsPrices net lines (Err Memory) = ⊤
