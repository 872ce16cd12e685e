-- The text of costs: what it gives to each fault event, and its first fault.
use Rattle.std.specs.Prelude.{◌≡◌, ⊤, ℕ, Bool, false, not, List, [], ◌∷◌, ◌++◌, filter_map, find, length, option_map, option_and_then, Option, Some, None, bytes_eq, codes, if◌then◌else◌, nat_le, ◌==◌, is_none, is_some, unwrap_or}
use Rattle.std.specs.Option.{option_to_list}
use Rattle.des_base.specs.Names.{is_name_text, place_of}
use Rattle.des_base.specs.Numbers.{number_up_to}
use Rattle.des_base.specs.CountedLines.{NumberedLine, counted_lines, tokens_of}
use Rattle.des_net.specs.Network.{Net, is_fault}
use Rattle.event_costs.specs.declared.TheConstants.{MOST_COST}
use Rattle.event_costs.specs.declared.fault.CostFault.{CostFault}
use Rattle.event_costs.specs.declared.fault.CostRefusal.{CostRefusal}
use Rattle.event_costs.specs.declared.fault.CostRefusal.TheVariants.{Fault, Memory}
use Rattle.event_costs.specs.declared.table.Price.{Price}
use Rattle.event_costs.specs.Prices.{cost_at}

-- ---- what lines say

-- the first line of costs is `costs 1`
abbrev pub is_cost_header : List (List ℕ) → Bool
is_cost_header [] = false
is_cost_header (word ∷ []) = false
is_cost_header (word ∷ version ∷ []) = if bytes_eq word (codes "costs") then bytes_eq version (codes "1") else false
is_cost_header (word ∷ version ∷ more ∷ tokens) = false

-- the words of a line after the first: that of an event, and that of what it costs
pub record CostLine : Type 0 where
  pub event : List ℕ
  pub cost : List ℕ

-- the two words behind `cost`, where there are exactly two
abbrev pub cost_line : List (List ℕ) → Option CostLine
cost_line [] = None
cost_line (word ∷ []) = None
cost_line (word ∷ event ∷ []) = None
cost_line (word ∷ event ∷ cost ∷ []) = if bytes_eq word (codes "cost") then Some (record { event = event; cost = cost }) else None
cost_line (word ∷ event ∷ cost ∷ more ∷ tokens) = None

-- the fault event of this name, if there is one
abbrev pub fault_event_of : Net → List ℕ → Option ℕ
fault_event_of net name = option_and_then (λ e. if is_fault net e then Some e else None) (place_of name net.event_names)

-- the number from 1 on, and up to the greatest cost, that a word spells
abbrev pub cost_number : List ℕ → Option ℕ
cost_number word = option_and_then (λ c. if nat_le 1 c then Some c else None) (number_up_to MOST_COST word)

-- an event with its cost, if both are known
abbrev pub priced : Option ℕ → Option ℕ → Option Price
priced None cost = None
priced (Some e) None = None
priced (Some e) (Some c) = Some (record { event = e; cost = c })

-- what a line gives: to its fault event, its cost
abbrev pub line_price : Net → Option CostLine → Option Price
line_price net None = None
line_price net (Some line) = priced (fault_event_of net line.event) (cost_number line.cost)

-- what the lines give, line by line; one that gives nothing is left out
abbrev pub prices_of : Net → List NumberedLine → List Price
prices_of net lines = filter_map (λ line. line_price net (cost_line (tokens_of line.text))) lines

-- the lines after the first
abbrev pub cost_body : List NumberedLine → List NumberedLine
cost_body [] = []
cost_body (header ∷ lines) = lines

-- what is given to event e: the first cost of it, if there is one
abbrev pub given_to : List Price → ℕ → Option ℕ
given_to prices e = option_map (λ price. price.cost) (find (λ price. price.event == e) prices)

-- What event e costs by a text: what the text gives it, or 1.
abbrev pub cost_of : Net → List ℕ → ℕ → ℕ
cost_of net bytes e = unwrap_or (given_to (prices_of net (cost_body (counted_lines 35 bytes))) e) 1

-- ---- faults

-- an earlier price is one of this event, if it is known
abbrev pub is_named : List Price → Option ℕ → Bool
is_named earlier None = false
is_named earlier (Some e) = is_some (given_to earlier e)

-- the first code, in the order 3, 5, 4, 6, whose condition holds of a line and what the lines before it give
abbrev pub cost_line_code : Net → List Price → CostLine → Option ℕ
cost_line_code net earlier line =
    if not (is_name_text line.event) then Some 3
    else if is_none (fault_event_of net line.event) then Some 5
    else if is_named earlier (fault_event_of net line.event) then Some 4
    else if is_none (cost_number line.cost) then Some 6
    else None

-- and 2 before them, where the line has no shape
abbrev pub cost_shape_code : Net → List Price → Option CostLine → Option ℕ
cost_shape_code net earlier None = Some 2
cost_shape_code net earlier (Some line) = cost_line_code net earlier line

-- a fault of this code on the line of this number, or what comes after
abbrev pub cost_fault_or : ℕ → Option ℕ → Option CostFault → Option CostFault
cost_fault_or number None later = later
cost_fault_or number (Some code) later = Some (record { line = number; code = code })

-- the first line that has a code, where the lines before give this
abbrev pub first_cost_code : Net → List Price → List NumberedLine → Option CostFault
first_cost_code net earlier [] = None
first_cost_code net earlier (line ∷ lines) =
    cost_fault_or line.number (cost_shape_code net earlier (cost_line (tokens_of line.text)))
    (first_cost_code net (earlier ++ option_to_list (line_price net (cost_line (tokens_of line.text)))) lines)

-- the first fault of the counted lines
abbrev pub cost_fault_of_lines : Net → List NumberedLine → Option CostFault
cost_fault_of_lines net [] = Some (record { line = 1; code = 1 })
cost_fault_of_lines net (header ∷ lines) = if is_cost_header (tokens_of header.text) then first_cost_code net [] lines else Some (record { line = header.number; code = 1 })

-- comments in costs begin with `#`
abbrev pub first_cost_fault : Net → List ℕ → Option CostFault
first_cost_fault net bytes = cost_fault_of_lines net (counted_lines 35 bytes)

-- A refusal names the first fault. Any call may run out of memory instead.
abbrev pub IsCostDue : Option CostFault → CostRefusal → Type 0
IsCostDue fault (Fault told) = fault ≡ Some told
IsCostDue fault Memory = ⊤

-- ---- the table

-- The table has a place for each event, and says what the text does. What isn't a fault event costs 1 by it.
pub record IsTableOf (net : Net) (bytes : List ℕ) (table : List (Option ℕ)) : Type 0 where
  pub long : length table ≡ length net.events
  pub each : (e : ℕ) → cost_at table e ≡ cost_of net bytes e
  pub others : (e : ℕ) → is_fault net e ≡ false → cost_at table e ≡ 1
