-- What stands while a plant is made, unit by unit: steps of the code, not of the subject.
use Rattle.std.specs.Prelude.{◌≡◌, ℕ, ◌+◌, ◌<◌, Bool, true, false, ◌&&◌, nat_le, Some, None, List, [], ◌∷◌, ◌++◌, map, length, codes, slice_set}
use Rattle.std.specs.List.{list_all}
use Rattle.des_base.specs.Names.{is_name_byte, place_of}
use Rattle.des_net.specs.Network.{Component, Net}
use Rattle.des_net.specs.Building.{with_event, event_refusal}
use Rattle.des_net.specs.Models.{takes}
use Rattle.log_order.specs.Adding.{names_of}
use Rattle.log_order.specs.Log.{Log, a_log}
use Rattle.gen_plant.specs.Plant.{most_units, units, bus_component, unit_component, unit_name, jam_name, trip_name, fix_name, event_names_of, events_of, trip_label, alarm_name, trip_alarm, in_a_row}

-- a word that a number of up to four digits may follow in a name
abbrev pub is_front : List ℕ → Bool
is_front word = nat_le (length word) 60 && list_all is_name_byte word

-- the component of this number is another one
abbrev pub with_component_at : Net → ℕ → Component → Net
with_component_at net comp c = record net { components = slice_set net.components comp c }

-- a unit has its states, and no transition yet
abbrev pub unit_without_moves : Component
unit_without_moves = record { state_names = unit_component.state_names; initial = unit_component.initial; transitions = []; action_names = [] }

-- the bus and the first units, without events
abbrev pub first_components : ℕ → Net
first_components z = record {
  component_names = codes "bus" ∷ map unit_name (units z);
  components = bus_component ∷ map (λ i. unit_component) (units z);
  event_names = [];
  events = [];
}

-- the events of one more unit
abbrev pub with_unit_events : Net → ℕ → Net
with_unit_events net unit = record net { event_names = net.event_names ++ event_names_of unit; events = net.events ++ events_of unit }

-- the network with the first of the unit's events, its jam
abbrev pub after_jam : Net → ℕ → Net
after_jam net unit = with_event net (jam_name unit) (takes unit 0 ∷ []) None true

-- the network with the first two of the unit's events, its jam and its trip
abbrev pub after_trip : Net → ℕ → Net
after_trip net unit = with_event (after_jam net unit) (trip_name unit) (takes unit 1 ∷ takes 0 0 ∷ []) (Some (trip_label unit)) false

-- none of the unit's events would be refused, one after another
pub record AwaitsUnit (net : Net) (unit : ℕ) : Type 0 where
  pub small : unit < 1000
  pub jam : event_refusal net (jam_name unit) (takes unit 0 ∷ []) ≡ None
  pub trip : event_refusal (after_jam net unit) (trip_name unit) (takes unit 1 ∷ takes 0 0 ∷ []) ≡ None
  pub fix : event_refusal (after_trip net unit) (fix_name unit) (takes unit 2 ∷ []) ≡ None

-- the log with the alarm of one more unit
abbrev pub with_tripped : Log → ℕ → Log
with_tripped log unit = a_log (log.alarms ++ trip_alarm unit ∷ []) (in_a_row (length log.alarms + 1))

-- the unit's alarm would not be refused, and those that are there stand in a row
pub record AwaitsAlarm (log : Log) (unit : ℕ) : Type 0 where
  pub small : unit < 1000
  pub few : length log.alarms < most_units
  pub free : place_of (alarm_name unit) (names_of log.alarms) ≡ None
  pub row : log.pairs ≡ in_a_row (length log.alarms)
