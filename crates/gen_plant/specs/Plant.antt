-- Generated plants: a bus, and units that trip over it, one after another. A plant is given by how many units it has, and by a number from which it follows which of them trip.
use Rattle.std.specs.Prelude.{ℕ, zero, suc, ◌+◌, ◌-◌, ◌*◌, ◌%◌, Bool, true, false, ◌==◌, List, [], ◌∷◌, ◌++◌, length, map, filter, flat_map, codes, decimal}
use Rattle.std.specs.List.{range_with_len}
use Rattle.des_base.specs.Lists.{numbers_below}
use Rattle.des_net.specs.Network.{Component, Event, Net}
use Rattle.des_net.specs.Models.{moves, takes, seen, unseen_fault}
use Rattle.log_order.specs.Log.{Alarm, Log, a_log, an_alarm}

-- how many units a plant may have
abbrev pub most_units : ℕ
most_units = 900

-- the units are numbered from 1
abbrev pub units : ℕ → List ℕ
units z = range_with_len 1 z

-- ---- which units trip

-- the number below 97 that follows one, as in a mixed congruential generator (Rotenberg, "A new pseudo-random number generator", 1960)
abbrev pub number_after : ℕ → ℕ
number_after x = (5 * x + 3) % 97

-- number i of the sequence that begins with the start's rest by 97, counted from 0; unit i has number i
abbrev pub sequence_number : ℕ → ℕ → ℕ
sequence_number start zero = start % 97
sequence_number start (suc i) = number_after (sequence_number start i)

-- unit i trips where 4 divides number i of the sequence
abbrev pub trips : ℕ → ℕ → Bool
trips start i = sequence_number start i % 4 == 0

-- the units, of z, that trip from this start, in order
abbrev pub tripping : ℕ → ℕ → List ℕ
tripping z start = filter (trips start) (units z)

-- ---- the network

-- the bus is up, and notes each trip
abbrev pub bus_component : Component
bus_component = record { state_names = codes "up" ∷ []; initial = true ∷ []; transitions = moves 0 0 0 ∷ []; action_names = codes "note" ∷ [] }

-- a unit jams, then trips, and then is fixed
abbrev pub unit_component : Component
unit_component = record {
  state_names = codes "ok" ∷ codes "bad" ∷ codes "off" ∷ [];
  initial = true ∷ false ∷ false ∷ [];
  transitions = moves 0 0 1 ∷ moves 1 1 2 ∷ moves 2 2 0 ∷ [];
  action_names = codes "jam" ∷ codes "trip" ∷ codes "fix" ∷ [];
}

-- the name of unit i's component
abbrev pub unit_name : ℕ → List ℕ
unit_name i = codes "u" ++ decimal i

-- the name of the event in which unit i jams
abbrev pub jam_name : ℕ → List ℕ
jam_name i = codes "jam-" ++ decimal i

-- the name of the event in which unit i trips
abbrev pub trip_name : ℕ → List ℕ
trip_name i = codes "trip-" ++ decimal i

-- the name of the event in which unit i is fixed
abbrev pub fix_name : ℕ → List ℕ
fix_name i = codes "fix-" ++ decimal i

-- the names of unit i's three events, in the order of the events
abbrev pub event_names_of : ℕ → List (List ℕ)
event_names_of i = jam_name i ∷ trip_name i ∷ fix_name i ∷ []

-- the label by which the trip of unit i is seen
abbrev pub trip_label : ℕ → List ℕ
trip_label i = codes "T-" ++ decimal i

-- the label by which the repair of unit i is seen
abbrev pub fix_label : ℕ → List ℕ
fix_label i = codes "F-" ++ decimal i

-- Unit i jams, which is a fault and isn't seen; it trips, which the bus notes; and it is fixed. The bus is component 0, and unit i is component i.
abbrev pub events_of : ℕ → List Event
events_of i = unseen_fault (takes i 0 ∷ []) ∷ seen (trip_label i) (takes i 1 ∷ takes 0 0 ∷ []) ∷ seen (fix_label i) (takes i 2 ∷ []) ∷ []

-- the plant of z units: the bus and then the units, each with its three events
abbrev pub plant_net : ℕ → Net
plant_net z = record {
  component_names = codes "bus" ∷ map unit_name (units z);
  components = bus_component ∷ map (λ i. unit_component) (units z);
  event_names = flat_map event_names_of (units z);
  events = flat_map events_of (units z);
}

-- ---- the log

-- the name of unit i's alarm
abbrev pub alarm_name : ℕ → List ℕ
alarm_name i = codes "a" ++ decimal i

-- each unit that trips has an alarm, which can stand for its trip alone
abbrev pub trip_alarm : ℕ → Alarm
trip_alarm i = an_alarm (alarm_name i) (trip_label i ∷ []) false

-- of `count` alarms each is before the next
abbrev pub in_a_row : ℕ → List (ℕ × ℕ)
in_a_row count = map (λ k. (k, k + 1)) (numbers_below (count - 1))

-- the log of the plant of z units from this start: an alarm for each unit that trips, each before the next
abbrev pub plant_log : ℕ → ℕ → Log
plant_log z start = a_log (map trip_alarm (tripping z start)) (in_a_row (length (tripping z start)))
