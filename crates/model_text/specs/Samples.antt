-- Two worked models: the lines of their texts, and the networks that these say.
use Rattle.std.specs.Prelude.{ℕ, Bool, true, false, List, [], ◌∷◌, ◌++◌, codes, flat_map, Option, Some, None}
use Rattle.des_net.specs.Network.{Component, Event, Net}
use Rattle.model_text.specs.declared.fault.ModelFault.{ModelFault}

-- these lines, each with a line feed
abbrev pub text_of : List (List ℕ) → List ℕ
text_of lines = flat_map (λ line. line ++ 10 ∷ []) lines

-- these lines, each with a carriage return and a line feed
abbrev pub wide_text_of : List (List ℕ) → List ℕ
wide_text_of lines = flat_map (λ line. line ++ 13 ∷ 10 ∷ []) lines

-- the outcome that there is a fault, of this code on this line
abbrev pub sample_fault : ℕ → ℕ → Option ModelFault
sample_fault line code = Some (record { line = line; code = code })

-- a valve that jams, trips and is fixed
abbrev pub valve_lines : List (List ℕ)
valve_lines =
    codes "des 1" ∷ codes "component p" ∷ codes "state ok init" ∷ codes "state bad" ∷ codes "state off"
    ∷ codes "trans ok jam bad" ∷ codes "trans bad trip off" ∷ codes "trans off fix ok" ∷ codes "trans ok beat ok"
    ∷ codes "event jam fault : p.jam" ∷ codes "event trip alarm T : p.trip" ∷ codes "event fix alarm F : p.fix" ∷ codes "event beat alarm B : p.beat" ∷ []

-- the valve's component: three states, and a beat that leaves the first as it is
abbrev pub valve_component : Component
valve_component = record {
  state_names = codes "ok" ∷ codes "bad" ∷ codes "off" ∷ [];
  initial = true ∷ false ∷ false ∷ [];
  transitions = record { from = 0; action = 0; to = 1 } ∷ record { from = 1; action = 1; to = 2 } ∷ record { from = 2; action = 2; to = 0 } ∷ record { from = 0; action = 3; to = 0 } ∷ [];
  action_names = codes "jam" ∷ codes "trip" ∷ codes "fix" ∷ codes "beat" ∷ [];
}

-- an event in which the valve takes this action
abbrev pub valve_event : ℕ → Option (List ℕ) → Bool → Event
valve_event action label fault = record { parts = record { comp = 0; action = action } ∷ []; label = label; fault = fault }

-- the network that the valve's lines say
abbrev pub valve : Net
valve = record {
  component_names = codes "p" ∷ [];
  components = valve_component ∷ [];
  event_names = codes "jam" ∷ codes "trip" ∷ codes "fix" ∷ codes "beat" ∷ [];
  events = valve_event 0 None true ∷ valve_event 1 (Some (codes "T")) false ∷ valve_event 2 (Some (codes "F")) false ∷ valve_event 3 (Some (codes "B")) false ∷ [];
}

-- a pump and a tank that fill together, a component's lines after an event, and a state that no transition leaves
abbrev pub pair_lines : List (List ℕ)
pair_lines =
    codes "des 1" ∷ codes "# two components" ∷ codes "component pump" ∷ codes "state on init" ∷ codes "trans on run on" ∷ codes "event run : pump.run"
    ∷ [] ∷ codes "component tank" ∷ codes "state low init" ∷ codes "state full init" ∷ codes "trans low fill full" ∷ codes "event fill alarm A fault : tank.fill pump.run" ∷ []

-- the pump's component: it is on, and runs
abbrev pub pump_component : Component
pump_component = record {
  state_names = codes "on" ∷ [];
  initial = true ∷ [];
  transitions = record { from = 0; action = 0; to = 0 } ∷ [];
  action_names = codes "run" ∷ [];
}

-- the tank's component: low or full at the start, and filled where it is low
abbrev pub tank_component : Component
tank_component = record {
  state_names = codes "low" ∷ codes "full" ∷ [];
  initial = true ∷ true ∷ [];
  transitions = record { from = 0; action = 0; to = 1 } ∷ [];
  action_names = codes "fill" ∷ [];
}

-- the network that the lines of the pump and the tank say
abbrev pub pair : Net
pair = record {
  component_names = codes "pump" ∷ codes "tank" ∷ [];
  components = pump_component ∷ tank_component ∷ [];
  event_names = codes "run" ∷ codes "fill" ∷ [];
  events =
      record { parts = record { comp = 0; action = 0 } ∷ []; label = None; fault = false }
      ∷ record { parts = record { comp = 1; action = 0 } ∷ record { comp = 0; action = 0 } ∷ []; label = Some (codes "A"); fault = true } ∷ [];
}
