-- A small network, a refinement of it, and networks that come close to one.
use Rattle.std.proofs.Common.{ℕ, true, false, List, [], ◌∷◌}
use Rattle.std.specs.Prelude.{codes}
use Rattle.des_net.specs.declared.parts.Part.{Part}
use Rattle.des_net.specs.Network.{Component, Net}
use Rattle.des_net.specs.Models.{moves, takes, seen, unseen, unseen_fault}

-- a valve that is open, shut or stuck
abbrev pub valve : Component
valve = record {
  state_names = codes "open" ∷ codes "shut" ∷ codes "stuck" ∷ [];
  initial = true ∷ false ∷ false ∷ [];
  transitions = moves 0 0 1 ∷ moves 1 1 0 ∷ moves 1 2 2 ∷ moves 2 0 2 ∷ moves 2 3 0 ∷ [];
  action_names = codes "close" ∷ codes "open" ∷ codes "stick" ∷ codes "mend" ∷ [];
}

-- a pump that is switched on and off
abbrev pub pump : Component
pump = record { state_names = codes "on" ∷ codes "off" ∷ []; initial = true ∷ false ∷ []; transitions = moves 0 0 1 ∷ moves 1 0 0 ∷ []; action_names = codes "switch" ∷ [] }

-- it is in "yes" while the valve is stuck: an event brings it there, and another one from there
abbrev pub stuck : Component
stuck = record { state_names = codes "no" ∷ codes "yes" ∷ []; initial = true ∷ false ∷ []; transitions = moves 0 0 1 ∷ moves 1 1 0 ∷ []; action_names = codes "enter" ∷ codes "leave" ∷ [] }

-- valve and pump, with further components, and further parts of the events `close`, `stick`, `mend` and `switch`
abbrev pub with_parts : List Component → (close stick mend switch : List Part) → Net
with_parts components close stick mend switch = record {
  component_names = codes "valve" ∷ codes "pump" ∷ (if_any components);
  components = valve ∷ pump ∷ components;
  event_names = codes "close" ∷ codes "open" ∷ codes "stick" ∷ codes "force" ∷ codes "mend" ∷ codes "switch" ∷ [];
  events = seen (codes "C") (takes 0 0 ∷ takes 1 0 ∷ close)
      ∷ seen (codes "O") (takes 0 1 ∷ [])
      ∷ unseen_fault (takes 0 2 ∷ stick)
      ∷ seen (codes "F") (takes 0 1 ∷ takes 1 0 ∷ [])
      ∷ unseen (takes 0 3 ∷ mend)
      ∷ seen (codes "S") (takes 1 0 ∷ switch) ∷ [];
}
  where
    if_any : List Component → List (List ℕ)
    if_any [] = []
    if_any (component ∷ components) = codes "valve-is-stuck" ∷ []

-- the network
abbrev pub plant : Net
plant = with_parts [] [] [] [] []

-- its refinement
abbrev pub finer : Net
finer = with_parts (stuck ∷ []) [] (takes 2 0 ∷ []) (takes 2 1 ∷ []) []

-- ---- none of these is one, or a network

-- the new component allows `close` in "no" alone, and the valve allows it when it is stuck
abbrev pub forbids : Net
forbids = with_parts (record stuck { transitions = moves 0 0 1 ∷ moves 1 1 0 ∷ moves 0 2 0 ∷ []; action_names = codes "enter" ∷ codes "leave" ∷ codes "keep" ∷ [] } ∷ []) (takes 2 2 ∷ []) (takes 2 0 ∷ []) (takes 2 1 ∷ []) []

-- it starts in "yes", where the valve starts open
abbrev pub starts_wrong : Net
starts_wrong = with_parts (record stuck { initial = false ∷ true ∷ [] } ∷ []) [] (takes 2 0 ∷ []) (takes 2 1 ∷ []) []

-- `stick` doesn't move it
abbrev pub left_out : Net
left_out = with_parts (stuck ∷ []) [] [] (takes 2 1 ∷ []) []

-- `switch` has a part of it and none of the valve, though it forbids nothing
abbrev pub astray : Net
astray = with_parts (record stuck { transitions = moves 0 0 1 ∷ moves 1 1 0 ∷ moves 0 2 0 ∷ moves 1 2 1 ∷ []; action_names = codes "enter" ∷ codes "leave" ∷ codes "stay" ∷ [] } ∷ []) [] (takes 2 0 ∷ []) (takes 2 1 ∷ []) (takes 2 2 ∷ [])

-- two events have parts of a component that isn't there: this isn't a network
abbrev pub beyond : Net
beyond = with_parts [] [] (takes 7 0 ∷ []) [] (takes 7 0 ∷ [])

-- an event has another name
abbrev pub renamed : Net
renamed = record finer { event_names = codes "close" ∷ codes "open" ∷ codes "jam" ∷ codes "force" ∷ codes "mend" ∷ codes "switch" ∷ [] }

-- `stick` is no fault any more
abbrev pub excused : Net
excused = record finer {
  events = seen (codes "C") (takes 0 0 ∷ takes 1 0 ∷ [])
      ∷ seen (codes "O") (takes 0 1 ∷ [])
      ∷ unseen (takes 0 2 ∷ takes 2 0 ∷ [])
      ∷ seen (codes "F") (takes 0 1 ∷ takes 1 0 ∷ [])
      ∷ unseen (takes 0 3 ∷ takes 2 1 ∷ [])
      ∷ seen (codes "S") (takes 1 0 ∷ []) ∷ [];
}
