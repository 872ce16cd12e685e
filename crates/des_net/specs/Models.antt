-- Small networks, worked by hand, as values.
use Rattle.std.specs.Prelude.{ℕ, true, false, List, [], ◌∷◌, Some, None, codes}
use Rattle.des_net.specs.declared.parts.Part.{Part}
use Rattle.des_net.specs.declared.parts.Trans.{Trans}
use Rattle.des_net.specs.Network.{Event, Net, no_net}

-- a transition from a state by an action to a state
abbrev pub moves : ℕ → ℕ → ℕ → Trans
moves from action to = record { from = from; action = action; to = to }

-- a component takes part by an action
abbrev pub takes : ℕ → ℕ → Part
takes component action = record { comp = component; action = action }

-- an event that is seen by its label, and is no fault
abbrev pub seen : List ℕ → List Part → Event
seen label parts = record { parts = parts; label = Some label; fault = false }

-- an event that isn't seen, and is no fault
abbrev pub unseen : List Part → Event
unseen parts = record { parts = parts; label = None; fault = false }

-- an event that isn't seen, and is a fault
abbrev pub unseen_fault : List Part → Event
unseen_fault parts = record { parts = parts; label = None; fault = true }

-- a pump that beats until it jams; then it trips, and is fixed
abbrev pub pump : Net
pump = record {
  component_names = codes "p" ∷ [];
  components = record {
    state_names = codes "ok" ∷ codes "bad" ∷ codes "off" ∷ [];
    initial = true ∷ false ∷ false ∷ [];
    transitions = moves 0 0 1 ∷ moves 1 1 2 ∷ moves 2 2 0 ∷ moves 0 3 0 ∷ [];
    action_names = codes "jam" ∷ codes "trip" ∷ codes "fix" ∷ codes "beat" ∷ [];
  } ∷ [];
  event_names = codes "jam" ∷ codes "trip" ∷ codes "fix" ∷ codes "beat" ∷ [];
  events = unseen_fault (takes 0 0 ∷ []) ∷ seen (codes "T") (takes 0 1 ∷ []) ∷ seen (codes "F") (takes 0 2 ∷ []) ∷ seen (codes "B") (takes 0 3 ∷ []) ∷ [];
}

-- no component and no event
abbrev pub nothing : Net
nothing = no_net

-- two components that don't meet
abbrev pub apart : Net
apart = record {
  component_names = codes "p" ∷ codes "q" ∷ [];
  components = record { state_names = codes "s" ∷ []; initial = true ∷ []; transitions = moves 0 0 0 ∷ []; action_names = codes "a" ∷ [] }
      ∷ record { state_names = codes "s" ∷ []; initial = true ∷ []; transitions = moves 0 0 0 ∷ []; action_names = codes "b" ∷ [] } ∷ [];
  event_names = codes "ea" ∷ codes "eb" ∷ [];
  events = seen (codes "A") (takes 0 0 ∷ []) ∷ seen (codes "B") (takes 1 0 ∷ []) ∷ [];
}

-- two components that meet in a third event
abbrev pub meeting : Net
meeting = record {
  component_names = codes "p" ∷ codes "q" ∷ [];
  components = record { state_names = codes "s" ∷ []; initial = true ∷ []; transitions = moves 0 0 0 ∷ moves 0 1 0 ∷ []; action_names = codes "a" ∷ codes "c" ∷ [] }
      ∷ record { state_names = codes "s" ∷ []; initial = true ∷ []; transitions = moves 0 0 0 ∷ moves 0 1 0 ∷ []; action_names = codes "b" ∷ codes "c" ∷ [] } ∷ [];
  event_names = codes "ea" ∷ codes "eb" ∷ codes "ec" ∷ [];
  events = seen (codes "A") (takes 0 0 ∷ []) ∷ seen (codes "B") (takes 1 0 ∷ []) ∷ seen (codes "C") (takes 0 1 ∷ takes 1 1 ∷ []) ∷ [];
}

-- two initial states, of which only the second leads on
abbrev pub two_starts : Net
two_starts = record {
  component_names = codes "c" ∷ [];
  components = record { state_names = codes "u" ∷ codes "v" ∷ []; initial = true ∷ true ∷ []; transitions = moves 1 0 1 ∷ []; action_names = codes "a" ∷ [] } ∷ [];
  event_names = codes "e" ∷ [];
  events = seen (codes "A") (takes 0 0 ∷ []) ∷ [];
}

-- a fault leads where an alarm leads too
abbrev pub masked : Net
masked = record {
  component_names = codes "c" ∷ [];
  components = record {
    state_names = codes "s0" ∷ codes "s1" ∷ codes "s2" ∷ [];
    initial = true ∷ false ∷ false ∷ [];
    transitions = moves 0 0 1 ∷ moves 1 1 2 ∷ moves 0 2 1 ∷ [];
    action_names = codes "y" ∷ codes "x" ∷ codes "f" ∷ [];
  } ∷ [];
  event_names = codes "ey" ∷ codes "ex" ∷ codes "ef" ∷ [];
  events = seen (codes "B") (takes 0 0 ∷ []) ∷ seen (codes "A") (takes 0 1 ∷ []) ∷ unseen_fault (takes 0 2 ∷ []) ∷ [];
}

-- the initial state settles which of two events can happen
abbrev pub settled : Net
settled = record {
  component_names = codes "c" ∷ [];
  components = record { state_names = codes "u" ∷ codes "v" ∷ []; initial = true ∷ true ∷ []; transitions = moves 0 0 0 ∷ moves 1 1 1 ∷ []; action_names = codes "a" ∷ codes "b" ∷ [] } ∷ [];
  event_names = codes "ea" ∷ codes "eb" ∷ [];
  events = seen (codes "A") (takes 0 0 ∷ []) ∷ seen (codes "B") (takes 0 1 ∷ []) ∷ [];
}

-- one action leads to either of two states
abbrev pub fork : Net
fork = record {
  component_names = codes "c" ∷ [];
  components = record {
    state_names = codes "s" ∷ codes "l" ∷ codes "r" ∷ [];
    initial = true ∷ false ∷ false ∷ [];
    transitions = moves 0 0 1 ∷ moves 0 0 2 ∷ moves 1 1 1 ∷ moves 2 2 2 ∷ [];
    action_names = codes "go" ∷ codes "a" ∷ codes "b" ∷ [];
  } ∷ [];
  event_names = codes "g" ∷ codes "ea" ∷ codes "eb" ∷ [];
  events = unseen (takes 0 0 ∷ []) ∷ unseen (takes 0 1 ∷ []) ∷ unseen (takes 0 2 ∷ []) ∷ [];
}
