-- How large a network may be.
use Rattle.std.specs.Prelude.{ℕ}
use Rattle.des_net.specs.declared.TheConstants.{MOST_COMPONENTS, MOST_STATES, MOST_TRANSITIONS, MOST_EVENTS, MOST_PARTS}

-- how many components a network may have
abbrev pub most_components : ℕ
most_components = MOST_COMPONENTS

-- how many states one component may have
abbrev pub most_states : ℕ
most_states = MOST_STATES

-- how many transitions all components may have together
abbrev pub most_transitions : ℕ
most_transitions = MOST_TRANSITIONS

-- how many events a network may have
abbrev pub most_events : ℕ
most_events = MOST_EVENTS

-- how many parts one event may have
abbrev pub most_parts : ℕ
most_parts = MOST_PARTS
