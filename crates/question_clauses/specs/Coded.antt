-- The truth of the meanings of a log where it isn't asked for.
use Rattle.std.specs.Prelude.{Bool, false}
use Rattle.prop_core.specs.VariableNames.{Meaning, in_state, happens, asked, matches, done, unmatched, closed, dropped, reaches, some_of_first, of_states, of_events, of_matches}

-- Nothing is asked for, no chain is closed, and no alarm stands for an event: each event that happens is passed on.
abbrev pub opened : (Meaning → Bool) → Meaning → Bool
opened value (in_state c q t) = value (in_state c q t)
opened value (happens e t) = value (happens e t)
opened value asked = false
opened value (matches i e t) = false
opened value (done i t) = false
opened value (unmatched e k t) = value (happens e t)
opened value (closed e k) = false
opened value (dropped i) = false
opened value (reaches i j) = value (reaches i j)
opened value (some_of_first (of_states c t) k) = value (some_of_first (of_states c t) k)
opened value (some_of_first (of_events t g) k) = value (some_of_first (of_events t g) k)
opened value (some_of_first (of_matches i t) k) = false
