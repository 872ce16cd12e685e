-- A component's transitions, state by state.
use Rattle.std.specs.Prelude.{◌≡◌, ℕ, ◌<◌, ◌==◌, ◌||◌, Bool, List, [], length, filter, slice_index_or}
use Rattle.des_net.specs.declared.parts.Trans.{Trans}
use Rattle.des_net.specs.Network.{Component}

-- the transition begins or ends in the state
abbrev pub is_near : ℕ → Trans → Bool
is_near state t = t.from == state || t.to == state

-- the transition takes the action
abbrev pub takes : ℕ → Trans → Bool
takes action t = t.action == action

-- how many pass the test
abbrev pub how_many : (Trans → Bool) → List Trans → ℕ
how_many test ts = length (filter test ts)

-- for each of so many states, those of the transitions that begin or end there
pub record AreNear (states : ℕ) (ts : List Trans) (near : List (List Trans)) : Type 0 where
  pub count : length near ≡ states
  pub each : (s : ℕ) → s < states → slice_index_or near s [] ≡ filter (is_near s) ts

-- for each of so many actions, how many of the transitions take it
pub record AreCounts (actions : ℕ) (ts : List Trans) (counts : List ℕ) : Type 0 where
  pub count : length counts ≡ actions
  pub each : (a : ℕ) → a < actions → slice_index_or counts a 0 ≡ how_many (takes a) ts

-- a component's transitions: for each state those that begin or end there, and for each action how many take it
pub record IsByState (c : Component) (lists : List (List Trans)) (counts : List ℕ) : Type 0 where
  pub near : AreNear (length c.state_names) c.transitions lists
  pub taking : AreCounts (length c.action_names) c.transitions counts
