-- Which events touch a component, and a test of those that touch two.
use Rattle.std.specs.Prelude.{◌≡◌, ⊤, ◌⊎◌, ℕ, suc, ◌==◌, ◌<◌, cond, List, [], ◌∷◌, ◌++◌, length, Some, None, slice_index_or}
use Rattle.des_net.specs.declared.parts.Part.{Part}
use Rattle.des_net.specs.Network.{Event, Net}
use Rattle.refinement.specs.declared.effect.Effect.{Effect}
use Rattle.refinement.specs.declared.touches.Touch.{Touch}
use Rattle.refinement.specs.Seen.{MovesAlike}

-- event number e touches a component by this action
abbrev pub touch : ℕ → ℕ → Touch
touch e action = record { event = e; action = action }

-- how event number e, which has these parts, touches component c
abbrev pub touched_by : ℕ → ℕ → List Part → List Touch
touched_by c e [] = []
touched_by c e (part ∷ parts) = cond (part.comp == c) (touch e part.action ∷ touched_by c e parts) (touched_by c e parts)

-- how these events, which are numbered from e on, touch component c, in their order
abbrev pub touches_from : ℕ → ℕ → List Event → List Touch
touches_from c e [] = []
touches_from c e (event ∷ events) = touched_by c e event.parts ++ touches_from c (suc e) events

-- for each component how the events touch it, in their order
pub record AreTouches (net : Net) (lists : List (List Touch)) : Type 0 where
  pub count : length lists ≡ length net.components
  pub each : (c : ℕ) → c < length net.components → slice_index_or lists c [] ≡ touches_from c 0 net.events

-- the lists for two networks with as many events
pub record AreCompared (net fine : Net) (touches further : List (List Touch)) : Type 0 where
  pub old : AreTouches net touches
  pub new : AreTouches fine further
  pub events : length fine.events ≡ length net.events

-- of the events that touch the one component, in their order, some touch the other one too, and no others do; each does the same to both, as far as is seen
abbrev pub TouchAlike : List Effect → List Effect → List Touch → List Touch → Type 0
TouchAlike old new [] [] = ⊤
TouchAlike old new [] (u ∷ us) = ⊥
TouchAlike old new (t ∷ ts) [] = MovesAlike old new (Some t.action) None × TouchAlike old new ts []
TouchAlike old new (t ∷ ts) (u ∷ us) =
    (MovesAlike old new (Some t.action) None × TouchAlike old new ts (u ∷ us))
    ⊎ ((t.event ≡ u.event) × MovesAlike old new (Some t.action) (Some u.action) × TouchAlike old new ts us)
