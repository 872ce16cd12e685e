-- Lists that grow and transitions that are gone through, one after another: steps of the code, not of the subject.
use Rattle.std.specs.Prelude.{◌≡◌, ℕ, ◌<◌, Bool, false, not, ◌&&◌, ◌||◌, ◌==◌, cond, nat_lt, List, [], ◌∷◌, ◌++◌, length, drop, slice_set, slice_index_or}
use Rattle.des_net.specs.declared.parts.Part.{Part}
use Rattle.des_net.specs.declared.parts.Trans.{Trans}
use Rattle.refinement.specs.declared.effect.Effect.{Effect}
use Rattle.refinement.specs.declared.touches.Touch.{Touch}
use Rattle.refinement.specs.Seen.{effect_of}
use Rattle.refinement.specs.Touching.{TouchAlike, touch}

-- the lists with one more at the end of the one at a place
abbrev pub with_one : {X : Type 0} → List (List X) → ℕ → X → List (List X)
with_one lists at x = slice_set lists at (slice_index_or lists at [] ++ x ∷ [])

-- for each component how events touch it, with one more event, which has these parts
abbrev pub with_touches : ℕ → List Part → List (List Touch) → List (List Touch)
with_touches e [] lists = lists
with_touches e (part ∷ parts) lists = with_touches e parts (with_one lists part.comp (touch e part.action))

-- for each state the transitions that begin or end there, with one more
abbrev pub with_near : List (List Trans) → Trans → List (List Trans)
with_near near t = cond (t.to == t.from) (with_one near t.from t) (with_one (with_one near t.from t) t.to t)

-- no transition
abbrev pub no_effect : Effect
no_effect = record { stays_out = false; enters = false; leaves = false; stays_in = false }

-- the effect with one more change
abbrev pub with_change : Effect → Bool → Bool → Effect
with_change e before after = record {
  stays_out = e.stays_out || (not before && not after);
  enters = e.enters || (not before && after);
  leaves = e.leaves || (before && not after);
  stays_in = e.stays_in || (before && after);
}

-- the effects with what a transition does
abbrev pub marked : ℕ → List Effect → Trans → List Effect
marked state effects t = slice_set effects t.action (with_change (slice_index_or effects t.action no_effect) (t.from == state) (t.to == state))

-- the effects of so many actions over these transitions
pub record IsMarked (count state : ℕ) (ts : List Trans) (effects : List Effect) : Type 0 where
  pub long : length effects ≡ count
  pub each : (a : ℕ) → a < count → slice_index_or effects a no_effect ≡ effect_of state ts a

-- the effect, where it is known whether a transition stays out of the state
abbrev pub staying_out : Effect → Bool → Effect
staying_out e out = record { stays_out = out; enters = e.enters; leaves = e.leaves; stays_in = e.stays_in }

-- an action's effect, where this many of its transitions were gone through, and the others stay out
abbrev pub with_others : List Effect → List ℕ → List ℕ → ℕ → Effect
with_others effects counts taking a = staying_out (slice_index_or effects a no_effect) (nat_lt (slice_index_or counts a 0) (slice_index_or taking a 0))

-- each action's effect is that with the others
pub record HasOthers (old : List Effect) (counts taking : List ℕ) (new : List Effect) : Type 0 where
  pub long : length new ≡ length old
  pub each : (a : ℕ) → a < length old → slice_index_or new a no_effect ≡ with_others old counts taking a

-- where the events behind this one are alike, from a place in the list on, so are they with it, from the place before
abbrev pub Passes : List Effect → List Effect → Touch → List Touch → ℕ → ℕ → Type 0
Passes old new t us next after = (ts : List Touch) → TouchAlike old new ts (drop after us) → TouchAlike old new (t ∷ ts) (drop next us)
