-- Which variables took part in conflicts, how active that makes each, and which of them wait to be suggested.
--
-- Each conflict adds an increment to the activity of the variables that took part in it, and increments grow, so that late conflicts
-- weigh more (Eén and Sörensson, "An extensible SAT-solver", 2003).
use Rattle.std.specs.Prelude.{◌≡◌, ℕ, ◌+◌, ◌-◌, ◌/◌, ◌++◌, ◌⊎◌, ◌&&◌, Bool, true, false, not, List, [], length, map, min, replicate, Option, Some, None, nat_lt, slice_index, slice_index_or, slice_set, if◌then◌else◌}
use Rattle.std.specs.List.{fold}
use Rattle.prop_core.specs.declared.lit.Lit.{Lit}
use Rattle.prop_core.specs.Clauses.{Clause}
use Rattle.sat_solve.specs.Widening.{widened, KeepsValues}
use Rattle.sat_solve.specs.declared.activity.TheConstants.{FIRST_INCREMENT, GROWTH, LAST_INCREMENT, DIVISOR, MOST}

-- of each known variable its activity, whether it took part in the present conflict and whether it waits, and what this conflict adds
pub record ActivityState : Type 0 where
  pub activities : List ℕ
  pub counted : List Bool
  pub waiting : List Bool
  pub increment : ℕ

-- no variable is known, and there was no conflict yet
abbrev pub never_active : ActivityState
never_active = record { activities = []; counted = []; waiting = []; increment = FIRST_INCREMENT }

-- these activities, and 0 for each further variable below a number
abbrev pub with_zeros : List ℕ → ℕ → List ℕ
with_zeros activities vars = activities ++ replicate (vars - length activities) 0

-- variables that are added were never active, and don't wait
abbrev pub with_vars : ActivityState → ℕ → ActivityState
with_vars s vars = record s { activities = with_zeros s.activities vars; counted = widened s.counted vars; waiting = widened s.waiting vars }

-- If memory runs out, no more variables are known, but of some more it may be kept that they were never active.
pub record KeepsActivity (old new : ActivityState) (vars : ℕ) : Type 0 where
  pub activities : (new.activities ≡ old.activities) ⊎ (new.activities ≡ with_zeros old.activities vars)
  pub counted : KeepsValues old.counted new.counted vars
  pub waiting : new.waiting ≡ old.waiting
  pub increment : new.increment ≡ old.increment

-- it is kept of the variable whether it waits, so that it may take part in conflicts
abbrev pub is_tracked : ActivityState → ℕ → Bool
is_tracked s var = nat_lt var (length s.waiting)

-- a known variable that was ever active waits again
abbrev pub with_back : ActivityState → ℕ → ActivityState
with_back s var = if is_tracked s var && nat_lt 0 (slice_index s.activities var) then record s { waiting = slice_set s.waiting var true } else s

-- A known variable takes part in the present conflict: it grows more active, and waits. It counts once.
abbrev pub with_part : ActivityState → ℕ → ActivityState
with_part s var = if is_tracked s var && not (slice_index_or s.counted var true) then record s {
  activities = slice_set s.activities var (min (slice_index s.activities var + s.increment) MOST);
  counted = slice_set s.counted var true;
  waiting = slice_set s.waiting var true;
} else s

-- the variables of a clause take part in the present conflict
abbrev pub with_clause_part : ActivityState → Clause → ActivityState
with_clause_part s clause = fold (λ (t : ActivityState) (l : Lit). with_part t l.var) s clause

-- the variables of a clause take part, if there is one
abbrev pub with_option_part : ActivityState → Option Clause → ActivityState
with_option_part s None = s
with_option_part s (Some clause) = with_clause_part s clause

-- all activities are divided where increments have grown large, so that no sum comes near the greatest number
abbrev pub divided : ActivityState → ActivityState
divided s = if nat_lt LAST_INCREMENT s.increment then record s { activities = map (λ a. a / DIVISOR) s.activities; increment = s.increment / DIVISOR } else s

-- the present conflict is over, and the next one adds more
abbrev pub after_conflict : ActivityState → ActivityState
after_conflict s = divided (record s { counted = map (λ b. false) s.counted; increment = s.increment + s.increment / GROWTH })
