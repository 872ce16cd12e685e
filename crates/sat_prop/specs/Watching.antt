-- What holds of attached clauses and their watches, so that only those have to be looked at of which a watched literal became false.
use Rattle.std.specs.Prelude.{◌≡◌, ◌≢◌, ℕ, ◌+◌, ◌<◌, ◌≤◌, ◌⊎◌, Bool, true, false, List, [], length, take, Some, Contains, IfSome}
use Rattle.std.specs.List.{list_any, list_all}
use Rattle.prop_core.specs.declared.lit.Lit.{Lit}
use Rattle.prop_core.specs.Clauses.{Clause, negation, same_literal, is_true, is_false, is_open}
use Rattle.prop_core.specs.Derivation.{clause_numbered}
use Rattle.prop_core.specs.Trail.{is_forced_by}
use Rattle.sat_prop.specs.TrailState.{TrailState, literal_at}
use Rattle.sat_prop.specs.Watches.{WatchState, IsLive, watch_at, other_literal, is_among, dropped, without_clause}
use Rattle.sat_prop.specs.Quiet.{IsConflict}
use Rattle.sat_prop.specs.Changes.{IsFront, Propagates}
use Rattle.sat_prop.specs.declared.watch_lists.Watch.{Watch}
use Rattle.sat_prop.specs.declared.watched.Inspected.{Inspected}
use Rattle.sat_prop.specs.declared.watched.Inspected.TheVariants.{Stays, Moves, False}

-- The numbers of the short clauses, for how many more of them there is room, the watches, and how many literals have been looked at.
pub record WatchedState : Type 0 where
  pub short : List ℕ
  pub spare : ℕ
  pub lists : WatchState
  pub seen : ℕ

-- nothing is attached, there is no room, and no literal was looked at
abbrev pub no_watched : WatchedState
no_watched = record { short = []; spare = 0; lists = record { watches = []; waiting = []; vars = 0; spare = 0 }; seen = 0 }

-- The clause of a watch is attached. It is watched at two different literals.
pub record IsWatch (clauses : List Clause) (attached : List ℕ) (watches : List Watch) (number : ℕ) : Type 0 where
  pub joined : Contains attached (watch_at watches number).clause
  pub clause : Clause
  pub held : clause_numbered clauses (watch_at watches number).clause ≡ Some clause
  pub among : list_any (same_literal (watch_at watches number).lit) clause ≡ true
  pub twin : (watch_at watches number).twin < length watches
  pub back : (watch_at watches (watch_at watches number).twin).twin ≡ number
  pub same : (watch_at watches (watch_at watches number).twin).clause ≡ (watch_at watches number).clause
  pub apart : same_literal (watch_at watches number).lit (other_literal watches number) ≡ false

-- The other literal makes up for one that became false by the first literals: these make it true, or make all others false; and it is true.
pub record MakesUp (literals first : List Lit) (clause : Clause) (other : Lit) : Type 0 where
  pub early : (is_true first other ≡ true) ⊎ (is_forced_by first other clause ≡ true)
  pub now : is_true literals other ≡ true

-- Where one of the first `seen` literals makes the watched one false, the other makes up for it.
abbrev pub IsSettled : List Clause → List Lit → ℕ → List Watch → ℕ → Type 0
IsSettled clauses literals seen watches number = (place : ℕ) (clause : Clause) → place < seen → literal_at literals place ≡ negation (watch_at watches number).lit →
    clause_numbered clauses (watch_at watches number).clause ≡ Some clause → MakesUp literals (take (place + 1) literals) clause (other_literal watches number)

-- a clause of this number is watched
abbrev pub HasWatch : List Watch → ℕ → Type 0
HasWatch watches clause = (number : ℕ) × (number < length watches) × ((watch_at watches number).clause ≡ clause)

-- a clause without two different literals
abbrev pub IsNarrow : Clause → Type 0
IsNarrow clause = (clause ≡ []) ⊎ ((l : Lit) × (list_any (same_literal l) clause ≡ true) × (list_all (same_literal l) clause ≡ true))

-- the clause of this number is held, and has no two different literals
pub record IsShort (clauses : List Clause) (number : ℕ) : Type 0 where
  pub clause : Clause
  pub held : clause_numbered clauses number ≡ Some clause
  pub narrow : IsNarrow clause

-- the clause of this number is short or watched
abbrev pub IsLookedAt : List ℕ → List Watch → ℕ → Type 0
IsLookedAt short watches clause = (Contains short clause) ⊎ (HasWatch watches clause)

-- each literal of the first clause stands in the second
abbrev pub is_part_of : Clause → Clause → Bool
is_part_of inner outer = list_all (λ l. list_any (same_literal l) outer) inner

-- the clauses of both numbers are held, and the first subsumes the second
pub record Subsumes (clauses : List Clause) (inner outer : ℕ) : Type 0 where
  pub inner_clause : Clause
  pub inner_held : clause_numbered clauses inner ≡ Some inner_clause
  pub outer_clause : Clause
  pub outer_held : clause_numbered clauses outer ≡ Some outer_clause
  pub part : is_part_of inner_clause outer_clause ≡ true

-- The watches of both numbers weren't dropped, and the clause of the newer one subsumes that of the other, which is another clause.
pub record IsSubsumed (clauses : List Clause) (watches : List Watch) (older newer : ℕ) : Type 0 where
  pub older_within : older < length watches
  pub newer_within : newer < length watches
  pub older_live : IsLive watches older
  pub newer_live : IsLive watches newer
  pub apart : (watch_at watches newer).clause ≢ (watch_at watches older).clause
  pub subsumes : Subsumes clauses (watch_at watches newer).clause (watch_at watches older).clause

-- A clause that is short or watched, mostly itself, subsumes the one of this number, which is quiet wherever that one is.
pub record IsCovered (clauses : List Clause) (short : List ℕ) (watches : List Watch) (number : ℕ) : Type 0 where
  pub cover : ℕ
  pub looked : IsLookedAt short watches cover
  pub subsumes : Subsumes clauses cover number

-- Each attached clause is short or watched, or subsumed by one that is; there is room for more; and each watch is settled by the literals
-- that have been looked at, as is one that was dropped, which has no clause.
pub record AreWatched (t : TrailState) (w : WatchedState) : Type 0 where
  pub front : w.seen ≤ length t.literals
  pub vars : t.vars ≤ w.lists.vars
  pub room_short : t.spare ≤ w.spare
  pub room_watches : t.spare ≤ w.lists.spare
  pub short : (number : ℕ) → Contains w.short number → Contains t.attached number
  pub narrow : (number : ℕ) → Contains w.short number → IsShort t.clauses number
  pub all : (number : ℕ) → Contains t.attached number → IsCovered t.clauses w.short w.lists.watches number
  pub each : (number : ℕ) → number < length w.lists.watches → IsLive w.lists.watches number → IsWatch t.clauses t.attached w.lists.watches number
  pub settled : (number : ℕ) → number < length w.lists.watches → IsSettled t.clauses t.literals w.seen w.lists.watches number

-- those that wait no more are settled by the next literal too
abbrev pub AreVisited : TrailState → WatchedState → Type 0
AreVisited t w = (number : ℕ) → number < length w.lists.watches → is_among number w.lists.waiting ≡ false → IsSettled t.clauses t.literals (w.seen + 1) w.lists.watches number

-- The first literal that hasn't been looked at makes this one false, over a database of clauses that may have grown.
pub record IsVisiting (t : TrailState) (w : WatchedState) (clauses : List Clause) (l : Lit) : Type 0 where
  pub watched : AreWatched t w
  pub grown : IsFront t.clauses clauses
  pub within : w.seen < length t.literals
  pub falls : literal_at t.literals w.seen ≡ negation l

-- Watches move and literals are forced, while the same literals count as looked at.
pub record Visits (t : TrailState) (w : WatchedState) (after : TrailState) (now : WatchedState) : Type 0 where
  pub watched : AreWatched after now
  pub grown : Propagates t after
  pub short : now.short ≡ w.short
  pub seen : now.seen ≡ w.seen

-- both watches of the clause are dropped that the one of this number watches, and nothing else changes
abbrev pub unwatched : WatchedState → ℕ → WatchedState
unwatched w number = record w { lists = record w.lists { watches = without_clause w.lists.watches number } }

-- some watches are dropped, and nothing else changes
pub record OnlyDrops (old new : WatchedState) : Type 0 where
  pub others : new ≡ record old { lists = record old.lists { watches = new.lists.watches } }
  pub each : (number : ℕ) → (watch_at new.lists.watches number ≡ watch_at old.lists.watches number) ⊎ (watch_at new.lists.watches number ≡ dropped (watch_at old.lists.watches number))

-- two different literals of a clause
pub record AreTwo (clause : Clause) (first second : Lit) : Type 0 where
  pub first_among : list_any (same_literal first) clause ≡ true
  pub second_among : list_any (same_literal second) clause ≡ true
  pub apart : same_literal first second ≡ false

-- two different literals of a clause: the first is open, and up to the place of one of the first `seen` literals, before which none makes
-- the second false, all others are false
pub record IsForcing (literals : List Lit) (clause : Clause) (seen : ℕ) (first second : Lit) : Type 0 where
  pub two : AreTwo clause first second
  pub first_open : is_open literals first ≡ true
  pub place : ℕ
  pub within : place < seen
  pub before : (earlier : ℕ) → earlier < place → earlier < length literals → literal_at literals earlier ≡ negation second → ⊥
  pub others : is_forced_by (take (place + 1) literals) first clause ≡ true

-- another literal of the clause, which no literal up to a place makes false
pub record IsReplacement (literals : List Lit) (clause : Clause) (other : Lit) (place : ℕ) (l : Lit) : Type 0 where
  pub among : list_any (same_literal l) clause ≡ true
  pub apart : same_literal other l ≡ false
  pub not_false : is_false (take (place + 1) literals) l ≡ false

-- what becomes of a watch: it is settled by the next literal too, another literal replaces it, or its clause is false
abbrev pub IsInspectedWatch : TrailState → WatchedState → ℕ → Inspected → Type 0
IsInspectedWatch t w number Stays = IsSettled t.clauses t.literals (w.seen + 1) w.lists.watches number
IsInspectedWatch t w number (Moves l) =
    (literal_at t.literals w.seen ≡ negation (watch_at w.lists.watches number).lit)
    × ((clause : Clause) × (clause_numbered t.clauses (watch_at w.lists.watches number).clause ≡ Some clause) × IsReplacement t.literals clause (other_literal w.lists.watches number) w.seen l)
IsInspectedWatch t w number False = IsConflict t (watch_at w.lists.watches number).clause

-- What comes of a watch whose literal is false, in a clause of this number that is watched at another one too: the literals up to a place force
-- the other one, and it is true; or nothing changes, and another literal replaces it; or the clause is false.
abbrev pub IsReplaced : TrailState → TrailState → ℕ → Lit → ℕ → Inspected → Type 0
IsReplaced t new number other place Stays =
    (IfSome (clause_numbered t.clauses number) (λ clause. is_forced_by (take (place + 1) t.literals) other clause ≡ true)) × (is_true new.literals other ≡ true)
IsReplaced t new number other place (Moves l) = (new ≡ t) × IfSome (clause_numbered t.clauses number) (λ clause. IsReplacement t.literals clause other place l)
IsReplaced t new number other place False = IsConflict new number
