-- Clauses that are watched at literals (Moskewicz and others, "Chaff: engineering an efficient SAT solver", 2001): each watch stands in the list of its literal, linked by numbers.
use Rattle.std.specs.Prelude.{◌≡◌, ◌≢◌, ℕ, ◌+◌, ◌-◌, ◌%◌, ◌<◌, ◌≤◌, ◌==◌, true, false, zero, suc, Bool, List, [], ◌∷◌, ◌++◌, length, map, replicate, Option, Some, None, nat_eq, slice_index_or, slice_set, if◌then◌else◌}
use Rattle.std.specs.List.{list_any}
use Rattle.prop_core.specs.declared.lit.Lit.{Lit}
use Rattle.prop_core.specs.LiteralNumbers.{literal_number, numbered_literal}
use Rattle.prop_core.specs.Trail.{no_literal}
use Rattle.sat_prop.specs.declared.watch_lists.Watch.{Watch}
use Rattle.sat_prop.specs.declared.watch_lists.Node.{Node}
use Rattle.sat_prop.specs.declared.watch_lists.Ends.{Ends}
use Rattle.sat_prop.specs.declared.watch_lists.Lists.{Lists}
use Rattle.sat_prop.specs.declared.watch_lists.Walk.{Walk}
use Rattle.sat_prop.specs.declared.watch_lists.TheConstants.{NO_WATCH, NO_CLAUSE}

-- the watches, the numbers of those that wait to be looked at in this order, for how many variables there are lists, and for how many more clauses there is room
pub record WatchState : Type 0 where
  pub watches : List Watch
  pub waiting : List ℕ
  pub vars : ℕ
  pub spare : ℕ

-- what stands where there is no watch
abbrev pub no_watch : Watch
no_watch = record { clause = 0; lit = no_literal; twin = 0 }

-- the watch of a number, from 0; beyond the last it is `no_watch`
abbrev pub watch_at : List Watch → ℕ → Watch
watch_at watches number = slice_index_or watches number no_watch

-- the literal that the clause is watched at beside this one
abbrev pub other_literal : List Watch → ℕ → Lit
other_literal watches number = (watch_at watches (watch_at watches number).twin).lit

-- The watch is of a clause: clauses are numbered from 1. A watch that isn't was dropped.
abbrev pub IsLive : List Watch → ℕ → Type 0
IsLive watches number = 1 ≤ (watch_at watches number).clause

-- Two watches of a clause follow one another, of which the first has an even number. So each knows that of the other one.
abbrev pub twin_number : ℕ → ℕ
twin_number number = if number % 2 == 0 then number + 1 else number - 1

-- the watch that is kept in the node of a number
abbrev pub watch_of : ℕ → Node → Watch
watch_of number node = record { clause = node.clause; lit = numbered_literal node.code; twin = twin_number number }

-- the watches that are kept in nodes, of which the first has this number
abbrev pub watches_from : ℕ → List Node → List Watch
watches_from number [] = []
watches_from number (node ∷ nodes) = watch_of number node ∷ watches_from (suc number) nodes

-- the number that comes next, or none if the list ends
abbrev pub as_link : ℕ → Option ℕ
as_link number = if number == NO_WATCH then None else Some number

-- the watches alone, numbered from 0
abbrev pub watches_of : List Node → List Watch
watches_of nodes = watches_from 0 nodes

-- of each watch the number that comes next in its list, or none if the list ends
abbrev pub nexts_of : List Node → List (Option ℕ)
nexts_of nodes = map (λ n. as_link n.next) nodes

-- what stands where there is no node
abbrev pub no_node : Node
no_node = record { clause = 0; code = 0; next = NO_WATCH }

-- the node of a number, from 0; beyond the last it is `no_node`
abbrev pub node_at : List Node → ℕ → Node
node_at nodes number = slice_index_or nodes number no_node

-- a watch of a literal in no list
abbrev pub alone : ℕ → Lit → Node
alone clause l = record { clause = clause; code = literal_number l; next = NO_WATCH }

-- one watch comes after another one, if there is that one
abbrev pub with_next_watch : List Node → ℕ → ℕ → List Node
with_next_watch nodes before after = if before == NO_WATCH then nodes else slice_set nodes before (record (node_at nodes before) { next = after })

-- the watch that is kept in the node of a number is dropped
abbrev pub cleared : List Node → ℕ → List Node
cleared nodes number = slice_set nodes number (record (node_at nodes number) { clause = NO_CLAUSE })

-- the number is one of these
abbrev pub is_among : ℕ → List ℕ → Bool
is_among number numbers = list_any (nat_eq number) numbers

-- ---- lists

-- both lists of a variable are empty
abbrev pub empty : Lists
empty = record { positive = record { first = NO_WATCH; last = NO_WATCH }; negative = record { first = NO_WATCH; last = NO_WATCH } }

-- the two lists of a variable; if there are none, both are empty
abbrev pub lists_at : List Lists → ℕ → Lists
lists_at lists var = slice_index_or lists var empty

-- the lists of `count` variables, all empty
abbrev pub no_lists : ℕ → List Lists
no_lists count = replicate count empty

-- the ends of the list of this sign
abbrev pub ends_in : Lists → Bool → Ends
ends_in both positive = if positive then both.positive else both.negative

-- the ends of the list of a literal
abbrev pub ends_of : List Lists → Lit → Ends
ends_of lists l = ends_in (lists_at lists l.var) l.positive

-- of the two lists of a variable, that of this sign has other ends
abbrev pub ended : Lists → Bool → Ends → Lists
ended both positive ends = if positive then record both { positive = ends } else record both { negative = ends }

-- the list of a literal has other ends
abbrev pub with_ends : List Lists → Lit → Ends → List Lists
with_ends lists l ends = slice_set lists l.var (ended (lists_at lists l.var) l.positive ends)

-- the ends of a list to which a watch is appended
abbrev pub appended : Ends → ℕ → Ends
appended ends number = record { first = if ends.last == NO_WATCH then number else ends.first; last = number }

-- the ends of a list that a watch leaves, where those before and after it are known
abbrev pub unlinked : Ends → ℕ → ℕ → Ends
unlinked ends before after = record { first = if before == NO_WATCH then after else ends.first; last = if after == NO_WATCH then before else ends.last }

-- from a number on one passes these, none twice, and comes to an end
abbrev pub Links : List (Option ℕ) → Option ℕ → List ℕ → Type 0
Links nexts first [] = first ≡ None
Links nexts first (number ∷ numbers) =
    (first ≡ Some number) × (number < length nexts) × (is_among number numbers ≡ false) × Links nexts (slice_index_or nexts number None) numbers

-- the first of these, or none
abbrev pub first_or_end : List ℕ → ℕ
first_or_end [] = NO_WATCH
first_or_end (number ∷ numbers) = number

-- the last of these, or none
abbrev pub last_of : List ℕ → ℕ
last_of [] = NO_WATCH
last_of (number ∷ []) = number
last_of (number ∷ other ∷ numbers) = last_of (other ∷ numbers)

-- the list with these ends is of these watches
pub record IsList (nexts : List (Option ℕ)) (ends : Ends) (numbers : List ℕ) : Type 0 where
  pub links : Links nexts (as_link ends.first) numbers
  pub last : ends.last ≡ last_of numbers

-- Each literal has a list. All that stand in it are of that literal, as this says of each number.
pub record AreLinked (of : ℕ → Lit) (nexts : List (Option ℕ)) (lists : List Lists) (numbers : Lit → List ℕ) : Type 0 where
  pub each : (l : Lit) → l.var < length lists → IsList nexts (ends_of lists l) (numbers l)
  pub own : (l : Lit) (number : ℕ) → l.var < length lists → is_among number (numbers l) ≡ true → of number ≡ l

-- the literal that a watch watches
abbrev pub watched_literal : List Watch → ℕ → Lit
watched_literal watches number = (watch_at watches number).lit

-- Each watch that wasn't dropped stands in the list of its literal; in no list one stands twice.
pub record AreWatchLists (watches : List Watch) (nexts : List (Option ℕ)) (lists : List Lists) : Type 0 where
  pub same : length nexts ≡ length watches
  pub numbers : Lit → List ℕ
  pub linked : AreLinked (watched_literal watches) nexts lists numbers
  pub placed : (number : ℕ) → number < length watches → IsLive watches number → is_among number (numbers (watched_literal watches number)) ≡ true
  pub known : (number : ℕ) → number < length watches → (watched_literal watches number).var < length lists

-- ---- a walk along a list

-- the numbers that one passes from a link on, but no more than this many
abbrev pub passed_within : ℕ → List (Option ℕ) → Option ℕ → List ℕ
passed_within zero nexts link = []
passed_within (suc more) nexts None = []
passed_within (suc more) nexts (Some number) = number ∷ passed_within more nexts (slice_index_or nexts number None)

-- the numbers that one passes from a number on
abbrev pub passed : List (Option ℕ) → ℕ → List ℕ
passed nexts next = passed_within (length nexts) nexts (as_link next)

-- the list of the literal has those that have been looked at and then the rest, of which the first is next
pub record IsWalkInList (nexts : List (Option ℕ)) (lists : List Lists) (walk : Walk) : Type 0 where
  pub known : walk.lit.var < length lists
  pub done : List ℕ
  pub rest : List ℕ
  pub links : Links nexts (as_link (ends_of lists walk.lit).first) (done ++ rest)
  pub before : walk.before ≡ last_of done
  pub next : walk.next ≡ first_or_end rest

-- one walks along a list, or no watch is next
abbrev pub IsWalk : List (Option ℕ) → List Lists → Walk → Type 0
IsWalk nexts lists walk = walk.next ≢ NO_WATCH → IsWalkInList nexts lists walk

-- ---- what the calls do

-- a clause that is watched at two literals, and none waits
abbrev pub with_watched_clause : WatchState → ℕ → Lit → Lit → WatchState
with_watched_clause s clause first second = record s {
  watches = (s.watches ++ record { clause = clause; lit = first; twin = suc (length s.watches) } ∷ []) ++ record { clause = clause; lit = second; twin = length s.watches } ∷ [];
  waiting = [];
  spare = s.spare - 1;
}

-- Those wait that stand in the list of the literal: all that watch it and weren't dropped; and each that waits watches it.
pub record IsOpened (old new : WatchState) (l : Lit) : Type 0 where
  pub watches : new.watches ≡ old.watches
  pub vars : new.vars ≡ old.vars
  pub spare : new.spare ≡ old.spare
  pub waits : (number : ℕ) → number < length old.watches → IsLive old.watches number → (watch_at old.watches number).lit ≡ l → is_among number new.waiting ≡ true
  pub only : (number : ℕ) → is_among number new.waiting ≡ true → (watch_at old.watches number).lit ≡ l

-- it is the first of those that wait
pub record IsFirstWaiting (s : WatchState) (number : ℕ) : Type 0 where
  pub others : List ℕ
  pub first : s.waiting ≡ number ∷ others
  pub once : is_among number others ≡ false
  pub within : number < length s.watches

-- the watch, at this literal from now on
abbrev pub watching : Watch → Lit → Watch
watching w l = record w { lit = l }

-- the first of those that wait watches this literal, and waits no more
abbrev pub MovesWatch : WatchState → WatchState → Lit → Type 0
MovesWatch old new l = (others : List ℕ) (number : ℕ) → old.waiting ≡ number ∷ others →
    new ≡ record old { watches = slice_set old.watches number (watching (watch_at old.watches number) l); waiting = others }

-- the first of those that wait was dropped
abbrev pub IsFirstDropped : WatchState → Type 0
IsFirstDropped s = (number : ℕ) × IsFirstWaiting s number × ((watch_at s.watches number).clause ≡ NO_CLAUSE)

-- the first of those that wait waits no more
abbrev pub PassesWatch : WatchState → WatchState → Type 0
PassesWatch old new = (others : List ℕ) (number : ℕ) → old.waiting ≡ number ∷ others → new ≡ record old { waiting = others }

-- the watch, of no clause from now on
abbrev pub dropped : Watch → Watch
dropped w = record w { clause = NO_CLAUSE }

-- the watch of a number is dropped
abbrev pub with_dropped : List Watch → ℕ → List Watch
with_dropped watches number = slice_set watches number (dropped (watch_at watches number))

-- both watches of the clause are dropped that the one of this number watches
abbrev pub without_clause : List Watch → ℕ → List Watch
without_clause watches number = with_dropped (with_dropped watches number) (watch_at watches number).twin
