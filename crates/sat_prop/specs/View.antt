-- What a trail, watch lists and what is watched are seen as, and what their fields keep.
use Rattle.std.specs.Prelude.{◌≡◌, ◌+◌, ◌*◌, ◌^◌, ◌%◌, ◌<◌, ◌≤◌, length, vec_len, vec_capacity}
use Rattle.des_base.specs.declared.TheConstants.{VAR_LIMIT}
use Rattle.sat_prop.specs.declared.trail.Trail.TheInside.{Inside as TrailInside}
use Rattle.sat_prop.specs.declared.watch_lists.TheConstants.{NO_WATCH}
use Rattle.sat_prop.specs.declared.watch_lists.WatchLists.TheInside.{Inside as ListsInside}
use Rattle.sat_prop.specs.declared.watched.Watched.TheInside.{Inside as WatchedInside}
use Rattle.sat_prop.specs.TrailState.{TrailState}
use Rattle.sat_prop.specs.Kept.{IsTrailState, ArePlaces, AreValues, AreLevels, AreStarts}
use Rattle.sat_prop.specs.Watches.{WatchState, AreWatchLists, IsWalk, passed, watches_of, nexts_of}
use Rattle.sat_prop.specs.Watching.{WatchedState}

-- a trail as the clauses that are attached, and the literals with their reasons
abbrev pub trail_view : TrailInside → TrailState
trail_view a = record { clauses = a.db.value.clauses; attached = a.attached; literals = a.literals.items; reasons = a.reasons.items; vars = length a.places.items; spare = a.spare }

-- what is kept beside the literals is theirs, and there is room for the literals of all variables
pub record IsKeptTrail (a : TrailInside) : Type 0 where
  pub state : IsTrailState (trail_view a)
  pub places : ArePlaces (length a.places.items) a.literals.items a.places.items
  pub values : AreValues (length a.places.items) a.literals.items a.values.items
  pub levels : AreLevels a.reasons.items a.levels.items
  pub starts : AreStarts a.reasons.items a.starts.items
  pub limit : vec_len a.places ≤ VAR_LIMIT
  pub few : a.spare < 2 ^ 32
  pub room_literals : vec_len a.places ≤ vec_capacity a.literals
  pub room_reasons : vec_len a.places ≤ vec_capacity a.reasons
  pub room_levels : vec_len a.places ≤ vec_capacity a.levels
  pub room_starts : vec_len a.places ≤ vec_capacity a.starts

-- watch lists as the watches that the nodes keep, of which those wait that the walk has before it
abbrev pub lists_view : ListsInside → WatchState
lists_view a = record { watches = watches_of a.nodes.items; waiting = passed (nexts_of a.nodes.items) a.walk.next; vars = length a.lists.items; spare = a.spare }

-- the watches stand in the lists, one of which the walk goes along; they come in pairs, and all is within the limits and the room
pub record AreKeptLists (a : ListsInside) : Type 0 where
  pub lists : AreWatchLists (watches_of a.nodes.items) (nexts_of a.nodes.items) a.lists.items
  pub walk : IsWalk (nexts_of a.nodes.items) a.lists.items a.walk
  pub limit : length a.lists.items ≤ VAR_LIMIT
  pub pairs : vec_len a.nodes % 2 ≡ 0
  pub few : vec_len a.nodes + a.spare * 2 ≤ NO_WATCH
  pub room : vec_len a.nodes + a.spare * 2 ≤ vec_capacity a.nodes

-- what is watched as the short clauses and the watches; which clauses were learnt last isn't seen
abbrev pub watched_view : WatchedInside → WatchedState
watched_view a = record { short = a.short.items; spare = a.spare; lists = a.lists; seen = a.seen }
