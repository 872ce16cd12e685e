-- The clauses that are written for a log, as lists over variables. What they say by name stands in `question_clauses`.
use Rattle.std.specs.Prelude.{ℕ, suc, ◌+◌, ◌*◌, List, [], ◌∷◌, ◌++◌, map, flat_map, Option, Some, None, if◌then◌else◌, ◌==◌, ◌<◌, ◌≤◌, IfSome}
use Rattle.des_base.specs.Lists.{numbers_below}
use Rattle.des_base.specs.declared.TheConstants.{VAR_LIMIT}
use Rattle.des_net.specs.Network.{Net}
use Rattle.replay.specs.Explanation.{has_any_label}
use Rattle.prop_core.specs.declared.grid.Grid.{Grid}
use Rattle.prop_core.specs.declared.lit.Lit.{Lit}
use Rattle.prop_core.specs.Clauses.{Clause}
use Rattle.prop_core.specs.Grids.{grid_variable}
use Rattle.card_counter.specs.AtMostOne.{exclusion_clauses}
use Rattle.card_counter.specs.CounterState.{positive, negative}
use Rattle.log_encode.specs.declared.alarm_vars.AlarmVars.{AlarmVars}
use Rattle.log_encode.specs.declared.taken.Taken.{Taken}
use Rattle.log_encode.specs.declared.taken.ChainEnd.{ChainEnd}
use Rattle.log_encode.specs.declared.writing.LinkVars.{LinkVars}
use Rattle.log_encode.specs.AlarmVariables.{closed_variable, match_variable, passed_variable, done_variable, chain_variable, dropped_variable}

-- the ends of chains whose events have one of the labels
abbrev pub taken_from : Net → List (List ℕ) → List ChainEnd → List Taken
taken_from net labels [] = []
taken_from net labels (end ∷ ends) =
    if has_any_label net labels end.event then record { event = end.event; last = end.last } ∷ taken_from net labels ends
    else taken_from net labels ends

-- the number of the first link of the event, counted on from this one
abbrev pub link_from : ℕ → List Taken → ℕ → Option ℕ
link_from link [] e = None
link_from link (taken ∷ takes) e = if taken.event == e then Some link else link_from (suc link) takes e

-- the link of the event, counted from 0, or none if the alarm cannot stand for it
abbrev pub link_of : List Taken → ℕ → Option ℕ
link_of takes e = link_from 0 takes e

-- the end of a chain after a link
abbrev pub end_after : AlarmVars → ℕ → ℕ → ChainEnd
end_after vars link e = record { event = e; closed = closed_variable vars link; last = Some (passed_variable vars link 0) }

-- the ends of all chains, where those of the events that are taken, in the same order, get a link each, from a number on
abbrev pub ends_after : AlarmVars → ℕ → List ChainEnd → List Taken → List ChainEnd
ends_after vars link [] takes = []
ends_after vars link (end ∷ ends) [] = end ∷ ends_after vars link ends []
ends_after vars link (end ∷ ends) (taken ∷ takes) =
    if taken.event == end.event then end_after vars link end.event ∷ ends_after vars (suc link) ends takes
    else end ∷ ends_after vars link ends (taken ∷ takes)

-- what comes to the end of a chain: what its last alarm passes on, or the event itself
abbrev pub rest_variable : Grid → ℕ → Option ℕ → ℕ → ℕ
rest_variable grid e None t = grid_variable grid e (suc t)
rest_variable grid e (Some first) t = first + t * 2

-- the event is in the grid, and what its last alarm passes on is within the limit of variables
pub record HasRest (grid : Grid) (taken : Taken) : Type 0 where
  pub event : taken.event < grid.events
  pub last : IfSome taken.last (λ first. first + grid.steps * 2 ≤ VAR_LIMIT)

-- ---- a link in one step

-- A link takes or passes on exactly what comes to it, never both, and passes nothing on where the chain ends after it; its alarm is done once it takes, and not before.
abbrev pub link_written : LinkVars → List Clause
link_written v = (negative v.closed ∷ negative v.passed ∷ []) ∷ (negative v.matched ∷ positive v.rest ∷ []) ∷ (negative v.matched ∷ negative v.passed ∷ [])
    ∷ (negative v.passed ∷ positive v.rest ∷ []) ∷ (negative v.rest ∷ positive v.matched ∷ positive v.passed ∷ []) ∷ (negative v.matched ∷ positive v.after ∷ []) ∷ (negative v.matched ∷ negative v.before ∷ []) ∷ []

-- all of these variables are within the limit
pub record AreLinkVariables (v : LinkVars) : Type 0 where
  pub closed : v.closed < VAR_LIMIT
  pub rest : v.rest < VAR_LIMIT
  pub matched : v.matched < VAR_LIMIT
  pub passed : v.passed < VAR_LIMIT
  pub before : v.before < VAR_LIMIT
  pub after : v.after < VAR_LIMIT

-- the variables of a link in the step after t steps
abbrev pub link_variables : Grid → AlarmVars → ℕ → Taken → ℕ → LinkVars
link_variables grid vars link taken t = record {
  closed = closed_variable vars link;
  rest = rest_variable grid taken.event taken.last t;
  matched = match_variable vars link t;
  passed = passed_variable vars link t;
  before = done_variable vars t;
  after = done_variable vars (suc t);
}

-- a link in the first n steps
abbrev pub steps_of_link : Grid → AlarmVars → ℕ → Taken → ℕ → List Clause
steps_of_link grid vars link taken n = flat_map (λ t. link_written (link_variables grid vars link taken t)) (numbers_below n)

-- the links from a number on
abbrev pub links_written : Grid → AlarmVars → ℕ → List Taken → List Clause
links_written grid vars link [] = []
links_written grid vars link (taken ∷ takes) = steps_of_link grid vars link taken vars.steps ++ links_written grid vars (suc link) takes

-- ---- whether the alarm is matched

-- that it is false, if it is doubtful
abbrev pub dropped_written : AlarmVars → List Lit
dropped_written vars = if vars.doubtful then positive (dropped_variable vars) ∷ [] else []

-- for each link, that the alarm is matched to its event in the step after t steps
abbrev pub matches_at : AlarmVars → ℕ → List Lit
matches_at vars t = map (λ link. positive (match_variable vars link t)) (numbers_below vars.links)

-- An alarm that is done stays so. In the step after t steps it gets done by a match, or where it is false, and has at most one match.
abbrev pub step_written : AlarmVars → ℕ → List Clause
step_written vars t = (negative (done_variable vars t) ∷ positive (done_variable vars (suc t)) ∷ [])
    ∷ (negative (done_variable vars (suc t)) ∷ positive (done_variable vars t) ∷ (dropped_written vars ++ matches_at vars t)) ∷ exclusion_clauses (matches_at vars t) (chain_variable vars t)

-- at the start the alarm isn't done unless it is false, and at the end it is done if the log is asked for
abbrev pub ends_written : ℕ → AlarmVars → List Clause
ends_written asked vars = (negative (done_variable vars 0) ∷ dropped_written vars) ∷ (negative asked ∷ positive (done_variable vars vars.steps) ∷ []) ∷ []

-- the start and the end of an alarm, and each step between them
abbrev pub done_written : ℕ → AlarmVars → List Clause
done_written asked vars = ends_written asked vars ++ flat_map (step_written vars) (numbers_below vars.steps)

-- a false alarm isn't matched to the event of a link in any of the first n steps
abbrev pub real_of_link : AlarmVars → ℕ → ℕ → List Clause
real_of_link vars link n = map (λ t. negative (match_variable vars link t) ∷ negative (dropped_variable vars) ∷ []) (numbers_below n)

-- the same for the first `links` links, in all steps
abbrev pub reals_written : AlarmVars → ℕ → List Clause
reals_written vars links = flat_map (λ link. real_of_link vars link vars.steps) (numbers_below links)

-- the same for all links of a doubtful alarm; of a certain one nothing
abbrev pub real_written : AlarmVars → List Clause
real_written vars = if vars.doubtful then reals_written vars vars.links else []

-- all that is written of an alarm
abbrev pub alarm_written : Grid → ℕ → AlarmVars → List Taken → List Clause
alarm_written grid asked vars takes = (links_written grid vars 0 takes ++ done_written asked vars) ++ real_written vars

-- ---- a pair, and the empty log

-- chains without alarms, whose ends have variables in a row
abbrev pub first_ends : ℕ → List ℕ → List ChainEnd
first_ends var [] = []
first_ends var (e ∷ events) = record { event = e; closed = var; last = None } ∷ first_ends (suc var) events

-- the guards: that the log is asked for, and that each chain ends where it does now
abbrev pub guards_of : ℕ → List ChainEnd → List Lit
guards_of asked ends = positive asked ∷ map (λ (end : ChainEnd). positive end.closed) ends

-- if the log is asked for, the first alarm, whose done variables begin here, is done no later than the second: for each number of steps below k
abbrev pub pair_written_below : ℕ → ℕ → ℕ → ℕ → List Clause
pair_written_below asked first second k = map (λ t. negative asked ∷ negative (second + t) ∷ positive (first + t) ∷ []) (numbers_below k)

-- the same for each number of steps up to n
abbrev pub pair_written : ℕ → ℕ → ℕ → ℕ → List Clause
pair_written asked first second n = pair_written_below asked first second (n + 1)

-- where the chain of an event ends without an alarm, the event doesn't happen, in the first n steps
abbrev pub closed_written_below : Grid → ChainEnd → ℕ → List Clause
closed_written_below grid end n = map (λ t. negative end.closed ∷ negative (grid_variable grid end.event (suc t)) ∷ []) (numbers_below n)

-- the same in all steps
abbrev pub closed_written : Grid → ChainEnd → List Clause
closed_written grid end = closed_written_below grid end grid.steps

-- the same for each of these chains
abbrev pub all_closed_written : Grid → List ChainEnd → List Clause
all_closed_written grid ends = flat_map (closed_written grid) ends
