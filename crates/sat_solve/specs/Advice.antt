-- What a search is advised: which variable to decide next, with which sign, and when to restart.
--
-- A variable is decided as it last stood (Pipatsrisawat and Darwiche, "A lightweight component caching scheme for satisfiability
-- solvers", 2007), and the first time as false.
use Rattle.std.specs.Prelude.{◌≡◌, ℕ, ◌+◌, ◌-◌, Bool, ◌&&◌, false, List, [], ◌++◌, drop, length, find, nat_lt, nat_le, slice_index_or, slice_set, Option, None, if◌then◌else◌}
use Rattle.std.specs.List.{fold, position_or_len}
use Rattle.prop_core.specs.declared.lit.Lit.{Lit}
use Rattle.prop_core.specs.Clauses.{Clause, is_open}
use Rattle.prop_core.specs.Derivation.{clause_numbered}
use Rattle.sat_solve.specs.Activity.{ActivityState, never_active, with_vars, KeepsActivity, with_back, with_option_part}
use Rattle.sat_solve.specs.Restarts.{Means, no_means}
use Rattle.sat_solve.specs.Widening.{widened, KeepsValues}
use Rattle.sat_solve.specs.declared.advice.TheConstants.{LONG}

-- literals that are tried before any suggestion, in this order, and the place that the search has come to
pub record Tries : Type 0 where
  pub literals : List Lit
  pub next : ℕ

-- these literals are tried, from the first on
abbrev pub from_first : List Lit → Tries
from_first literals = record { literals = literals; next = 0 }

-- these literals are tried too, behind the others
abbrev pub tried_behind : Tries → List Lit → Tries
tried_behind t further = record t { literals = t.literals ++ further }

-- a literal can be decided: its variable is below `vars`, and it is open
abbrev pub can_be_decided : List Lit → ℕ → Lit → Bool
can_be_decided taken vars l = nat_lt l.var vars && is_open taken l

-- the literals that the search has not passed over
abbrev pub left_to_try : Tries → List Lit
left_to_try t = drop t.next t.literals

-- the first of these that can be decided
abbrev pub first_open_try : Tries → List Lit → ℕ → Option Lit
first_open_try t taken vars = find (can_be_decided taken vars) (left_to_try t)

-- those before it are passed over, and all if there is none
abbrev pub at_first_open_try : Tries → List Lit → ℕ → Tries
at_first_open_try t taken vars = record t { next = t.next + position_or_len (can_be_decided taken vars) (left_to_try t) }

-- how active variables are and which are suggested, how each last stood, which levels were counted last, how many levels learnt
-- clauses had, and what is tried before any suggestion
pub record AdviceState : Type 0 where
  pub activity : ActivityState
  pub phases : List Bool
  pub levels : List Bool
  pub means : Means
  pub tries : Tries

-- there is advice on no variable, nothing is to be tried, and no clause was learnt yet
abbrev pub no_advice : AdviceState
no_advice = record { activity = never_active; phases = []; levels = []; means = no_means; tries = from_first [] }

-- there is advice on the variables below a number: one that is added stood as false, and levels are counted up to that number, from 0
abbrev pub with_advice : AdviceState → ℕ → AdviceState
with_advice a vars = record a { activity = with_vars a.activity vars; phases = widened a.phases vars; levels = widened a.levels (vars + 1) }

-- if memory runs out, something may be kept of further variables
pub record KeepsAdvice (old new : AdviceState) (vars : ℕ) : Type 0 where
  pub activity : KeepsActivity old.activity new.activity vars
  pub phases : KeepsValues old.phases new.phases vars
  pub levels : KeepsValues old.levels new.levels (vars + 1)
  pub means : new.means ≡ old.means
  pub tries : new.tries ≡ old.tries

-- clauses enough were learnt that the search is no short one
abbrev pub is_long : Means → Bool
is_long m = nat_le LONG m.clauses

-- the literal to be tried: the first that can be decided, but none in a short search
abbrev pub next_try : AdviceState → List Lit → ℕ → Option Lit
next_try a taken vars = if is_long a.means then first_open_try a.tries taken vars else None

-- once it was asked for the next try: what comes before that is passed over, but nothing in a short search
abbrev pub after_next_try : AdviceState → List Lit → ℕ → AdviceState
after_next_try a taken vars = if is_long a.means then record a { tries = at_first_open_try a.tries taken vars } else a

-- how a variable last stood: false where it never did, or is not known
abbrev pub phase_of : List Bool → ℕ → Bool
phase_of phases var = slice_index_or phases var false

-- a literal is taken back: it is kept how it stood, its variable is suggested again, and literals are tried from the first on, since any
-- may be open again
abbrev pub with_unassigned : AdviceState → Lit → AdviceState
with_unassigned a l = record a { activity = with_back a.activity l.var; phases = slice_set a.phases l.var l.positive; tries = from_first a.tries.literals }

-- the variables of the clauses of these numbers take part in the present conflict
abbrev pub with_hints_part : ActivityState → List Clause → List ℕ → ActivityState
with_hints_part s clauses hints = fold (λ (t : ActivityState) (number : ℕ). with_option_part t (clause_numbered clauses number)) s hints

-- the last `count` hints: those of a learnt clause that lead from the conflict to the clause as it was before it was shortened
abbrev pub last_hints : List ℕ → ℕ → List ℕ
last_hints hints count = drop (length hints - count) hints
