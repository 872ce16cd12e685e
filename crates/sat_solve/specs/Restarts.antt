-- When a search restarts: if the clauses that were learnt last have literals of more levels than those of the whole search
-- (Audemard and Simon, "Refining restarts strategies for SAT and UNSAT formulas", 2012).
use Rattle.std.specs.Prelude.{ℕ, ◌+◌, ◌-◌, ◌*◌, ◌/◌, Bool, ◌&&◌, min, nat_lt, nat_le, if◌then◌else◌}
use Rattle.sat_solve.specs.declared.restarts.TheConstants.{SHORTEST, LEVEL, LATE, WHOLE, MOST_LEVELS}

-- The mean number of levels of the clauses that were learnt late and of all, in parts of one level; how many were learnt, as far as
-- that matters, and how many since the last restart.
pub record Means : Type 0 where
  pub late : ℕ
  pub whole : ℕ
  pub clauses : ℕ
  pub since : ℕ

-- no clause was learnt yet
abbrev pub no_means : Means
no_means = record { late = 0; whole = 0; clauses = 0; since = 0 }

-- a mean moves towards a number by a part of the way
abbrev pub moved_mean : ℕ → ℕ → ℕ → ℕ
moved_mean mean number part = mean - mean / part + number / part

-- a number of levels in parts of one, where more than MOST_LEVELS count as MOST_LEVELS
abbrev pub in_parts : ℕ → ℕ
in_parts levels = min levels MOST_LEVELS * LEVEL

-- A clause of `levels` levels was learnt. The mean of all moves by the exact part as long as there are few.
abbrev pub with_learnt_clause : Means → ℕ → Means
with_learnt_clause m levels = record {
  late = moved_mean m.late (in_parts levels) LATE;
  whole = moved_mean m.whole (in_parts levels) (min (m.clauses + 1) WHOLE);
  clauses = min (m.clauses + 1) WHOLE;
  since = min (m.since + 1) SHORTEST;
}

-- the late mean is greater by a quarter, and there were conflicts enough
abbrev pub is_due : Means → Bool
is_due m = nat_le SHORTEST m.since && nat_lt (m.whole * 5) (m.late * 4)

-- it restarts
abbrev pub begun_anew : Means → Means
begun_anew m = record m { late = m.whole; since = 0 }

-- once it was asked whether the search is to restart: if that was due, it has restarted
abbrev pub after_asking : Means → Means
after_asking m = if is_due m then begun_anew m else m
