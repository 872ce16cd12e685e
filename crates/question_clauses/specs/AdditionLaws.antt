-- The clauses of a log grow with it, and none is ever taken back.
use Rattle.std.specs.Prelude.{◌≡◌, ◌↔◌, ◌⊎◌, ℕ, Bool, List, [], ◌∷◌, ◌++◌, filter, length, take}
use Rattle.des_net.specs.Network.{Net}
use Rattle.log_order.specs.Log.{Log, Alarm, no_log}
use Rattle.question_clauses.specs.Additions.{Addition, alarm_added, pair_added, with_addition, log_after, IsAddedClause, IsFirstClause}
use Rattle.question_clauses.specs.Coded.{opened}
use Rattle.question_clauses.specs.LogClauses.{chain, LogClause, log_clause, IsLogClause}
use Rattle.question_clauses.specs.LogTruth.{LogClausesHold}
use Rattle.prop_core.specs.VariableNames.{Meaning}
use Rattle.replay.specs.Explanation.{is_matching}

-- The chain of an event has the new alarm at its end where it may stand for the event, and a pair changes no chain.
pub record ChainGrows (net : Net) (log : Log) (e : ℕ) : Type 0 where
  pub by_alarm : (new : Alarm) → chain net (with_addition log (alarm_added new)) e
      ≡ chain net log e ++ filter (is_matching net (with_addition log (alarm_added new)) e) (length log.alarms ∷ [])
  pub by_pair : (i j : ℕ) → chain net (with_addition log (pair_added i j)) e ≡ chain net log e

-- So the chain of each event grows, in each network and log.
abbrev pub ChainsGrow : Type 0
ChainsGrow = (net : Net) (log : Log) (e : ℕ) → ChainGrows net log e

-- The clauses of a log with an addition are those of the log before it and those that the addition brings, and the former stay as they are.
abbrev pub AdditionsAreExact : Type 0
AdditionsAreExact = (net : Net) (log : Log) (n : ℕ) (addition : Addition) (which : LogClause) →
    (IsLogClause net (with_addition log addition) n which ↔ IsLogClause net log n which ⊎ IsAddedClause net log n addition which)
    × (IsLogClause net log n which → log_clause net log n which ≡ log_clause net (with_addition log addition) n which)

-- The clauses of the empty log are the first clauses, and no others.
abbrev pub EmptyLogIsExact : Type 0
EmptyLogIsExact = (net : Net) (n : ℕ) (which : LogClause) → IsLogClause net no_log n which ↔ IsFirstClause net n which

-- So the clauses of a log hold together with those of all logs that it grew from, and all of them without a guard.
abbrev pub AdditionsStayOpen : Type 0
AdditionsStayOpen = (net : Net) (log : Log) (n : ℕ) (additions : List Addition) (value : Meaning → Bool) →
    (LogClausesHold net (log_after log additions) n value → (k : ℕ) → LogClausesHold net (log_after log (take k additions)) n value)
    × ((k : ℕ) → LogClausesHold net (log_after log (take k additions)) n (opened value))
