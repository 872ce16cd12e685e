-- The result of replaying a run against a log: that it explains the log, or the first that is wrong with it.
use Rattle.std.specs.Prelude.{◌≡◌, ⊤, ℕ, ◌<◌, ◌≤◌, ◌↔◌, List, length, None, Some}
use Rattle.des_net.specs.Network.{Net}
use Rattle.des_net.specs.Run.{IsRun}
use Rattle.des_net.specs.Width.{need}
use Rattle.log_order.specs.Log.{Log}
use Rattle.replay.specs.declared.run.RunStep.{RunStep}
use Rattle.replay.specs.declared.replaying.Replayed.{Replayed}
use Rattle.replay.specs.declared.replaying.Replayed.TheVariants.{Accepted, Stuck, BadAlarm, Missing, Order, TooWide}
use Rattle.replay.specs.Traced.{word_of, IsStuckAt}
use Rattle.replay.specs.Explanation.{Explains, faults_of}
use Rattle.replay.specs.Matching.{alarms_on, order_of, pair_of, bad_alarm, missing_alarm, wrong_pair, IsWellMatched}

-- nothing is wrong with the alarms that the run names
pub record HasAlarms (net : Net) (log : Log) (run : List RunStep) : Type 0 where
  pub suit : bad_alarm net log run ≡ None
  pub complete : missing_alarm (length log.alarms) (alarms_on log run) ≡ None
  pub kept : wrong_pair (alarms_on log run) log.pairs ≡ None

-- The answers in the order in which they are tried: each comes where none before it does.
abbrev pub IsReplayed : Net → Log → List RunStep → ℕ → Replayed → Type 0
IsReplayed net log run n (Stuck at) = IsStuckAt net run at
IsReplayed net log run n (BadAlarm at) = IsRun net (word_of run) × (bad_alarm net log run ≡ Some at)
IsReplayed net log run n (Missing alarm) =
    IsRun net (word_of run) × (bad_alarm net log run ≡ None) × (missing_alarm (length log.alarms) (alarms_on log run) ≡ Some alarm)
IsReplayed net log run n (Order first second) =
    IsRun net (word_of run) × (bad_alarm net log run ≡ None) × (missing_alarm (length log.alarms) (alarms_on log run) ≡ None)
    × (wrong_pair (alarms_on log run) log.pairs ≡ Some (first, second))
IsReplayed net log run n (TooWide pieces) = IsRun net (word_of run) × HasAlarms net log run × (pieces ≡ need net (word_of run)) × (n < pieces)
IsReplayed net log run n (Accepted faults) = IsRun net (word_of run) × HasAlarms net log run × (need net (word_of run) ≤ n) × (faults ≡ faults_of net (word_of run) (order_of log run))

-- the alarms that an answer names are among the first `alarms`
abbrev pub NamesKnown : ℕ → Replayed → Type 0
NamesKnown alarms (Stuck at) = ⊤
NamesKnown alarms (BadAlarm at) = ⊤
NamesKnown alarms (Missing alarm) = alarm < alarms
NamesKnown alarms (Order first second) = (first < alarms) × (second < alarms)
NamesKnown alarms (TooWide pieces) = ⊤
NamesKnown alarms (Accepted faults) = ⊤

-- The run is well matched, and its events with its alarms explain the log within n pieces, with `faults` faults.
pub record IsAccepted (net : Net) (log : Log) (run : List RunStep) (n faults : ℕ) : Type 0 where
  pub matched : IsWellMatched net log run
  pub explains : Explains net log n (pair_of log run).0 (pair_of log run).1
  pub faults_are : faults ≡ faults_of net (pair_of log run).0 (pair_of log run).1

-- a run has one answer at most
abbrev pub RepliesAreUnique : Type 0
RepliesAreUnique = (net : Net) (log : Log) (run : List RunStep) (n : ℕ) (a b : Replayed) → IsReplayed net log run n a → IsReplayed net log run n b → a ≡ b

-- a run is accepted exactly if it is well matched and explains
abbrev pub AcceptedExplains : Type 0
AcceptedExplains = (net : Net) (log : Log) (run : List RunStep) (n faults : ℕ) → IsReplayed net log run n (Accepted faults) ↔ IsAccepted net log run n faults
