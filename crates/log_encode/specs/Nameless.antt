-- A log of which the ids of alarms are not known.
use Rattle.std.specs.Prelude.{ℕ, ◌↔◌, List, [], map}
use Rattle.des_net.specs.Network.{Net}
use Rattle.log_order.specs.Log.{Log, Alarm, a_log, an_alarm}
use Rattle.replay.specs.Explanation.{Entry, Explains}

-- the log, its alarms without their names
abbrev pub without_names : Log → Log
without_names log = a_log (map (λ (alarm : Alarm). an_alarm [] alarm.labels alarm.doubtful) log.alarms) log.pairs

-- The names of alarms don't matter for what explains a log.
abbrev pub NamesDontMatter : Type 0
NamesDontMatter = (net : Net) (log : Log) (n : ℕ) (word : List ℕ) (order : List Entry) → Explains net log n word order ↔ Explains net (without_names log) n word order
