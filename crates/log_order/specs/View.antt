-- What a log and its pairs are seen as.
use Rattle.std.specs.Prelude.{◌≡◌, ◌≤◌, length}
use Rattle.std.specs.List.{AllByRecursion}
use Rattle.des_base.specs.Names.{AreNames}
use Rattle.log_order.specs.Log.{Log, StandOnce}
use Rattle.log_order.specs.Adding.{names_of, IsAlarm}
use Rattle.log_order.specs.Meanings.{alarms_with}
use Rattle.log_order.specs.declared.TheConstants.{MOST_ALARMS, MOST_PAIRS}
use Rattle.log_order.specs.Precedence.{Precedence, IsKeptOrder}
use Rattle.log_order.specs.declared.alarm_log.AlarmLog.TheInside.{Inside as LogInside}
use Rattle.log_order.specs.declared.precedence.Precedence.TheInside.{Inside as PrecedenceInside}

-- the count and the pairs: the order that is kept beside them, and the followers, are not seen
abbrev pub precedence_view : PrecedenceInside → Precedence
precedence_view a = record { count = length a.order.items; pairs = a.pairs.items }

-- what the fields keep: the order and the followers fit the pairs, no pair stands twice, and the numbers are no more than alarms may be
pub record IsPrecedence (a : PrecedenceInside) : Type 0 where
  pub kept : IsKeptOrder a.pairs.items a.order.items a.followers.items
  pub few : length a.order.items ≤ MOST_ALARMS
  pub once : StandOnce a.pairs.items

-- each alarm by its id and its meaning, and the pairs
abbrev pub log_view : LogInside → Log
log_view a = record { alarms = alarms_with a.ids a.meanings.items; pairs = a.precedence.pairs }

-- what the fields keep: each id has its meaning, ids and labels are names, each once, the pairs are of alarms, and all is within the limits
pub record IsAlarmLog (a : LogInside) : Type 0 where
  pub paired : length a.meanings.items ≡ length a.ids
  pub named : a.ids ≡ names_of (alarms_with a.ids a.meanings.items)
  pub counted : a.precedence.count ≡ length (alarms_with a.ids a.meanings.items)
  pub names : AreNames (names_of (alarms_with a.ids a.meanings.items))
  pub alarms : AllByRecursion IsAlarm (alarms_with a.ids a.meanings.items)
  pub few_alarms : length (alarms_with a.ids a.meanings.items) ≤ MOST_ALARMS
  pub few_pairs : length a.precedence.pairs ≤ MOST_PAIRS
