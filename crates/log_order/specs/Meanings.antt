-- What alarms may stand for, as a log keeps it beside their ids.
use Rattle.std.specs.Prelude.{ℕ, Bool, List, [], ◌∷◌}
use Rattle.log_order.specs.Log.{Alarm, an_alarm}

-- the labels that an alarm may stand for, and whether it is perhaps false
pub record AlarmMeaning : Type 0 where
  pub labels : List (List ℕ)
  pub doubtful : Bool

-- the alarms with these ids, one after another
abbrev pub alarms_with : List (List ℕ) → List AlarmMeaning → List Alarm
alarms_with (id ∷ ids) (meaning ∷ meanings) = an_alarm id meaning.labels meaning.doubtful ∷ alarms_with ids meanings
alarms_with ids meanings = []
