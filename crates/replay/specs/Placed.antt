-- Alarms that have a place in an order, and what is kept so that each place is found at once.
use Rattle.std.specs.Prelude.{◌≡◌, ℕ, ◌<◌, ◌^◌, List, [], length, Option, None, Some, if◌then◌else◌, slice_index_or}
use Rattle.log_order.specs.Log.{place_in}
use Rattle.log_order.specs.Precedence.{is_in}
use Rattle.replay.specs.declared.placing.Placing.TheInside.{Inside}

-- how many alarms there are, and those that have a place, in order
pub record Placed : Type 0 where
  pub alarms : ℕ
  pub order : List ℕ

-- none of `alarms` alarms has a place yet
abbrev pub none_placed : ℕ → Placed
none_placed alarms = record { alarms = alarms; order = [] }

-- the place of an alarm, if it has one
abbrev pub place_of_alarm : List ℕ → ℕ → Option ℕ
place_of_alarm order alarm = if is_in order alarm then Some (place_in order alarm) else None

-- a placing is seen as its order and its number of alarms, without the kept places
abbrev pub placing_view : Inside → Placed
placing_view a = record { alarms = length a.places.items; order = a.order.items }

-- each alarm's place is kept
pub record IsPlacing (a : Inside) : Type 0 where
  pub each : (alarm : ℕ) → alarm < length a.places.items → slice_index_or a.places.items alarm None ≡ place_of_alarm a.order.items alarm
  pub few : length a.places.items < 2 ^ 32
