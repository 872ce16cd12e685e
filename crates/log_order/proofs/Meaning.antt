-- Alarms that are kept as ids and meanings.
use Rattle.std.proofs.Common.{◌≡◌, ◌∙◌, ℕ, zero, suc, ◌<◌, List, [], ◌∷◌, ◌++◌, length, Some, refl, arith, ap, sym}
use Rattle.std.specs.Prelude.{option_map, slice_get}
use Rattle.log_order.specs.Log.{Log, an_alarm}
use Rattle.log_order.specs.Meanings.{AlarmMeaning, alarms_with}
use Rattle.log_order.specs.View.{log_view, IsAlarmLog}
use Rattle.log_order.specs.declared.alarm_log.AlarmLog.TheInside.{Inside}

pub alarms_with-length : (ids : List (List ℕ)) (meanings : List AlarmMeaning) → length meanings ≡ length ids → length (alarms_with ids meanings) ≡ length ids
alarms_with-length [] [] h = refl
alarms_with-length [] (m ∷ ms) h = cc
alarms_with-length (x ∷ xs) [] h = cc
alarms_with-length (x ∷ xs) (m ∷ ms) h = ap suc (alarms_with-length xs ms (omega arith))

pub alarms_with-push : (ids : List (List ℕ)) (meanings : List AlarmMeaning) (id : List ℕ) (meaning : AlarmMeaning) → length meanings ≡ length ids →
    alarms_with (ids ++ id ∷ []) (meanings ++ meaning ∷ []) ≡ alarms_with ids meanings ++ an_alarm id meaning.labels meaning.doubtful ∷ []
alarms_with-push [] [] id meaning h = refl
alarms_with-push [] (m ∷ ms) id meaning h = cc
alarms_with-push (x ∷ xs) [] id meaning h = cc
alarms_with-push (x ∷ xs) (m ∷ ms) id meaning h = ap (λ l. an_alarm x m.labels m.doubtful ∷ l) (alarms_with-push xs ms id meaning (omega arith))

pub alarms_with-id : (ids : List (List ℕ)) (meanings : List AlarmMeaning) (i : ℕ) → length meanings ≡ length ids → option_map (λ alarm. alarm.name) (slice_get (alarms_with ids meanings) i) ≡ slice_get ids i
alarms_with-id [] [] i h = refl
alarms_with-id [] (m ∷ ms) i h = cc
alarms_with-id (x ∷ xs) [] i h = cc
alarms_with-id (x ∷ xs) (m ∷ ms) zero h = refl
alarms_with-id (x ∷ xs) (m ∷ ms) (suc i) h = alarms_with-id xs ms i (omega arith)

pub alarms_with-labels : (ids : List (List ℕ)) (meanings : List AlarmMeaning) (i : ℕ) → length meanings ≡ length ids →
    option_map (λ alarm. alarm.labels) (slice_get (alarms_with ids meanings) i) ≡ option_map (λ meaning. meaning.labels) (slice_get meanings i)
alarms_with-labels [] [] i h = refl
alarms_with-labels [] (m ∷ ms) i h = cc
alarms_with-labels (x ∷ xs) [] i h = cc
alarms_with-labels (x ∷ xs) (m ∷ ms) zero h = refl
alarms_with-labels (x ∷ xs) (m ∷ ms) (suc i) h = alarms_with-labels xs ms i (omega arith)

pub alarms_with-doubtful : (ids : List (List ℕ)) (meanings : List AlarmMeaning) (i : ℕ) → length meanings ≡ length ids →
    option_map (λ alarm. alarm.doubtful) (slice_get (alarms_with ids meanings) i) ≡ option_map (λ meaning. meaning.doubtful) (slice_get meanings i)
alarms_with-doubtful [] [] i h = refl
alarms_with-doubtful [] (m ∷ ms) i h = cc
alarms_with-doubtful (x ∷ xs) [] i h = cc
alarms_with-doubtful (x ∷ xs) (m ∷ ms) zero h = refl
alarms_with-doubtful (x ∷ xs) (m ∷ ms) (suc i) h = alarms_with-doubtful xs ms i (omega arith)

-- ---- the log

abbrev Views : Inside → Log → Type 0
Views a log = log_view a ≡ log

pub id_is_known : (a : Inside) (log : Log) (i : ℕ) → Views a log → IsAlarmLog a → i < length log.alarms → i < length a.ids
id_is_known a log i is h less =
    let long = alarms_with-length a.ids a.meanings.items h.paired in
    let same : length (log_view a).alarms ≡ length log.alarms = ap (λ (l : Log). length l.alarms) is in
    omega arith

pub meaning_is_known : (a : Inside) (log : Log) (i : ℕ) → Views a log → IsAlarmLog a → i < length log.alarms → i < length a.meanings.items
meaning_is_known a log i is h less = let known = id_is_known a log i is h less in let paired = h.paired in omega arith

pub id_is : (a : Inside) (log : Log) (i : ℕ) → Views a log → IsAlarmLog a → option_map (λ alarm. alarm.name) (slice_get log.alarms i) ≡ slice_get a.ids i
id_is a log i is h = sym (ap (λ (l : Log). option_map (λ alarm. alarm.name) (slice_get l.alarms i)) is) ∙ alarms_with-id a.ids a.meanings.items i h.paired

pub labels_are : (a : Inside) (log : Log) (i : ℕ) (meaning : AlarmMeaning) → Views a log → IsAlarmLog a → slice_get a.meanings.items i ≡ Some meaning → option_map (λ alarm. alarm.labels) (slice_get log.alarms i) ≡ Some meaning.labels
labels_are a log i meaning is h there = sym (ap (λ (l : Log). option_map (λ alarm. alarm.labels) (slice_get l.alarms i)) is) ∙ alarms_with-labels a.ids a.meanings.items i h.paired
    ∙ ap (option_map (λ (m : AlarmMeaning). m.labels)) there

pub doubt_is : (a : Inside) (log : Log) (i : ℕ) (meaning : AlarmMeaning) → Views a log → IsAlarmLog a → slice_get a.meanings.items i ≡ Some meaning → option_map (λ alarm. alarm.doubtful) (slice_get log.alarms i) ≡ Some meaning.doubtful
doubt_is a log i meaning is h there = sym (ap (λ (l : Log). option_map (λ alarm. alarm.doubtful) (slice_get l.alarms i)) is) ∙ alarms_with-doubtful a.ids a.meanings.items i h.paired
    ∙ ap (option_map (λ (m : AlarmMeaning). m.doubtful)) there
