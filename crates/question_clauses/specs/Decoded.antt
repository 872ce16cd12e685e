-- The run and the order of alarms that a truth of meanings gives.
use Rattle.std.specs.Prelude.{ℕ, zero, suc, Bool, not, ◌&&◌, List, [], ◌∷◌, ◌++◌, Option, is_some, map, filter, find, filter_map}
use Rattle.des_net.specs.Network.{Net, label_of}
use Rattle.log_order.specs.Log.{Log, is_doubtful}
use Rattle.question_clauses.specs.LogClauses.{chain, matching_events}
use Rattle.prop_core.specs.VariableNames.{Meaning, matches, done, dropped}
use Rattle.replay.specs.Explanation.{Entry}
use Rattle.question_clauses.specs.Steps.{step_sets}

-- the event that alarm i stands for in the step after t steps
abbrev pub alarm_event : Net → Log → (Meaning → Bool) → ℕ → ℕ → Option ℕ
alarm_event net log value t i = find (λ e. value (matches i e (suc t))) (matching_events net log i)

-- the alarm that stands for event e in step t, counted from 1
abbrev pub alarm_at : Net → Log → (Meaning → Bool) → ℕ → ℕ → Option ℕ
alarm_at net log value e t = find (λ i. value (matches i e t)) (chain net log e)

-- the events that these alarms stand for in the step after t steps, in the order of the alarms
abbrev pub shown_at : Net → Log → (Meaning → Bool) → List ℕ → ℕ → List ℕ
shown_at net log value alarms t = filter_map (alarm_event net log value t) alarms

-- the events of the piece that can't be seen
abbrev pub unobservables : Net → List ℕ → List ℕ
unobservables net piece = filter (λ e. not (is_some (label_of net e))) piece

-- The pieces from the step after t steps on, each with the events first that can't be seen, and then the others in the order of the alarms that stand for them. No two events of a step meet, so that they may stand in any order.
abbrev pub arranged : Net → Log → (Meaning → Bool) → List ℕ → ℕ → List (List ℕ) → List (List ℕ)
arranged net log value alarms t [] = []
arranged net log value alarms t (piece ∷ pieces) =
    (unobservables net piece ++ shown_at net log value alarms t) ∷ arranged net log value alarms (suc t) pieces

-- alarm i is false
abbrev pub is_false_alarm : Log → (Meaning → Bool) → ℕ → Bool
is_false_alarm log value i = is_doubtful log i && value (dropped i)

-- alarm i gets done in step t, or, where that is 0, is done from the start
abbrev pub comes : (Meaning → Bool) → ℕ → ℕ → Bool
comes value i zero = value (done i zero)
comes value i (suc t) = value (done i (suc t)) && not (value (done i t))

-- alarm i, with whether it is true
abbrev pub decoded_entry : Log → (Meaning → Bool) → ℕ → Entry
decoded_entry log value i = record { alarm = i; real = not (is_false_alarm log value i) }

-- the entries of the alarms that get done in step t, or, where that is 0, are done from the start, in their given order
abbrev pub entries_at : Log → (Meaning → Bool) → List ℕ → ℕ → List Entry
entries_at log value alarms t = map (decoded_entry log value) (filter (λ i. comes value i t) alarms)

-- those of the steps after t steps, as many as there are pieces
abbrev pub arranged_order : Log → (Meaning → Bool) → List ℕ → ℕ → List (List ℕ) → List Entry
arranged_order log value alarms t [] = []
arranged_order log value alarms t (piece ∷ pieces) = entries_at log value alarms (suc t) ++ arranged_order log value alarms (suc t) pieces

-- and of all steps: first the false alarms that are done from the start
abbrev pub whole_order : Log → (Meaning → Bool) → List ℕ → List (List ℕ) → List Entry
whole_order log value alarms pieces = entries_at log value alarms 0 ++ arranged_order log value alarms 0 pieces

-- the pieces of n steps, where the given order of all alarms settles what the steps leave open
abbrev pub decoded : Net → Log → (Meaning → Bool) → List ℕ → ℕ → List (List ℕ)
decoded net log value alarms n = arranged net log value alarms 0 (step_sets net n value)

-- and the order of alarms that goes with these pieces
abbrev pub decoded_order : Net → Log → (Meaning → Bool) → List ℕ → ℕ → List Entry
decoded_order net log value alarms n = whole_order log value alarms (step_sets net n value)
