-- Worked logs: what explains them, and what replaying a run against them gives.
use Rattle.std.proofs.Common.{◌≡◌, ℕ, zero, suc, true, false, List, [], ◌∷◌, Option, Some, None, refl, arith, cond, lit<}
use Rattle.std.specs.Prelude.{Bool, codes, map, filter, ◌||◌}
use Rattle.std.specs.List.{AllZip}
use Rattle.des_net.specs.Run.{fault_count}
use Rattle.des_net.specs.Width.{Fits}
use Rattle.des_net.proofs.WidthLemmas.{need_is_least}
use Rattle.des_net.specs.Models.{pump, nothing, apart, meeting, two_starts, masked}
use Rattle.log_order.specs.Log.{Log, Alarm, no_log, is_doubtful, a_log, an_alarm}
use Rattle.replay.specs.declared.run.RunStep.{RunStep}
use Rattle.replay.specs.declared.run.RunStep.TheVariants.{Happens, Dropped}
use Rattle.replay.specs.Traced.{word_of}
use Rattle.replay.specs.Explanation.{Entry, Shows, alarms_of, faults_of, IsAbsent, IsExplained, IsLeast, IsMany}
use Rattle.replay.specs.Matching.{alarms_on, order_of, pair_of, bad_alarm, missing_alarm, wrong_pair}
use Rattle.replay.specs.Deciding.{explains}
use Rattle.replay.proofs.AnswerLemmas.{least_is_one, absent_excludes, many_is_above}
use Rattle.replay.proofs.DecideLemmas.{explains_decides}

abbrev alarm : List ℕ → List ℕ → Alarm
alarm name label = an_alarm name (label ∷ []) false

-- one that is perhaps false
abbrev maybe : List ℕ → List ℕ → Alarm
maybe name label = an_alarm name (label ∷ []) true

-- these alarms in this order, all true
abbrev all_true : List ℕ → List Entry
all_true alarms = map (λ i. record { alarm = i; real = true }) alarms

abbrev entry : ℕ → Bool → Entry
entry i real = record { alarm = i; real = real }

abbrev one_trip : Log
one_trip = a_log (alarm (codes "a1") (codes "T") ∷ []) []

abbrev trip_fix_trip : Log
trip_fix_trip = a_log (alarm (codes "a1") (codes "T") ∷ alarm (codes "a2") (codes "F") ∷ alarm (codes "a3") (codes "T") ∷ []) ((0, 1) ∷ (1, 2) ∷ [])

-- an alarm that may be a trip or a beat
abbrev trip_or_beat : Log
trip_or_beat = a_log ((an_alarm (codes "a1") (codes "T" ∷ codes "B" ∷ []) false) ∷ []) []

abbrev y_before_x : Log
y_before_x = a_log (alarm (codes "x") (codes "A") ∷ alarm (codes "y") (codes "B") ∷ []) ((1, 0) ∷ [])

abbrev z_before_y_before_x : Log
z_before_y_before_x = a_log (alarm (codes "x") (codes "A") ∷ alarm (codes "y") (codes "B") ∷ alarm (codes "z") (codes "C") ∷ []) ((1, 0) ∷ (2, 1) ∷ [])

-- ---- what explains

pub pump-trip : explains pump one_trip 2 (0 ∷ 1 ∷ []) (all_true (0 ∷ [])) ≡ true
pump-trip = refl

pub pump-trip_in_one : explains pump one_trip 1 (0 ∷ 1 ∷ []) (all_true (0 ∷ [])) ≡ false
pump-trip_in_one = refl

pub pump-trip_without_jam : explains pump one_trip 2 (1 ∷ []) (all_true (0 ∷ [])) ≡ false
pump-trip_without_jam = refl

-- the trip is seen, and must have an alarm
pub pump-trip_unmatched : explains pump no_log 2 (0 ∷ 1 ∷ []) (all_true []) ≡ false
pump-trip_unmatched = refl

-- the alarm can't be matched to two trips
pub pump-trip_twice : explains pump one_trip 5 (0 ∷ 1 ∷ 2 ∷ 0 ∷ 1 ∷ []) (all_true (0 ∷ 0 ∷ [])) ≡ false
pump-trip_twice = refl

pub pump-trip_fix_trip : explains pump trip_fix_trip 5 (0 ∷ 1 ∷ 2 ∷ 0 ∷ 1 ∷ []) (all_true (0 ∷ 1 ∷ 2 ∷ [])) ≡ true
pump-trip_fix_trip = refl

pub pump-trip_fix_trip_in_four : explains pump trip_fix_trip 4 (0 ∷ 1 ∷ 2 ∷ 0 ∷ 1 ∷ []) (all_true (0 ∷ 1 ∷ 2 ∷ [])) ≡ false
pump-trip_fix_trip_in_four = refl

-- each jam counts
pub pump-two_faults : fault_count pump (0 ∷ 1 ∷ 2 ∷ 0 ∷ 1 ∷ []) ≡ 2
pump-two_faults = refl

pub pump-beat : explains pump trip_or_beat 2 (3 ∷ []) (all_true (0 ∷ [])) ≡ true
pump-beat = refl

pub nothing-nothing : explains nothing no_log 0 [] [] ≡ true
nothing-nothing = refl

pub apart-at_once : explains apart y_before_x 1 (1 ∷ 0 ∷ []) (all_true (1 ∷ 0 ∷ [])) ≡ true
apart-at_once = refl

pub apart-wrong_way_round : explains apart y_before_x 1 (0 ∷ 1 ∷ []) (all_true (0 ∷ 1 ∷ [])) ≡ false
apart-wrong_way_round = refl

-- each event shows its own alarm
pub apart-crossed : explains apart y_before_x 1 (0 ∷ 1 ∷ []) (all_true (1 ∷ 0 ∷ [])) ≡ false
apart-crossed = refl

pub meeting-in_one : explains meeting z_before_y_before_x 1 (2 ∷ 1 ∷ 0 ∷ []) (all_true (2 ∷ 1 ∷ 0 ∷ [])) ≡ false
meeting-in_one = refl

pub meeting-in_two : explains meeting z_before_y_before_x 2 (2 ∷ 1 ∷ 0 ∷ []) (all_true (2 ∷ 1 ∷ 0 ∷ [])) ≡ true
meeting-in_two = refl

pub two_starts-second : explains two_starts (a_log (alarm (codes "x") (codes "A") ∷ []) []) 1 (0 ∷ []) (all_true (0 ∷ [])) ≡ true
two_starts-second = refl

pub masked-fault : explains masked (a_log (alarm (codes "a") (codes "A") ∷ []) []) 2 (2 ∷ 1 ∷ []) (all_true (0 ∷ [])) ≡ true
masked-fault = refl

pub masked-seen : explains masked (a_log (alarm (codes "a") (codes "A") ∷ alarm (codes "b") (codes "B") ∷ []) ((1, 0) ∷ [])) 2 (0 ∷ 1 ∷ []) (all_true (1 ∷ 0 ∷ [])) ≡ true
masked-seen = refl

-- ---- false alarms

abbrev step : ℕ → Option (List ℕ) → RunStep
step event alarm = Happens event alarm

-- an alarm that is perhaps false
abbrev perhaps_trip : Log
perhaps_trip = a_log (maybe (codes "a1") (codes "T") ∷ []) []

-- it is, and nothing happens: one fault
pub pump-false : explains pump perhaps_trip 0 [] (entry 0 false ∷ []) ≡ true
pump-false = refl

pub pump-false_counts : faults_of pump [] (entry 0 false ∷ []) ≡ 1
pump-false_counts = refl

-- or it is true, and has its event
pub pump-perhaps_true : explains pump perhaps_trip 2 (0 ∷ 1 ∷ []) (entry 0 true ∷ []) ≡ true
pump-perhaps_true = refl

-- a false alarm has no event
pub pump-false_with_event : explains pump perhaps_trip 2 (0 ∷ 1 ∷ []) (entry 0 false ∷ []) ≡ false
pump-false_with_event = refl

-- one that isn't doubtful can't be false
pub pump-certain_false : explains pump one_trip 0 [] (entry 0 false ∷ []) ≡ false
pump-certain_false = refl

-- and each alarm has a place, once
pub pump-none_of_it : explains pump perhaps_trip 0 [] [] ≡ false
pump-none_of_it = refl

pub pump-true_and_false : explains pump perhaps_trip 2 (0 ∷ 1 ∷ []) (entry 0 true ∷ entry 0 false ∷ []) ≡ false
pump-true_and_false = refl

-- y before z before x, where no event shows z: z is false, and keeps its place
abbrev y_perhaps_z_x : Log
y_perhaps_z_x = a_log (alarm (codes "x") (codes "A") ∷ maybe (codes "z") (codes "C") ∷ alarm (codes "y") (codes "B") ∷ []) ((2, 1) ∷ (1, 0) ∷ [])

pub apart-false : explains apart y_perhaps_z_x 1 (1 ∷ 0 ∷ []) (entry 2 true ∷ entry 1 false ∷ entry 0 true ∷ []) ≡ true
apart-false = refl

pub apart-false_counts : faults_of apart (1 ∷ 0 ∷ []) (entry 2 true ∷ entry 1 false ∷ entry 0 true ∷ []) ≡ 1
apart-false_counts = refl

pub apart-false_too_early : explains apart y_perhaps_z_x 1 (1 ∷ 0 ∷ []) (entry 1 false ∷ entry 2 true ∷ entry 0 true ∷ []) ≡ false
apart-false_too_early = refl

-- the other way round the pair of y and z is wrong
pub apart-false_order : wrong_pair (alarms_on y_perhaps_z_x (Happens 0 (Some (codes "x")) ∷ Dropped (codes "z") ∷ Happens 1 (Some (codes "y")) ∷ [])) y_perhaps_z_x.pairs ≡ Some (2, 1)
apart-false_order = refl

pub apart-false_pair : pair_of y_perhaps_z_x (Happens 1 (Some (codes "y")) ∷ Dropped (codes "z") ∷ Happens 0 (Some (codes "x")) ∷ []) ≡ (1 ∷ 0 ∷ [], entry 2 true ∷ entry 1 false ∷ entry 0 true ∷ [])
apart-false_pair = refl

-- an alarm that isn't doubtful can't stand alone, nor can one twice, or one that isn't there
pub certain-alone : bad_alarm pump one_trip (Dropped (codes "a1") ∷ []) ≡ Some 1
certain-alone = refl

pub doubtful-alone : bad_alarm pump perhaps_trip (Dropped (codes "a1") ∷ []) ≡ None
doubtful-alone = refl

pub doubtful-twice : bad_alarm pump perhaps_trip (step 0 None ∷ step 1 (Some (codes "a1")) ∷ Dropped (codes "a1") ∷ []) ≡ Some 3
doubtful-twice = refl

pub unknown-alone : bad_alarm pump perhaps_trip (Dropped (codes "a2") ∷ []) ≡ Some 1
unknown-alone = refl

-- a trace doesn't look at false alarms
pub false-not_traced : word_of (Dropped (codes "z") ∷ step 1 None ∷ []) ≡ 1 ∷ []
false-not_traced = refl

-- ---- what is wrong with the alarms that a run names

pub trip-suits : bad_alarm pump one_trip (step 0 None ∷ step 1 (Some (codes "a1")) ∷ []) ≡ None
trip-suits = refl

pub trip-unnamed : bad_alarm pump one_trip (step 0 None ∷ step 1 None ∷ []) ≡ Some 2
trip-unnamed = refl

pub jam-named : bad_alarm pump one_trip (step 0 (Some (codes "a1")) ∷ step 1 (Some (codes "a1")) ∷ []) ≡ Some 1
jam-named = refl

pub trip-unknown : bad_alarm pump one_trip (step 0 None ∷ step 1 (Some (codes "a2")) ∷ []) ≡ Some 2
trip-unknown = refl

pub beat-unlabelled : bad_alarm pump one_trip (step 3 (Some (codes "a1")) ∷ []) ≡ Some 1
beat-unlabelled = refl

pub beat-again : bad_alarm pump trip_or_beat (step 3 (Some (codes "a1")) ∷ step 3 (Some (codes "a1")) ∷ []) ≡ Some 2
beat-again = refl

pub order-named : order_of trip_fix_trip (step 0 None ∷ step 1 (Some (codes "a3")) ∷ step 2 (Some (codes "a2")) ∷ []) ≡ all_true (2 ∷ 1 ∷ [])
order-named = refl

pub missing-least : missing_alarm 3 (2 ∷ []) ≡ Some 0
missing-least = refl

pub missing-none : missing_alarm 3 (2 ∷ 0 ∷ 1 ∷ []) ≡ None
missing-none = refl

pub wrong-first : wrong_pair (2 ∷ 0 ∷ 1 ∷ []) ((0, 1) ∷ (1, 2) ∷ (0, 2) ∷ []) ≡ Some (1, 2)
wrong-first = refl

pub wrong-none : wrong_pair (0 ∷ 1 ∷ 2 ∷ []) ((0, 1) ∷ (1, 2) ∷ (0, 2) ∷ []) ≡ None
wrong-none = refl

-- ---- answers

pub pump-explained : IsExplained pump one_trip 2 1
pump-explained = record { word = 0 ∷ 1 ∷ []; order = all_true (0 ∷ []); explains = (explains_decides pump one_trip 2 (0 ∷ 1 ∷ []) (all_true (0 ∷ []))).0 refl; faults = refl }

-- without events nothing shows the alarm
pub nothing-absent : (n : ℕ) → IsAbsent nothing one_trip n
nothing-absent n [] [] h = let there = h.linear.complete.each 0 (lit< tt) in let below = there.1 in absurd (omega arith)
nothing-absent n [] (first ∷ order) h = by first.real first.alarm h.linear.shown h.linear.doubted.0
  where
    by : (b : Bool) (j : ℕ) → AllZip (Shows nothing one_trip) [] (alarms_of (cond b (first ∷ filter (λ (x : Entry). x.real) order) (filter (λ (x : Entry). x.real) order))) → b || is_doubtful one_trip j ≡ true → ⊥
    by true j shown may = absurd shown
    by false zero shown may = cc
    by false (suc j) shown may = cc
nothing-absent n (e ∷ word) order h = let known = h.run.3.1.known in absurd (omega arith)

-- and with no alarm nothing needs to happen
pub nothing-least : (n : ℕ) → IsLeast nothing no_log n 0
nothing-least n = record {
  reached = record { word = []; order = []; explains = record { run = ([], [], tt, refl); fits = fits n; linear = record { complete = record { below = tt; each = λ i l. absurd (omega arith); once = tt }; doubted = tt; shown = tt; kept = tt } }; faults = refl };
  least = λ word order h. omega arith;
}
  where
    fits : (k : ℕ) → Fits nothing [] k
    fits k = (need_is_least nothing [] k).1 (omega arith)

-- so 0 is the least number there, and no other one
pub nothing-least_is_one : (n k : ℕ) → IsLeast nothing no_log n k → k ≡ 0
nothing-least_is_one n k least = least_is_one nothing no_log n k 0 least (nothing-least n)

pub nothing-not_many : (n : ℕ) → IsMany nothing no_log n → ⊥
nothing-not_many n many = let above = many_is_above nothing no_log n 0 (nothing-least n) many in absurd (omega arith)

-- and where nothing explains, no number is least
pub nothing-no_least : (n k : ℕ) → IsLeast nothing one_trip n k → ⊥
nothing-no_least n k least = (absent_excludes nothing one_trip n (nothing-absent n)).not_least k least
