-- Worked chains, clauses and guards, and two alarms in one step with a pair between them, coded and decoded.
use Rattle.std.proofs.Common.{map, ◌≡◌, ℕ, Bool, true, false, List, [], ◌∷◌, ◌++◌, refl, ◌==◌, length}
use Rattle.std.specs.Prelude.{codes}
use Rattle.std.specs.List.{list_all}
use Rattle.des_net.specs.Models.{apart, pump}
use Rattle.log_order.specs.Log.{Alarm, Log, no_log, a_log, an_alarm}
use Rattle.question_clauses.specs.Additions.{alarm_added, pair_added, with_addition, log_after}
use Rattle.question_clauses.specs.Coded.{opened}
use Rattle.question_clauses.specs.Decoded.{decoded, decoded_order, alarm_at, alarm_event}
use Rattle.question_clauses.specs.Drafts.{added_clauses, first_clauses}
use Rattle.des_net.specs.Network.{observable_events}
use Rattle.question_clauses.specs.LogClauses.{chain, matching_events, LogClause, log_clause, guard_literals, chain_closed, takes_rest, uses_up, matched_once, done_by_match, one_match, not_done_first, before_if_asked}
use Rattle.question_clauses.specs.LogNames.{added_meanings, first_meanings}
use Rattle.des_net.specs.Width.{joined}
use Rattle.replay.specs.Deciding.{explains}
use Rattle.replay.specs.Explanation.{Entry}
use Rattle.prop_core.specs.NamedClauses.{named_true, named_clause_true}
use Rattle.card_counter.specs.Exclusions.{two}
use Rattle.prop_core.specs.VariableNames.{Meaning, in_state, happens, asked, matches, done, unmatched, closed, dropped, reaches, some_of_first, yes, no}
use Rattle.std.specs.Prelude.{Some, None}
use Rattle.question_clauses.proofs.CodedTruth.{coded_truth}

abbrev pub alarm : List ℕ → List (List ℕ) → Alarm
alarm meaning labels = an_alarm meaning labels false

-- one that is perhaps false
abbrev pub maybe : List ℕ → List (List ℕ) → Alarm
maybe meaning labels = an_alarm meaning labels true

abbrev entry : ℕ → Bool → Entry
entry i real = record { alarm = i; real = real }

abbrev all_true : List ℕ → List Entry
all_true alarms = map (λ i. entry i true) alarms

-- ---- chains

-- the first alarm may be a trip or a beat, and the second is a beat
abbrev beats : Log
beats = a_log (alarm (codes "a1") (codes "T" ∷ codes "B" ∷ []) ∷ alarm (codes "a2") (codes "B" ∷ []) ∷ []) []

pub beat_chain : chain pump beats 3 ≡ 0 ∷ 1 ∷ []
beat_chain = refl

pub trip_chain : chain pump beats 1 ≡ 0 ∷ []
trip_chain = refl

-- a jam isn't seen
pub jam_chain : chain pump beats 0 ≡ []
jam_chain = refl

pub first_alarm_events : matching_events pump beats 0 ≡ 1 ∷ 3 ∷ []
first_alarm_events = refl

pub pump_observable : observable_events pump ≡ 1 ∷ 2 ∷ 3 ∷ []
pump_observable = refl

-- ---- clauses

-- the first of a chain takes what happens
pub first_takes : log_clause pump beats 2 (takes_rest 0 3 0 0) ≡ no (matches 0 3 1) ∷ yes (happens 3 1) ∷ []
first_takes = refl

-- the second takes what the first has passed on
pub second_takes : log_clause pump beats 2 (takes_rest 1 3 1 1) ≡ no (matches 1 3 2) ∷ yes (unmatched 3 1 2) ∷ []
second_takes = refl

pub second_uses_up : log_clause pump beats 2 (uses_up 1 3 1 1) ≡ no (matches 1 3 2) ∷ no (unmatched 3 2 2) ∷ []
second_uses_up = refl

pub done_by_either : log_clause pump beats 2 (done_by_match 0 0) ≡ no (done 0 1) ∷ yes (done 0 0) ∷ yes (matches 0 1 1) ∷ yes (matches 0 3 1) ∷ []
done_by_either = refl

-- ---- guards

pub guards_of_beats : guard_literals pump beats ≡ yes asked ∷ yes (closed 1 1) ∷ yes (closed 2 0) ∷ yes (closed 3 2) ∷ []
guards_of_beats = refl

-- the guards of the empty log aren't assumed for the longer one
pub guards_of_none : guard_literals pump no_log ≡ yes asked ∷ yes (closed 1 0) ∷ yes (closed 2 0) ∷ yes (closed 3 0) ∷ []
guards_of_none = refl

-- ---- two alarms in one step, the later before the earlier

abbrev pub x : Alarm
x = alarm (codes "x") (codes "A" ∷ [])

abbrev y : Alarm
y = alarm (codes "y") (codes "B" ∷ [])

abbrev y_before_x : Log
y_before_x = log_after no_log (alarm_added x ∷ alarm_added y ∷ pair_added 1 0 ∷ [])

-- both events happen in step 1
abbrev both : Meaning → Bool
both (in_state c q t) = true
both (happens e t) = t == 1
both asked = false
both (matches i e t) = false
both (done i t) = false
both (unmatched e k t) = false
both (closed e k) = false
both (dropped i) = false
both (reaches i j) = false
both (some_of_first family i) = false

-- eb stands for y, and ea for x
abbrev matched : Meaning → Bool
matched = coded_truth apart y_before_x ((1 ∷ 0 ∷ []) ∷ []) ([] ∷ all_true (1 ∷ 0 ∷ []) ∷ []) both

-- the clauses of the log in one step, as they come
abbrev all_clauses : List LogClause
all_clauses = first_clauses apart 1 ++ added_clauses apart no_log 1 (alarm_added x) ++ added_clauses apart (with_addition no_log (alarm_added x)) 1 (alarm_added y)
    ++ added_clauses apart (log_after no_log (alarm_added x ∷ alarm_added y ∷ [])) 1 (pair_added 1 0)

-- two of the empty log, eleven of each alarm, two of the pair
pub clause_count : length all_clauses ≡ 26
clause_count = refl

pub guards_of_both : guard_literals apart y_before_x ≡ yes asked ∷ yes (closed 0 1) ∷ yes (closed 1 1) ∷ []
guards_of_both = refl

pub guards_true : list_all (named_true matched) (guard_literals apart y_before_x) ≡ true
guards_true = refl

pub clauses_true : list_all (λ which. named_clause_true matched (log_clause apart y_before_x 1 which)) all_clauses ≡ true
clauses_true = refl

pub x_is_ea : alarm_event apart y_before_x matched 0 0 ≡ Some 0
x_is_ea = refl

pub eb_is_y : alarm_at apart y_before_x matched 1 1 ≡ Some 1
eb_is_y = refl

pub ea_without_alarm : alarm_at apart no_log matched 0 1 ≡ None
ea_without_alarm = refl

pub decodes : decoded apart y_before_x matched (1 ∷ 0 ∷ []) 1 ≡ (1 ∷ 0 ∷ []) ∷ []
decodes = refl

pub decodes_order : decoded_order apart y_before_x matched (1 ∷ 0 ∷ []) 1 ≡ all_true (1 ∷ 0 ∷ [])
decodes_order = refl

-- ---- what is false

-- with no alarm an event that happens breaks the guard of its chain
pub empty_log_closes : named_clause_true (coded_truth apart no_log ([] ∷ []) ([] ∷ [] ∷ []) both) (log_clause apart no_log 1 (chain_closed 0 0 0)) ≡ false
empty_log_closes = refl

-- and without guards nothing is broken
pub unguarded_opens : list_all (λ which. named_clause_true (opened both) (log_clause apart y_before_x 1 which)) all_clauses ≡ true
unguarded_opens = refl

-- x a step before y is against the pair
abbrev x_first : Meaning → Bool
x_first = coded_truth apart y_before_x ((0 ∷ []) ∷ (1 ∷ []) ∷ []) ([] ∷ all_true (0 ∷ []) ∷ all_true (1 ∷ []) ∷ []) both

pub pair_broken : named_clause_true x_first (log_clause apart y_before_x 2 (before_if_asked 1 0 1)) ≡ false
pair_broken = refl

-- one alarm in two steps
abbrev twice : Meaning → Bool
twice = coded_truth apart y_before_x ((0 ∷ []) ∷ (0 ∷ []) ∷ []) ([] ∷ all_true (0 ∷ []) ∷ all_true (0 ∷ []) ∷ []) both

pub matched_twice : named_clause_true twice (log_clause apart y_before_x 2 (matched_once 0 0 1)) ≡ false
matched_twice = refl

-- one alarm for two events of a step
abbrev for_two : Meaning → Bool
for_two = coded_truth pump beats ((1 ∷ 3 ∷ []) ∷ []) ([] ∷ all_true (0 ∷ 0 ∷ []) ∷ []) both

pub two_events : named_clause_true for_two (log_clause pump beats 1 (one_match 0 0 (two 0 1 (matches 0 1 1) (matches 0 3 1)))) ≡ false
two_events = refl

-- ---- a false alarm: y before z before x, where z is doubtful and no event shows it

abbrev z : Alarm
z = maybe (codes "z") (codes "C" ∷ [])

abbrev y_perhaps_z_x : Log
y_perhaps_z_x = log_after no_log (alarm_added x ∷ alarm_added z ∷ alarm_added y ∷ pair_added 2 1 ∷ pair_added 1 0 ∷ [])

-- z is done in step 1, as the others are
abbrev z_dropped : Meaning → Bool
z_dropped = coded_truth apart y_perhaps_z_x ((1 ∷ 0 ∷ []) ∷ []) ([] ∷ (entry 2 true ∷ entry 1 false ∷ entry 0 true ∷ []) ∷ []) both

abbrev clauses_with_z : List LogClause
clauses_with_z = first_clauses apart 1 ++ added_clauses apart no_log 1 (alarm_added x) ++ added_clauses apart (log_after no_log (alarm_added x ∷ [])) 1 (alarm_added z)
    ++ added_clauses apart (log_after no_log (alarm_added x ∷ alarm_added z ∷ [])) 1 (alarm_added y)
    ++ added_clauses apart (log_after no_log (alarm_added x ∷ alarm_added z ∷ alarm_added y ∷ [])) 1 (pair_added 2 1)
    ++ added_clauses apart (log_after no_log (alarm_added x ∷ alarm_added z ∷ alarm_added y ∷ pair_added 2 1 ∷ [])) 1 (pair_added 1 0)

pub z-guards : list_all (named_true z_dropped) (guard_literals apart y_perhaps_z_x) ≡ true
z-guards = refl

pub z-clauses : list_all (λ which. named_clause_true z_dropped (log_clause apart y_perhaps_z_x 1 which)) clauses_with_z ≡ true
z-clauses = refl

-- eb y, ! z, ea x
pub z-decodes : decoded apart y_perhaps_z_x z_dropped (2 ∷ 1 ∷ 0 ∷ []) 1 ≡ (1 ∷ 0 ∷ []) ∷ []
z-decodes = refl

pub z-decodes_order : decoded_order apart y_perhaps_z_x z_dropped (2 ∷ 1 ∷ 0 ∷ []) 1 ≡ entry 2 true ∷ entry 1 false ∷ entry 0 true ∷ []
z-decodes_order = refl

pub z-explains : explains apart y_perhaps_z_x 1 (joined (decoded apart y_perhaps_z_x z_dropped (2 ∷ 1 ∷ 0 ∷ []) 1)) (decoded_order apart y_perhaps_z_x z_dropped (2 ∷ 1 ∷ 0 ∷ []) 1) ≡ true
z-explains = refl

-- done from the start it would be before y
abbrev z_early : Meaning → Bool
z_early = coded_truth apart y_perhaps_z_x ((1 ∷ 0 ∷ []) ∷ []) ((entry 1 false ∷ []) ∷ (entry 2 true ∷ entry 0 true ∷ []) ∷ []) both

pub z-too_early : named_clause_true z_early (log_clause apart y_perhaps_z_x 1 (before_if_asked 2 1 0)) ≡ false
z-too_early = refl

-- a certain alarm isn't done from the start
pub certain_first : log_clause apart y_perhaps_z_x 1 (not_done_first 0) ≡ no (done 0 0) ∷ []
certain_first = refl

pub doubtful_first : log_clause apart y_perhaps_z_x 1 (not_done_first 1) ≡ no (done 1 0) ∷ yes (dropped 1) ∷ []
doubtful_first = refl

pub names_of_z : added_meanings apart no_log 1 (alarm_added z) ≡ done 0 0 ∷ done 0 1 ∷ dropped 0 ∷ []
names_of_z = refl

-- a doubtful trip in two steps: one more clause for each match
pub clauses_of_doubtful : length (added_clauses pump no_log 2 (alarm_added (maybe (codes "a1") (codes "T" ∷ [])))) ≡ 22
clauses_of_doubtful = refl

-- ---- drafts

-- x over two steps: seven of its one link in each, two of it alone, two in each step
pub clauses_of_x : length (added_clauses apart no_log 2 (alarm_added x)) ≡ 20
clauses_of_x = refl

pub names_of_x : added_meanings apart no_log 2 (alarm_added x)
    ≡ closed 0 1 ∷ matches 0 0 1 ∷ unmatched 0 1 1 ∷ matches 0 0 2 ∷ unmatched 0 1 2 ∷ done 0 0 ∷ done 0 1 ∷ done 0 2 ∷ []
names_of_x = refl

-- an alarm that two events may be, over two steps: two links, and one more clause in each step
pub clauses_of_two : length (added_clauses pump no_log 2 (alarm_added (alarm (codes "a1") (codes "T" ∷ codes "B" ∷ [])))) ≡ 36
clauses_of_two = refl

-- an alarm that no event can be
pub clauses_of_none : length (added_clauses apart no_log 2 (alarm_added (alarm (codes "z") (codes "C" ∷ [])))) ≡ 6
clauses_of_none = refl

pub first_of_apart : first_meanings apart ≡ asked ∷ closed 0 0 ∷ closed 1 0 ∷ []
first_of_apart = refl
