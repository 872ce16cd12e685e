-- What a log's code and a draft are, and what their fields keep.
use Rattle.std.specs.Prelude.{◌≡◌, ℕ, suc, ◌+◌, ◌*◌, ◌<◌, ◌≤◌, ⊤, true, List, map, length, Option, Some, None, slice_get, vec_len, vec_capacity}
use Rattle.std.specs.List.{AllByRecursion}
use Rattle.des_base.specs.declared.TheConstants.{VAR_LIMIT}
use Rattle.des_net.specs.Network.{Net, observable_events}
use Rattle.question_clauses.specs.Additions.{Addition, alarm_added, pair_added}
use Rattle.question_clauses.specs.LogClauses.{IsLink, chain, matching_events}
use Rattle.log_encode.specs.declared.draft.Change.{Change}
use Rattle.log_encode.specs.declared.draft.Change.TheVariants.{Alarm, Pair}
use Rattle.log_encode.specs.declared.draft.Draft.TheInside.{Inside as DraftInside}
use Rattle.log_encode.specs.declared.log_code.LogCode.TheInside.{Inside}
use Rattle.log_encode.specs.declared.taken.ChainEnd.{ChainEnd}
use Rattle.log_encode.specs.declared.taken.Taken.{Taken}
use Rattle.log_encode.specs.AlarmState.{AlarmState, variables_of}
use Rattle.log_encode.specs.AlarmVariables.{match_variable, passed_variable, done_variable, dropped_variable, alarm_width}
use Rattle.log_encode.specs.CodedLog.{CodedLog, log_meanings, false_literals, IsCodedLog, code_after, addition_width}
use Rattle.log_encode.specs.Drafted.{LogCodeState, DraftState}
use Rattle.log_encode.specs.Written.{guards_of}
use Rattle.question_clauses.specs.LogNames.{ReadsInOrder}
use Rattle.log_order.specs.Log.{is_doubtful}
use Rattle.prop_core.specs.declared.grid.Grid.{Grid}
use Rattle.prop_core.specs.declared.lit.Lit.{Lit}
use Rattle.prop_core.specs.VariableNames.{meaning_of, matches, done, dropped, closed, remaining}

-- ---- the code

-- the code with these parts, where each alarm is noted, with its first variable
abbrev pub coded_of : Net → Grid → ℕ → ℕ → List AlarmState → List (ℕ × ℕ) → CodedLog
coded_of net grid asked vars alarms pairs = record {
  net = net;
  grid = grid;
  log = record { alarms = map (λ (alarm : AlarmState). alarm.noted) alarms; pairs = pairs };
  asked = asked;
  starts = map (λ (alarm : AlarmState). alarm.start) alarms;
  vars = vars;
}

-- the code that the fields are
abbrev pub coded : Inside → CodedLog
coded a = coded_of a.net.value a.grid a.asked a.vars a.alarms.items a.pairs.items

-- the code, and the room for more alarms and pairs: the ends of chains, the guards and the links are not seen
abbrev pub code_view : Inside → LogCodeState
code_view a = record { coded = coded a; spare_alarms = a.spare_alarms; spare_pairs = a.spare_pairs }

-- what comes to the end of a chain: the event itself where the chain has no alarm, else what its last one passes on
abbrev pub IsRest : CodedLog → ℕ → Option ℕ → Type 0
IsRest code e None = length (chain code.net code.log e) ≡ 0
IsRest code e (Some first) = (first + code.grid.steps * 2 ≤ code.vars)
    × ((t : ℕ) → t < code.grid.steps → meaning_of (log_meanings code) (first + t * 2) ≡ Some (remaining e (length (chain code.net code.log e)) (suc t)))

-- the end stands behind the present alarms of its chain: its variable closes the chain there, and what comes to it is what these leave
pub record IsChainEnd (code : CodedLog) (end : ChainEnd) : Type 0 where
  pub closing : meaning_of (log_meanings code) end.closed ≡ Some (closed end.event (length (chain code.net code.log end.event)))
  pub rest : IsRest code end.event end.last

-- the ends of the chains of all events that can be seen, and the guards
pub record AreEnds (code : CodedLog) (ends : List ChainEnd) (guards : List Lit) : Type 0 where
  pub events : map (λ (end : ChainEnd). end.event) ends ≡ observable_events code.net
  pub each : AllByRecursion (IsChainEnd code) ends
  pub guarding : guards ≡ guards_of code.asked ends

-- alarm i takes the events that it may stand for, and its variables are its own
pub record IsCodedAlarm (code : CodedLog) (i : ℕ) (alarm : AlarmState) : Type 0 where
  pub events : map (λ (taken : Taken). taken.event) alarm.takes ≡ matching_events code.net code.log i
  pub within : alarm.start + alarm_width (variables_of code.grid.steps alarm) ≤ code.vars
  pub matching : (p e t : ℕ) → slice_get (matching_events code.net code.log i) p ≡ Some e → t < code.grid.steps →
      meaning_of (log_meanings code) (match_variable (variables_of code.grid.steps alarm) p t) ≡ Some (matches i e (suc t))
  pub passing : (p e t : ℕ) → slice_get (matching_events code.net code.log i) p ≡ Some e → t < code.grid.steps →
      (k : ℕ) × IsLink code.net code.log i e k × (meaning_of (log_meanings code) (passed_variable (variables_of code.grid.steps alarm) p t) ≡ Some (remaining e (suc k) (suc t)))
  pub being_done : (t : ℕ) → t ≤ code.grid.steps → meaning_of (log_meanings code) (done_variable (variables_of code.grid.steps alarm) t) ≡ Some (done i t)
  pub mark : is_doubtful code.log i ≡ alarm.noted.doubtful
  pub being_false : alarm.noted.doubtful ≡ true → meaning_of (log_meanings code) (dropped_variable (variables_of code.grid.steps alarm)) ≡ Some (dropped i)

-- these say of the doubtful alarms, one after another, that they are false
abbrev pub AreFalse : CodedLog → List Lit → Type 0
AreFalse code lits = ReadsInOrder (log_meanings code) lits (false_literals code.log)

-- what is kept beside a code
pub record AreKept (code : CodedLog) (ends : List ChainEnd) (guards dropped : List Lit) (states : List AlarmState) : Type 0 where
  pub log : IsCodedLog code
  pub chains : AreEnds code ends guards
  pub false_ones : AreFalse code dropped
  pub alarms : (i : ℕ) (alarm : AlarmState) → slice_get states i ≡ Some alarm → IsCodedAlarm code i alarm

-- what the fields keep: all that stands beside the code fits it, and there is the room that they count
pub record KeepsLogCode (a : Inside) : Type 0 where
  pub kept : AreKept (coded a) a.ends.items a.guards.items a.dropped.items a.alarms.items
  pub room_for_alarms : vec_len a.alarms + a.spare_alarms ≤ vec_capacity a.alarms
  pub room_for_pairs : vec_len a.pairs + a.spare_pairs ≤ vec_capacity a.pairs

-- ---- a draft

-- what a draft adds to the log: an alarm or a pair
abbrev pub addition_of : Change → Addition
addition_of (Alarm alarm ends guards lits) = alarm_added alarm.noted
addition_of (Pair first second) = pair_added first second

-- the code that it was made by, its addition, its variables and its clauses: what will be kept beside the code is not seen
abbrev pub draft_view : DraftInside → DraftState
draft_view a = record { code = a.code.value.coded; addition = addition_of a.change; first = a.first; vars = a.vars; clauses = a.clauses.clauses }

-- the alarm, the ends of chains, the guards and what says that alarms are false are those of the longer log; a pair changes none of them
abbrev pub IsReadyChange : CodedLog → ℕ → Change → Type 0
IsReadyChange code first (Alarm alarm ends guards lits) =
    (alarm.start ≡ first)
    × IsCodedAlarm (code_after code (alarm_added alarm.noted) first) (length code.log.alarms) alarm
    × AreEnds (code_after code (alarm_added alarm.noted) first) ends.items guards.items
    × AreFalse (code_after code (alarm_added alarm.noted) first) lits.items
IsReadyChange code first (Pair i j) = ⊤

-- what the fields keep: the change fits the code, and the variables come after those of the code, as many as the addition takes, within the limit
pub record IsReadyDraft (a : DraftInside) : Type 0 where
  pub change : IsReadyChange a.code.value.coded a.first a.change
  pub after : a.code.value.coded.vars ≤ a.first
  pub width : a.vars ≡ addition_width a.code.value.coded (addition_of a.change)
  pub few : a.first + a.vars ≤ VAR_LIMIT
