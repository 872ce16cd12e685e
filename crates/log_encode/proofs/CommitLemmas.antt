-- What a commit leaves.
use Rattle.std.proofs.Common.{◌≡◌, ℕ, ◌+◌, ◌≤◌, ◌∙◌, List, [], ◌∷◌, ◌++◌, length, refl, sym, ap, subst, arith}
use Rattle.des_base.specs.declared.TheConstants.{VAR_LIMIT}
use Rattle.des_net.specs.Network.{Net}
use Rattle.question_clauses.specs.Additions.{Addition, alarm_added, pair_added}
use Rattle.log_encode.proofs.CodeLemmas.{grown_is_coded}
use Rattle.log_encode.proofs.StayLemmas.{kept_by_pair, kept_with_alarm, coded_with_alarm}
use Rattle.log_encode.proofs.TakenLemmas.{map_count}
use Rattle.log_encode.specs.AlarmState.{AlarmState}
use Rattle.log_encode.specs.CodedLog.{CodedLog, code_after, addition_width}
use Rattle.log_encode.specs.declared.taken.ChainEnd.{ChainEnd}
use Rattle.log_encode.specs.View.{AreEnds, AreFalse, IsCodedAlarm, AreKept, IsReadyDraft, IsReadyChange, addition_of, coded_of}
use Rattle.log_encode.specs.declared.draft.Change.{Change}
use Rattle.log_encode.specs.declared.draft.Change.TheVariants.{Alarm, Pair}
use Rattle.log_encode.specs.declared.draft.Draft.TheInside.{Inside as DraftInside}
use Rattle.std.proofs.Common.{Vec, Global}
use Rattle.prop_core.specs.declared.grid.Grid.{Grid}
use Rattle.prop_core.specs.declared.lit.Lit.{Lit}

-- the variables of a code after a draft
pub record IsAfter (code : CodedLog) (addition : Addition) (first width vars : ℕ) : Type 0 where
  pub above : code.vars ≤ first
  pub wide : width ≡ addition_width code addition
  pub few : first + width ≤ VAR_LIMIT
  pub last : vars ≡ first + width

pub pair_committed : (net : Net) (grid : Grid) (asked old first width vars i j : ℕ) (chain_ends : List ChainEnd) (guards dropped : List Lit) (alarms : List AlarmState) (pairs longer : List (ℕ × ℕ)) →
    AreKept (coded_of net grid asked old alarms pairs) chain_ends guards dropped alarms → IsAfter (coded_of net grid asked old alarms pairs) (pair_added i j) first width vars → longer ≡ pairs ++ (i, j) ∷ [] →
    AreKept (coded_of net grid asked vars alarms longer) chain_ends guards dropped alarms × (coded_of net grid asked vars alarms longer ≡ code_after (coded_of net grid asked old alarms pairs) (pair_added i j) first)
pair_committed net grid asked old first width vars i j chain_ends guards dropped alarms pairs longer kept is l =
    let code = coded_of net grid asked old alarms pairs in
    let total : vars ≡ first + addition_width code (pair_added i j) = omega (arith, is.last, is.wide) in
    let grown = grown_is_coded code (pair_added i j) first kept.log is.above (omega (arith, is.few, is.wide)) in
    rw (l, total) (kept_by_pair code i j first chain_ends guards dropped alarms grown is.above kept, refl)

pub alarm_committed : (net : Net) (grid : Grid) (asked old first width vars : ℕ) (chain_ends after : List ChainEnd) (guards then dropped later : List Lit) (alarms longer : List AlarmState) (pairs : List (ℕ × ℕ)) (alarm : AlarmState) →
    AreKept (coded_of net grid asked old alarms pairs) chain_ends guards dropped alarms → IsAfter (coded_of net grid asked old alarms pairs) (alarm_added alarm.noted) first width vars → alarm.start ≡ first →
    IsCodedAlarm (code_after (coded_of net grid asked old alarms pairs) (alarm_added alarm.noted) first) (length (coded_of net grid asked old alarms pairs).log.alarms) alarm →
    AreEnds (code_after (coded_of net grid asked old alarms pairs) (alarm_added alarm.noted) first) after then → AreFalse (code_after (coded_of net grid asked old alarms pairs) (alarm_added alarm.noted) first) later → longer ≡ alarms ++ alarm ∷ [] →
    AreKept (coded_of net grid asked vars longer pairs) after then later longer × (coded_of net grid asked vars longer pairs ≡ code_after (coded_of net grid asked old alarms pairs) (alarm_added alarm.noted) first)
alarm_committed net grid asked old first width vars chain_ends after guards then dropped later alarms longer pairs alarm kept is begins last chains false_ones l =
    let code = coded_of net grid asked old alarms pairs in
    let addition = alarm_added alarm.noted in
    let total : vars ≡ first + addition_width code addition = omega (arith, is.last, is.wide) in
    let grown = grown_is_coded code addition first kept.log is.above (omega (arith, is.few, is.wide)) in
    let same = coded_with_alarm net grid asked old first alarms pairs alarm begins in
    let count : length code.log.alarms ≡ length alarms = map_count (λ (x : AlarmState). x.noted) alarms in
    rw (l, total) (subst (λ (k : CodedLog). AreKept k after then later (alarms ++ alarm ∷ [])) (sym same) (kept_with_alarm code first chain_ends after guards then dropped later alarms alarm count grown is.above kept chains false_ones last), same)

-- what a draft that is committed says of the code, if it adds an alarm
pub record TellsAlarm (code : CodedLog) (first width : ℕ) (alarm : AlarmState) (after : List ChainEnd) (then later : List Lit) : Type 0 where
  pub begins : alarm.start ≡ first
  pub last : IsCodedAlarm (code_after code (alarm_added alarm.noted) first) (length code.log.alarms) alarm
  pub chains : AreEnds (code_after code (alarm_added alarm.noted) first) after then
  pub false_ones : AreFalse (code_after code (alarm_added alarm.noted) first) later
  pub after_it : IsAfter code (alarm_added alarm.noted) first width (first + width)

pub tells_alarm : (d : DraftInside) (code : CodedLog) (alarm : AlarmState) (after : Vec ChainEnd Global) (then later : Vec Lit Global) → IsReadyDraft d → d.change ≡ Alarm alarm after then later → d.code.value.coded ≡ code → TellsAlarm code d.first d.vars alarm after.items then.items later.items
tells_alarm d code alarm after then later ready is same =
    subst (λ (k : CodedLog). TellsAlarm k d.first d.vars alarm after.items then.items later.items) same (
    let change = subst (λ (ch : Change). IsReadyChange d.code.value.coded d.first ch) is ready.change in record {
      begins = change.0;
      last = change.1;
      chains = change.2;
      false_ones = change.3;
      after_it = record { above = ready.after; wide = ready.width ∙ ap (λ (ch : Change). addition_width d.code.value.coded (addition_of ch)) is; few = ready.few; last = refl };
    })

pub tells_pair : (d : DraftInside) (code : CodedLog) (i j : ℕ) → IsReadyDraft d → d.change ≡ Pair i j → d.code.value.coded ≡ code → IsAfter code (pair_added i j) d.first d.vars (d.first + d.vars)
tells_pair d code i j ready is same =
    subst (λ (k : CodedLog). IsAfter k (pair_added i j) d.first d.vars (d.first + d.vars)) same
    (record { above = ready.after; wide = ready.width ∙ ap (λ (ch : Change). addition_width d.code.value.coded (addition_of ch)) is; few = ready.few; last = refl })
