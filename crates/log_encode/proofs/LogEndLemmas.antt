-- What the draft of an alarm at the end of a coded log needs, and what it is.
use Rattle.std.proofs.Common.{◌≡◌, ◌∙◌, ℕ, ◌+◌, ◌*◌, ◌<◌, ◌≤◌, Bool, List, [], ◌++◌, length, refl, sym, ap, subst, arith, All}
use Rattle.des_base.specs.declared.TheConstants.{VAR_LIMIT}
use Rattle.des_net.specs.Network.{Net}
use Rattle.question_clauses.specs.Additions.{alarm_added, with_addition}
use Rattle.question_clauses.specs.Drafts.{added_list}
use Rattle.log_encode.proofs.CallLemmas.{IsDrafting, draft_asked, draft_known_events, draft_small, draft_rests, draft_width, draft_brings, ready_alarm}
use Rattle.log_encode.proofs.GrowLemmas.{new_vars}
use Rattle.log_encode.specs.AlarmState.{AlarmState}
use Rattle.log_encode.specs.AlarmVariables.{AreWithinLimit, alarm_width}
use Rattle.log_encode.specs.CodedLog.{CodedLog, read_meanings, code_after, addition_width}
use Rattle.log_encode.specs.declared.alarm_vars.AlarmVars.{AlarmVars}
use Rattle.log_encode.specs.declared.draft.Change.{Change}
use Rattle.log_encode.specs.declared.draft.Change.TheVariants.{Alarm, Pair}
use Rattle.log_encode.specs.declared.draft.Draft.TheInside.{Inside as DraftInside}
use Rattle.log_encode.specs.declared.log_code.LogCode.TheInside.{Inside}
use Rattle.log_encode.specs.declared.log_end.LogEnd.{LogEnd}
use Rattle.log_encode.specs.declared.taken.ChainEnd.{ChainEnd}
use Rattle.log_encode.specs.declared.taken.Taken.{Taken}
use Rattle.log_encode.specs.Drafted.{LogCodeState}
use Rattle.log_encode.specs.LogEnds.{IsLogEnd, CanDraft, BringsAlarm}
use Rattle.log_encode.specs.View.{AreEnds, AreFalse, IsCodedAlarm, KeepsLogCode, IsReadyChange, IsReadyDraft, addition_of, coded, code_view}
use Rattle.log_encode.specs.Written.{HasRest, alarm_written, dropped_written, ends_after, guards_of, taken_from}
use Rattle.log_order.specs.Log.{Alarm as LogAlarm, an_alarm}
use Rattle.prop_core.specs.Clauses.{Clause}
use Rattle.prop_core.specs.Listings.{IsListed}
use Rattle.prop_core.specs.declared.grid.Grid.{Grid}
use Rattle.replay.specs.QuestionSize.{question_size}

-- ---- what it needs

-- what a code keeps is its end
pub kept_end : (a : Inside) (state : LogCodeState) (end : LogEnd) → code_view a ≡ state → KeepsLogCode a → end.net.now ≡ state.coded.net → end.grid ≡ a.grid → end.asked ≡ a.asked → end.ends.now ≡ a.ends.items → end.dropped.now ≡ a.dropped.items →
    IsLogEnd state.coded end
kept_end a state end view inv net grid asked ends dropped =
    subst (λ (s : LogCodeState). end.net.now ≡ s.coded.net → IsLogEnd s.coded end) view
    (λ same. record {
      of_net = same;
      on_grid = grid;
      asking = asked;
      coded = inv.kept.log;
      chains = subst (λ xs. AreEnds (coded a) xs (guards_of a.asked xs)) (sym ends) (subst (AreEnds (coded a) a.ends.items) inv.kept.chains.guarding inv.kept.chains);
      false_ones = subst (AreFalse (coded a)) (sym dropped) inv.kept.false_ones;
    })
    net

drafting : (code : CodedLog) (end : LogEnd) (new : LogAlarm) (first : ℕ) → CanDraft code end new first → IsDrafting code new first end.ends.now (guards_of code.asked end.ends.now)
drafting code end new first can = record { coded = can.here.coded; chains = can.here.chains; above = can.made; few = can.few }

taken_there : (code : CodedLog) (end : LogEnd) (labels : List (List ℕ)) (takes : List Taken) → IsLogEnd code end → takes ≡ taken_from end.net.now labels end.ends.now → takes ≡ taken_from code.net labels end.ends.now
taken_there code end labels takes here is = is ∙ ap (λ (net : Net). taken_from net labels end.ends.now) here.of_net

pub events_known : (code : CodedLog) (end : LogEnd) (new : LogAlarm) (first : ℕ) → CanDraft code end new first → All (λ (x : ChainEnd). x.event < length end.net.now.events) end.ends.now
events_known code end new first can =
    subst (λ (net : Net). All (λ (x : ChainEnd). x.event < length net.events) end.ends.now) (sym can.here.of_net)
    (draft_known_events code new first end.ends.now (guards_of code.asked end.ends.now) (drafting code end new first can))

pub rests_there : (code : CodedLog) (end : LogEnd) (new : LogAlarm) (first : ℕ) (takes : List Taken) → CanDraft code end new first → takes ≡ taken_from end.net.now new.labels end.ends.now → All (HasRest end.grid) takes
rests_there code end new first takes can is =
    subst (λ (grid : Grid). All (HasRest grid) takes) (sym can.here.on_grid)
    (subst (All (HasRest code.grid)) (sym (taken_there code end new.labels takes can.here is)) (draft_rests code new first end.ends.now (guards_of code.asked end.ends.now) (drafting code end new first can)))

pub asked_small : (code : CodedLog) (end : LogEnd) (new : LogAlarm) (first : ℕ) → CanDraft code end new first → end.asked < VAR_LIMIT
asked_small code end new first can = let low = draft_asked code can.here.coded in let same = can.here.asking in omega (arith, low, same)

pub ends_small : (code : CodedLog) (end : LogEnd) (new : LogAlarm) (first : ℕ) → CanDraft code end new first → All (λ (x : ChainEnd). x.closed < VAR_LIMIT) end.ends.now
ends_small code end new first can = draft_small code new first end.ends.now (guards_of code.asked end.ends.now) (drafting code end new first can)

-- where its variables stand, by how many events it takes
abbrev pub vars_at : LogEnd → ℕ → ℕ → Bool → AlarmVars
vars_at end first links maybe = record { start = first; links = links; steps = end.grid.steps; doubtful = maybe }

vars_are_new : (code : CodedLog) (end : LogEnd) (first links : ℕ) (maybe : Bool) → IsLogEnd code end → vars_at end first links maybe ≡ new_vars code first links maybe
vars_are_new code end first links maybe here = ap (λ (grid : Grid). record { start = first; links = links; steps = grid.steps; doubtful = maybe }) here.on_grid

width_there : (code : CodedLog) (end : LogEnd) (new : LogAlarm) (first links : ℕ) (takes : List Taken) → CanDraft code end new first → takes ≡ taken_from end.net.now new.labels end.ends.now → links ≡ length takes →
    alarm_width (vars_at end first links new.doubtful) ≡ addition_width code (alarm_added new)
width_there code end new first links takes can is count =
    ap alarm_width (vars_are_new code end first links new.doubtful can.here)
    ∙ sym (draft_width code new first links end.ends.now (guards_of code.asked end.ends.now) takes (drafting code end new first can) (taken_there code end new.labels takes can.here is) count)

pub vars_within : (code : CodedLog) (end : LogEnd) (new : LogAlarm) (first links : ℕ) (takes : List Taken) → CanDraft code end new first → takes ≡ taken_from end.net.now new.labels end.ends.now → links ≡ length takes →
    AreWithinLimit (vars_at end first links new.doubtful)
vars_within code end new first links takes can is count = let wide = width_there code end new first links takes can is count in omega (arith, wide, can.few)

-- ---- what it is

-- the change that an alarm brings is its addition, and stands ready
ready_change : (code : CodedLog) (end : LogEnd) (new : LogAlarm) (first links : ℕ) (takes : List Taken) (vars : AlarmVars) (change : Change) → CanDraft code end new first → takes ≡ taken_from code.net new.labels end.ends.now → links ≡ length takes →
    vars ≡ new_vars code first links new.doubtful → BringsAlarm end new.name new.labels takes vars change → IsReadyChange code first change × (addition_of change ≡ alarm_added new)
ready_change code end new first links takes vars (Pair i j) can taken count same brings = absurd brings
ready_change code end new first links takes vars (Alarm alarm after then later) can taken count same brings =
    let ready = ready_alarm code new first links end.ends.now after.items (guards_of code.asked end.ends.now) then.items end.dropped.now later.items takes (drafting code end new first can) taken count
    (brings.1 ∙ ap (λ (v : AlarmVars). ends_after v 0 end.ends.now takes) same) (brings.2 ∙ ap (λ k. guards_of k after.items) can.here.asking) can.here.false_ones (brings.3 ∙ ap (λ (v : AlarmVars). end.dropped.now ++ dropped_written v) same) in
    let added : alarm ≡ record { noted = new; takes = takes; start = first } = brings.0 ∙ ap (λ (v : AlarmVars). record { noted = an_alarm new.name new.labels v.doubtful; takes = takes; start = v.start }) same in (
      subst (λ (x : AlarmState). (x.start ≡ first) × IsCodedAlarm (code_after code (alarm_added x.noted) first) (length code.log.alarms) x
          × AreEnds (code_after code (alarm_added x.noted) first) after.items then.items × AreFalse (code_after code (alarm_added x.noted) first) later.items) (sym added)
          (refl, ready.alarm, ready.chains, ready.false_ones),
      ap (λ (x : AlarmState). alarm_added x.noted) added,
    )

-- the change, how many variables and the clauses are those of this alarm
pub record IsNewAlarm (code : CodedLog) (new : LogAlarm) (first width : ℕ) (change : Change) (clauses : List Clause) : Type 0 where
  pub ready : IsReadyChange code first change
  pub adds : addition_of change ≡ alarm_added new
  pub wide : width ≡ addition_width code (alarm_added new)
  pub listed : IsListed (read_meanings (code_after code (alarm_added new) first)) (added_list code.net code.log code.grid.steps (alarm_added new)) clauses
  pub small : length clauses + 12 * question_size code.net code.log code.grid.steps ≤ 12 * question_size code.net (with_addition code.log (alarm_added new)) code.grid.steps + 12

pub new_alarm : (code : CodedLog) (end : LogEnd) (new : LogAlarm) (first links width : ℕ) (takes slice : List Taken) (vars : AlarmVars) (change : Change) (none clauses : List Clause) → CanDraft code end new first →
    takes ≡ taken_from end.net.now new.labels end.ends.now → links ≡ length takes → vars ≡ vars_at end first links new.doubtful → width ≡ alarm_width vars → BringsAlarm end new.name new.labels takes vars change → clauses ≡ none ++ alarm_written end.grid end.asked vars slice → none ≡ [] → slice ≡ takes →
    IsNewAlarm code new first width change clauses
new_alarm code end new first links width takes slice vars change none clauses can is count at wide brings appended empty sliced =
    let taken = taken_there code end new.labels takes can.here is in
    let same : vars ≡ new_vars code first links new.doubtful = at ∙ vars_are_new code end first links new.doubtful can.here in
    let ready = ready_change code end new first links takes vars change can taken count same brings in
    let written : clauses ≡ alarm_written end.grid end.asked vars takes = appended ∙ ap (λ xs. xs ++ alarm_written end.grid end.asked vars slice) empty ∙ ap (alarm_written end.grid end.asked vars) sliced in
    let listed = draft_brings code new first links end.ends.now (guards_of code.asked end.ends.now) takes clauses (drafting code end new first can) taken count
    (written ∙ ap (λ (grid : Grid). alarm_written grid end.asked vars takes) can.here.on_grid ∙ ap (λ k. alarm_written code.grid k vars takes) can.here.asking ∙ ap (λ (v : AlarmVars). alarm_written code.grid code.asked v takes) same) in
    record { ready = ready.0; adds = ready.1; wide = wide ∙ ap alarm_width at ∙ width_there code end new first links takes can is count; listed = listed.0; small = listed.1 }

-- a draft of it keeps what a draft is to keep
pub ready_draft : (d : DraftInside) (code : CodedLog) (new : LogAlarm) → IsNewAlarm code new d.first d.vars d.change d.clauses.clauses → d.code.value.coded ≡ code → code.vars ≤ d.first →
    d.first + addition_width code (alarm_added new) ≤ VAR_LIMIT → IsReadyDraft d
ready_draft d code new is same made few = record {
  change = subst (λ (k : CodedLog). IsReadyChange k d.first d.change) (sym same) is.ready;
  after = subst (λ (k : CodedLog). k.vars ≤ d.first) (sym same) made;
  width = is.wide ∙ sym (ap (addition_width code) is.adds) ∙ ap (λ (k : CodedLog). addition_width k (addition_of d.change)) (sym same);
  few = let wide = is.wide in omega (arith, wide, few);
}
