-- The ends of chains with a new alarm, and its own variables.
use Rattle.std.proofs.Common.{◌≡◌, ◌≢◌, ℕ, suc, ◌+◌, ◌*◌, ◌<◌, ◌≤◌, ◌∙◌, Bool, true, false, List, [], ◌∷◌, ◌++◌, length, map, filter, Some, refl, sym, ap, subst, arith, slice_get, length-append, ◌==◌, if◌then◌else◌, append_assoc}
use Rattle.std.specs.List.{AllByRecursion}
use Rattle.std.proofs.lemmas.Bool.{eq-eqb, false_from_ne_true, eqb-true}
use Rattle.des_base.proofs.Elements.{contains_at, filter_from, zip_append, pairs_filter}
use Rattle.des_base.proofs.NumbersBelow.{range_once}
use Rattle.des_base.specs.ChainCount.{chain_count}
use Rattle.des_base.specs.Lists.{EachPair, numbers_below}
use Rattle.des_net.specs.Network.{Net, label_of, observable_events}
use Rattle.log_order.specs.Log.{Log, Alarm}
use Rattle.question_clauses.specs.Additions.{alarm_added, with_addition}
use Rattle.question_clauses.specs.Drafts.{taken_events}
use Rattle.question_clauses.specs.LogClauses.{IsLink, chain}
use Rattle.question_clauses.specs.LogNames.{HasAlarmPlaces, ReadsInOrder}
use Rattle.question_clauses.proofs.Numbered.{places_of_meanings}
use Rattle.question_clauses.proofs.Stay.{doubtful_new}
use Rattle.log_encode.proofs.CodeLemmas.{names_with_alarm, raised, false_more}
use Rattle.log_encode.proofs.StayLemmas.{end_stays, chain_joined, named_still}
use Rattle.log_encode.proofs.TakenLemmas.{suits_new, taken_are_events, taken_is_filter, width_is, map_count}
use Rattle.log_encode.proofs.VariableLemmas.{link_is_small}
use Rattle.replay.specs.Explanation.{has_any_label, is_matching}
use Rattle.log_encode.specs.AlarmVariables.{alarm_variable_count, false_width, dropped_variable}
use Rattle.log_encode.specs.CodedLog.{CodedLog, log_meanings, code_after, addition_width, false_literals, IsCodedLog}
use Rattle.log_encode.specs.declared.alarm_vars.AlarmVars.{AlarmVars}
use Rattle.log_encode.specs.declared.taken.ChainEnd.{ChainEnd}
use Rattle.log_encode.specs.declared.taken.Taken.{Taken}
use Rattle.log_encode.specs.View.{IsChainEnd, AreEnds, AreFalse, IsCodedAlarm}
use Rattle.log_encode.specs.Written.{taken_from, end_after, ends_after, guards_of, dropped_written}
use Rattle.prop_core.specs.declared.lit.Lit.{Lit}
use Rattle.prop_core.specs.VariableNames.{Meaning, NamedLiteral, meaning_of, yes, closed, remaining, done, dropped}
use Rattle.std.specs.Prelude.{is_some}

-- each chain whose event has one of the labels gets a link
abbrev lengthened : Net → List (List ℕ) → AlarmVars → ℕ → List ChainEnd → List ChainEnd
lengthened net labels vars link [] = []
lengthened net labels vars link (end ∷ ends) =
    if has_any_label net labels end.event then end_after vars link end.event ∷ lengthened net labels vars (suc link) ends else end ∷ lengthened net labels vars link ends

untaken : (vars : AlarmVars) (link : ℕ) (end : ChainEnd) (ends : List ChainEnd) (takes : List Taken) → AllByRecursion (λ (taken : Taken). end.event ≢ taken.event) takes →
    ends_after vars link (end ∷ ends) takes ≡ end ∷ ends_after vars link ends takes
untaken vars link end ends [] others = refl
untaken vars link end ends (taken ∷ takes) others =
    let other : (taken.event == end.event) ≡ false = false_from_ne_true _ (λ same. others.0 (sym (eqb-true taken.event end.event same))) in
    rw other refl

taken_others : (net : Net) (labels : List (List ℕ)) (e : ℕ) (ends : List ChainEnd) → AllByRecursion (λ f. e ≢ f) (map (λ (end : ChainEnd). end.event) ends) → AllByRecursion (λ (taken : Taken). e ≢ taken.event) (taken_from net labels ends)
taken_others net labels e [] others = tt
taken_others net labels e (end ∷ ends) others = by (has_any_label net labels end.event) refl (taken_others net labels e ends others.1)
  where
    by : (b : Bool) → has_any_label net labels end.event ≡ b → AllByRecursion (λ (taken : Taken). e ≢ taken.event) (taken_from net labels ends) → AllByRecursion (λ (taken : Taken). e ≢ taken.event) (taken_from net labels (end ∷ ends))
    by true is later = rw is (others.0, later)
    by false is later = rw is later

-- the loop does exactly that, since no event stands twice
after_is : (net : Net) (labels : List (List ℕ)) (vars : AlarmVars) (link : ℕ) (ends : List ChainEnd) → EachPair (λ e f. e ≢ f) (map (λ (end : ChainEnd). end.event) ends) →
    ends_after vars link ends (taken_from net labels ends) ≡ lengthened net labels vars link ends
after_is net labels vars link [] once = refl
after_is net labels vars link (end ∷ ends) once = by (has_any_label net labels end.event) refl (λ k. after_is net labels vars k ends once.1)
  where
    by : (b : Bool) → has_any_label net labels end.event ≡ b → ((k : ℕ) → ends_after vars k ends (taken_from net labels ends) ≡ lengthened net labels vars k ends) →
        ends_after vars link (end ∷ ends) (taken_from net labels (end ∷ ends)) ≡ lengthened net labels vars link (end ∷ ends)
    by true is later =
        let same : (end.event == end.event) ≡ true = eq-eqb end.event end.event refl in
        rw (is, same) (ap (λ xs. end_after vars link end.event ∷ xs) (later (suc link)))
    by false is later = rw is (untaken vars link end ends (taken_from net labels ends) (taken_others net labels end.event ends once.0) ∙ ap (λ xs. end ∷ xs) (later link))

pub observables_once : (net : Net) → EachPair (λ e f. e ≢ f) (observable_events net)
observables_once net = pairs_filter (λ e f. e ≢ f) (λ e. is_some (label_of net e)) (numbers_below (length net.events)) (range_once 0 (length net.events))

pub lengthened_events : (net : Net) (labels : List (List ℕ)) (vars : AlarmVars) (link : ℕ) (ends : List ChainEnd) → map (λ (end : ChainEnd). end.event) (lengthened net labels vars link ends) ≡ map (λ (end : ChainEnd). end.event) ends
lengthened_events net labels vars link [] = refl
lengthened_events net labels vars link (end ∷ ends) = by (has_any_label net labels end.event) refl (λ k. lengthened_events net labels vars k ends)
  where
    by : (b : Bool) → has_any_label net labels end.event ≡ b → ((k : ℕ) → map (λ (x : ChainEnd). x.event) (lengthened net labels vars k ends) ≡ map (λ (x : ChainEnd). x.event) ends) → map (λ (x : ChainEnd). x.event) (lengthened net labels vars link (end ∷ ends)) ≡ end.event ∷ map (λ (x : ChainEnd). x.event) ends
    by true is later = rw is (ap (λ xs. end.event ∷ xs) (later (suc link)))
    by false is later = rw is (ap (λ xs. end.event ∷ xs) (later link))

abbrev pub new_vars : CodedLog → ℕ → ℕ → Bool → AlarmVars
new_vars code first links maybe = record { start = first; links = links; steps = code.grid.steps; doubtful = maybe }

-- the names of the longer log, where they are
pub places : (code : CodedLog) (new : Alarm) (first : ℕ) → IsCodedLog code → code.vars ≤ first → HasAlarmPlaces code.net code.log code.grid.steps first new (log_meanings (code_after code (alarm_added new) first))
places code new first coded above =
    subst (HasAlarmPlaces code.net code.log code.grid.steps first new) (sym (names_with_alarm code new first coded.each))
    (places_of_meanings code.net code.log code.grid.steps first new (log_meanings code) (raised code.net code.log code.grid.steps code.vars first (log_meanings code) above coded.meanings))

joined_count : (net : Net) (log : Log) (new : Alarm) (e : ℕ) → has_any_label net new.labels e ≡ true → length (chain net (with_addition log (alarm_added new)) e) ≡ suc (length (chain net log e))
joined_count net log new e h = ap length (chain_joined net log new e h) ∙ omega (arith, length-append (chain net log e) (length log.alarms ∷ []))

pub get_at : (before after : List ℕ) (e : ℕ) → slice_get (before ++ e ∷ after) (length before) ≡ Some e
get_at [] after e = refl
get_at (x ∷ before) after e = get_at before after e

-- a chain that the alarm joins
joined_end : (code : CodedLog) (new : Alarm) (first links link e : ℕ) → IsCodedLog code → code.vars ≤ first → has_any_label code.net new.labels e ≡ true →
    slice_get (taken_events code.net code.log new) link ≡ Some e → link < links → addition_width code (alarm_added new) ≡ alarm_variable_count links code.grid.steps + false_width new.doubtful →
    IsChainEnd (code_after code (alarm_added new) first) (end_after (new_vars code first links new.doubtful) link e)
joined_end code new first links link e coded above h at inside width =
    let there = places code new first coded above in
    let count = joined_count code.net code.log new e h in
    let bound = link_is_small links (1 + code.grid.steps * 2) link inside in record {
      closing = subst (λ k. meaning_of (log_meanings (code_after code (alarm_added new) first)) (first + link * (1 + code.grid.steps * 2)) ≡ Some (closed e k)) (sym count) (there.closing link e at);
      rest = (
        omega (arith, bound, width),
        λ t time.
            let var : first + (link * (1 + code.grid.steps * 2) + suc (t * 2 + 1)) ≡ first + (link * (1 + code.grid.steps * 2) + suc (0 * 2 + 1)) + t * 2 = omega arith in
            subst (λ v. meaning_of (log_meanings (code_after code (alarm_added new) first)) v ≡ Some (remaining e (length (chain code.net (with_addition code.log (alarm_added new)) e)) (suc t))) var
            (subst (λ k. meaning_of (log_meanings (code_after code (alarm_added new) first)) (first + (link * (1 + code.grid.steps * 2) + suc (t * 2 + 1))) ≡ Some (remaining e k (suc t))) (sym count) (there.passing link e t at time)),
      );
    }

-- all ends, after the links before
ends_grow : (code : CodedLog) (new : Alarm) (first links : ℕ) (before : List ℕ) (ends : List ChainEnd) → IsCodedLog code → code.vars ≤ first →
    addition_width code (alarm_added new) ≡ alarm_variable_count links code.grid.steps + false_width new.doubtful → length (taken_events code.net code.log new) ≡ links →
    taken_events code.net code.log new ≡ before ++ filter (has_any_label code.net new.labels) (map (λ (end : ChainEnd). end.event) ends) → AllByRecursion (IsChainEnd code) ends →
    AllByRecursion (IsChainEnd (code_after code (alarm_added new) first)) (lengthened code.net new.labels (new_vars code first links new.doubtful) (length before) ends)
ends_grow code new first links before [] coded above width count are all = tt
ends_grow code new first links before (end ∷ ends) coded above width count are all =
    by (has_any_label code.net new.labels end.event) refl (λ earlier same. ends_grow code new first links earlier ends coded above width count same all.1)
  where
    by : (b : Bool) → has_any_label code.net new.labels end.event ≡ b →
        ((earlier : List ℕ) → taken_events code.net code.log new ≡ earlier ++ filter (has_any_label code.net new.labels) (map (λ (x : ChainEnd). x.event) ends) →
        AllByRecursion (IsChainEnd (code_after code (alarm_added new) first)) (lengthened code.net new.labels (new_vars code first links new.doubtful) (length earlier) ends)) → AllByRecursion (IsChainEnd (code_after code (alarm_added new) first)) (lengthened code.net new.labels (new_vars code first links new.doubtful) (length before) (end ∷ ends))
    by true is later =
        let split : taken_events code.net code.log new ≡ before ++ end.event ∷ filter (has_any_label code.net new.labels) (map (λ (x : ChainEnd). x.event) ends) = are ∙ rw is refl in
        let at : slice_get (taken_events code.net code.log new) (length before) ≡ Some end.event = rw split (get_at before (filter (has_any_label code.net new.labels) (map (λ (x : ChainEnd). x.event) ends)) end.event) in
        let inside : length before < links = omega (arith, count, ap length split, length-append before (end.event ∷ filter (has_any_label code.net new.labels) (map (λ (x : ChainEnd). x.event) ends))) in
        let one : length (before ++ end.event ∷ []) ≡ suc (length before) = omega (arith, length-append before (end.event ∷ [])) in
        let rest = later (before ++ end.event ∷ []) (split ∙ sym (append_assoc before (end.event ∷ []) (filter (has_any_label code.net new.labels) (map (λ (x : ChainEnd). x.event) ends)))) in
        rw is (
          joined_end code new first links (length before) end.event coded above is at inside width,
          subst (λ k. AllByRecursion (IsChainEnd (code_after code (alarm_added new) first)) (lengthened code.net new.labels (new_vars code first links new.doubtful) k ends)) one rest,
        )
    by false is later =
        let same : taken_events code.net code.log new ≡ before ++ filter (has_any_label code.net new.labels) (map (λ (x : ChainEnd). x.event) ends) = are ∙ rw is refl in
        rw is (end_stays code new first end coded above is all.0, later before same)

pub taken_count : (code : CodedLog) (new : Alarm) (ends : List ChainEnd) → map (λ (end : ChainEnd). end.event) ends ≡ observable_events code.net →
    length (taken_events code.net code.log new) ≡ length (taken_from code.net new.labels ends)
taken_count code new ends are = ap length (sym (taken_are_events code.net code.log new ends are)) ∙ map_count (λ (taken : Taken). taken.event) (taken_from code.net new.labels ends)

pub taken_width : (code : CodedLog) (new : Alarm) (ends : List ChainEnd) → map (λ (end : ChainEnd). end.event) ends ≡ observable_events code.net →
    addition_width code (alarm_added new) ≡ alarm_variable_count (length (taken_from code.net new.labels ends)) code.grid.steps + false_width new.doubtful
taken_width code new ends are = width_is code.net code.log code.grid.steps new (taken_from code.net new.labels ends) (taken_are_events code.net code.log new ends are)

pub ends_with_alarm : (code : CodedLog) (new : Alarm) (first : ℕ) (ends : List ChainEnd) (guards : List Lit) → IsCodedLog code → code.vars ≤ first → AreEnds code ends guards →
    AreEnds (code_after code (alarm_added new) first)
    (ends_after (new_vars code first (length (taken_from code.net new.labels ends)) new.doubtful) 0 ends (taken_from code.net new.labels ends))
    (guards_of code.asked (ends_after (new_vars code first (length (taken_from code.net new.labels ends)) new.doubtful) 0 ends (taken_from code.net new.labels ends)))
ends_with_alarm code new first ends guards coded above are =
    let vars = new_vars code first (length (taken_from code.net new.labels ends)) new.doubtful in
    let once : EachPair (λ e f. e ≢ f) (map (λ (end : ChainEnd). end.event) ends) = subst (EachPair (λ e f. e ≢ f)) (sym are.events) (observables_once code.net) in
    let is = after_is code.net new.labels vars 0 ends once in
    let found : taken_events code.net code.log new ≡ filter (has_any_label code.net new.labels) (map (λ (end : ChainEnd). end.event) ends) =
    sym (taken_are_events code.net code.log new ends are.events) ∙ taken_is_filter code.net new.labels ends in record {
      events = ap (map (λ (end : ChainEnd). end.event)) is ∙ lengthened_events code.net new.labels vars 0 ends ∙ are.events;
      each = subst (AllByRecursion (IsChainEnd (code_after code (alarm_added new) first))) (sym is)
          (ends_grow code new first (length (taken_from code.net new.labels ends)) [] ends coded above (taken_width code new ends are.events) (taken_count code new ends are.events) found are.each);
      guarding = refl;
    }

-- the new alarm stands at the end of the chain of an event that it may stand for
new_link : (code : CodedLog) (new : Alarm) (p e : ℕ) → slice_get (taken_events code.net code.log new) p ≡ Some e →
    IsLink code.net (with_addition code.log (alarm_added new)) (length code.log.alarms) e (length (chain code.net code.log e))
new_link code new p e at =
    let longer = with_addition code.log (alarm_added new) in
    let suits = (filter_from (λ x. is_matching code.net longer x (length code.log.alarms)) (numbers_below (length code.net.events)) e (contains_at (taken_events code.net code.log new) p e at)).0 in
    let passes : has_any_label code.net new.labels e ≡ true = sym (suits_new code.net code.log new e) ∙ suits in
    subst (λ xs. slice_get xs (length (chain code.net code.log e)) ≡ Some (length code.log.alarms)) (sym (chain_joined code.net code.log new e passes)) (get_at (chain code.net code.log e) [] (length code.log.alarms))

pub new_alarm : (code : CodedLog) (new : Alarm) (first : ℕ) (ends : List ChainEnd) → IsCodedLog code → code.vars ≤ first → map (λ (end : ChainEnd). end.event) ends ≡ observable_events code.net →
    IsCodedAlarm (code_after code (alarm_added new) first) (length code.log.alarms) (record { noted = new; takes = taken_from code.net new.labels ends; start = first })
new_alarm code new first ends coded above are =
    let there = places code new first coded above in
    let width = taken_width code new ends are in record {
      events = taken_are_events code.net code.log new ends are;
      within = omega (arith, width);
      matching = λ p e t at time. there.matching p e t at time;
      passing = λ p e t at time. (length (chain code.net code.log e), new_link code new p e at, there.passing p e t at time);
      being_done = λ t time. subst (λ k. meaning_of (log_meanings (code_after code (alarm_added new) first)) (first + (k * (1 + code.grid.steps * 2) + t)) ≡ Some (done (length code.log.alarms) t)) (taken_count code new ends are) (there.being_done t time);
      mark = doubtful_new code.log new;
      being_false = λ h. subst (λ k. meaning_of (log_meanings (code_after code (alarm_added new) first)) (first + (k * (1 + code.grid.steps * 2) + (suc code.grid.steps + code.grid.steps * chain_count k))) ≡ Some (dropped (length code.log.alarms))) (taken_count code new ends are) (there.being_false h);
    }

-- ---- what says that alarms are false

reads_still : (names more : List (ℕ × Meaning)) (lits : List Lit) (named : List NamedLiteral) → ((v : ℕ) (x : Meaning) → meaning_of names v ≡ Some x → meaning_of more v ≡ Some x) → ReadsInOrder names lits named → ReadsInOrder more lits named
reads_still names more [] [] still h = tt
reads_still names more [] (m ∷ named) still h = absurd h
reads_still names more (l ∷ lits) [] still h = absurd h
reads_still names more (l ∷ lits) (m ∷ named) still h = ((still l.var m.meaning h.0.0, h.0.1), reads_still names more lits named still h.1)

pub false_with_alarm : (code : CodedLog) (new : Alarm) (first : ℕ) (ends : List ChainEnd) (lits : List Lit) → IsCodedLog code → code.vars ≤ first → map (λ (end : ChainEnd). end.event) ends ≡ observable_events code.net →
    AreFalse code lits → AreFalse (code_after code (alarm_added new) first) (lits ++ dropped_written (new_vars code first (length (taken_from code.net new.labels ends)) new.doubtful))
false_with_alarm code new first ends lits coded above are old =
    let after = code_after code (alarm_added new) first in
    let vars = new_vars code first (length (taken_from code.net new.labels ends)) new.doubtful in
    let kept = reads_still (log_meanings code) (log_meanings after) lits (false_literals code.log) (λ v x h. named_still code new first v x coded.each h) old in
    subst (ReadsInOrder (log_meanings after) (lits ++ dropped_written vars)) (sym (false_more code.log new))
    (zip_append _ lits (false_literals code.log) (dropped_written vars) (if new.doubtful then yes (dropped (length code.log.alarms)) ∷ [] else []) kept
    (by new.doubtful (new_alarm code new first ends coded above are).being_false))
  where
    by : (b : Bool) → (b ≡ true → meaning_of (log_meanings (code_after code (alarm_added new) first)) (dropped_variable (new_vars code first (length (taken_from code.net new.labels ends)) new.doubtful)) ≡ Some (dropped (length code.log.alarms))) →
        ReadsInOrder (log_meanings (code_after code (alarm_added new) first)) (if b then (record { var = dropped_variable (new_vars code first (length (taken_from code.net new.labels ends)) new.doubtful); positive = true }) ∷ [] else []) (if b then yes (dropped (length code.log.alarms)) ∷ [] else [])
    by true h = ((h refl, refl), tt)
    by false h = tt
