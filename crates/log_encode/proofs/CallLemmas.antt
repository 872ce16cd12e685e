-- What the calls of a log's code need of it and give, over plain values.
use Rattle.std.proofs.Common.{◌≡◌, ◌⊎◌, inl, inr, ℕ, zero, suc, ◌+◌, ◌*◌, ◌-◌, ◌<◌, ◌≤◌, ◌∙◌, Bool, true, false, List, [], ◌∷◌, ◌++◌, length, map, filter, find, Option, Some, None, refl, sym, ap, subst, arith, slice_get, slice_index_or, option_map, Contains, All, IfSome, ◌==◌, ◌&&◌}
use Rattle.std.specs.List.{AllByRecursion, range_with_len}
use Rattle.std.proofs.lemmas.List.Elements.{All-from_recursion, recursion_from_All}
use Rattle.des_base.proofs.BoolLemmas.{otherwise, clash}
use Rattle.des_base.proofs.Elements.{cons_cases, none_in_nil, contains_at, at_place, all_from, filter_has, filter_from, some_at}
use Rattle.des_base.specs.Lists.{numbers_below}
use Rattle.des_base.specs.declared.TheConstants.{VAR_LIMIT}
use Rattle.des_net.specs.Network.{Net, observable_events}
use Rattle.log_order.specs.Log.{Log, Alarm, is_doubtful}
use Rattle.question_clauses.specs.Additions.{alarm_added, with_addition}
use Rattle.question_clauses.specs.LogClauses.{chain, guard_literals, matching_events}
use Rattle.question_clauses.specs.Decoded.{alarm_at, is_false_alarm}
use Rattle.question_clauses.specs.LogNames.{first_meanings, ReadsInOrder}
use Rattle.replay.specs.Explanation.{is_matching, has_any_label}
use Rattle.question_clauses.proofs.Lists.{from_numbers, in_numbers}
use Rattle.question_clauses.proofs.Numbered.{ordered_literal, ordered_names}
use Rattle.card_counter.specs.CounterState.{positive}
use Rattle.log_encode.proofs.CodeLemmas.{asked_below, empty_is_coded, grown_is_coded}
use Rattle.log_encode.proofs.DraftLemmas.{lifted, asked_named, first_written, alarm_brings}
use Rattle.log_encode.proofs.EndLemmas.{empty_ends, observables_known, ends_events, ends_count, ends_small}
use Rattle.log_encode.proofs.GrowLemmas.{taken_width, new_vars, new_alarm, ends_with_alarm, false_with_alarm}
use Rattle.log_encode.proofs.TakenLemmas.{map_count}
use Rattle.log_encode.proofs.VariableLemmas.{link_is_small}
use Rattle.log_encode.specs.AlarmState.{AlarmState, variables_of, is_matched}
use Rattle.log_encode.specs.AlarmVariables.{AreWithinLimit, alarm_variable_count, false_width, match_variable, passed_variable, done_variable, dropped_variable}
use Rattle.log_encode.specs.CodedLog.{CodedLog, log_meanings, read_meanings, empty_code, code_after, addition_width, false_literals, IsCodedLog}
use Rattle.log_encode.specs.declared.log_code.LogCode.TheInside.{Inside}
use Rattle.log_encode.specs.Drafted.{LogCodeState, IsStepOfAlarm, IsUnpassed}
use Rattle.log_encode.specs.declared.taken.ChainEnd.{ChainEnd}
use Rattle.log_encode.specs.declared.taken.Taken.{Taken}
use Rattle.log_encode.specs.View.{IsChainEnd, IsRest, AreEnds, AreFalse, IsCodedAlarm, AreKept, KeepsLogCode, coded_of, coded, code_view}
use Rattle.log_encode.specs.Written.{taken_from, first_ends, guards_of, all_closed_written, alarm_written, dropped_written, ends_after, HasRest, link_from, link_of}
use Rattle.prop_core.specs.declared.grid.Grid.{Grid}
use Rattle.prop_core.specs.declared.lit.Lit.{Lit}
use Rattle.prop_core.specs.Clauses.{Clause}
use Rattle.prop_core.specs.NamedClauses.{value_by}
use Rattle.prop_core.proofs.NameLemmas.{values_match}
use Rattle.replay.specs.QuestionSize.{question_size}
use Rattle.std.specs.Option.{option_map_or}
use Rattle.std.proofs.lemmas.Bool.{eqb-true, eq-eqb, le-ltb, lt-ltb}
use Rattle.log_encode.specs.declared.alarm_vars.AlarmVars.{AlarmVars}
use Rattle.prop_core.specs.VariableNames.{Meaning, NamedLiteral, meaning_of, named_clause, yes, closed, matches, unmatched, done, dropped}
use Rattle.std.specs.Prelude.{nat_lt}
use Rattle.prop_core.specs.Listings.{IsListed}
use Rattle.question_clauses.specs.Drafts.{added_list}
use Rattle.log_encode.specs.WrittenLog.{AppendsFirst}

-- ---- the empty log

-- what is at hand when the code of the empty log is made
pub record IsBeginning (net : Net) (grid : Grid) (asked : ℕ) (chain_ends : List ChainEnd) : Type 0 where
  pub events : grid.events ≡ length net.events
  pub made : grid.first + grid.events * grid.steps ≤ asked
  pub few : asked + length (first_meanings net) ≤ VAR_LIMIT
  pub begun : chain_ends ≡ first_ends (suc asked) (observable_events net)

all_known : (net : Net) (grid : Grid) (chain_ends : List ChainEnd) → grid.events ≡ length net.events → map (λ (end : ChainEnd). end.event) chain_ends ≡ observable_events net → AllByRecursion (λ (end : ChainEnd). end.event < grid.events) chain_ends
all_known net grid chain_ends size are = all_from (λ (end : ChainEnd). end.event < grid.events) chain_ends (λ end here.
    let got = at_place chain_ends end here in
    let known = observables_known net chain_ends are got.0 end got.1 in
    omega (arith, known, size))

first_events : (net : Net) (grid : Grid) (asked : ℕ) (chain_ends : List ChainEnd) → IsBeginning net grid asked chain_ends → map (λ (end : ChainEnd). end.event) chain_ends ≡ observable_events net
first_events net grid asked chain_ends is = ap (map (λ (end : ChainEnd). end.event)) is.begun ∙ ends_events (suc asked) (observable_events net)

pub first_known : (net : Net) (grid : Grid) (asked : ℕ) (chain_ends : List ChainEnd) → IsBeginning net grid asked chain_ends → All (λ (end : ChainEnd). end.event < grid.events) chain_ends
first_known net grid asked chain_ends is = All-from_recursion (λ (end : ChainEnd). end.event < grid.events) chain_ends (all_known net grid chain_ends is.events (first_events net grid asked chain_ends is))

pub first_asked : (net : Net) (grid : Grid) (asked : ℕ) (chain_ends : List ChainEnd) → IsBeginning net grid asked chain_ends → asked < VAR_LIMIT
first_asked net grid asked chain_ends is = omega (arith, is.few)

pub first_small : (net : Net) (grid : Grid) (asked : ℕ) (chain_ends : List ChainEnd) → IsBeginning net grid asked chain_ends → All (λ (end : ChainEnd). end.closed < VAR_LIMIT) chain_ends
first_small net grid asked chain_ends is =
    let names = map_count (λ e. closed e 0) (observable_events net) in
    All-from_recursion (λ (end : ChainEnd). end.closed < VAR_LIMIT) chain_ends
    (subst (AllByRecursion (λ (end : ChainEnd). end.closed < VAR_LIMIT)) (sym is.begun) (ends_small (suc asked) VAR_LIMIT (observable_events net) (omega (arith, is.few, names))))

pub first_guards : (net : Net) (grid : Grid) (asked : ℕ) (chain_ends : List ChainEnd) → IsBeginning net grid asked chain_ends → length (guards_of asked chain_ends) ≡ length (first_meanings net)
first_guards net grid asked chain_ends is =
    let ends' = map_count (λ (end : ChainEnd). positive end.closed) chain_ends in
    let begun = ap length is.begun ∙ ends_count (suc asked) (observable_events net) in
    let names = map_count (λ e. closed e 0) (observable_events net) in
    omega (arith, ends', begun, names)

pub first_kept : (net : Net) (grid : Grid) (asked vars : ℕ) (chain_ends : List ChainEnd) (guards lits : List Lit) (alarms : List AlarmState) (pairs : List (ℕ × ℕ)) → IsBeginning net grid asked chain_ends →
    guards ≡ guards_of asked chain_ends → lits ≡ [] → alarms ≡ [] → pairs ≡ [] → vars ≡ asked + length (first_meanings net) → AreKept (coded_of net grid asked vars alarms pairs) chain_ends guards lits alarms
first_kept net grid asked vars chain_ends guards lits alarms pairs is g d a p v =
    rw (g, d, a, p, v) (record {
      log = empty_is_coded net grid asked is.events is.made is.few;
      chains = subst (λ xs. AreEnds (empty_code net grid asked) xs (guards_of asked xs)) (sym is.begun) (empty_ends net grid asked);
      false_ones = tt;
      alarms = λ i alarm at. cc;
    })

pub first_is_empty : (net : Net) (grid : Grid) (asked vars : ℕ) (alarms : List AlarmState) (pairs : List (ℕ × ℕ)) → alarms ≡ [] → pairs ≡ [] → vars ≡ asked + length (first_meanings net) → coded_of net grid asked vars alarms pairs ≡ empty_code net grid asked
first_is_empty net grid asked vars alarms pairs a p v = rw (a, p, v) refl

pub first_appends : (net : Net) (grid : Grid) (asked : ℕ) (chain_ends : List ChainEnd) (old made new : List Clause) → IsBeginning net grid asked chain_ends → made ≡ all_closed_written grid chain_ends → new ≡ old ++ made →
    AppendsFirst net grid.steps (read_meanings (empty_code net grid asked)) old new
first_appends net grid asked chain_ends old made new is written appended =
    let first = first_written net grid asked chain_ends (empty_is_coded net grid asked is.events is.made is.few) (first_events net grid asked chain_ends is) (all_known net grid chain_ends is.events (first_events net grid asked chain_ends is))
    (subst (AllByRecursion (IsChainEnd (empty_code net grid asked))) (sym is.begun) (empty_ends net grid asked).each) in record {
      more = first.more;
      whole = appended ∙ ap (λ xs. old ++ xs) (written ∙ first.whole);
      listed = first.listed;
      few = first.few;
      code = first.code;
    }

-- ---- guards

ends_read : (code : CodedLog) (chain_ends : List ChainEnd) → IsCodedLog code → AllByRecursion (IsChainEnd code) chain_ends →
    ReadsInOrder (read_meanings code) (map (λ (end : ChainEnd). positive end.closed) chain_ends) (map (λ e. yes (closed e (length (chain code.net code.log e)))) (map (λ (end : ChainEnd). end.event) chain_ends))
ends_read code [] coded all = tt
ends_read code (end ∷ chain_ends) coded all = ((lifted code end.closed _ coded all.0.closing, refl), ends_read code chain_ends coded all.1)

pub guards_read : (code : CodedLog) (chain_ends : List ChainEnd) (guards : List Lit) → IsCodedLog code → AreEnds code chain_ends guards → named_clause (read_meanings code) guards ≡ Some (guard_literals code.net code.log)
guards_read code chain_ends guards coded are =
    ordered_names (read_meanings code) guards (guard_literals code.net code.log)
    (subst (λ gs. ReadsInOrder (read_meanings code) gs (guard_literals code.net code.log)) (sym are.guarding) (
      (lifted code code.asked _ coded (asked_named code), refl),
      subst (λ es. ReadsInOrder (read_meanings code) (map (λ (end : ChainEnd). positive end.closed) chain_ends) (map (λ e. yes (closed e (length (chain code.net code.log e)))) es)) are.events (ends_read code chain_ends coded are.each),
    ))

-- ---- an alarm that is there

pub alarm_at_place : (alarms : List AlarmState) (i : ℕ) (d : AlarmState) → i < length alarms → slice_get alarms i ≡ Some (slice_index_or alarms i d)
alarm_at_place [] i d h = absurd (omega arith)
alarm_at_place (x ∷ alarms) zero d h = refl
alarm_at_place (x ∷ alarms) (suc i) d h = alarm_at_place alarms i d (omega arith)

pub alarm_within : (code : CodedLog) (i : ℕ) (alarm : AlarmState) → IsCodedLog code → IsCodedAlarm code i alarm → AreWithinLimit (variables_of code.grid.steps alarm)
alarm_within code i alarm coded is = omega (arith, is.within, coded.few)

-- ---- the events that an alarm may stand for

get_map : {X Y : Type 0} (f : X → Y) (xs : List X) (k : ℕ) → option_map f (slice_get xs k) ≡ slice_get (map f xs) k
get_map f [] k = refl
get_map f (x ∷ xs) zero = refl
get_map f (x ∷ xs) (suc k) = get_map f xs k

-- its links are of these events
pub linked_is : (code : CodedLog) (i : ℕ) (alarm : AlarmState) (link : ℕ) → IsCodedAlarm code i alarm → option_map (λ (taken : Taken). taken.event) (slice_get alarm.takes link) ≡ slice_get (matching_events code.net code.log i) link
linked_is code i alarm link is = get_map (λ (taken : Taken). taken.event) alarm.takes link ∙ ap (λ es. slice_get es link) is.events

-- which are events of the network
pub linked_known : (net : Net) (log : Log) (i link : ℕ) (found : Option ℕ) → found ≡ slice_get (matching_events net log i) link → IfSome found (λ e. e < length net.events)
linked_known net log i link None is = tt
linked_known net log i link (Some e) is =
    from_numbers (length net.events) e (filter_from (λ x. is_matching net log x i) (numbers_below (length net.events)) e (contains_at (matching_events net log i) link e (sym is))).1

-- as many as there are of them
pub links_counted : (code : CodedLog) (i : ℕ) (alarm : AlarmState) → IsCodedAlarm code i alarm → length alarm.takes ≡ length (matching_events code.net code.log i)
links_counted code i alarm is = sym (map_count (λ (taken : Taken). taken.event) alarm.takes) ∙ ap length is.events

-- a number above all links, or above all steps
pub no_link : (link links : ℕ) (b : Bool) → links ≤ link → false ≡ (nat_lt link links && b)
no_link link links b h = rw (le-ltb link links h) refl

pub no_step : (step steps : ℕ) (b : Bool) → steps ≤ step → false ≡ (b && nat_lt step steps)
no_step step steps true h = sym (le-ltb step steps h)
no_step step steps false h = refl

pub both_there : (link links step steps : ℕ) → link < links → step < steps → true ≡ (nat_lt link links && nat_lt step steps)
both_there link links step steps h k = rw (lt-ltb link links h, lt-ltb step steps k) refl

-- what says of the event of a link that it is passed on, and its negation
pub unpassed_is : (code : CodedLog) (i : ℕ) (alarm : AlarmState) (link step var : ℕ) → IsCodedAlarm code i alarm → link < length alarm.takes → step < code.grid.steps → var ≡ passed_variable (variables_of code.grid.steps alarm) link step → IsUnpassed code i link step (record { var = var; positive = false })
unpassed_is code i alarm link step var is known time same =
    let there = some_at (matching_events code.net code.log i) link (omega (arith, known, links_counted code i alarm is)) in
    let named = is.passing link there.0 step there.1 time in record {
      event = there.0;
      linked = there.1;
      before = named.0;
      stands = named.1;
      name = subst (λ v. meaning_of (log_meanings code) v ≡ Some (unmatched there.0 (suc named.0) (suc step))) (sym same) named.2;
      sign = refl;
    }

-- ---- a draft of an alarm

pub record IsDrafting (code : CodedLog) (new : Alarm) (first : ℕ) (chain_ends : List ChainEnd) (guards : List Lit) : Type 0 where
  pub coded : IsCodedLog code
  pub chains : AreEnds code chain_ends guards
  pub above : code.vars ≤ first
  pub few : first + addition_width code (alarm_added new) ≤ VAR_LIMIT

pub draft_known : (code : CodedLog) (new : Alarm) (first : ℕ) (chain_ends : List ChainEnd) (guards : List Lit) → IsDrafting code new first chain_ends guards → AllByRecursion (λ (end : ChainEnd). end.event < code.grid.events) chain_ends
draft_known code new first chain_ends guards is = all_known code.net code.grid chain_ends is.coded.events is.chains.events

pub draft_known_events : (code : CodedLog) (new : Alarm) (first : ℕ) (chain_ends : List ChainEnd) (guards : List Lit) → IsDrafting code new first chain_ends guards → All (λ (end : ChainEnd). end.event < length code.net.events) chain_ends
draft_known_events code new first chain_ends guards is =
    All-from_recursion (λ (end : ChainEnd). end.event < length code.net.events) chain_ends
    (subst (λ k. AllByRecursion (λ (end : ChainEnd). end.event < k) chain_ends) is.coded.events (draft_known code new first chain_ends guards is))

has_rest : (code : CodedLog) (end : ChainEnd) → IsCodedLog code → end.event < code.grid.events → IsChainEnd code end → HasRest code.grid (record { event = end.event; last = end.last })
has_rest code end coded known is = record { event = known; last = by end.last is.rest }
  where
    by : (last : Option ℕ) → IsRest code end.event last → IfSome last (λ first. first + code.grid.steps * 2 ≤ VAR_LIMIT)
    by None r = tt
    by (Some first) r = omega (arith, r.0, coded.few)

rests : (code : CodedLog) (labels : List (List ℕ)) (chain_ends : List ChainEnd) → IsCodedLog code → AllByRecursion (λ (end : ChainEnd). end.event < code.grid.events) chain_ends → AllByRecursion (IsChainEnd code) chain_ends → AllByRecursion (HasRest code.grid) (taken_from code.net labels chain_ends)
rests code labels [] coded known all = tt
rests code labels (end ∷ chain_ends) coded known all = by (has_any_label code.net labels end.event) refl (rests code labels chain_ends coded known.1 all.1)
  where
    by : (b : Bool) → has_any_label code.net labels end.event ≡ b → AllByRecursion (HasRest code.grid) (taken_from code.net labels chain_ends) → AllByRecursion (HasRest code.grid) (taken_from code.net labels (end ∷ chain_ends))
    by true is later = rw is (has_rest code end coded known.0 all.0, later)
    by false is later = rw is later

-- what has a meaning is among the variables
named_below : (vars var : ℕ) (meaning : Meaning) (meanings : List (ℕ × Meaning)) → AllByRecursion (λ entry. entry.0 < vars) meanings → meaning_of meanings var ≡ Some meaning → var < vars
named_below vars var meaning [] below h = cc
named_below vars var meaning (entry ∷ meanings) below h = by (entry.0 == var) refl (named_below vars var meaning meanings below.1)
  where
    by : (b : Bool) → (entry.0 == var) ≡ b → (meaning_of meanings var ≡ Some meaning → var < vars) → var < vars
    by true is later = let same = eqb-true entry.0 var is in omega (arith, same, below.0)
    by false is later = later (rw is at h)

small_ends : (code : CodedLog) (chain_ends : List ChainEnd) → IsCodedLog code → AllByRecursion (IsChainEnd code) chain_ends → AllByRecursion (λ (end : ChainEnd). end.closed < VAR_LIMIT) chain_ends
small_ends code [] coded all = tt
small_ends code (end ∷ chain_ends) coded all =
    let below = named_below code.vars end.closed _ (log_meanings code) coded.meanings.below all.0.closing in
    (omega (arith, below, coded.few), small_ends code chain_ends coded all.1)

pub draft_small : (code : CodedLog) (new : Alarm) (first : ℕ) (chain_ends : List ChainEnd) (guards : List Lit) → IsDrafting code new first chain_ends guards → All (λ (end : ChainEnd). end.closed < VAR_LIMIT) chain_ends
draft_small code new first chain_ends guards is = All-from_recursion (λ (end : ChainEnd). end.closed < VAR_LIMIT) chain_ends (small_ends code chain_ends is.coded is.chains.each)

pub draft_asked : (code : CodedLog) → IsCodedLog code → code.asked < VAR_LIMIT
draft_asked code coded = let low = asked_below code coded in omega (arith, low, coded.few)

-- ends that get a link stay small
after_small : (vars : AlarmVars) (link : ℕ) (chain_ends : List ChainEnd) (takes : List Taken) → AreWithinLimit vars → link + length takes ≤ vars.links → AllByRecursion (λ (end : ChainEnd). end.closed < VAR_LIMIT) chain_ends →
    AllByRecursion (λ (end : ChainEnd). end.closed < VAR_LIMIT) (ends_after vars link chain_ends takes)
after_small vars link [] takes within few all = tt
after_small vars link (end ∷ chain_ends) [] within few all = (all.0, after_small vars link chain_ends [] within few all.1)
after_small vars link (end ∷ chain_ends) (taken ∷ takes) within few all =
    by (taken.event == end.event) refl (after_small vars (suc link) chain_ends takes within (omega (arith, few)) all.1) (after_small vars link chain_ends (taken ∷ takes) within few all.1)
  where
    here : vars.start + link * (1 + vars.steps * 2) < VAR_LIMIT
    here = let bound = link_is_small vars.links (1 + vars.steps * 2) link (omega (arith, few)) in omega (arith, bound, within)

    by : (b : Bool) → (taken.event == end.event) ≡ b → AllByRecursion (λ (x : ChainEnd). x.closed < VAR_LIMIT) (ends_after vars (suc link) chain_ends takes) → AllByRecursion (λ (x : ChainEnd). x.closed < VAR_LIMIT) (ends_after vars link chain_ends (taken ∷ takes)) →
        AllByRecursion (λ (x : ChainEnd). x.closed < VAR_LIMIT) (ends_after vars link (end ∷ chain_ends) (taken ∷ takes))
    by true is one other = rw is (here, one)
    by false is one other = rw is (all.0, other)

pub ends_after_small : (vars : AlarmVars) (chain_ends after : List ChainEnd) (takes : List Taken) → AreWithinLimit vars → vars.links ≡ length takes → All (λ (end : ChainEnd). end.closed < VAR_LIMIT) chain_ends → after ≡ ends_after vars 0 chain_ends takes →
    All (λ (end : ChainEnd). end.closed < VAR_LIMIT) after
ends_after_small vars chain_ends after takes within links all is =
    All-from_recursion (λ (end : ChainEnd). end.closed < VAR_LIMIT) after
    (subst (AllByRecursion (λ (end : ChainEnd). end.closed < VAR_LIMIT)) (sym is) (after_small vars 0 chain_ends takes within (omega (arith, links)) (recursion_from_All (λ (end : ChainEnd). end.closed < VAR_LIMIT) chain_ends all)))

pub draft_rests : (code : CodedLog) (new : Alarm) (first : ℕ) (chain_ends : List ChainEnd) (guards : List Lit) → IsDrafting code new first chain_ends guards → All (HasRest code.grid) (taken_from code.net new.labels chain_ends)
draft_rests code new first chain_ends guards is = All-from_recursion (HasRest code.grid) (taken_from code.net new.labels chain_ends) (rests code new.labels chain_ends is.coded (draft_known code new first chain_ends guards is) is.chains.each)

pub begins : (net : Net) (grid : Grid) (vars asked : ℕ) (chain_ends : List ChainEnd) → asked ≡ vars → grid.events ≡ length net.events → grid.first + grid.events * grid.steps ≤ vars → vars + length (first_meanings net) ≤ VAR_LIMIT →
    chain_ends ≡ first_ends (suc asked) (observable_events net) → IsBeginning net grid asked chain_ends
begins net grid vars asked chain_ends same events made few begun = record { events = events; made = omega (arith, made, same); few = omega (arith, few, same); begun = begun }

pub guards_len : (net : Net) (grid : Grid) (asked len : ℕ) (chain_ends slice : List ChainEnd) (guards : List Lit) → IsBeginning net grid asked chain_ends → slice ≡ chain_ends → guards ≡ guards_of asked slice → length guards ≡ len → len ≡ length (first_meanings net)
guards_len net grid asked len chain_ends slice guards is same made count = sym count ∙ ap length (made ∙ ap (guards_of asked) same) ∙ first_guards net grid asked chain_ends is

-- the alarm of a number, and the code that it stands in
pub found_alarm : (a : Inside) (state : LogCodeState) (i : ℕ) (alarm : AlarmState) → code_view a ≡ state → KeepsLogCode a → i < length state.coded.log.alarms → alarm ≡ slice_index_or a.alarms.items i alarm → IsCodedAlarm state.coded i alarm × IsCodedLog state.coded
found_alarm a state i alarm view inv known at =
    subst (λ (s : LogCodeState). i < length s.coded.log.alarms → IsCodedAlarm s.coded i alarm × IsCodedLog s.coded) view
    (λ known. (inv.kept.alarms i alarm (alarm_at_place a.alarms.items i alarm (omega (arith, known, map_count (λ (x : AlarmState). x.noted) a.alarms.items)) ∙ ap (λ x. Some x) (sym at)), inv.kept.log))
    known

-- ---- which alarm is matched

pub link_below : (k : ℕ) (takes : List Taken) (e link : ℕ) → link_from k takes e ≡ Some link → link < k + length takes
link_below k [] e link h = cc
link_below k (taken ∷ takes) e link h = by (taken.event == e) refl h (link_below (suc k) takes e link)
  where
    by : (b : Bool) → (taken.event == e) ≡ b → link_from k (taken ∷ takes) e ≡ Some link → (link_from (suc k) takes e ≡ Some link → link < suc k + length takes) → link < k + suc (length takes)
    by true is at later = let same : k ≡ link = cc (rw is at at) in omega (arith, same)
    by false is at later = let rest = later (rw is at at) in omega (arith, rest)

pub match_below : (vars : AlarmVars) (link t : ℕ) → link < vars.links → t < vars.steps → match_variable vars link t < vars.start + alarm_variable_count vars.links vars.steps
match_below vars link t h time = let bound = link_is_small vars.links (1 + vars.steps * 2) link h in omega (arith, bound)

-- the link of an event is where it stands
link_event : (k : ℕ) (takes : List Taken) (e link : ℕ) → link_from k takes e ≡ Some link → (p : ℕ) × (link ≡ k + p) × (slice_get (map (λ (taken : Taken). taken.event) takes) p ≡ Some e)
link_event k [] e link h = cc
link_event k (taken ∷ takes) e link h = by (taken.event == e) refl h (link_event (suc k) takes e link)
  where
    by : (b : Bool) → (taken.event == e) ≡ b → link_from k (taken ∷ takes) e ≡ Some link → (link_from (suc k) takes e ≡ Some link → (p : ℕ) × (link ≡ suc k + p) × (slice_get (map (λ (x : Taken). x.event) takes) p ≡ Some e)) →
        (p : ℕ) × (link ≡ k + p) × (slice_get (map (λ (x : Taken). x.event) (taken ∷ takes)) p ≡ Some e)
    by true is at later = let same : k ≡ link = cc (rw is at at) in (0, omega (arith, same), ap (λ x. Some x) (eqb-true taken.event e is))
    by false is at later = let rest = later (rw is at at) in (suc rest.0, omega (arith, rest.1), rest.2)

-- an event without a link isn't there
link_none : (k : ℕ) (takes : List Taken) (e : ℕ) → link_from k takes e ≡ None → Contains (map (λ (taken : Taken). taken.event) takes) e → ⊥
link_none k [] e h here = none_in_nil e here
link_none k (taken ∷ takes) e h here = by (taken.event == e) refl h (cons_cases taken.event (map (λ (x : Taken). x.event) takes) e here) (link_none (suc k) takes e)
  where
    by : (b : Bool) → (taken.event == e) ≡ b → link_from k (taken ∷ takes) e ≡ None → (taken.event ≡ e) ⊎ Contains (map (λ (x : Taken). x.event) takes) e →
        (link_from (suc k) takes e ≡ None → Contains (map (λ (x : Taken). x.event) takes) e → ⊥) → ⊥
    by true is at which later = cc (rw is at at)
    by false is at (inl same) later = clash (taken.event == e) (eq-eqb taken.event e same) is
    by false is at (inr rest) later = later (rw is at at) rest

-- alarm k may stand for the event, and does in the step
abbrev pub stands_for : CodedLog → (ℕ → Bool) → ℕ → ℕ → ℕ → Bool
stands_for code value e t k = is_matching code.net code.log e k && value_by (log_meanings code) value (matches k e t)

pub matched_is : (code : CodedLog) (i : ℕ) (alarm : AlarmState) (value : ℕ → Bool) (e step : ℕ) → IsCodedLog code → IsCodedAlarm code i alarm → e < length code.net.events → 1 ≤ step → step ≤ code.grid.steps →
    is_matched code.grid.steps alarm value e (step - 1) ≡ stands_for code value e step i
matched_is code i alarm value e step coded is known from_one within = by (link_of alarm.takes e) refl
  where
    by : (o : Option ℕ) → link_of alarm.takes e ≡ o → option_map_or (λ link. value (match_variable (variables_of code.grid.steps alarm) link (step - 1))) o false ≡ stands_for code value e step i
    by None at = sym (and_false (is_matching code.net code.log e i) (value_by (log_meanings code) value (matches i e step)) (otherwise (is_matching code.net code.log e i) (λ passes.
        link_none 0 alarm.takes e at (subst (λ es. Contains es e) (sym is.events) (filter_has (λ x. is_matching code.net code.log x i) (numbers_below (length code.net.events)) e passes (in_numbers (length code.net.events) e known))))))
      where
        and_false : (a b : Bool) → a ≡ false → a && b ≡ false
        and_false true b h = cc
        and_false false b h = refl
    by (Some link) at =
        let found = link_event 0 alarm.takes e link at in
        let place : link ≡ found.0 = omega (arith, found.1) in
        let there : slice_get (matching_events code.net code.log i) found.0 ≡ Some e = subst (λ es. slice_get es found.0 ≡ Some e) is.events found.2 in
        let passes : is_matching code.net code.log e i ≡ true = (filter_from (λ x. is_matching code.net code.log x i) (numbers_below (length code.net.events)) e (contains_at (matching_events code.net code.log i) found.0 e there)).0 in
        let step_is : suc (step - 1) ≡ step = omega arith in
        let named : meaning_of (log_meanings code) (match_variable (variables_of code.grid.steps alarm) link (step - 1)) ≡ Some (matches i e step) =
        subst (λ p. meaning_of (log_meanings code) (match_variable (variables_of code.grid.steps alarm) p (step - 1)) ≡ Some (matches i e step)) (sym place)
        (subst (λ t. meaning_of (log_meanings code) (match_variable (variables_of code.grid.steps alarm) found.0 (step - 1)) ≡ Some (matches i e t)) step_is (is.matching found.0 e (step - 1) there (omega arith))) in
        let valued = values_match (log_meanings code) coded.meanings.once value (match_variable (variables_of code.grid.steps alarm) link (step - 1)) (matches i e step) named in
        rw passes valued

-- the first of the numbers that pass both tests
find_from : (p q : ℕ → Bool) (a m k : ℕ) → a ≤ k → k < a + m → q k && p k ≡ true → ((j : ℕ) → a ≤ j → j < k → q j && p j ≡ false) → find p (filter q (range_with_len a m)) ≡ Some k
find_from p q a zero k above within hit before = absurd (omega (arith, above, within))
find_from p q a (suc m) k above within hit before = by (q a) refl (p a) refl (cases_eq a k) (λ other. find_from p q (a + 1) m k (omega (arith, above, other)) (omega (arith, within)) hit (λ j high low. before j (omega (arith, high)) low))
  where
    cases_eq : (x y : ℕ) → (x == y ≡ true) ⊎ (x == y ≡ false)
    cases_eq x y = which (x == y)
      where
        which : (b : Bool) → (b ≡ true) ⊎ (b ≡ false)
        which true = inl refl
        which false = inr refl

    here : a ≡ k → (q a && p a) ≡ true
    here same = subst (λ x. (q x && p x) ≡ true) (sym same) hit

    other_of : a == k ≡ false → a ≡ k → ⊥
    other_of h same = clash (a == k) (eq-eqb a k same) h

    by : (b : Bool) → q a ≡ b → (d : Bool) → p a ≡ d → (a == k ≡ true) ⊎ (a == k ≡ false) → ((a ≡ k → ⊥) → find p (filter q (range_with_len (a + 1) m)) ≡ Some k) → find p (filter q (range_with_len a (suc m))) ≡ Some k
    by true e true f (inl same) later = rw (e, f) (ap (λ x. Some x) (eqb-true a k same))
    by true e true f (inr other) later = let none = before a (omega arith) (omega (arith, above, other_of other)) in clash (q a && p a) (rw (e, f) refl) none
    by true e false f (inl same) later = clash (q a && p a) (here (eqb-true a k same)) (rw (e, f) refl)
    by true e false f (inr other) later = rw (e, f) (later (other_of other))
    by false e d f (inl same) later = clash (q a && p a) (here (eqb-true a k same)) (rw e refl)
    by false e d f (inr other) later = rw e (later (other_of other))

pub find_hit : (p q : ℕ → Bool) (m k : ℕ) → k < m → q k && p k ≡ true → ((j : ℕ) → j < k → q j && p j ≡ false) → find p (filter q (numbers_below m)) ≡ Some k
find_hit p q m k within hit before = find_from p q 0 m k (omega arith) (omega (arith, within)) hit (λ j high low. before j low)

find_nothing : (p q : ℕ → Bool) (a m : ℕ) → ((j : ℕ) → a ≤ j → j < a + m → q j && p j ≡ false) → find p (filter q (range_with_len a m)) ≡ None
find_nothing p q a zero none = refl
find_nothing p q a (suc m) none = by (q a) refl (p a) refl (find_nothing p q (a + 1) m (λ j high low. none j (omega (arith, high)) (omega (arith, low)))) (none a (omega arith) (omega arith))
  where
    by : (b : Bool) → q a ≡ b → (d : Bool) → p a ≡ d → find p (filter q (range_with_len (a + 1) m)) ≡ None → (q a && p a) ≡ false → find p (filter q (range_with_len a (suc m))) ≡ None
    by true e true f rest miss = clash (q a && p a) (rw (e, f) refl) miss
    by true e false f rest miss = rw (e, f) rest
    by false e d f rest miss = rw e rest

pub find_miss : (p q : ℕ → Bool) (m : ℕ) → ((j : ℕ) → j < m → q j && p j ≡ false) → find p (filter q (numbers_below m)) ≡ None
find_miss p q m none = find_nothing p q 0 m (λ j high low. none j (omega (arith, low)))

-- ---- the draft itself

-- what the draft of an alarm keeps for its commit
pub record IsReadyAlarm (code : CodedLog) (first : ℕ) (new : Alarm) (takes : List Taken) (after : List ChainEnd) (guards later : List Lit) : Type 0 where
  pub alarm : IsCodedAlarm (code_after code (alarm_added new) first) (length code.log.alarms) (record { noted = new; takes = takes; start = first })
  pub chains : AreEnds (code_after code (alarm_added new) first) after guards
  pub false_ones : AreFalse (code_after code (alarm_added new) first) later

pub ready_alarm : (code : CodedLog) (new : Alarm) (first links : ℕ) (chain_ends after : List ChainEnd) (guards then old later : List Lit) (takes : List Taken) → IsDrafting code new first chain_ends guards → takes ≡ taken_from code.net new.labels chain_ends → links ≡ length takes →
    after ≡ ends_after (new_vars code first links new.doubtful) 0 chain_ends takes → then ≡ guards_of code.asked after → AreFalse code old → later ≡ old ++ dropped_written (new_vars code first links new.doubtful) → IsReadyAlarm code first new takes after then later
ready_alarm code new first links chain_ends after guards then old later takes is t l e g f d =
    rw (d, g, e, l, t) (record { false_ones = false_with_alarm code new first chain_ends old is.coded is.above is.chains.events f; alarm = new_alarm code new first chain_ends is.coded is.above is.chains.events; chains = ends_with_alarm code new first chain_ends guards is.coded is.above is.chains })

pub draft_brings : (code : CodedLog) (new : Alarm) (first links : ℕ) (chain_ends : List ChainEnd) (guards : List Lit) (takes : List Taken) (clauses : List Clause) → IsDrafting code new first chain_ends guards → takes ≡ taken_from code.net new.labels chain_ends → links ≡ length takes →
    clauses ≡ alarm_written code.grid code.asked (new_vars code first links new.doubtful) takes →
    IsListed (read_meanings (code_after code (alarm_added new) first)) (added_list code.net code.log code.grid.steps (alarm_added new)) clauses
    × (length clauses + 12 * question_size code.net code.log code.grid.steps ≤ 12 * question_size code.net (with_addition code.log (alarm_added new)) code.grid.steps + 12)
draft_brings code new first links chain_ends guards takes clauses is t l w =
    rw (w, l, t) (alarm_brings code new first chain_ends is.coded (grown_is_coded code (alarm_added new) first is.coded is.above is.few) is.above is.chains.events (draft_known code new first chain_ends guards is) is.chains.each)

pub draft_width : (code : CodedLog) (new : Alarm) (first links : ℕ) (chain_ends : List ChainEnd) (guards : List Lit) (takes : List Taken) → IsDrafting code new first chain_ends guards → takes ≡ taken_from code.net new.labels chain_ends → links ≡ length takes →
    addition_width code (alarm_added new) ≡ alarm_variable_count links code.grid.steps + false_width new.doubtful
draft_width code new first links chain_ends guards takes is t l = rw (l, t) (taken_width code new chain_ends is.chains.events)

-- no alarm so far stands for the event
pub record NoneSoFar (state : LogCodeState) (value : ℕ → Bool) (e step number : ℕ) : Type 0 where
  pub none : (k : ℕ) → k < number → stands_for state.coded value e step k ≡ false

pub none_at_first : (state : LogCodeState) (value : ℕ → Bool) (e step : ℕ) → NoneSoFar state value e step 0
none_at_first state value e step = record { none = λ k h. absurd (omega arith) }

pub none_more : (state : LogCodeState) (value : ℕ → Bool) (e step number : ℕ) → NoneSoFar state value e step number → stands_for state.coded value e step number ≡ false → NoneSoFar state value e step (number + 1)
none_more state value e step number is miss = record { none = λ k h. by k (k == number) refl h }
  where
    by : (k : ℕ) → (b : Bool) → (k == number) ≡ b → k < number + 1 → stands_for state.coded value e step k ≡ false
    by k true same h = subst (λ x. stands_for state.coded value e step x ≡ false) (sym (eqb-true k number same)) miss
    by k false other h = is.none k (omega (arith, h, λ (same : k ≡ number). clash {A = ⊥} (k == number) (eq-eqb k number same) other))

-- the alarm of a number in a code that is kept
pub kept_alarm : (a : Inside) (state : LogCodeState) (i : ℕ) (alarm : AlarmState) → code_view a ≡ state → KeepsLogCode a → i < length a.alarms.items → slice_get a.alarms.items i ≡ Some alarm → IsCodedAlarm state.coded i alarm × IsCodedLog state.coded
kept_alarm a state i alarm view inv known at = subst (λ (s : LogCodeState). IsCodedAlarm s.coded i alarm × IsCodedLog s.coded) view (inv.kept.alarms i alarm at, inv.kept.log)

pub kept_count : (a : Inside) (state : LogCodeState) → code_view a ≡ state → KeepsLogCode a → (length state.coded.log.alarms ≡ length a.alarms.items) × IsCodedLog state.coded
kept_count a state view inv = subst (λ (s : LogCodeState). (length s.coded.log.alarms ≡ length a.alarms.items) × IsCodedLog s.coded) view (map_count (λ (x : AlarmState). x.noted) a.alarms.items, inv.kept.log)

pub found_first : (state : LogCodeState) (value : ℕ → Bool) (e step number : ℕ) → NoneSoFar state value e step number → number < length state.coded.log.alarms → stands_for state.coded value e step number ≡ true →
    Some number ≡ alarm_at state.coded.net state.coded.log (value_by (log_meanings state.coded) value) e step
found_first state value e step number is known hit =
    sym (find_hit (λ i. value_by (log_meanings state.coded) value (matches i e step)) (is_matching state.coded.net state.coded.log e) (length state.coded.log.alarms) number known hit is.none)

pub found_none : (state : LogCodeState) (value : ℕ → Bool) (e step number : ℕ) → NoneSoFar state value e step number → length state.coded.log.alarms ≤ number → None ≡ alarm_at state.coded.net state.coded.log (value_by (log_meanings state.coded) value) e step
found_none state value e step number is all =
    sym (find_miss (λ i. value_by (log_meanings state.coded) value (matches i e step)) (is_matching state.coded.net state.coded.log e) (length state.coded.log.alarms) (λ k h. is.none k (omega (arith, h))))

-- the alarm of a turn of the loop
pub turned_alarm : (a : Inside) (state : LogCodeState) (slice : List AlarmState) (i : ℕ) (alarm : AlarmState) → code_view a ≡ state → KeepsLogCode a → slice ≡ a.alarms.items → i < length slice → alarm ≡ slice_index_or slice i alarm → IsCodedAlarm state.coded i alarm × IsCodedLog state.coded
turned_alarm a state slice i alarm view inv same within at =
    kept_alarm a state i alarm view inv (subst (λ xs. i < length xs) same within) (subst (λ xs. slice_get xs i ≡ Some alarm) same (alarm_at_place slice i alarm within ∙ ap (λ x. Some x) (sym at)))

pub turned_count : (a : Inside) (state : LogCodeState) (slice : List AlarmState) → code_view a ≡ state → KeepsLogCode a → slice ≡ a.alarms.items → length state.coded.log.alarms ≡ length slice
turned_count a state slice view inv same = (kept_count a state view inv).0 ∙ ap length (sym same)

-- ---- false alarms, and steps

clause_named : (names : List (ℕ × Meaning)) (ls : List Lit) (ms : List NamedLiteral) → ReadsInOrder names ls ms → named_clause names ls ≡ Some ms
clause_named names [] [] z = refl
clause_named names [] (m ∷ ms) z = absurd z
clause_named names (l ∷ ls) [] z = absurd z
clause_named names (l ∷ ls) (m ∷ ms) z =
    let here = ordered_literal names l m z.0.0 z.0.1 in
    let rest = clause_named names ls ms z.1 in
    rw (here, rest) refl

pub false_read : (code : CodedLog) (lits : List Lit) → AreFalse code lits → named_clause (log_meanings code) lits ≡ Some (false_literals code.log)
false_read code lits are = clause_named (log_meanings code) lits (false_literals code.log) are

pub false_is : (code : CodedLog) (i : ℕ) (alarm : AlarmState) (value : ℕ → Bool) → IsCodedLog code → IsCodedAlarm code i alarm →
    (alarm.noted.doubtful && value (dropped_variable (variables_of code.grid.steps alarm))) ≡ is_false_alarm code.log (value_by (log_meanings code) value) i
false_is code i alarm value coded is = by alarm.noted.doubtful refl
  where
    by : (b : Bool) → alarm.noted.doubtful ≡ b → (alarm.noted.doubtful && value (dropped_variable (variables_of code.grid.steps alarm))) ≡ is_false_alarm code.log (value_by (log_meanings code) value) i
    by true e =
        let mark : is_doubtful code.log i ≡ true = is.mark ∙ e in
        let valued = values_match (log_meanings code) coded.meanings.once value (dropped_variable (variables_of code.grid.steps alarm)) (dropped i) (is.being_false e) in
        rw (e, mark) valued
    by false e = let mark : is_doubtful code.log i ≡ false = is.mark ∙ e in rw (e, mark) refl

pub first_is_step : (code : CodedLog) (i : ℕ) (alarm : AlarmState) (value : ℕ → Bool) (step : ℕ) (vars : AlarmVars) → IsCodedLog code → IsCodedAlarm code i alarm → vars ≡ variables_of code.grid.steps alarm →
    step ≤ vars.steps → ((t : ℕ) → t < step → value (done_variable vars t) ≡ false) → (step < vars.steps → value (done_variable vars step) ≡ true) → value_by (log_meanings code) value (done i code.grid.steps) ≡ true →
    IsStepOfAlarm code.grid.steps (value_by (log_meanings code) value) i step
first_is_step code i alarm value step vars coded is same = subst (λ (v : AlarmVars). step ≤ v.steps → ((t : ℕ) → t < step → value (done_variable v t) ≡ false) → (step < v.steps → value (done_variable v step) ≡ true) →
    value_by (log_meanings code) value (done i code.grid.steps) ≡ true → IsStepOfAlarm code.grid.steps (value_by (log_meanings code) value) i step) (sym same) shown
  where
    own : AlarmVars
    own = variables_of code.grid.steps alarm

    valued : (t : ℕ) → t ≤ code.grid.steps → value_by (log_meanings code) value (done i t) ≡ value (done_variable own t)
    valued t h = sym (values_match (log_meanings code) coded.meanings.once value (done_variable own t) (done i t) (is.being_done t h))

    shown : step ≤ own.steps → ((t : ℕ) → t < step → value (done_variable own t) ≡ false) → (step < own.steps → value (done_variable own step) ≡ true) →
        value_by (log_meanings code) value (done i code.grid.steps) ≡ true → IsStepOfAlarm code.grid.steps (value_by (log_meanings code) value) i step
    shown within least there last = record {
      within = within;
      is = by (step == code.grid.steps) refl;
      least = λ t h. valued t (omega (arith, h, within)) ∙ least t h;
    }
      where
        by : (b : Bool) → (step == code.grid.steps) ≡ b → value_by (log_meanings code) value (done i step) ≡ true
        by true e = subst (λ t. value_by (log_meanings code) value (done i t) ≡ true) (sym (eqb-true step code.grid.steps e)) last
        by false e = valued step within ∙ there (omega (arith, within, λ (is : step ≡ code.grid.steps). clash {A = ⊥} (step == code.grid.steps) (eq-eqb step code.grid.steps is) e))
