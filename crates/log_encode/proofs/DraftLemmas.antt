-- What is drafted is the code of the addition, and what is written at first that of the empty log.
use Rattle.std.proofs.Common.{◌≡◌, ℕ, zero, suc, ◌+◌, ◌*◌, ◌<◌, ◌≤◌, ◌∙◌, Bool, true, false, List, [], ◌∷◌, ◌++◌, length, map, flat_map, filter, Option, Some, None, refl, sym, ap, subst, arith, slice_get, length-append, append_assoc}
use Rattle.std.specs.List.{AllByRecursion, AllZip, range_with_len}
use Rattle.des_base.proofs.Elements.{zip_append}
use Rattle.des_base.specs.ChainCount.{chain_count}
use Rattle.des_base.specs.Lists.{numbers_below}
use Rattle.des_net.specs.Network.{Net, observable_events}
use Rattle.log_order.specs.Log.{Log, Alarm, no_log}
use Rattle.question_clauses.specs.Additions.{alarm_added, pair_added, with_addition}
use Rattle.question_clauses.specs.Drafts.{alarm_link_clauses, alarm_clauses, real_clauses, added_clauses, taken_events, first_clauses, added_list}
use Rattle.question_clauses.specs.LogClauses.{chain, chain_closed, before_if_asked, log_clause}
use Rattle.question_clauses.specs.LogNames.{first_meanings}
use Rattle.question_clauses.proofs.Drafts.{drafts_are_code, drafts_are_small, first_clauses_are_few}
use Rattle.question_clauses.proofs.LogCodes.{code_begins}
use Rattle.question_clauses.proofs.Stay.{doubtful_new}
use Rattle.card_counter.specs.CounterState.{positive, negative}
use Rattle.log_encode.proofs.GrowLemmas.{places, taken_count, get_at, new_vars}
use Rattle.log_encode.proofs.CodeLemmas.{beside}
use Rattle.log_encode.proofs.Reading.{zip_flat, zip_count, AreLinkNames, link_reads, AreAlarmNames, done_reads, real_reads, reads_two, reads_three, Reads}
use Rattle.log_encode.proofs.StayLemmas.{named_still}
use Rattle.log_encode.proofs.TakenLemmas.{taken_are_events, taken_is_filter}
use Rattle.replay.specs.Explanation.{has_any_label}
use Rattle.log_encode.specs.AlarmVariables.{done_variable}
use Rattle.log_encode.specs.CodedLog.{CodedLog, log_meanings, meanings_from, read_meanings, code_after, empty_code, IsCodedLog}
use Rattle.log_encode.specs.declared.taken.ChainEnd.{ChainEnd}
use Rattle.log_encode.specs.View.{IsChainEnd, IsRest}
use Rattle.log_encode.specs.Written.{taken_from, rest_variable, link_written, link_variables, steps_of_link, links_written, done_written, real_written, alarm_written, pair_written, closed_written, all_closed_written}
use Rattle.prop_core.proofs.NameLemmas.{found_more}
use Rattle.prop_core.specs.declared.grid.Grid.{Grid}
use Rattle.prop_core.specs.Grids.{grid_variable}
use Rattle.prop_core.specs.VariableNames.{Meaning, meaning_of, asked, happens, done, dropped, closed, remaining, some_of_first, of_matches}
use Rattle.replay.specs.QuestionSize.{question_size}
use Rattle.question_clauses.proofs.LaidOut.{named_at}
use Rattle.question_clauses.specs.LaidOut.{laid_out}
use Rattle.prop_core.proofs.Listed.{listed_from}
use Rattle.prop_core.specs.Listings.{IsListed}
use Rattle.log_encode.specs.WrittenLog.{AppendsFirst}

-- ---- names behind those of the code

-- what has a name by the code has it beside the events
pub lifted : (code : CodedLog) (var : ℕ) (meaning : Meaning) → IsCodedLog code → meaning_of (log_meanings code) var ≡ Some meaning → meaning_of (read_meanings code) var ≡ Some meaning
lifted code var meaning coded h = (beside code coded).other var meaning h

-- an event in a step has its name
pub event_named : (code : CodedLog) (e t : ℕ) → IsCodedLog code → e < code.grid.events → t < code.grid.steps → meaning_of (read_meanings code) (grid_variable code.grid e (suc t)) ≡ Some (happens e (suc t))
event_named code e t coded known time =
    let place : code.grid.first + (e * code.grid.steps + t) ≡ grid_variable code.grid e (suc t) = omega arith in
    subst (λ v. meaning_of (read_meanings code) v ≡ Some (happens e (suc t))) place ((beside code coded).event e t (omega (arith, coded.events)) time)

-- what comes to the end of a chain, by the names of the longer log
rest_named : (code : CodedLog) (new : Alarm) (first e t : ℕ) (last : Option ℕ) → IsCodedLog code → IsCodedLog (code_after code (alarm_added new) first) → e < code.grid.events → t < code.grid.steps → IsRest code e last →
    meaning_of (read_meanings (code_after code (alarm_added new) first)) (rest_variable code.grid e last t) ≡ Some (remaining e (length (chain code.net code.log e)) (suc t))
rest_named code new first e t None coded grown known time is =
    subst (λ k. meaning_of (read_meanings (code_after code (alarm_added new) first)) (grid_variable code.grid e (suc t)) ≡ Some (remaining e k (suc t))) (sym is) (event_named (code_after code (alarm_added new) first) e t grown known time)
rest_named code new first e t (Some start) coded grown known time is =
    lifted (code_after code (alarm_added new) first) (start + t * 2) _ grown (named_still code new first _ _ coded.each (is.1 t time))

-- ---- the links

link_named : (code : CodedLog) (new : Alarm) (first links link e t : ℕ) (last : Option ℕ) → IsCodedLog code → IsCodedLog (code_after code (alarm_added new) first) → code.vars ≤ first → e < code.grid.events → t < code.grid.steps →
    slice_get (taken_events code.net code.log new) link ≡ Some e → length (taken_events code.net code.log new) ≡ links → IsRest code e last →
    AreLinkNames (read_meanings (code_after code (alarm_added new) first)) (length code.log.alarms) e (length (chain code.net code.log e)) t
    (link_variables code.grid (new_vars code first links new.doubtful) link (record { event = e; last = last }) t)
link_named code new first links link e t last coded grown above known time at count is =
    let there = places code new first coded above in
    let more : (v : ℕ) (x : Meaning) → meaning_of (log_meanings (code_after code (alarm_added new) first)) v ≡ Some x → meaning_of (read_meanings (code_after code (alarm_added new) first)) v ≡ Some x =
    λ v x h. lifted (code_after code (alarm_added new) first) v x grown h in
    let finished : (u : ℕ) → u ≤ code.grid.steps → meaning_of (log_meanings (code_after code (alarm_added new) first)) (done_variable (new_vars code first links new.doubtful) u) ≡ Some (done (length code.log.alarms) u) = λ u within. subst (λ k. meaning_of (log_meanings (code_after code (alarm_added new) first)) (first + (k * (1 + code.grid.steps * 2) + u)) ≡ Some (done (length code.log.alarms) u)) count (there.being_done u within) in record {
      closing = more _ _ (there.closing link e at);
      rest = rest_named code new first e t last coded grown known time is;
      matching = more _ _ (there.matching link e t at time);
      passing = more _ _ (there.passing link e t at time);
      before = more _ _ (finished t (omega arith));
      after = more _ _ (finished (suc t) (omega arith));
    }

-- those of the ends from one on, after links before
links_read : (code : CodedLog) (new : Alarm) (first links : ℕ) (before : List ℕ) (ends : List ChainEnd) → IsCodedLog code → IsCodedLog (code_after code (alarm_added new) first) → code.vars ≤ first →
    length (taken_events code.net code.log new) ≡ links →
    taken_events code.net code.log new ≡ before ++ filter (has_any_label code.net new.labels) (map (λ (end : ChainEnd). end.event) ends) →
    AllByRecursion (λ (end : ChainEnd). end.event < code.grid.events) ends → AllByRecursion (IsChainEnd code) ends →
    AllZip (Reads code.net (with_addition code.log (alarm_added new)) code.grid.steps (read_meanings (code_after code (alarm_added new) first)))
    (links_written code.grid (new_vars code first links new.doubtful) (length before) (taken_from code.net new.labels ends))
    (flat_map (λ e. flat_map (alarm_link_clauses (length code.log.alarms) e (length (chain code.net code.log e))) (numbers_below code.grid.steps)) (filter (has_any_label code.net new.labels) (map (λ (end : ChainEnd). end.event) ends)))
links_read code new first links before [] coded grown above count are known all = tt
links_read code new first links before (end ∷ ends) coded grown above count are known all =
    by (has_any_label code.net new.labels end.event) refl (λ earlier same. links_read code new first links earlier ends coded grown above count same known.1 all.1)
  where
    rest : List ℕ
    rest = filter (has_any_label code.net new.labels) (map (λ (x : ChainEnd). x.event) ends)

    by : (b : Bool) → has_any_label code.net new.labels end.event ≡ b →
        ((earlier : List ℕ) → taken_events code.net code.log new ≡ earlier ++ filter (has_any_label code.net new.labels) (map (λ (x : ChainEnd). x.event) ends) →
        AllZip (Reads code.net (with_addition code.log (alarm_added new)) code.grid.steps (read_meanings (code_after code (alarm_added new) first)))
        (links_written code.grid (new_vars code first links new.doubtful) (length earlier) (taken_from code.net new.labels ends))
        (flat_map (λ e. flat_map (alarm_link_clauses (length code.log.alarms) e (length (chain code.net code.log e))) (numbers_below code.grid.steps)) (filter (has_any_label code.net new.labels) (map (λ (x : ChainEnd). x.event) ends)))) →
        AllZip (Reads code.net (with_addition code.log (alarm_added new)) code.grid.steps (read_meanings (code_after code (alarm_added new) first)))
        (links_written code.grid (new_vars code first links new.doubtful) (length before) (taken_from code.net new.labels (end ∷ ends)))
        (flat_map (λ e. flat_map (alarm_link_clauses (length code.log.alarms) e (length (chain code.net code.log e))) (numbers_below code.grid.steps)) (filter (has_any_label code.net new.labels) (map (λ (x : ChainEnd). x.event) (end ∷ ends))))
    by true is later =
        let split : taken_events code.net code.log new ≡ before ++ end.event ∷ filter (has_any_label code.net new.labels) (map (λ (x : ChainEnd). x.event) ends) = are ∙ rw is refl in
        let at : slice_get (taken_events code.net code.log new) (length before) ≡ Some end.event = rw split (get_at before (filter (has_any_label code.net new.labels) (map (λ (x : ChainEnd). x.event) ends)) end.event) in
        let one : length (before ++ end.event ∷ []) ≡ suc (length before) = omega (arith, length-append before (end.event ∷ [])) in
        let others = later (before ++ end.event ∷ []) (split ∙ sym (append_assoc before (end.event ∷ []) (filter (has_any_label code.net new.labels) (map (λ (x : ChainEnd). x.event) ends)))) in
        let here = zip_flat (Reads code.net (with_addition code.log (alarm_added new)) code.grid.steps (read_meanings (code_after code (alarm_added new) first)))
        (λ t. link_written (link_variables code.grid (new_vars code first links new.doubtful) (length before) (record { event = end.event; last = end.last }) t))
        (alarm_link_clauses (length code.log.alarms) end.event (length (chain code.net code.log end.event))) 0 code.grid.steps
        (λ t h. link_reads code.net (with_addition code.log (alarm_added new)) code.grid.steps (read_meanings (code_after code (alarm_added new) first)) (length code.log.alarms) end.event (length (chain code.net code.log end.event)) t
        (link_variables code.grid (new_vars code first links new.doubtful) (length before) (record { event = end.event; last = end.last }) t)
        (link_named code new first links (length before) end.event t end.last coded grown above known.0 (omega (arith, h)) at count all.0.rest)) in
        rw is (zip_append (Reads code.net (with_addition code.log (alarm_added new)) code.grid.steps (read_meanings (code_after code (alarm_added new) first)))
        (steps_of_link code.grid (new_vars code first links new.doubtful) (length before) (record { event = end.event; last = end.last }) code.grid.steps)
        (flat_map (alarm_link_clauses (length code.log.alarms) end.event (length (chain code.net code.log end.event))) (numbers_below code.grid.steps))
        (links_written code.grid (new_vars code first links new.doubtful) (suc (length before)) (taken_from code.net new.labels ends))
        (flat_map (λ e. flat_map (alarm_link_clauses (length code.log.alarms) e (length (chain code.net code.log e))) (numbers_below code.grid.steps)) (filter (has_any_label code.net new.labels) (map (λ (x : ChainEnd). x.event) ends)))
        here
        (subst (λ k. AllZip (Reads code.net (with_addition code.log (alarm_added new)) code.grid.steps (read_meanings (code_after code (alarm_added new) first)))
        (links_written code.grid (new_vars code first links new.doubtful) k (taken_from code.net new.labels ends))
        (flat_map (λ e. flat_map (alarm_link_clauses (length code.log.alarms) e (length (chain code.net code.log e))) (numbers_below code.grid.steps)) (filter (has_any_label code.net new.labels) (map (λ (x : ChainEnd). x.event) ends)))) one others))
    by false is later =
        let same : taken_events code.net code.log new ≡ before ++ filter (has_any_label code.net new.labels) (map (λ (x : ChainEnd). x.event) ends) = are ∙ rw is refl in
        rw is (later before same)

-- ---- the whole draft of an alarm

pub asked_named : (code : CodedLog) → meaning_of (log_meanings code) code.asked ≡ Some asked
asked_named code =
    let here : meaning_of (laid_out code.asked (first_meanings code.net)) code.asked ≡ Some asked = subst (λ v. meaning_of (laid_out code.asked (first_meanings code.net)) v ≡ Some asked) (omega arith) (named_at code.asked (first_meanings code.net) 0 asked refl) in
    found_more (laid_out code.asked (first_meanings code.net)) (meanings_from code.net code.grid.steps no_log code.log.alarms code.starts) code.asked asked here

alarm_named : (code : CodedLog) (new : Alarm) (first links : ℕ) → IsCodedLog code → IsCodedLog (code_after code (alarm_added new) first) → code.vars ≤ first → length (taken_events code.net code.log new) ≡ links →
    AreAlarmNames (read_meanings (code_after code (alarm_added new) first)) code.grid.steps (length code.log.alarms) (taken_events code.net code.log new) (new_vars code first links new.doubtful)
alarm_named code new first links coded grown above count =
    let there = places code new first coded above in
    let more : (v : ℕ) (x : Meaning) → meaning_of (log_meanings (code_after code (alarm_added new) first)) v ≡ Some x → meaning_of (read_meanings (code_after code (alarm_added new) first)) v ≡ Some x =
    λ v x h. lifted (code_after code (alarm_added new) first) v x grown h in record {
      links = sym count;
      steps = refl;
      matching = λ p e t at time. more _ _ (there.matching p e t at time);
      being_done = λ t within. more _ _ (subst (λ k. meaning_of (log_meanings (code_after code (alarm_added new) first)) (first + (k * (1 + code.grid.steps * 2) + t)) ≡ Some (done (length code.log.alarms) t)) count (there.being_done t within));
      chaining = λ t time k below.
          let links : chain_count links ≡ chain_count (length (taken_events code.net code.log new)) = ap chain_count (sym count) in
          let meaning = there.chaining t time k (subst (λ m. k < m) links below) in
          more _ _ (subst (λ m. meaning_of (log_meanings (code_after code (alarm_added new) first)) (first + (m * (1 + code.grid.steps * 2) + (suc code.grid.steps + t * chain_count m)) + k) ≡ Some (some_of_first (of_matches (length code.log.alarms) (suc t)) (suc k))) count meaning);
      being_false = λ h. more _ _ (subst (λ m. meaning_of (log_meanings (code_after code (alarm_added new) first)) (first + (m * (1 + code.grid.steps * 2) + (suc code.grid.steps + code.grid.steps * chain_count m))) ≡ Some (dropped (length code.log.alarms))) count (there.being_false h));
    }

alarm_listed : (code : CodedLog) (new : Alarm) (first : ℕ) (ends : List ChainEnd) → IsCodedLog code → IsCodedLog (code_after code (alarm_added new) first) → code.vars ≤ first →
    map (λ (end : ChainEnd). end.event) ends ≡ observable_events code.net → AllByRecursion (λ (end : ChainEnd). end.event < code.grid.events) ends → AllByRecursion (IsChainEnd code) ends →
    AllZip (Reads code.net (with_addition code.log (alarm_added new)) code.grid.steps (read_meanings (code_after code (alarm_added new) first)))
    (alarm_written code.grid code.asked (new_vars code first (length (taken_from code.net new.labels ends)) new.doubtful) (taken_from code.net new.labels ends))
    (added_clauses code.net code.log code.grid.steps (alarm_added new))
alarm_listed code new first ends coded grown above are known all =
    let log = with_addition code.log (alarm_added new) in
    let names = read_meanings (code_after code (alarm_added new) first) in
    let count = taken_count code new ends are in
    let found : taken_events code.net code.log new ≡ filter (has_any_label code.net new.labels) (map (λ (end : ChainEnd). end.event) ends) =
    sym (taken_are_events code.net code.log new ends are) ∙ taken_is_filter code.net new.labels ends in
    let vars = new_vars code first (length (taken_from code.net new.labels ends)) new.doubtful in
    let linked = links_read code new first (length (taken_from code.net new.labels ends)) [] ends coded grown above count found known all in
    let finished = done_reads code.net log code.grid.steps names (length code.log.alarms) code.asked (taken_events code.net code.log new) vars
    (lifted (code_after code (alarm_added new) first) code.asked asked grown (asked_named (code_after code (alarm_added new) first))) refl (doubtful_new code.log new)
    (alarm_named code new first (length (taken_from code.net new.labels ends)) coded grown above count) in
    let reals = real_reads code.net log code.grid.steps names (length code.log.alarms) (taken_events code.net code.log new) vars (alarm_named code new first (length (taken_from code.net new.labels ends)) coded grown above count) in
    zip_append (Reads code.net log code.grid.steps names) (links_written code.grid vars 0 (taken_from code.net new.labels ends) ++ done_written code.asked vars) (alarm_clauses code.net code.log code.grid.steps new)
    (real_written vars) (real_clauses new.doubtful (length code.log.alarms) (taken_events code.net code.log new) code.grid.steps)
    (zip_append (Reads code.net log code.grid.steps names) (links_written code.grid vars 0 (taken_from code.net new.labels ends))
    (flat_map (λ e. flat_map (alarm_link_clauses (length code.log.alarms) e (length (chain code.net code.log e))) (numbers_below code.grid.steps)) (taken_events code.net code.log new))
    (done_written code.asked vars) _
    (subst (λ es. AllZip (Reads code.net log code.grid.steps names) (links_written code.grid vars 0 (taken_from code.net new.labels ends))
    (flat_map (λ e. flat_map (alarm_link_clauses (length code.log.alarms) e (length (chain code.net code.log e))) (numbers_below code.grid.steps)) es)) (sym found) linked) finished) reals

-- what is written of a new alarm is what it brings, and no more than its size allows
pub alarm_brings : (code : CodedLog) (new : Alarm) (first : ℕ) (ends : List ChainEnd) → IsCodedLog code → IsCodedLog (code_after code (alarm_added new) first) → code.vars ≤ first →
    map (λ (end : ChainEnd). end.event) ends ≡ observable_events code.net → AllByRecursion (λ (end : ChainEnd). end.event < code.grid.events) ends → AllByRecursion (IsChainEnd code) ends →
    IsListed (read_meanings (code_after code (alarm_added new) first)) (added_list code.net code.log code.grid.steps (alarm_added new))
    (alarm_written code.grid code.asked (new_vars code first (length (taken_from code.net new.labels ends)) new.doubtful) (taken_from code.net new.labels ends))
    × (length (alarm_written code.grid code.asked (new_vars code first (length (taken_from code.net new.labels ends)) new.doubtful) (taken_from code.net new.labels ends)) + 12 * question_size code.net code.log code.grid.steps
    ≤ 12 * question_size code.net (with_addition code.log (alarm_added new)) code.grid.steps + 12)
alarm_brings code new first ends coded grown above are known all =
    let vars = new_vars code first (length (taken_from code.net new.labels ends)) new.doubtful in
    let takes = taken_from code.net new.labels ends in
    let names = read_meanings (code_after code (alarm_added new) first) in
    let listed = alarm_listed code new first ends coded grown above are known all in
    let counted = zip_count (Reads code.net (with_addition code.log (alarm_added new)) code.grid.steps names) (alarm_written code.grid code.asked vars takes) (added_clauses code.net code.log code.grid.steps (alarm_added new)) listed in
    let small = drafts_are_small code.net code.log code.grid.steps (alarm_added new) in (
      listed_from names (log_clause code.net (with_addition code.log (alarm_added new)) code.grid.steps) (alarm_written code.grid code.asked vars takes) (added_clauses code.net code.log code.grid.steps (alarm_added new)) listed,
      omega (arith, small, counted),
    )

-- ---- a pair

pair_listed : (net : Net) (log : Log) (n : ℕ) (names : List (ℕ × Meaning)) (ask first second i j a k : ℕ) → a + k ≤ n + 1 → meaning_of names ask ≡ Some asked →
    ((t : ℕ) → t ≤ n → meaning_of names (first + t) ≡ Some (done i t)) → ((t : ℕ) → t ≤ n → meaning_of names (second + t) ≡ Some (done j t)) →
    AllZip (Reads net log n names) (map (λ t. negative ask ∷ negative (second + t) ∷ positive (first + t) ∷ []) (range_with_len a k)) (map (λ t. before_if_asked i j t) (range_with_len a k))
pair_listed net log n names ask first second i j a zero within asks firsts seconds = tt
pair_listed net log n names ask first second i j a (suc k) within asks firsts seconds = (
  reads_three names ask (second + a) (first + a) false false true _ _ _ asks (seconds a (omega arith)) (firsts a (omega arith)),
  pair_listed net log n names ask first second i j (a + 1) k (omega arith) asks firsts seconds,
)

pub pair_brings : (code : CodedLog) (i j first second start : ℕ) → IsCodedLog (code_after code (pair_added i j) start) →
    ((t : ℕ) → t ≤ code.grid.steps → meaning_of (log_meanings code) (first + t) ≡ Some (done i t)) → ((t : ℕ) → t ≤ code.grid.steps → meaning_of (log_meanings code) (second + t) ≡ Some (done j t)) →
    IsListed (read_meanings (code_after code (pair_added i j) start)) (added_list code.net code.log code.grid.steps (pair_added i j)) (pair_written code.asked first second code.grid.steps)
    × (length (pair_written code.asked first second code.grid.steps) + 12 * question_size code.net code.log code.grid.steps ≤ 12 * question_size code.net (with_addition code.log (pair_added i j)) code.grid.steps + 12)
pair_brings code i j first second start grown firsts seconds =
    let after = code_after code (pair_added i j) start in
    let names = read_meanings after in
    let last : code.grid.steps + 1 ≡ suc code.grid.steps = omega arith in
    let listed : AllZip (Reads code.net (with_addition code.log (pair_added i j)) code.grid.steps names) (pair_written code.asked first second code.grid.steps) (map (λ t. before_if_asked i j t) (numbers_below (suc code.grid.steps))) =
    subst (λ k. AllZip (Reads code.net (with_addition code.log (pair_added i j)) code.grid.steps names) (pair_written code.asked first second code.grid.steps) (map (λ t. before_if_asked i j t) (numbers_below k))) last
    (pair_listed code.net (with_addition code.log (pair_added i j)) code.grid.steps names code.asked first second i j 0 (code.grid.steps + 1) (omega arith) (lifted after code.asked asked grown (asked_named after))
    (λ t within. lifted after (first + t) _ grown (firsts t within)) (λ t within. lifted after (second + t) _ grown (seconds t within))) in
    let counted = zip_count (Reads code.net (with_addition code.log (pair_added i j)) code.grid.steps names) (pair_written code.asked first second code.grid.steps) (added_clauses code.net code.log code.grid.steps (pair_added i j)) listed in
    let small = drafts_are_small code.net code.log code.grid.steps (pair_added i j) in (
      listed_from names (log_clause code.net (with_addition code.log (pair_added i j)) code.grid.steps) (pair_written code.asked first second code.grid.steps) (added_clauses code.net code.log code.grid.steps (pair_added i j)) listed,
      omega (arith, small, counted),
    )

-- ---- the empty log

closed_listed : (net : Net) (grid : Grid) (ask : ℕ) (end : ChainEnd) (a k : ℕ) → IsCodedLog (empty_code net grid ask) → a + k ≤ grid.steps → end.event < grid.events → IsChainEnd (empty_code net grid ask) end →
    AllZip (Reads net no_log grid.steps (read_meanings (empty_code net grid ask))) (map (λ t. negative end.closed ∷ negative (grid_variable grid end.event (suc t)) ∷ []) (range_with_len a k)) (map (λ t. chain_closed end.event 0 t) (range_with_len a k))
closed_listed net grid ask end a zero coded within known is = tt
closed_listed net grid ask end a (suc k) coded within known is = (
  reads_two (read_meanings (empty_code net grid ask)) end.closed (grid_variable grid end.event (suc a)) false false (closed end.event 0) (happens end.event (suc a))
      (lifted (empty_code net grid ask) end.closed _ coded is.closing) (event_named (empty_code net grid ask) end.event a coded known (omega arith)),
  closed_listed net grid ask end (a + 1) k coded (omega arith) known is,
)

all_closed_listed : (net : Net) (grid : Grid) (ask : ℕ) (ends : List ChainEnd) → IsCodedLog (empty_code net grid ask) → AllByRecursion (λ (end : ChainEnd). end.event < grid.events) ends → AllByRecursion (IsChainEnd (empty_code net grid ask)) ends →
    AllZip (Reads net no_log grid.steps (read_meanings (empty_code net grid ask))) (all_closed_written grid ends) (flat_map (λ e. map (λ t. chain_closed e 0 t) (numbers_below grid.steps)) (map (λ (end : ChainEnd). end.event) ends))
all_closed_listed net grid ask [] coded known all = tt
all_closed_listed net grid ask (end ∷ ends) coded known all =
    zip_append (Reads net no_log grid.steps (read_meanings (empty_code net grid ask))) (closed_written grid end) (map (λ t. chain_closed end.event 0 t) (numbers_below grid.steps))
    (all_closed_written grid ends) (flat_map (λ e. map (λ t. chain_closed e 0 t) (numbers_below grid.steps)) (map (λ (x : ChainEnd). x.event) ends))
    (closed_listed net grid ask end 0 grid.steps coded (omega arith) known.0 all.0) (all_closed_listed net grid ask ends coded known.1 all.1)

pub first_written : (net : Net) (grid : Grid) (ask : ℕ) (ends : List ChainEnd) → IsCodedLog (empty_code net grid ask) → map (λ (end : ChainEnd). end.event) ends ≡ observable_events net →
    AllByRecursion (λ (end : ChainEnd). end.event < grid.events) ends → AllByRecursion (IsChainEnd (empty_code net grid ask)) ends →
    AppendsFirst net grid.steps (read_meanings (empty_code net grid ask)) [] (all_closed_written grid ends)
first_written net grid ask ends coded are known all =
    let names = read_meanings (empty_code net grid ask) in
    let zipped = subst (λ es. AllZip (Reads net no_log grid.steps names) (all_closed_written grid ends) (flat_map (λ e. map (λ t. chain_closed e 0 t) (numbers_below grid.steps)) es)) are (all_closed_listed net grid ask ends coded known all) in
    let listed = listed_from names (log_clause net no_log grid.steps) (all_closed_written grid ends) (first_clauses net grid.steps) zipped in record {
      more = all_closed_written grid ends;
      whole = refl;
      listed = listed;
      few = zip_count (Reads net no_log grid.steps names) (all_closed_written grid ends) (first_clauses net grid.steps) zipped ∙ first_clauses_are_few net grid.steps;
      code = code_begins net grid.steps names (all_closed_written grid ends) ((drafts_are_code net grid.steps names (all_closed_written grid ends)).1 listed);
    }
