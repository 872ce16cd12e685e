-- The names of a log's code as it grows.
use Rattle.std.proofs.Common.{◌≡◌, ℕ, suc, ◌+◌, ◌*◌, ◌<◌, ◌≤◌, ◌∙◌, Bool, true, false, filter, if◌then◌else◌, List, [], ◌∷◌, ◌++◌, length, map, refl, sym, ap, subst, arith, append_assoc, append-nil, length-append}
use Rattle.std.specs.List.{AllByRecursion}
use Rattle.des_base.proofs.Elements.{all_append}
use Rattle.des_base.specs.Lists.{numbers_below}
use Rattle.des_base.specs.declared.TheConstants.{VAR_LIMIT}
use Rattle.des_net.specs.Network.{Net}
use Rattle.log_order.specs.Log.{Log, Alarm, no_log, is_doubtful, a_log}
use Rattle.question_clauses.specs.Additions.{Addition, alarm_added, pair_added, with_addition}
use Rattle.question_clauses.specs.LogNames.{added_meanings, first_meanings, link_meanings, alarm_meanings, match_chains, false_meanings, AreLogMeanings}
use Rattle.question_clauses.specs.Drafts.{taken_events}
use Rattle.question_clauses.specs.LogClauses.{chain, doubtful_alarms}
use Rattle.question_clauses.proofs.Stay.{doubtful_new, doubtful_is}
use Rattle.std.proofs.lemmas.List.{map-append}
use Rattle.question_clauses.specs.BesideEvents.{AreBesideEvents, IsAfterEvents}
use Rattle.question_clauses.proofs.BesideEvents.{meanings_join_events}
use Rattle.question_clauses.proofs.Numbered.{meanings_begin, log_meanings_grow}
use Rattle.log_encode.proofs.Naming.{row_above}
use Rattle.log_encode.specs.CodedLog.{CodedLog, meanings_from, log_meanings, empty_code, code_after, addition_width, false_literals, IsCodedLog}
use Rattle.prop_core.specs.declared.grid.Grid.{Grid}
use Rattle.prop_core.specs.VariableNames.{Meaning, done, dropped, yes}
use Rattle.std.specs.Prelude.{flat_map}
use Rattle.question_clauses.specs.LaidOut.{laid_out}

abbrev of_alarms : List Alarm → Log
of_alarms alarms = a_log alarms []

-- one more alarm
names_snoc : (net : Net) (n : ℕ) (before alarms : List Alarm) (starts : List ℕ) (new : Alarm) (first : ℕ) → length starts ≡ length alarms →
    meanings_from net n (of_alarms before) (alarms ++ new ∷ []) (starts ++ first ∷ [])
    ≡ meanings_from net n (of_alarms before) alarms starts ++ laid_out first (added_meanings net (of_alarms (before ++ alarms)) n (alarm_added new))
names_snoc net n before [] [] new first same =
    append-nil (laid_out first (added_meanings net (of_alarms before) n (alarm_added new)))
    ∙ ap (λ xs. laid_out first (added_meanings net (of_alarms xs) n (alarm_added new))) (sym (append-nil before))
names_snoc net n before [] (start ∷ starts) new first same = absurd (omega (arith, same))
names_snoc net n before (alarm ∷ alarms) [] new first same = absurd (omega (arith, same))
names_snoc net n before (alarm ∷ alarms) (start ∷ starts) new first same =
    let here = laid_out start (added_meanings net (of_alarms before) n (alarm_added alarm)) in
    let rest = names_snoc net n (before ++ alarm ∷ []) alarms starts new first (omega (arith, same)) in
    ap (λ xs. here ++ xs) (rest ∙ ap (λ xs. meanings_from net n (of_alarms (before ++ alarm ∷ [])) alarms starts ++ laid_out first (added_meanings net (of_alarms xs) n (alarm_added new))) (append_assoc before (alarm ∷ []) alarms))
    ∙ sym (append_assoc here (meanings_from net n (of_alarms (before ++ alarm ∷ [])) alarms starts) (laid_out first (added_meanings net (of_alarms (before ++ alarm ∷ alarms)) n (alarm_added new))))

pub names_with_alarm : (code : CodedLog) (new : Alarm) (first : ℕ) → length code.starts ≡ length code.log.alarms →
    log_meanings (code_after code (alarm_added new) first) ≡ log_meanings code ++ laid_out first (added_meanings code.net code.log code.grid.steps (alarm_added new))
names_with_alarm code new first same =
    ap (λ xs. laid_out code.asked (first_meanings code.net) ++ xs) (names_snoc code.net code.grid.steps [] code.log.alarms code.starts new first same)
    ∙ sym (append_assoc (laid_out code.asked (first_meanings code.net)) (meanings_from code.net code.grid.steps no_log code.log.alarms code.starts) (laid_out first (added_meanings code.net code.log code.grid.steps (alarm_added new))))

pub empty_is_coded : (net : Net) (grid : Grid) (asked : ℕ) → grid.events ≡ length net.events → grid.first + grid.events * grid.steps ≤ asked → asked + length (first_meanings net) ≤ VAR_LIMIT →
    IsCodedLog (empty_code net grid asked)
empty_is_coded net grid asked events made few = record {
  events = events;
  made = made;
  meanings = subst (AreLogMeanings net no_log grid.steps (asked + length (first_meanings net))) (sym (append-nil (laid_out asked (first_meanings net)))) (meanings_begin net grid.steps asked);
  after = subst (AllByRecursion (λ entry. asked ≤ entry.0)) (sym (append-nil (laid_out asked (first_meanings net)))) (row_above asked asked (first_meanings net) (omega arith));
  few = few;
  each = refl;
  alarms = omega arith;
}

all_below : (vars more : ℕ) (names : List (ℕ × Meaning)) → vars ≤ more → AllByRecursion (λ entry. entry.0 < vars) names → AllByRecursion (λ entry. entry.0 < more) names
all_below vars more [] h all = tt
all_below vars more (entry ∷ names) h all = (omega (arith, all.0), all_below vars more names h all.1)

-- the names of a log have greater variables than needed
pub raised : (net : Net) (log : Log) (n vars more : ℕ) (names : List (ℕ × Meaning)) → vars ≤ more → AreLogMeanings net log n vars names → AreLogMeanings net log n more names
raised net log n vars more names h are = record {
  once = are.once;
  below = all_below vars more names h are.below;
  exact = are.exact;
}

abbrev Grown : CodedLog → Addition → ℕ → Type 0
Grown code addition first = AreLogMeanings code.net (with_addition code.log addition) code.grid.steps (first + addition_width code addition) (log_meanings (code_after code addition first))

grown : (code : CodedLog) (addition : Addition) (first : ℕ) → IsCodedLog code → code.vars ≤ first → Grown code addition first
grown code (alarm_added new) first is above =
    subst (AreLogMeanings code.net (with_addition code.log (alarm_added new)) code.grid.steps (first + addition_width code (alarm_added new))) (sym (names_with_alarm code new first is.each))
    (log_meanings_grow code.net code.log code.grid.steps first (alarm_added new) (log_meanings code) (raised code.net code.log code.grid.steps code.vars first (log_meanings code) above is.meanings))
grown code (pair_added i j) first is above =
    subst (AreLogMeanings code.net (with_addition code.log (pair_added i j)) code.grid.steps (first + 0)) (append-nil (log_meanings code))
    (log_meanings_grow code.net code.log code.grid.steps first (pair_added i j) (log_meanings code) (raised code.net code.log code.grid.steps code.vars first (log_meanings code) above is.meanings))

still_after : (code : CodedLog) (addition : Addition) (first : ℕ) → IsCodedLog code → code.asked ≤ first → AllByRecursion (λ entry. code.asked ≤ entry.0) (log_meanings (code_after code addition first))
still_after code (alarm_added new) first is above =
    subst (AllByRecursion (λ entry. code.asked ≤ entry.0)) (sym (names_with_alarm code new first is.each))
    (all_append (λ (entry : ℕ × Meaning). code.asked ≤ entry.0) (log_meanings code) (laid_out first (added_meanings code.net code.log code.grid.steps (alarm_added new))) is.after (row_above first code.asked (added_meanings code.net code.log code.grid.steps (alarm_added new)) above))
still_after code (pair_added i j) first is above = is.after

still_each : (code : CodedLog) (addition : Addition) (first : ℕ) → IsCodedLog code → length (code_after code addition first).starts ≡ length (code_after code addition first).log.alarms
still_each code (alarm_added new) first is = omega (arith, length-append code.starts (first ∷ []), length-append code.log.alarms (new ∷ []), is.each)
still_each code (pair_added i j) first is = is.each

-- a new alarm has a variable
width_positive : (code : CodedLog) (new : Alarm) → 1 ≤ addition_width code (alarm_added new)
width_positive code new =
    omega (arith, length-append (alarm_meanings code.net code.log code.grid.steps new) (match_chains code.grid.steps (length code.log.alarms) (length (taken_events code.net code.log new)) ++ false_meanings new.doubtful (length code.log.alarms)), length-append (flat_map (λ e. link_meanings code.grid.steps (length code.log.alarms) e (length (chain code.net code.log e))) (taken_events code.net code.log new)) (map (λ t. done (length code.log.alarms) t) (numbers_below (suc code.grid.steps))))

still_fewer : (code : CodedLog) (addition : Addition) (first : ℕ) → IsCodedLog code → code.vars ≤ first → length (code_after code addition first).log.alarms ≤ first + addition_width code addition
still_fewer code (alarm_added new) first is above = omega (arith, length-append code.log.alarms (new ∷ []), width_positive code new, is.alarms, above)
still_fewer code (pair_added i j) first is above = omega (arith, is.alarms, above)

-- its first variable is below the number above all
pub asked_below : (code : CodedLog) → IsCodedLog code → code.asked < code.vars
asked_below code is = is.meanings.below.0

pub grown_is_coded : (code : CodedLog) (addition : Addition) (first : ℕ) → IsCodedLog code → code.vars ≤ first → first + addition_width code addition ≤ VAR_LIMIT → IsCodedLog (code_after code addition first)
grown_is_coded code addition first is above few =
    let low = asked_below code is in record {
      events = is.events;
      made = is.made;
      meanings = grown code addition first is above;
      after = still_after code addition first is (omega (arith, low));
      few = few;
      each = still_each code addition first is;
      alarms = still_fewer code addition first is above;
    }

-- the names of a code go together with those of the events
pub beside : (code : CodedLog) → IsCodedLog code → AreBesideEvents code.net code.grid.steps code.grid.first (log_meanings code)
beside code coded = meanings_join_events code.net code.log code.grid.steps code.grid.first code.vars (log_meanings code) coded.meanings (all_after (log_meanings code) coded.after)
  where
    made : code.grid.first + length code.net.events * code.grid.steps ≤ code.asked
    made = subst (λ k. code.grid.first + k * code.grid.steps ≤ code.asked) coded.events coded.made

    all_after : (names : List (ℕ × Meaning)) → AllByRecursion (λ entry. code.asked ≤ entry.0) names → AllByRecursion (λ entry. IsAfterEvents code.net code.grid.steps code.grid.first entry.0) names
    all_after [] all = tt
    all_after (entry ∷ names) all = (omega (arith, made, all.0), all_after names all.1)

-- ---- what says that alarms are false

-- where it is doubtful, the new alarm comes last
pub false_more : (log : Log) (new : Alarm) → false_literals (with_addition log (alarm_added new)) ≡ false_literals log ++ (if new.doubtful then yes (dropped (length log.alarms)) ∷ [] else [])
false_more log new =
    let longer = with_addition log (alarm_added new) in
    ap (map (λ i. yes (dropped i))) (doubtful_is log new) ∙ map-append (λ i. yes (dropped i)) (doubtful_alarms log) (filter (is_doubtful longer) (length log.alarms ∷ []))
    ∙ ap (λ xs. false_literals log ++ xs) (by new.doubtful (doubtful_new log new))
  where
    by : (b : Bool) → is_doubtful (with_addition log (alarm_added new)) (length log.alarms) ≡ b → map (λ i. yes (dropped i)) (filter (is_doubtful (with_addition log (alarm_added new))) (length log.alarms ∷ [])) ≡ (if b then yes (dropped (length log.alarms)) ∷ [] else [])
    by true h = rw h refl
    by false h = rw h refl
