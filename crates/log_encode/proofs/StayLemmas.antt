-- What an addition leaves as it was: the alarms, and the ends of chains that it doesn't lengthen.
use Rattle.std.proofs.Common.{◌≡◌, ℕ, zero, suc, ◌+◌, ◌*◌, ◌<◌, ◌≤◌, ◌∙◌, true, false, List, [], ◌∷◌, ◌++◌, length, map, filter, Option, Some, None, refl, sym, ap, subst, arith, slice_get, append-nil}
use Rattle.std.specs.List.{AllByRecursion}
use Rattle.des_base.proofs.Elements.{filter_alike}
use Rattle.des_base.specs.Lists.{numbers_below}
use Rattle.des_net.specs.Network.{Net}
use Rattle.log_order.specs.Log.{Log, Alarm, a_log}
use Rattle.question_clauses.specs.Additions.{alarm_added, pair_added, with_addition}
use Rattle.question_clauses.specs.LogClauses.{IsLink, chain, matching_events}
use Rattle.question_clauses.specs.LogNames.{added_meanings}
use Rattle.question_clauses.proofs.Lists.{get_more}
use Rattle.question_clauses.proofs.Stay.{matching_same, chain_is, doubtful_same}
use Rattle.log_encode.proofs.CodeLemmas.{names_with_alarm}
use Rattle.log_encode.proofs.TakenLemmas.{suits_new}
use Rattle.log_encode.specs.AlarmState.{AlarmState}
use Rattle.log_encode.specs.CodedLog.{CodedLog, log_meanings, code_after, addition_width, IsCodedLog}
use Rattle.log_encode.specs.declared.taken.ChainEnd.{ChainEnd}
use Rattle.log_encode.specs.View.{IsChainEnd, IsRest, AreEnds, AreFalse, IsCodedAlarm, AreKept, coded_of}
use Rattle.prop_core.proofs.NameLemmas.{found_more}
use Rattle.prop_core.specs.declared.grid.Grid.{Grid}
use Rattle.prop_core.specs.declared.lit.Lit.{Lit}
use Rattle.prop_core.specs.VariableNames.{Meaning, meaning_of, closed, remaining}
use Rattle.replay.specs.Explanation.{is_matching, has_any_label}
use Rattle.question_clauses.specs.LaidOut.{laid_out}

-- what has a name keeps it
pub named_still : (code : CodedLog) (new : Alarm) (first var : ℕ) (meaning : Meaning) → length code.starts ≡ length code.log.alarms → meaning_of (log_meanings code) var ≡ Some meaning →
    meaning_of (log_meanings (code_after code (alarm_added new) first)) var ≡ Some meaning
named_still code new first var meaning same h =
    subst (λ names. meaning_of names var ≡ Some meaning) (sym (names_with_alarm code new first same)) (found_more (log_meanings code) (laid_out first (added_meanings code.net code.log code.grid.steps (alarm_added new))) var meaning h)

pub matching_still : (net : Net) (log : Log) (new : Alarm) (i : ℕ) → i < length log.alarms → matching_events net (with_addition log (alarm_added new)) i ≡ matching_events net log i
matching_still net log new i h =
    filter_alike (λ e. is_matching net (with_addition log (alarm_added new)) e i) (λ e. is_matching net log e i) (numbers_below (length net.events)) (λ e. matching_same net log new e i h)

-- an alarm stays where it stands in a chain
link_still : (net : Net) (log : Log) (new : Alarm) (i e k : ℕ) → IsLink net log i e k → IsLink net (with_addition log (alarm_added new)) i e k
link_still net log new i e k is =
    subst (λ xs. slice_get xs k ≡ Some i) (sym (chain_is net log new e)) (get_more (chain net log e) (filter (is_matching net (with_addition log (alarm_added new)) e) (length log.alarms ∷ [])) k i is)

pub alarm_stays : (code : CodedLog) (new : Alarm) (first i : ℕ) (alarm : AlarmState) → IsCodedLog code → code.vars ≤ first → i < length code.log.alarms → IsCodedAlarm code i alarm → IsCodedAlarm (code_after code (alarm_added new) first) i alarm
alarm_stays code new first i alarm coded above known is =
    let same = matching_still code.net code.log new i known in record {
      events = is.events ∙ sym same;
      within = omega (arith, is.within);
      matching = λ p e t at time. named_still code new first _ _ coded.each (is.matching p e t (subst (λ xs. slice_get xs p ≡ Some e) same at) time);
      passing = λ p e t at time.
          let was = is.passing p e t (subst (λ xs. slice_get xs p ≡ Some e) same at) time in
          (was.0, link_still code.net code.log new i e was.0 was.1, named_still code new first _ _ coded.each was.2);
      being_done = λ t time. named_still code new first _ _ coded.each (is.being_done t time);
      mark = doubtful_same code.log new i known ∙ is.mark;
      being_false = λ h. named_still code new first _ _ coded.each (is.being_false h);
    }

-- a chain that the new alarm doesn't join
pub chain_kept : (net : Net) (log : Log) (new : Alarm) (e : ℕ) → has_any_label net new.labels e ≡ false → chain net (with_addition log (alarm_added new)) e ≡ chain net log e
chain_kept net log new e h =
    let apart : is_matching net (with_addition log (alarm_added new)) e (length log.alarms) ≡ false = suits_new net log new e ∙ h in
    let none : filter (is_matching net (with_addition log (alarm_added new)) e) (length log.alarms ∷ []) ≡ [] = rw apart refl in
    chain_is net log new e ∙ ap (λ xs. chain net log e ++ xs) none ∙ append-nil (chain net log e)

-- and one that it joins
pub chain_joined : (net : Net) (log : Log) (new : Alarm) (e : ℕ) → has_any_label net new.labels e ≡ true → chain net (with_addition log (alarm_added new)) e ≡ chain net log e ++ length log.alarms ∷ []
chain_joined net log new e h =
    let suits : is_matching net (with_addition log (alarm_added new)) e (length log.alarms) ≡ true = suits_new net log new e ∙ h in
    let one : filter (is_matching net (with_addition log (alarm_added new)) e) (length log.alarms ∷ []) ≡ length log.alarms ∷ [] = rw suits refl in
    chain_is net log new e ∙ ap (λ xs. chain net log e ++ xs) one

rest_stays : (code : CodedLog) (new : Alarm) (first e : ℕ) (last : Option ℕ) → IsCodedLog code → code.vars ≤ first → has_any_label code.net new.labels e ≡ false → IsRest code e last → IsRest (code_after code (alarm_added new) first) e last
rest_stays code new first e None coded above apart is = ap length (chain_kept code.net code.log new e apart) ∙ is
rest_stays code new first e (Some start) coded above apart is = (
  omega (arith, is.0),
  λ t time. named_still code new first _ _ coded.each (subst (λ xs. meaning_of (log_meanings code) (start + t * 2) ≡ Some (remaining e (length xs) (suc t))) (sym (chain_kept code.net code.log new e apart)) (is.1 t time)),
)

pub end_stays : (code : CodedLog) (new : Alarm) (first : ℕ) (end : ChainEnd) → IsCodedLog code → code.vars ≤ first → has_any_label code.net new.labels end.event ≡ false → IsChainEnd code end → IsChainEnd (code_after code (alarm_added new) first) end
end_stays code new first end coded above apart is = record {
  closing = named_still code new first _ _ coded.each (subst (λ xs. meaning_of (log_meanings code) end.closed ≡ Some (closed end.event (length xs))) (sym (chain_kept code.net code.log new end.event apart)) is.closing);
  rest = rest_stays code new first end.event end.last coded above apart is.rest;
}

-- ---- a pair changes no chain and no name

rest_by_pair : (code : CodedLog) (i j first e : ℕ) (last : Option ℕ) → code.vars ≤ first → IsRest code e last → IsRest (code_after code (pair_added i j) first) e last
rest_by_pair code i j first e None above is = is
rest_by_pair code i j first e (Some start) above is = (omega (arith, is.0), is.1)

ends_by_pair : (code : CodedLog) (i j first : ℕ) (ends : List ChainEnd) → code.vars ≤ first → AllByRecursion (IsChainEnd code) ends → AllByRecursion (IsChainEnd (code_after code (pair_added i j) first)) ends
ends_by_pair code i j first [] above all = tt
ends_by_pair code i j first (end ∷ ends) above all = (
  record { closing = all.0.closing; rest = rest_by_pair code i j first end.event end.last above all.0.rest },
  ends_by_pair code i j first ends above all.1,
)

pub kept_by_pair : (code : CodedLog) (i j first : ℕ) (ends : List ChainEnd) (guards dropped : List Lit) (alarms : List AlarmState) → IsCodedLog (code_after code (pair_added i j) first) → code.vars ≤ first → AreKept code ends guards dropped alarms →
    AreKept (code_after code (pair_added i j) first) ends guards dropped alarms
kept_by_pair code i j first ends guards dropped alarms coded above kept = record {
  log = coded;
  chains = record { events = kept.chains.events; each = ends_by_pair code i j first ends above kept.chains.each; guarding = kept.chains.guarding };
  false_ones = kept.false_ones;
  alarms = λ k alarm at. let is = kept.alarms k alarm at in record { events = is.events; within = omega (arith, is.within); matching = is.matching; passing = is.passing; being_done = is.being_done; mark = is.mark; being_false = is.being_false };
}

-- ---- a new alarm among the others

pub map_snoc : {X Y : Type 0} (f : X → Y) (xs : List X) (x : X) → map f (xs ++ x ∷ []) ≡ map f xs ++ f x ∷ []
map_snoc f [] x = refl
map_snoc f (y ∷ xs) x = ap (λ rest. f y ∷ rest) (map_snoc f xs x)

pub get_snoc : {X : Type 0} (P : ℕ → X → Type 0) (xs : List X) (new : X) → ((i : ℕ) (x : X) → slice_get xs i ≡ Some x → P i x) → P (length xs) new → (i : ℕ) (x : X) → slice_get (xs ++ new ∷ []) i ≡ Some x → P i x
get_snoc P [] new each last zero x at = subst (P 0) (cc) last
get_snoc P [] new each last (suc i) x at = cc
get_snoc P (y ∷ xs) new each last zero x at = each 0 x at
get_snoc P (y ∷ xs) new each last (suc i) x at = get_snoc (λ k. P (suc k)) xs new (λ k z h. each (suc k) z h) last i x at

-- the code with a further alarm is the code after its addition
pub coded_with_alarm : (net : Net) (grid : Grid) (asked vars first : ℕ) (alarms : List AlarmState) (pairs : List (ℕ × ℕ)) (alarm : AlarmState) → alarm.start ≡ first →
    coded_of net grid asked (first + addition_width (coded_of net grid asked vars alarms pairs) (alarm_added alarm.noted)) (alarms ++ alarm ∷ []) pairs
    ≡ code_after (coded_of net grid asked vars alarms pairs) (alarm_added alarm.noted) first
coded_with_alarm net grid asked vars first alarms pairs alarm begins =
    let code = coded_of net grid asked vars alarms pairs in
    let labels = map_snoc (λ (a : AlarmState). a.noted) alarms alarm in
    let starts = map_snoc (λ (a : AlarmState). a.start) alarms alarm ∙ ap (λ v. map (λ (a : AlarmState). a.start) alarms ++ v ∷ []) begins in
    ap (λ xs. let made : CodedLog = record { net = net; grid = grid; log = (a_log xs pairs); asked = asked; starts = map (λ (a : AlarmState). a.start) (alarms ++ alarm ∷ []); vars = first + addition_width code (alarm_added alarm.noted) } in made) labels
    ∙ ap (λ xs. let made : CodedLog = record { net = net; grid = grid; log = (a_log (map (λ (a : AlarmState). a.noted) alarms ++ alarm.noted ∷ []) pairs); asked = asked; starts = xs; vars = first + addition_width code (alarm_added alarm.noted) } in made) starts

pub kept_with_alarm : (code : CodedLog) (first : ℕ) (ends after : List ChainEnd) (guards then dropped later : List Lit) (alarms : List AlarmState) (alarm : AlarmState) → length code.log.alarms ≡ length alarms →
    IsCodedLog (code_after code (alarm_added alarm.noted) first) → code.vars ≤ first → AreKept code ends guards dropped alarms →
    AreEnds (code_after code (alarm_added alarm.noted) first) after then → AreFalse (code_after code (alarm_added alarm.noted) first) later → IsCodedAlarm (code_after code (alarm_added alarm.noted) first) (length code.log.alarms) alarm →
    AreKept (code_after code (alarm_added alarm.noted) first) after then later (alarms ++ alarm ∷ [])
kept_with_alarm code first ends after guards then dropped later alarms alarm count coded above kept chains false_ones is = record {
  log = coded;
  chains = chains;
  false_ones = false_ones;
  alarms = get_snoc (IsCodedAlarm (code_after code (alarm_added alarm.noted) first)) alarms alarm
      (λ i a at. alarm_stays code alarm.noted first i a kept.log above (omega (arith, count, got_within alarms i a at)) (kept.alarms i a at))
      (subst (λ k. IsCodedAlarm (code_after code (alarm_added alarm.noted) first) k alarm) count is);
}
  where
    got_within : (xs : List AlarmState) (i : ℕ) (a : AlarmState) → slice_get xs i ≡ Some a → i < length xs
    got_within [] i a at = cc
    got_within (x ∷ xs) zero a at = omega arith
    got_within (x ∷ xs) (suc i) a at = omega (arith, got_within xs i a at)
