-- What a longer log keeps of a shorter one.
use Rattle.std.proofs.Common.{◌≡◌, ℕ, zero, suc, ◌+◌, ◌<◌, ◌≤◌, Bool, true, false, List, [], ◌∷◌, ◌++◌, ◌∙◌, length, refl, sym, ap, subst, arith, Some, map, slice_get, filter, option_map, unwrap_or, cond, length-append, add-zero}
use Rattle.std.specs.Prelude.{bytes_eq}
use Rattle.std.specs.Option.{option_map_or}
use Rattle.std.specs.List.{AllByRecursion, list_any, range_with_len}
use Rattle.std.proofs.lemmas.List.Elements.{filter-append}
use Rattle.des_base.specs.Lists.{numbers_below}
use Rattle.des_net.specs.Network.{Net, label_of}
use Rattle.question_clauses.proofs.LogRules.{matching_alarm}
use Rattle.question_clauses.specs.LogClauses.{chain, doubtful_alarms, match_inputs, matching_events, LogClause, IsLogClause, IsLink, log_clause, chain_closed, takes_rest, uses_up, passes_on, taken_or_passed, not_done_first, stays_done, match_is_done, matched_once, match_is_real, done_by_match, one_match, done_if_asked, before_if_asked, or_false}
use Rattle.log_order.specs.Log.{Log, Alarm, is_doubtful}
use Rattle.card_counter.specs.Exclusions.{IsExclusionClause}
use Rattle.prop_core.specs.VariableNames.{NamedLiteral, yes, no, matches, done, dropped}
use Rattle.replay.specs.Explanation.{is_matching}
use Rattle.question_clauses.proofs.Lists.{get_more}

abbrev pub with_alarm : Log → Alarm → Log
with_alarm log new = record log { alarms = log.alarms ++ new ∷ [] }

abbrev pub with_pair : Log → ℕ → ℕ → Log
with_pair log i j = record log { pairs = log.pairs ++ (i, j) ∷ [] }

pub get_same : {X : Type 0} (xs ys : List X) (k : ℕ) → k < length xs → slice_get (xs ++ ys) k ≡ slice_get xs k
get_same [] ys k h = absurd (omega arith)
get_same (y ∷ xs) ys zero h = refl
get_same (y ∷ xs) ys (suc k) h = get_same xs ys k (omega arith)

pub range_more : (a m : ℕ) → range_with_len a (suc m) ≡ range_with_len a m ++ (a + m) ∷ []
range_more a zero = rw add-zero refl
range_more a (suc m) = ap (λ xs. a ∷ xs) (range_more (a + 1) m ∙ ap (λ k. range_with_len (a + 1) m ++ k ∷ []) (omega arith))

range_below : (a m : ℕ) → AllByRecursion (λ x. x < a + m) (range_with_len a m)
range_below a zero = tt
range_below a (suc m) = (omega arith, subst (λ k. AllByRecursion (λ x. x < k) (range_with_len (a + 1) m)) (omega arith) (range_below (a + 1) m))

filter_same : (p q : ℕ → Bool) (m : ℕ) (xs : List ℕ) → ((x : ℕ) → x < m → p x ≡ q x) → AllByRecursion (λ x. x < m) xs → filter p xs ≡ filter q xs
filter_same p q m [] same h = refl
filter_same p q m (x ∷ xs) same h = rw (same x h.0, filter_same p q m xs same h.1) refl

pub matching_same : (net : Net) (log : Log) (new : Alarm) (e i : ℕ) → i < length log.alarms → is_matching net (with_alarm log new) e i ≡ is_matching net log e i
matching_same net log new e i h = ap (λ o. option_map_or (λ label. list_any (bytes_eq label) (unwrap_or (option_map (λ (alarm : Alarm). alarm.labels) o) [])) (label_of net e) false) (get_same log.alarms (new ∷ []) i h)

pub doubtful_same : (log : Log) (new : Alarm) (i : ℕ) → i < length log.alarms → is_doubtful (with_alarm log new) i ≡ is_doubtful log i
doubtful_same log new i h = ap (λ o. unwrap_or (option_map (λ (alarm : Alarm). alarm.doubtful) o) false) (get_same log.alarms (new ∷ []) i h)

-- the new alarm is doubtful as it is itself
pub doubtful_new : (log : Log) (new : Alarm) → is_doubtful (with_alarm log new) (length log.alarms) ≡ new.doubtful
doubtful_new log new = ap (λ o. unwrap_or (option_map (λ (alarm : Alarm). alarm.doubtful) o) false) (get_last log.alarms)
  where
    get_last : (xs : List Alarm) → slice_get (xs ++ new ∷ []) (length xs) ≡ Some new
    get_last [] = refl
    get_last (x ∷ xs) = get_last xs

pub chain_is : (net : Net) (log : Log) (new : Alarm) (e : ℕ) →
    chain net (with_alarm log new) e ≡ chain net log e ++ filter (is_matching net (with_alarm log new) e) (length log.alarms ∷ [])
chain_is net log new e =
    let m = length log.alarms in
    let p = is_matching net (with_alarm log new) e in
    let longer : length (log.alarms ++ new ∷ []) ≡ suc m = omega (arith, length-append log.alarms (new ∷ [])) in
    ap (λ k. filter p (range_with_len 0 k)) longer ∙ ap (filter p) (range_more 0 m) ∙ filter-append p (range_with_len 0 m) ((0 + m) ∷ [])
    ∙ ap (λ k. filter p (range_with_len 0 m) ++ filter p (k ∷ [])) (omega arith)
    ∙ ap (λ xs. xs ++ filter p (m ∷ [])) (filter_same p (is_matching net log e) m (range_with_len 0 m) (λ x h. matching_same net log new e x h) (subst (λ k. AllByRecursion (λ x. x < k) (range_with_len 0 m)) (omega arith) (range_below 0 m)))

pub doubtful_is : (log : Log) (new : Alarm) → doubtful_alarms (with_alarm log new) ≡ doubtful_alarms log ++ filter (is_doubtful (with_alarm log new)) (length log.alarms ∷ [])
doubtful_is log new =
    let m = length log.alarms in
    let p = is_doubtful (with_alarm log new) in
    let longer : length (log.alarms ++ new ∷ []) ≡ suc m = omega (arith, length-append log.alarms (new ∷ [])) in
    ap (λ k. filter p (range_with_len 0 k)) longer ∙ ap (filter p) (range_more 0 m) ∙ filter-append p (range_with_len 0 m) ((0 + m) ∷ [])
    ∙ ap (λ k. filter p (range_with_len 0 m) ++ filter p (k ∷ [])) (omega arith)
    ∙ ap (λ xs. xs ++ filter p (m ∷ [])) (filter_same p (is_doubtful log) m (range_with_len 0 m) (λ x h. doubtful_same log new x h) (subst (λ k. AllByRecursion (λ x. x < k) (range_with_len 0 m)) (omega arith) (range_below 0 m)))

chain_more : (net : Net) (log : Log) (new : Alarm) (e : ℕ) → (more : List ℕ) × (chain net (with_alarm log new) e ≡ chain net log e ++ more)
chain_more net log new e = (filter (is_matching net (with_alarm log new) e) (length log.alarms ∷ []), chain_is net log new e)

pub matching_stays : (net : Net) (log : Log) (new : Alarm) (e i : ℕ) → is_matching net log e i ≡ true → is_matching net (with_alarm log new) e i ≡ true
matching_stays net log new e i h = matching_same net log new e i (matching_alarm net log e i h) ∙ h

pub link_stays : (net : Net) (log : Log) (new : Alarm) (i e k : ℕ) → IsLink net log i e k → IsLink net (with_alarm log new) i e k
link_stays net log new i e k h = let more = chain_more net log new e in rw more.1 (get_more (chain net log e) more.0 k i h)

pub chain_grows : (net : Net) (log : Log) (new : Alarm) (e : ℕ) → length (chain net log e) ≤ length (chain net (with_alarm log new) e)
chain_grows net log new e = let more = chain_more net log new e in rw more.1 (omega (arith, length-append (chain net log e) more.0))

pub alarms_grow : (log : Log) (new : Alarm) (i : ℕ) → i < length log.alarms → i < length (log.alarms ++ new ∷ [])
alarms_grow log new i h = omega (arith, length-append log.alarms (new ∷ []))

pub all_range : (m : ℕ) (p q : ℕ → Bool) → ((x : ℕ) → p x ≡ q x) → filter p (numbers_below m) ≡ filter q (numbers_below m)
all_range m p q same = filter_same p q m (range_with_len 0 m) (λ x h. same x) (subst (λ k. AllByRecursion (λ x. x < k) (range_with_len 0 m)) (omega arith) (range_below 0 m))

-- an alarm that was there before has the matches that it had
pub inputs_same : (net : Net) (log : Log) (new : Alarm) (i t : ℕ) → i < length log.alarms → match_inputs net log i t ≡ match_inputs net (with_alarm log new) i t
inputs_same net log new i t h =
    ap (map (λ e. matches i e t)) (sym (all_range (length net.events) (λ e. is_matching net (with_alarm log new) e i) (λ e. is_matching net log e i) (λ e. matching_same net log new e i h)))

pub known_stays : (net : Net) (log : Log) (n : ℕ) (new : Alarm) (which : LogClause) → IsLogClause net log n which → IsLogClause net (with_alarm log new) n which
known_stays net log n new (chain_closed e k t) h = let grows = chain_grows net log new e in (h.0, omega (arith, h.1, grows), h.2)
known_stays net log n new (takes_rest i e k t) h = (link_stays net log new i e k h.0, h.1)
known_stays net log n new (uses_up i e k t) h = (link_stays net log new i e k h.0, h.1)
known_stays net log n new (passes_on e k t) h = let grows = chain_grows net log new e in (omega (arith, h.0, grows), h.1)
known_stays net log n new (taken_or_passed i e k t) h = (link_stays net log new i e k h.0, h.1)
known_stays net log n new (not_done_first i) h = alarms_grow log new i h
known_stays net log n new (stays_done i t) h = (alarms_grow log new i h.0, h.1)
known_stays net log n new (match_is_done i e t) h = (matching_stays net log new e i h.0, h.1)
known_stays net log n new (matched_once i e t) h = (matching_stays net log new e i h.0, h.1)
known_stays net log n new (match_is_real i e t) h = (matching_stays net log new e i h.0, doubtful_same log new i (matching_alarm net log e i h.0) ∙ h.1, h.2)
known_stays net log n new (done_by_match i t) h = (alarms_grow log new i h.0, h.1)
known_stays net log n new (one_match i t which) h = (alarms_grow log new i h.0, h.1, subst (λ xs. IsExclusionClause xs which) (inputs_same net log new i (suc t) h.0) h.2)
known_stays net log n new (done_if_asked i) h = alarms_grow log new i h
known_stays net log n new (before_if_asked i j t) h = h

or_false_same : (log : Log) (new : Alarm) (i : ℕ) → i < length log.alarms → (literals : List NamedLiteral) → or_false log i literals ≡ or_false (with_alarm log new) i literals
or_false_same log new i h literals = ap (λ b. cond b (yes (dropped i) ∷ literals) literals) (sym (doubtful_same log new i h))

pub clause_same : (net : Net) (log : Log) (n : ℕ) (new : Alarm) (which : LogClause) → IsLogClause net log n which → log_clause net log n which ≡ log_clause net (with_alarm log new) n which
clause_same net log n new (chain_closed e k t) h = refl
clause_same net log n new (takes_rest i e k t) h = refl
clause_same net log n new (uses_up i e k t) h = refl
clause_same net log n new (passes_on e k t) h = refl
clause_same net log n new (taken_or_passed i e k t) h = refl
clause_same net log n new (not_done_first i) h = ap (λ ls. no (done i 0) ∷ ls) (or_false_same log new i h [])
clause_same net log n new (stays_done i t) h = refl
clause_same net log n new (match_is_done i e t) h = refl
clause_same net log n new (matched_once i e t) h = refl
clause_same net log n new (match_is_real i e t) h = refl
clause_same net log n new (done_by_match i t) h =
    ap (λ ls. no (done i (suc t)) ∷ yes (done i t) ∷ ls) (or_false_same log new i h.0 (map (λ e. yes (matches i e (suc t))) (matching_events net log i)))
    ∙ ap (λ es. no (done i (suc t)) ∷ yes (done i t) ∷ or_false (with_alarm log new) i (map (λ e. yes (matches i e (suc t))) es))
    (sym (all_range (length net.events) (λ e. is_matching net (with_alarm log new) e i) (λ e. is_matching net log e i) (λ e. matching_same net log new e i h.0)))
clause_same net log n new (one_match i t which) h = refl
clause_same net log n new (done_if_asked i) h = refl
clause_same net log n new (before_if_asked i j t) h = refl
