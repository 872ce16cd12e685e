-- What an addition to a log brings.
use Rattle.std.proofs.Common.{◌≡◌, ℕ, zero, suc, ◌+◌, ◌<◌, ◌≤◌, Bool, true, false, List, [], ◌∷◌, ◌++◌, ◌∙◌, length, Some, refl, sym, ap, subst, arith, Contains, slice_get, filter, cond, inl, inr, ◌⊎◌, take, length-append}
use Rattle.std.proofs.lemmas.Bool.{cases_lt}
use Rattle.std.proofs.lemmas.List.Elements.{Contains-push_cases, Contains-append_left, Contains-append_right}
use Rattle.card_counter.specs.Exclusions.{IsExclusionClause}
use Rattle.des_base.proofs.Elements.{here_first, none_in_nil}
use Rattle.des_net.specs.Network.{Net}
use Rattle.question_clauses.proofs.LogOpen.{log_is_open}
use Rattle.question_clauses.proofs.LogRules.{matching_alarm, is_shown}
use Rattle.question_clauses.proofs.Stay.{with_alarm, with_pair, chain_is, inputs_same, known_stays, clause_same, matching_same, doubtful_same, doubtful_new}
use Rattle.question_clauses.specs.AdditionLaws.{ChainsGrow, AdditionsAreExact, EmptyLogIsExact, AdditionsStayOpen}
use Rattle.question_clauses.specs.Additions.{Addition, alarm_added, pair_added, with_addition, log_after, IsTaken, IsNewLink, IsAlarmClause, IsFirstClause}
use Rattle.question_clauses.specs.LogClauses.{chain, LogClause, log_clause, IsLogClause, IsLink, chain_closed, takes_rest, uses_up, passes_on, taken_or_passed, not_done_first, stays_done, match_is_done, matched_once, match_is_real, done_by_match, one_match, done_if_asked, before_if_asked}
use Rattle.question_clauses.specs.LogTruth.{LogClausesHold}
use Rattle.log_order.specs.Log.{Log, Alarm, no_log, is_doubtful}
use Rattle.prop_core.specs.NamedClauses.{named_clause_true}
use Rattle.prop_core.specs.VariableNames.{Meaning}
use Rattle.replay.specs.Explanation.{is_matching}

-- a list with one more element where a test passes
got_split : (xs : List ℕ) (p : ℕ → Bool) (y k x : ℕ) → slice_get (xs ++ filter p (y ∷ [])) k ≡ Some x → (slice_get xs k ≡ Some x) ⊎ ((k ≡ length xs) × (x ≡ y) × (p y ≡ true))
got_split [] p y k x h = by (p y) refl k h
  where
    by : (b : Bool) → p y ≡ b → (k' : ℕ) → slice_get (cond b (y ∷ []) []) k' ≡ Some x → (slice_get {X = ℕ} [] k' ≡ Some x) ⊎ ((k' ≡ 0) × (x ≡ y) × (p y ≡ true))
    by true e zero is = let same : y ≡ x = cc in inr (refl, sym same, e)
    by true e (suc k') is = inl is
    by false e k' is = inl is
got_split (z ∷ xs) p y zero x h = inl h
got_split (z ∷ xs) p y (suc k) x h = by (got_split xs p y k x h)
  where
    by : (slice_get xs k ≡ Some x) ⊎ ((k ≡ length xs) × (x ≡ y) × (p y ≡ true)) → (slice_get xs k ≡ Some x) ⊎ ((suc k ≡ suc (length xs)) × (x ≡ y) × (p y ≡ true))
    by (inl a) = inl a
    by (inr b) = inr (ap suc b.0, b.1, b.2)

got_end : (xs : List ℕ) (p : ℕ → Bool) (y : ℕ) → p y ≡ true → slice_get (xs ++ filter p (y ∷ [])) (length xs) ≡ Some y
got_end [] p y h = rw h refl
got_end (z ∷ xs) p y h = got_end xs p y h

pub length_split : (xs : List ℕ) (p : ℕ → Bool) (y k : ℕ) → k < length (xs ++ filter p (y ∷ [])) → (k < length xs) ⊎ ((k ≡ length xs) × (p y ≡ true))
length_split xs p y k h = by (p y) refl (omega (arith, length-append xs (filter p (y ∷ [])), h))
  where
    by : (b : Bool) → p y ≡ b → k < length xs + length (cond b (y ∷ []) []) → (k < length xs) ⊎ ((k ≡ length xs) × (p y ≡ true))
    by true e less = at (cases_lt k (length xs))
      where
        at : (k < length xs) ⊎ (length xs ≤ k) → (k < length xs) ⊎ ((k ≡ length xs) × (p y ≡ true))
        at (inl a) = inl a
        at (inr b) = inr (omega (arith, less), e)
    by false e less = inl (omega (arith, less))

pub length_end : (xs : List ℕ) (p : ℕ → Bool) (y : ℕ) → p y ≡ true → length (xs ++ filter p (y ∷ [])) ≡ suc (length xs)
length_end [] p y h = rw h refl
length_end (z ∷ xs) p y h = ap suc (length_end xs p y h)

module _ (net : Net) (log : Log) (n : ℕ) (new : Alarm) where
  pub grown : (e : ℕ) → chain net (with_alarm log new) e ≡ chain net log e ++ filter (is_matching net (with_alarm log new) e) (length log.alarms ∷ [])
  grown e = chain_is net log new e

  link_split : (i e k : ℕ) → IsLink net (with_alarm log new) i e k → IsLink net log i e k ⊎ IsNewLink net log new i e k
  link_split i e k h = by (got_split (chain net log e) (is_matching net (with_alarm log new) e) (length log.alarms) k i (subst (λ xs. slice_get xs k ≡ Some i) (grown e) h))
    where
      by : (slice_get (chain net log e) k ≡ Some i) ⊎ ((k ≡ length (chain net log e)) × (i ≡ length log.alarms) × (is_matching net (with_alarm log new) e (length log.alarms) ≡ true)) →
          IsLink net log i e k ⊎ IsNewLink net log new i e k
      by (inl a) = inl a
      by (inr b) = inr (b.1, b.0, b.2)

  link_new : (i e k : ℕ) → IsNewLink net log new i e k → IsLink net (with_alarm log new) i e k
  link_new i e k h =
      subst (λ x. slice_get (chain net (with_alarm log new) e) k ≡ Some x) (sym h.0)
      (subst (λ x. slice_get (chain net (with_alarm log new) e) x ≡ Some (length log.alarms)) (sym h.1)
      (subst (λ xs. slice_get xs (length (chain net log e)) ≡ Some (length log.alarms)) (sym (grown e)) (got_end (chain net log e) (is_matching net (with_alarm log new) e) (length log.alarms) h.2)))

  longer : length (log.alarms ++ new ∷ []) ≡ suc (length log.alarms)
  longer = omega (arith, length-append log.alarms (new ∷ []))

  pub number_split : (i : ℕ) → i < length (log.alarms ++ new ∷ []) → (i < length log.alarms) ⊎ (i ≡ length log.alarms)
  number_split i h = by (cases_lt i (length log.alarms))
    where
      by : (i < length log.alarms) ⊎ (length log.alarms ≤ i) → (i < length log.alarms) ⊎ (i ≡ length log.alarms)
      by (inl a) = inl a
      by (inr b) = inr (omega (arith, longer))

  pub number_new : (i : ℕ) → i ≡ length log.alarms → i < length (log.alarms ++ new ∷ [])
  number_new i h = omega (arith, longer)

  pub match_split : (e i : ℕ) → is_matching net (with_alarm log new) e i ≡ true → (is_matching net log e i ≡ true) ⊎ (i ≡ length log.alarms)
  match_split e i h = by (number_split i (matching_alarm net (with_alarm log new) e i h))
    where
      by : (i < length log.alarms) ⊎ (i ≡ length log.alarms) → (is_matching net log e i ≡ true) ⊎ (i ≡ length log.alarms)
      by (inl a) = inl (sym (matching_same net log new e i a) ∙ h)
      by (inr b) = inr b

  pub taken : (e i : ℕ) → i ≡ length log.alarms → is_matching net (with_alarm log new) e i ≡ true → IsTaken net log new e
  taken e i is h = subst (λ x. is_matching net (with_alarm log new) e x ≡ true) is h

  pub taken_back : (e i : ℕ) → i ≡ length log.alarms → IsTaken net log new e → is_matching net (with_alarm log new) e i ≡ true
  taken_back e i is h = subst (λ x. is_matching net (with_alarm log new) e x ≡ true) (sym is) h

  alarm_split : (which : LogClause) → IsLogClause net (with_alarm log new) n which → IsLogClause net log n which ⊎ IsAlarmClause net log n new which
  alarm_split (chain_closed e k t) h =
      by (length_split (chain net log e) (is_matching net (with_alarm log new) e) (length log.alarms))
    where
      by : ((j : ℕ) → j < length (chain net log e ++ filter (is_matching net (with_alarm log new) e) (length log.alarms ∷ [])) → (j < length (chain net log e)) ⊎ ((j ≡ length (chain net log e)) × (is_matching net (with_alarm log new) e (length log.alarms) ≡ true))) →
          IsLogClause net log n (chain_closed e k t) ⊎ IsAlarmClause net log n new (chain_closed e k t)
      by split = at k (subst (λ xs. k ≤ length xs) (grown e) h.1)
        where
          at : (k' : ℕ) → k' ≤ length (chain net log e ++ filter (is_matching net (with_alarm log new) e) (length log.alarms ∷ [])) →
              IsLogClause net log n (chain_closed e k' t) ⊎ IsAlarmClause net log n new (chain_closed e k' t)
          at zero low = inl (h.0, omega arith, h.2)
          at (suc j) low = go (split j (omega (arith, low)))
            where
              go : (j < length (chain net log e)) ⊎ ((j ≡ length (chain net log e)) × (is_matching net (with_alarm log new) e (length log.alarms) ≡ true)) →
                  IsLogClause net log n (chain_closed e (suc j) t) ⊎ IsAlarmClause net log n new (chain_closed e (suc j) t)
              go (inl a) = inl (h.0, omega arith, h.2)
              go (inr b) = inr (ap suc b.0, b.1, h.2)
  alarm_split (takes_rest i e k t) h = by (link_split i e k h.0)
    where
      by : IsLink net log i e k ⊎ IsNewLink net log new i e k → IsLogClause net log n (takes_rest i e k t) ⊎ IsAlarmClause net log n new (takes_rest i e k t)
      by (inl a) = inl (a, h.1)
      by (inr b) = inr (b, h.1)
  alarm_split (uses_up i e k t) h = by (link_split i e k h.0)
    where
      by : IsLink net log i e k ⊎ IsNewLink net log new i e k → IsLogClause net log n (uses_up i e k t) ⊎ IsAlarmClause net log n new (uses_up i e k t)
      by (inl a) = inl (a, h.1)
      by (inr b) = inr (b, h.1)
  alarm_split (passes_on e k t) h = by (length_split (chain net log e) (is_matching net (with_alarm log new) e) (length log.alarms) k (subst (λ xs. k < length xs) (grown e) h.0))
    where
      by : (k < length (chain net log e)) ⊎ ((k ≡ length (chain net log e)) × (is_matching net (with_alarm log new) e (length log.alarms) ≡ true)) →
          IsLogClause net log n (passes_on e k t) ⊎ IsAlarmClause net log n new (passes_on e k t)
      by (inl a) = inl (a, h.1)
      by (inr b) = inr (b.0, b.1, h.1)
  alarm_split (taken_or_passed i e k t) h = by (link_split i e k h.0)
    where
      by : IsLink net log i e k ⊎ IsNewLink net log new i e k → IsLogClause net log n (taken_or_passed i e k t) ⊎ IsAlarmClause net log n new (taken_or_passed i e k t)
      by (inl a) = inl (a, h.1)
      by (inr b) = inr (b, h.1)
  alarm_split (not_done_first i) h = number_split i h
  alarm_split (stays_done i t) h = by (number_split i h.0)
    where
      by : (i < length log.alarms) ⊎ (i ≡ length log.alarms) → IsLogClause net log n (stays_done i t) ⊎ IsAlarmClause net log n new (stays_done i t)
      by (inl a) = inl (a, h.1)
      by (inr b) = inr (b, h.1)
  alarm_split (match_is_done i e t) h = by (match_split e i h.0)
    where
      by : (is_matching net log e i ≡ true) ⊎ (i ≡ length log.alarms) → IsLogClause net log n (match_is_done i e t) ⊎ IsAlarmClause net log n new (match_is_done i e t)
      by (inl a) = inl (a, h.1)
      by (inr b) = inr (b, taken e i b h.0, h.1)
  alarm_split (matched_once i e t) h = by (match_split e i h.0)
    where
      by : (is_matching net log e i ≡ true) ⊎ (i ≡ length log.alarms) → IsLogClause net log n (matched_once i e t) ⊎ IsAlarmClause net log n new (matched_once i e t)
      by (inl a) = inl (a, h.1)
      by (inr b) = inr (b, taken e i b h.0, h.1)
  alarm_split (match_is_real i e t) h = by (number_split i (matching_alarm net (with_alarm log new) e i h.0))
    where
      by : (i < length log.alarms) ⊎ (i ≡ length log.alarms) → IsLogClause net log n (match_is_real i e t) ⊎ IsAlarmClause net log n new (match_is_real i e t)
      by (inl a) = inl (sym (matching_same net log new e i a) ∙ h.0, sym (doubtful_same log new i a) ∙ h.1, h.2)
      by (inr b) = inr (b, taken e i b h.0, sym (doubtful_new log new) ∙ subst (λ x. is_doubtful (with_alarm log new) x ≡ true) b h.1, h.2)
  alarm_split (done_by_match i t) h = by (number_split i h.0)
    where
      by : (i < length log.alarms) ⊎ (i ≡ length log.alarms) → IsLogClause net log n (done_by_match i t) ⊎ IsAlarmClause net log n new (done_by_match i t)
      by (inl a) = inl (a, h.1)
      by (inr b) = inr (b, h.1)
  alarm_split (one_match i t which) h = by (number_split i h.0)
    where
      by : (i < length log.alarms) ⊎ (i ≡ length log.alarms) → IsLogClause net log n (one_match i t which) ⊎ IsAlarmClause net log n new (one_match i t which)
      by (inl a) = inl (a, h.1, subst (λ xs. IsExclusionClause xs which) (sym (inputs_same net log new i (suc t) a)) h.2)
      by (inr b) = inr (b, h.1, h.2)
  alarm_split (done_if_asked i) h = number_split i h
  alarm_split (before_if_asked i j t) h = inl h

  alarm_new : (which : LogClause) → IsAlarmClause net log n new which → IsLogClause net (with_alarm log new) n which
  alarm_new (chain_closed e k t) h = (
    is_shown net (with_alarm log new) e (length log.alarms) h.1,
    subst (λ xs. k ≤ length xs) (sym (grown e)) (let same = length_end (chain net log e) (is_matching net (with_alarm log new) e) (length log.alarms) h.1 in omega (arith, same, h.0)),
    h.2,
  )
  alarm_new (takes_rest i e k t) h = (link_new i e k h.0, h.1)
  alarm_new (uses_up i e k t) h = (link_new i e k h.0, h.1)
  alarm_new (passes_on e k t) h =
      (subst (λ xs. k < length xs) (sym (grown e)) (let same = length_end (chain net log e) (is_matching net (with_alarm log new) e) (length log.alarms) h.1 in omega (arith, same, h.0)), h.2)
  alarm_new (taken_or_passed i e k t) h = (link_new i e k h.0, h.1)
  alarm_new (not_done_first i) h = number_new i h
  alarm_new (stays_done i t) h = (number_new i h.0, h.1)
  alarm_new (match_is_done i e t) h = (taken_back e i h.0 h.1, h.2)
  alarm_new (matched_once i e t) h = (taken_back e i h.0 h.1, h.2)
  alarm_new (match_is_real i e t) h = (taken_back e i h.0 h.1, subst (λ x. is_doubtful (with_alarm log new) x ≡ true) (sym h.0) (doubtful_new log new ∙ h.2), h.3)
  alarm_new (done_by_match i t) h = (number_new i h.0, h.1)
  alarm_new (one_match i t which) h = (number_new i h.0, h.1, h.2)
  alarm_new (done_if_asked i) h = number_new i h
  alarm_new (before_if_asked i j t) h = absurd h

module _ (net : Net) (log : Log) (n i j : ℕ) where
  pair_split : (which : LogClause) → IsLogClause net (with_pair log i j) n which → IsLogClause net log n which ⊎ ((t : ℕ) × (t ≤ n) × (which ≡ before_if_asked i j t))
  pair_split (chain_closed e k t) h = inl h
  pair_split (takes_rest a e k t) h = inl h
  pair_split (uses_up a e k t) h = inl h
  pair_split (passes_on e k t) h = inl h
  pair_split (taken_or_passed a e k t) h = inl h
  pair_split (not_done_first a) h = inl h
  pair_split (stays_done a t) h = inl h
  pair_split (match_is_done a e t) h = inl h
  pair_split (matched_once a e t) h = inl h
  pair_split (match_is_real a e t) h = inl h
  pair_split (done_by_match a t) h = inl h
  pair_split (one_match a t which) h = inl h
  pair_split (done_if_asked a) h = inl h
  pair_split (before_if_asked a b t) h = by (Contains-push_cases log.pairs (i, j) (a, b) h.0)
    where
      by : Contains log.pairs (a, b) ⊎ (◌≡◌ {A = ℕ × ℕ} (i, j) (a, b)) → IsLogClause net log n (before_if_asked a b t) ⊎ ((t' : ℕ) × (t' ≤ n) × (before_if_asked a b t ≡ before_if_asked i j t'))
      by (inl in') = inl (in', h.1)
      by (inr same) = inr (t, h.1, λ x. before_if_asked ((sym same x).0) ((sym same x).1) t)

  pair_new : (which : LogClause) → IsLogClause net log n which → IsLogClause net (with_pair log i j) n which
  pair_new (chain_closed e k t) h = h
  pair_new (takes_rest a e k t) h = h
  pair_new (uses_up a e k t) h = h
  pair_new (passes_on e k t) h = h
  pair_new (taken_or_passed a e k t) h = h
  pair_new (not_done_first a) h = h
  pair_new (stays_done a t) h = h
  pair_new (match_is_done a e t) h = h
  pair_new (matched_once a e t) h = h
  pair_new (match_is_real a e t) h = h
  pair_new (done_by_match a t) h = h
  pair_new (one_match a t which) h = h
  pair_new (done_if_asked a) h = h
  pair_new (before_if_asked a b t) h = (Contains-append_left log.pairs ((i, j) ∷ []) (a, b) h.0, h.1)

  pair_added_known : (t : ℕ) → t ≤ n → IsLogClause net (with_pair log i j) n (before_if_asked i j t)
  pair_added_known t h = (Contains-append_right log.pairs ((i, j) ∷ []) (i, j) (here_first (i, j) [] (i, j) refl), h)

  pair_same : (which : LogClause) → log_clause net log n which ≡ log_clause net (with_pair log i j) n which
  pair_same (chain_closed e k t) = refl
  pair_same (takes_rest a e k t) = refl
  pair_same (uses_up a e k t) = refl
  pair_same (passes_on e k t) = refl
  pair_same (taken_or_passed a e k t) = refl
  pair_same (not_done_first a) = refl
  pair_same (stays_done a t) = refl
  pair_same (match_is_done a e t) = refl
  pair_same (matched_once a e t) = refl
  pair_same (match_is_real a e t) = refl
  pair_same (done_by_match a t) = refl
  pair_same (one_match a t which) = refl
  pair_same (done_if_asked a) = refl
  pair_same (before_if_asked a b t) = refl

pub additions_are_exact : AdditionsAreExact
additions_are_exact net log n (alarm_added new) which =
    ((alarm_split net log n new which, back), clause_same net log n new which)
  where
    back : IsLogClause net log n which ⊎ IsAlarmClause net log n new which → IsLogClause net (with_alarm log new) n which
    back (inl a) = known_stays net log n new which a
    back (inr b) = alarm_new net log n new which b
additions_are_exact net log n (pair_added i j) which =
    ((pair_split net log n i j which, back), λ h. pair_same net log n i j which)
  where
    back : IsLogClause net log n which ⊎ ((t : ℕ) × (t ≤ n) × (which ≡ before_if_asked i j t)) → IsLogClause net (with_pair log i j) n which
    back (inl a) = pair_new net log n i j which a
    back (inr b) = subst (λ w. IsLogClause net (with_pair log i j) n w) (sym b.2) (pair_added_known net log n i j b.0 b.1)

-- Clauses of a longer log are those of the shorter one too.
holds_before : (net : Net) (log : Log) (n : ℕ) (addition : Addition) (value : Meaning → Bool) → LogClausesHold net (with_addition log addition) n value → LogClausesHold net log n value
holds_before net log n addition value held which h =
    let exact = additions_are_exact net log n addition which in
    subst (λ clause. named_clause_true value clause ≡ true) (sym (exact.1 h)) (held which (exact.0.1 (inl h)))

holds_all_before : (net : Net) (log : Log) (n : ℕ) (additions : List Addition) (value : Meaning → Bool) → LogClausesHold net (log_after log additions) n value → LogClausesHold net log n value
holds_all_before net log n [] value held = held
holds_all_before net log n (addition ∷ additions) value held = holds_before net log n addition value (holds_all_before net (with_addition log addition) n additions value held)

prefixes : (net : Net) (log : Log) (n : ℕ) (additions : List Addition) (value : Meaning → Bool) → LogClausesHold net (log_after log additions) n value → (k : ℕ) → LogClausesHold net (log_after log (take k additions)) n value
prefixes net log n additions value held zero = holds_all_before net log n additions value held
prefixes net log n [] value held (suc k) = held
prefixes net log n (addition ∷ additions) value held (suc k) = prefixes net (with_addition log addition) n additions value held k

pub additions_stay_open : AdditionsStayOpen
additions_stay_open net log n additions value =
    (prefixes net log n additions value, λ k which h. (log_is_open value).1 net (log_after log (take k additions)) n which h)

-- the empty log
first_split : (net : Net) (n : ℕ) (which : LogClause) → IsLogClause net no_log n which → IsFirstClause net n which
first_split net n (chain_closed e k t) h = let none : k ≡ 0 = omega (arith, h.1) in (e, t, h.0, h.2, ap (λ x. chain_closed e x t) none)
first_split net n (takes_rest i e k t) h = cc
first_split net n (uses_up i e k t) h = cc
first_split net n (passes_on e k t) h = absurd (omega (arith, h.0))
first_split net n (taken_or_passed i e k t) h = cc
first_split net n (not_done_first i) h = absurd (omega arith)
first_split net n (stays_done i t) h = absurd (omega (arith, h.0))
first_split net n (match_is_done i e t) h = absurd (let below = matching_alarm net no_log e i h.0 in omega (arith, below))
first_split net n (matched_once i e t) h = absurd (let below = matching_alarm net no_log e i h.0 in omega (arith, below))
first_split net n (match_is_real i e t) h = absurd (let below = matching_alarm net no_log e i h.0 in omega (arith, below))
first_split net n (done_by_match i t) h = absurd (omega (arith, h.0))
first_split net n (one_match i t which) h = absurd (omega (arith, h.0))
first_split net n (done_if_asked i) h = absurd (omega arith)
first_split net n (before_if_asked i j t) h = absurd (none_in_nil (i, j) h.0)

pub empty_log_is_exact : EmptyLogIsExact
empty_log_is_exact net n which = (first_split net n which, λ h. subst (λ w. IsLogClause net no_log n w) (sym h.4) (h.2, omega arith, h.3))

pub chains_grow : ChainsGrow
chains_grow net log e = record { by_alarm = λ new. chain_is net log new e; by_pair = λ i j. refl }
