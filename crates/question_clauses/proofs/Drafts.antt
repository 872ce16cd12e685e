-- The listed clauses of an addition are those that it brings.
use Rattle.std.proofs.Common.{◌≡◌, ℕ, zero, suc, ◌+◌, ◌*◌, ◌^◌, ◌<◌, ◌≤◌, Bool, true, false, cond, List, [], ◌∷◌, ◌++◌, ◌∙◌, length, refl, sym, ap, subst, arith, Contains, map, flat_map, inl, inr, ◌⊎◌, ◌↔◌, is_some, count_by, length-append, sum_by}
use Rattle.std.specs.List.{AllByRecursion}
use Rattle.std.proofs.lemmas.List.{length-map}
use Rattle.std.proofs.lemmas.List.Sums.{length-filter, sum_by-append, sum_by-cons}
use Rattle.std.proofs.lemmas.List.FromFn.{length-range_with_len}
use Rattle.std.proofs.Math.Nat.{mul-le-mul_left}
use Rattle.card_counter.proofs.Listed.{exclusions_are_listed}
use Rattle.card_counter.specs.Exclusions.{IsExclusionClause, exclusion_list}
use Rattle.des_base.proofs.Elements.{cons_cases, here_first, here_later, none_in_nil, flat_has, flat_from, map_has, map_from, filter_has, filter_from}
use Rattle.des_base.proofs.Powers.{square}
use Rattle.des_base.specs.Lists.{numbers_below}
use Rattle.des_net.specs.Network.{Net, label_of, observable_events}
use Rattle.des_net.specs.QuestionSize.{touching_count, fault_event_count, component_state_count}
use Rattle.question_clauses.proofs.Lists.{all_at, from_numbers, in_numbers}
use Rattle.question_clauses.proofs.LogRules.{has_event, event_matches, shown_event}
use Rattle.question_clauses.proofs.Stay.{with_alarm, with_pair, range_more, matching_same, doubtful_same, doubtful_new}
use Rattle.question_clauses.specs.Additions.{Addition, alarm_added, pair_added, with_addition, IsTaken, IsAlarmClause, IsAddedClause, IsFirstClause}
use Rattle.question_clauses.specs.Drafts.{taken_events, alarm_link_clauses, match_clauses, done_clauses, alarm_clauses, real_clauses, added_clauses, first_clauses, DraftsAreCode, DraftsAreSmall, FirstClausesAreFew}
use Rattle.question_clauses.specs.LogClauses.{chain, match_inputs, LogClause, log_clause, chain_closed, takes_rest, uses_up, passes_on, taken_or_passed, not_done_first, stays_done, match_is_done, matched_once, match_is_real, done_by_match, one_match, done_if_asked, before_if_asked}
use Rattle.log_order.specs.Log.{Log, Alarm, no_log, is_doubtful}
use Rattle.prop_core.specs.Clauses.{Clause}
use Rattle.prop_core.specs.NamedClauses.{IsCode}
use Rattle.prop_core.specs.VariableNames.{Meaning, matches, NamedLiteral}
use Rattle.replay.specs.Explanation.{is_matching}
use Rattle.replay.specs.QuestionSize.{question_size, matching_count, doubtful_count}
use Rattle.std.proofs.lemmas.List.Elements.{Contains-append_cases, Contains-append_left, Contains-append_right}
use Rattle.prop_core.proofs.FamilyLemmas.{code_same}
use Rattle.prop_core.proofs.Listed.{has_map, listed_are_code}
use Rattle.prop_core.specs.Listings.{IsListed}

-- Clauses that are listed as what is wanted are the code of it.
listed : {W : Type 0} (names : List (ℕ × Meaning)) (wanted : W → Type 0) (literals : W → List NamedLiteral) (clauses : List Clause) (list : List W) →
    ((w : W) → Contains list w ↔ wanted w) → IsListed names (map literals list) clauses → IsCode names (λ named. (w : W) × wanted w × (literals w ≡ named)) clauses
listed {W} names wanted literals clauses list same are =
    code_same names (Contains (map literals list)) (λ named. (w : W) × wanted w × (literals w ≡ named)) clauses
    (λ named there. let found = (has_map named literals list).0 there in (found.0, (same found.0).0 found.1, found.2))
    (λ named is. (has_map named literals list).1 (is.0, (same is.0).1 is.1, is.2))
    (listed_are_code names (map literals list) clauses are)

module _ (net : Net) (log : Log) (n : ℕ) (new : Alarm) where
  -- that the alarm stands for one of the events in the step after t steps
  abbrev inputs : ℕ → List Meaning
  inputs t = map (λ e. matches (length log.alarms) e (suc t)) (taken_events net log new)

  pub taken_is : (e : ℕ) → Contains (taken_events net log new) e → IsTaken net log new e
  taken_is e in' = event_matches net (with_alarm log new) e (length log.alarms) in'

  pub is_taken : (e : ℕ) → IsTaken net log new e → Contains (taken_events net log new) e
  is_taken e h = has_event net (with_alarm log new) e (length log.alarms) h

  link_wanted : (e t : ℕ) → IsTaken net log new e → t < n → AllByRecursion (IsAlarmClause net log n new) (alarm_link_clauses (length log.alarms) e (length (chain net log e)) t)
  link_wanted e t taken step = (
    (refl, taken, step),
    (
      ((refl, refl, taken), step),
      (
        ((refl, refl, taken), step),
        (
          (refl, taken, step),
          (((refl, refl, taken), step), ((refl, taken, step), ((refl, taken, step), tt))),
        ),
      ),
    ),
  )

  listed_wanted : (which : LogClause) → Contains (alarm_clauses net log n new) which → IsAlarmClause net log n new which
  listed_wanted which in' =
      by (Contains-append_cases (flat_map (λ e. flat_map (alarm_link_clauses (length log.alarms) e (length (chain net log e))) (numbers_below n)) (taken_events net log new))
      (not_done_first (length log.alarms) ∷ done_if_asked (length log.alarms) ∷ flat_map (done_clauses (length log.alarms) (taken_events net log new)) (numbers_below n)) which in')
    where
      in_step : (t : ℕ) → t < n → Contains (done_clauses (length log.alarms) (taken_events net log new) t) which → IsAlarmClause net log n new which
      in_step t step here = first (cons_cases (stays_done (length log.alarms) t) (done_by_match (length log.alarms) t ∷ match_clauses (length log.alarms) t (taken_events net log new)) which here)
        where
          second : (done_by_match (length log.alarms) t ≡ which) ⊎ Contains (match_clauses (length log.alarms) t (taken_events net log new)) which → IsAlarmClause net log n new which
          second (inl is) = subst (IsAlarmClause net log n new) is (refl, step)
          second (inr rest) =
              let found = map_from (one_match (length log.alarms) t) (exclusion_list (inputs t)) which rest in
              subst (IsAlarmClause net log n new) found.2 (refl, step, ((exclusions_are_listed (inputs t)).same found.0).0 found.1)

          first : (stays_done (length log.alarms) t ≡ which) ⊎ Contains (done_by_match (length log.alarms) t ∷ match_clauses (length log.alarms) t (taken_events net log new)) which → IsAlarmClause net log n new which
          first (inl is) = subst (IsAlarmClause net log n new) is (refl, step)
          first (inr rest) = second (cons_cases (done_by_match (length log.alarms) t) (match_clauses (length log.alarms) t (taken_events net log new)) which rest)

      rest_of : (done_if_asked (length log.alarms) ≡ which) ⊎ Contains (flat_map (done_clauses (length log.alarms) (taken_events net log new)) (numbers_below n)) which → IsAlarmClause net log n new which
      rest_of (inl is) = subst (IsAlarmClause net log n new) is refl
      rest_of (inr there) =
          let found = flat_from (done_clauses (length log.alarms) (taken_events net log new)) (numbers_below n) which there in
          in_step found.0 (from_numbers n found.0 found.1) found.2

      after : (not_done_first (length log.alarms) ≡ which) ⊎ Contains (done_if_asked (length log.alarms) ∷ flat_map (done_clauses (length log.alarms) (taken_events net log new)) (numbers_below n)) which → IsAlarmClause net log n new which
      after (inl is) = subst (IsAlarmClause net log n new) is refl
      after (inr there) = rest_of (cons_cases (done_if_asked (length log.alarms)) (flat_map (done_clauses (length log.alarms) (taken_events net log new)) (numbers_below n)) which there)

      by : Contains (flat_map (λ e. flat_map (alarm_link_clauses (length log.alarms) e (length (chain net log e))) (numbers_below n)) (taken_events net log new)) which
          ⊎ Contains (not_done_first (length log.alarms) ∷ done_if_asked (length log.alarms) ∷ flat_map (done_clauses (length log.alarms) (taken_events net log new)) (numbers_below n)) which → IsAlarmClause net log n new which
      by (inl there) =
          let event = flat_from (λ e. flat_map (alarm_link_clauses (length log.alarms) e (length (chain net log e))) (numbers_below n)) (taken_events net log new) which there in
          let step = flat_from (alarm_link_clauses (length log.alarms) event.0 (length (chain net log event.0))) (numbers_below n) which event.2 in
          all_at (IsAlarmClause net log n new) (alarm_link_clauses (length log.alarms) event.0 (length (chain net log event.0)) step.0)
          (link_wanted event.0 step.0 (taken_is event.0 event.1) (from_numbers n step.0 step.1)) which step.2
      by (inr there) = after (cons_cases (not_done_first (length log.alarms)) (done_if_asked (length log.alarms) ∷ flat_map (done_clauses (length log.alarms) (taken_events net log new)) (numbers_below n)) which there)

  in_alarm : (which : LogClause) → Contains (alarm_clauses net log n new) which → Contains (added_clauses net log n (alarm_added new)) which
  in_alarm which there = Contains-append_left (alarm_clauses net log n new) (real_clauses new.doubtful (length log.alarms) (taken_events net log new) n) which there

  real_from : (b : Bool) (which : LogClause) → new.doubtful ≡ b → Contains (real_clauses b (length log.alarms) (taken_events net log new) n) which → IsAlarmClause net log n new which
  real_from false which e in' = absurd (none_in_nil which in')
  real_from true which e in' =
      let event = flat_from (λ f. map (λ t. match_is_real (length log.alarms) f t) (numbers_below n)) (taken_events net log new) which in' in
      let step = map_from (λ t. match_is_real (length log.alarms) event.0 t) (numbers_below n) which event.2 in
      subst (IsAlarmClause net log n new) step.2 (refl, taken_is event.0 event.1, e, from_numbers n step.0 step.1)

  real_has : (b : Bool) (e t : ℕ) → b ≡ true → IsTaken net log new e → t < n → Contains (real_clauses b (length log.alarms) (taken_events net log new) n) (match_is_real (length log.alarms) e t)
  real_has false e t is h step = cc
  real_has true e t is h step =
      flat_has (λ f. map (λ s. match_is_real (length log.alarms) f s) (numbers_below n)) (taken_events net log new) e (match_is_real (length log.alarms) e t) (is_taken e h)
      (map_has (λ s. match_is_real (length log.alarms) e s) (numbers_below n) t (in_numbers n t step))

  added_wanted : (which : LogClause) → Contains (added_clauses net log n (alarm_added new)) which → IsAlarmClause net log n new which
  added_wanted which in' = by (Contains-append_cases (alarm_clauses net log n new) (real_clauses new.doubtful (length log.alarms) (taken_events net log new) n) which in')
    where
      by : Contains (alarm_clauses net log n new) which ⊎ Contains (real_clauses new.doubtful (length log.alarms) (taken_events net log new) n) which → IsAlarmClause net log n new which
      by (inl a) = listed_wanted which a
      by (inr b) = real_from new.doubtful which refl b

  -- where a link's clause stands
  in_links : (e t : ℕ) (which : LogClause) → IsTaken net log new e → t < n → Contains (alarm_link_clauses (length log.alarms) e (length (chain net log e)) t) which → Contains (added_clauses net log n (alarm_added new)) which
  in_links e t which taken step there =
      in_alarm which (Contains-append_left (flat_map (λ f. flat_map (alarm_link_clauses (length log.alarms) f (length (chain net log f))) (numbers_below n)) (taken_events net log new))
      (not_done_first (length log.alarms) ∷ done_if_asked (length log.alarms) ∷ flat_map (done_clauses (length log.alarms) (taken_events net log new)) (numbers_below n)) which
      (flat_has (λ f. flat_map (alarm_link_clauses (length log.alarms) f (length (chain net log f))) (numbers_below n)) (taken_events net log new) e which (is_taken e taken)
      (flat_has (alarm_link_clauses (length log.alarms) e (length (chain net log e))) (numbers_below n) t which (in_numbers n t step) there)))

  in_rest : (which : LogClause) → Contains (not_done_first (length log.alarms) ∷ done_if_asked (length log.alarms) ∷ flat_map (done_clauses (length log.alarms) (taken_events net log new)) (numbers_below n)) which →
      Contains (added_clauses net log n (alarm_added new)) which
  in_rest which there =
      in_alarm which (Contains-append_right (flat_map (λ f. flat_map (alarm_link_clauses (length log.alarms) f (length (chain net log f))) (numbers_below n)) (taken_events net log new))
      (not_done_first (length log.alarms) ∷ done_if_asked (length log.alarms) ∷ flat_map (done_clauses (length log.alarms) (taken_events net log new)) (numbers_below n)) which there)

  in_steps : (t : ℕ) (which : LogClause) → t < n → Contains (done_clauses (length log.alarms) (taken_events net log new) t) which → Contains (added_clauses net log n (alarm_added new)) which
  in_steps t which step there =
      in_rest which (here_later (not_done_first (length log.alarms)) (done_if_asked (length log.alarms) ∷ flat_map (done_clauses (length log.alarms) (taken_events net log new)) (numbers_below n)) which
      (here_later (done_if_asked (length log.alarms)) (flat_map (done_clauses (length log.alarms) (taken_events net log new)) (numbers_below n)) which
      (flat_has (done_clauses (length log.alarms) (taken_events net log new)) (numbers_below n) t which (in_numbers n t step) there)))

  wanted_listed : (which : LogClause) → IsAlarmClause net log n new which → Contains (added_clauses net log n (alarm_added new)) which
  wanted_listed (chain_closed e k t) h =
      subst (λ x. Contains (added_clauses net log n (alarm_added new)) (chain_closed e x t)) (sym h.0)
      (in_links e t (chain_closed e (suc (length (chain net log e))) t) h.1 h.2 (0, omega arith, refl))
  wanted_listed (takes_rest i e k t) h =
      subst (λ x. Contains (added_clauses net log n (alarm_added new)) (takes_rest x e k t)) (sym h.0.0)
      (subst (λ x. Contains (added_clauses net log n (alarm_added new)) (takes_rest (length log.alarms) e x t)) (sym h.0.1)
      (in_links e t (takes_rest (length log.alarms) e (length (chain net log e)) t) h.0.2 h.1 (1, omega arith, refl)))
  wanted_listed (uses_up i e k t) h =
      subst (λ x. Contains (added_clauses net log n (alarm_added new)) (uses_up x e k t)) (sym h.0.0)
      (subst (λ x. Contains (added_clauses net log n (alarm_added new)) (uses_up (length log.alarms) e x t)) (sym h.0.1)
      (in_links e t (uses_up (length log.alarms) e (length (chain net log e)) t) h.0.2 h.1 (2, omega arith, refl)))
  wanted_listed (passes_on e k t) h =
      subst (λ x. Contains (added_clauses net log n (alarm_added new)) (passes_on e x t)) (sym h.0)
      (in_links e t (passes_on e (length (chain net log e)) t) h.1 h.2 (3, omega arith, refl))
  wanted_listed (taken_or_passed i e k t) h =
      subst (λ x. Contains (added_clauses net log n (alarm_added new)) (taken_or_passed x e k t)) (sym h.0.0)
      (subst (λ x. Contains (added_clauses net log n (alarm_added new)) (taken_or_passed (length log.alarms) e x t)) (sym h.0.1)
      (in_links e t (taken_or_passed (length log.alarms) e (length (chain net log e)) t) h.0.2 h.1 (4, omega arith, refl)))
  wanted_listed (not_done_first i) h = subst (λ x. Contains (added_clauses net log n (alarm_added new)) (not_done_first x)) (sym h) (in_rest (not_done_first (length log.alarms)) (0, omega arith, refl))
  wanted_listed (stays_done i t) h = subst (λ x. Contains (added_clauses net log n (alarm_added new)) (stays_done x t)) (sym h.0) (in_steps t (stays_done (length log.alarms) t) h.1 (0, omega arith, refl))
  wanted_listed (match_is_done i e t) h =
      subst (λ x. Contains (added_clauses net log n (alarm_added new)) (match_is_done x e t)) (sym h.0) (in_links e t (match_is_done (length log.alarms) e t) h.1 h.2 (5, omega arith, refl))
  wanted_listed (matched_once i e t) h =
      subst (λ x. Contains (added_clauses net log n (alarm_added new)) (matched_once x e t)) (sym h.0) (in_links e t (matched_once (length log.alarms) e t) h.1 h.2 (6, omega arith, refl))
  wanted_listed (match_is_real i e t) h =
      subst (λ x. Contains (added_clauses net log n (alarm_added new)) (match_is_real x e t)) (sym h.0)
      (Contains-append_right (alarm_clauses net log n new) (real_clauses new.doubtful (length log.alarms) (taken_events net log new) n) (match_is_real (length log.alarms) e t) (real_has new.doubtful e t h.2 h.1 h.3))
  wanted_listed (done_by_match i t) h = subst (λ x. Contains (added_clauses net log n (alarm_added new)) (done_by_match x t)) (sym h.0) (in_steps t (done_by_match (length log.alarms) t) h.1 (1, omega arith, refl))
  wanted_listed (one_match i t which) h =
      let here = ((exclusions_are_listed (inputs t)).same which).1 (subst (λ x. IsExclusionClause (match_inputs net (with_alarm log new) x (suc t)) which) h.0 h.2) in
      subst (λ x. Contains (added_clauses net log n (alarm_added new)) (one_match x t which)) (sym h.0)
      (in_steps t (one_match (length log.alarms) t which) h.1
      (here_later (stays_done (length log.alarms) t) (done_by_match (length log.alarms) t ∷ match_clauses (length log.alarms) t (taken_events net log new)) (one_match (length log.alarms) t which)
      (here_later (done_by_match (length log.alarms) t) (match_clauses (length log.alarms) t (taken_events net log new)) (one_match (length log.alarms) t which)
      (map_has (one_match (length log.alarms) t) (exclusion_list (inputs t)) which here))))
  wanted_listed (done_if_asked i) h = subst (λ x. Contains (added_clauses net log n (alarm_added new)) (done_if_asked x)) (sym h) (in_rest (done_if_asked (length log.alarms)) (1, omega arith, refl))
  wanted_listed (before_if_asked i j t) h = absurd h

added_listed : (net : Net) (log : Log) (n : ℕ) (addition : Addition) (which : LogClause) → Contains (added_clauses net log n addition) which ↔ IsAddedClause net log n addition which
added_listed net log n (alarm_added new) which = (added_wanted net log n new which, wanted_listed net log n new which)
added_listed net log n (pair_added i j) which = (
  λ in'. let found = map_from (λ t. before_if_asked i j t) (numbers_below (suc n)) which in' in let below = from_numbers (suc n) found.0 found.1 in (found.0, omega (arith, below), sym found.2),
  λ h. let low = h.1 in subst (λ w. Contains (map (λ t. before_if_asked i j t) (numbers_below (suc n))) w) (sym h.2) (map_has (λ t. before_if_asked i j t) (numbers_below (suc n)) h.0 (in_numbers (suc n) h.0 (omega (arith, low)))),
)

first_listed : (net : Net) (n : ℕ) (which : LogClause) → Contains (first_clauses net n) which ↔ IsFirstClause net n which
first_listed net n which = (to, λ h. from h.0 h.1 h.2 h.3 h.4)
  where
    to : Contains (first_clauses net n) which → IsFirstClause net n which
    to in' =
        let event = flat_from (λ e. map (λ t. chain_closed e 0 t) (numbers_below n)) (observable_events net) which in' in
        let step = map_from (λ t. chain_closed event.0 0 t) (numbers_below n) which event.2 in
        (event.0, step.0, (filter_from (λ e. is_some (label_of net e)) (numbers_below (length net.events)) event.0 event.1).0, from_numbers n step.0 step.1, sym step.2)

    from : (e t : ℕ) → is_some (label_of net e) ≡ true → t < n → which ≡ chain_closed e 0 t → Contains (first_clauses net n) which
    from e t shown step is =
        subst (λ w. Contains (first_clauses net n) w) (sym is)
        (flat_has (λ f. map (λ s. chain_closed f 0 s) (numbers_below n)) (observable_events net) e (chain_closed e 0 t)
        (filter_has (λ f. is_some (label_of net f)) (numbers_below (length net.events)) e shown (in_numbers (length net.events) e (shown_event net e shown)))
        (map_has (λ s. chain_closed e 0 s) (numbers_below n) t (in_numbers n t step)))

pub drafts_are_code : DraftsAreCode
drafts_are_code net n names clauses = (
  λ log addition are. listed names (IsAddedClause net log n addition) (log_clause net (with_addition log addition) n) clauses (added_clauses net log n addition) (added_listed net log n addition) are,
  λ are. listed names (IsFirstClause net n) (log_clause net no_log n) clauses (first_clauses net n) (first_listed net n) are,
)

-- How many clauses and names an addition has.
pub flat_length : {Y : Type 0} (f : ℕ → List Y) (xs : List ℕ) (c : ℕ) → ((x : ℕ) → length (f x) ≡ c) → length (flat_map f xs) ≡ length xs * c
flat_length f [] c h = omega arith
flat_length f (x ∷ xs) c h = let rest = flat_length f xs c h in let first = h x in let whole = length-append (f x) (flat_map f xs) in omega (arith, rest, first, whole)

flat_few : {Y : Type 0} (f : ℕ → List Y) (xs : List ℕ) (c : ℕ) → ((x : ℕ) → length (f x) ≤ c) → length (flat_map f xs) ≤ length xs * c
flat_few f [] c h = omega arith
flat_few f (x ∷ xs) c h = let rest = flat_few f xs c h in let first = h x in let whole = length-append (f x) (flat_map f xs) in omega (arith, rest, first, whole)

match_few : (i t : ℕ) (events : List ℕ) → length (match_clauses i t events) ≤ 3 * length events
match_few i t events =
    let few = (exclusions_are_listed (map (λ e. matches i e (suc t)) events)).few in
    let size = length-map (exclusion_list (map (λ e. matches i e (suc t)) events)) (one_match i t) in
    let same = length-map events (λ e. matches i e (suc t)) in
    omega (arith, few, size, same)

at_most_square : (m : ℕ) → m ≤ m * m
at_most_square zero = omega arith
at_most_square (suc m) = omega arith

few_clauses : (n m r : ℕ) → r ≤ m * n → m * (n * 7) + (2 + n * (2 + 3 * m)) + r ≤ 12 * (n * (m * m + 1)) + 12
few_clauses n m r real =
    let more = at_most_square m in
    let each : 8 * m + (2 + 3 * m) ≤ 12 * (m * m + 1) = omega (arith, more) in
    let all = mul-le-mul_left n each in
    omega (arith, all, real)

grows : (n q s r d f g o a : ℕ) → a ≤ 12 * (n * d) + 12 → a + 12 * (n * (q + s + r) + (f + 256 * g)) ≤ 12 * (n * (q + (s + d) + r) + (f + 256 * (g + o))) + 12
grows n q s r d f g o a h = omega arith

sum_agree : (g h : ℕ → ℕ) (xs : List ℕ) → ((x : ℕ) → Contains xs x → g x ≡ h x) → sum_by g xs ≡ sum_by h xs
sum_agree g h [] same = refl
sum_agree g h (x ∷ xs) same =
    let rest = sum_agree g h xs (λ y in'. same y (here_later x xs y in')) in
    let first = same x (here_first x xs x refl) in
    let a = sum_by-cons g x xs in
    let b = sum_by-cons h x xs in
    omega (arith, rest, first, a, b)

-- a sum over the alarms, with one more
pub sum_more : (g h : ℕ → ℕ) (a : ℕ) → ((x : ℕ) → x < a → g x ≡ h x) → sum_by g (numbers_below (suc a)) ≡ sum_by h (numbers_below a) + g a
sum_more g h a same =
    let split = ap (sum_by g) (range_more 0 a) in
    let parts = sum_by-append g (numbers_below a) ((0 + a) ∷ []) in
    let last = sum_by-cons g (0 + a) [] in
    let zero_add : 0 + a ≡ a = omega arith in
    let at = ap g zero_add in
    let front = sum_agree g h (numbers_below a) (λ x in'. same x (from_numbers a x in')) in
    omega (arith, split, parts, last, at, front)

module _ (net : Net) (log : Log) (n : ℕ) (new : Alarm) where
  count : ℕ
  count = matching_count net (with_alarm log new) (length log.alarms)

  pub taken_count : length (taken_events net log new) ≡ matching_count net (with_alarm log new) (length log.alarms)
  taken_count = length-filter (λ e. is_matching net (with_alarm log new) e (length log.alarms)) (numbers_below (length net.events))

  pub same_count : (i : ℕ) → i < length log.alarms → matching_count net (with_alarm log new) i ≡ matching_count net log i
  same_count i h = ap (λ (p : ℕ → Bool). count_by p (numbers_below (length net.events))) (λ j e. matching_same net log new e i h j)

  alarm_size : length (alarm_clauses net log n new) ≤ length (taken_events net log new) * (n * 7) + (2 + n * (2 + 3 * length (taken_events net log new)))
  alarm_size =
      let range = length-range_with_len 0 n in
      let front = flat_length (λ e. flat_map (alarm_link_clauses (length log.alarms) e (length (chain net log e))) (numbers_below n)) (taken_events net log new) (n * 7) (λ e.
      let inner = flat_length (alarm_link_clauses (length log.alarms) e (length (chain net log e))) (numbers_below n) 7 (λ t. refl) in omega (arith, inner, range)) in
      let back = flat_few (done_clauses (length log.alarms) (taken_events net log new)) (numbers_below n) (2 + 3 * length (taken_events net log new)) (λ t.
      let few = match_few (length log.alarms) t (taken_events net log new) in omega (arith, few)) in
      let moved = ap (λ k. k * (2 + 3 * length (taken_events net log new))) range in
      let whole = length-append (flat_map (λ e. flat_map (alarm_link_clauses (length log.alarms) e (length (chain net log e))) (numbers_below n)) (taken_events net log new))
      (not_done_first (length log.alarms) ∷ done_if_asked (length log.alarms) ∷ flat_map (done_clauses (length log.alarms) (taken_events net log new)) (numbers_below n)) in
      omega (arith, range, front, back, whole, moved)

  pub longer : length (log.alarms ++ new ∷ []) ≡ suc (length log.alarms)
  longer = omega (arith, length-append log.alarms (new ∷ []))

  real_size : (b : Bool) → length (real_clauses b (length log.alarms) (taken_events net log new) n) ≤ length (taken_events net log new) * n
  real_size false = omega arith
  real_size true =
      let range = length-range_with_len 0 n in
      let all = flat_length (λ e. map (λ t. match_is_real (length log.alarms) e t) (numbers_below n)) (taken_events net log new) n (λ e. length-map (numbers_below n) (λ t. match_is_real (length log.alarms) e t) ∙ range) in
      omega (arith, all)

  -- a doubtful alarm is one more
  pub doubtful_more : doubtful_count (with_alarm log new) ≡ doubtful_count log + cond new.doubtful 1 0
  doubtful_more =
      ap (λ k. count_by (is_doubtful (with_alarm log new)) (numbers_below k)) longer
      ∙ sum_more (λ i. cond (is_doubtful (with_alarm log new) i) 1 0) (λ i. cond (is_doubtful log i) 1 0) (length log.alarms) (λ i h. ap {B = ℕ} (λ b. cond b 1 0) (doubtful_same log new i h))
      ∙ ap {B = ℕ} (λ b. doubtful_count log + cond b 1 0) (doubtful_new log new)

  pub added_few : length (added_clauses net log n (alarm_added new)) ≤ 12 * (n * (matching_count net (with_alarm log new) (length log.alarms) ^ 2 + 1)) + 12
  added_few =
      let size = alarm_size in
      let real = real_size new.doubtful in
      let whole = length-append (alarm_clauses net log n new) (real_clauses new.doubtful (length log.alarms) (taken_events net log new) n) in
      let bound = few_clauses n (length (taken_events net log new)) (length (real_clauses new.doubtful (length log.alarms) (taken_events net log new) n)) real in
      let squares = square (length (taken_events net log new)) in
      let same : length (taken_events net log new) * length (taken_events net log new) + 1 ≡ matching_count net (with_alarm log new) (length log.alarms) ^ 2 + 1 =
      ap (λ k. k + 1) (sym squares ∙ ap (λ k. k ^ 2) taken_count) in
      let moved = ap (λ k. 12 * (n * k) + 12) same in
      omega (arith, size, whole, bound, moved)

  pub alarm_small : length (added_clauses net log n (alarm_added new)) + 12 * question_size net log n ≤ 12 * question_size net (with_alarm log new) n + 12
  alarm_small =
      let sum : sum_by (λ i. matching_count net (with_alarm log new) i ^ 2 + 1) (numbers_below (length (log.alarms ++ new ∷ []))) ≡
      sum_by (λ i. matching_count net log i ^ 2 + 1) (numbers_below (length log.alarms)) + (matching_count net (with_alarm log new) (length log.alarms) ^ 2 + 1) =
      ap (λ k. sum_by (λ i. matching_count net (with_alarm log new) i ^ 2 + 1) (numbers_below k)) longer
      ∙ sum_more (λ i. matching_count net (with_alarm log new) i ^ 2 + 1) (λ i. matching_count net log i ^ 2 + 1) (length log.alarms) (λ i h. ap (λ k. k ^ 2 + 1) (same_count i h)) in
      rw (sum, doubtful_more) (grows n (sum_by (λ c. (component_state_count net c + touching_count net c) ^ 2) (numbers_below (length net.components)))
      (sum_by (λ i. matching_count net log i ^ 2 + 1) (numbers_below (length log.alarms))) (length log.pairs)
      (matching_count net (with_alarm log new) (length log.alarms) ^ 2 + 1) (256 * n * fault_event_count net) (doubtful_count log) (cond new.doubtful 1 0) (length (added_clauses net log n (alarm_added new))) added_few)

pair_grows : (n q s r f a : ℕ) → a ≤ suc n → a + 12 * (n * (q + s + r) + f) ≤ 12 * (n * (q + s + (r + 1)) + f) + 12
pair_grows n q s r f a h = omega arith

pub pair_small : (net : Net) (log : Log) (n i j : ℕ) → length (map (λ t. before_if_asked i j t) (numbers_below (suc n))) + 12 * question_size net log n ≤ 12 * question_size net (with_pair log i j) n + 12
pair_small net log n i j =
    let size = length-map (numbers_below (suc n)) (λ t. before_if_asked i j t) in
    let range = length-range_with_len 0 (suc n) in
    let longer : length (log.pairs ++ (i, j) ∷ []) ≡ length log.pairs + 1 = omega (arith, length-append log.pairs ((i, j) ∷ [])) in
    rw longer (pair_grows n (sum_by (λ c. (component_state_count net c + touching_count net c) ^ 2) (numbers_below (length net.components)))
    (sum_by (λ k. matching_count net log k ^ 2 + 1) (numbers_below (length log.alarms))) (length log.pairs) (256 * n * fault_event_count net + 256 * doubtful_count log)
    (length (map (λ t. before_if_asked i j t) (numbers_below (suc n)))) (omega (arith, size, range)))

pub drafts_are_small : DraftsAreSmall
drafts_are_small net log n (alarm_added new) = alarm_small net log n new
drafts_are_small net log n (pair_added i j) = pair_small net log n i j

pub first_clauses_are_few : FirstClausesAreFew
first_clauses_are_few net n =
    let all = flat_length (λ e. map (λ t. chain_closed e 0 t) (numbers_below n)) (observable_events net) n (λ e.
    let size = length-map (numbers_below n) (λ t. chain_closed e 0 t) in let range = length-range_with_len 0 n in omega (arith, size, range)) in
    let count = length-filter (λ e. is_some (label_of net e)) (numbers_below (length net.events)) in
    all ∙ ap (λ m. m * n) count
