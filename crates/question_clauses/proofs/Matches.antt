-- Alarms and events go together one by one.
use Rattle.std.proofs.Common.{◌≡◌, ℕ, suc, ◌<◌, ◌≤◌, Bool, true, false, length, Some, sym, ap, subst, arith, Contains, is_some, inl, inr, ◌⊎◌, ◌∙◌}
use Rattle.std.proofs.lemmas.Bool.{cases_lt}
use Rattle.des_base.specs.Lists.{numbers_below}
use Rattle.des_net.specs.Network.{Net, label_of}
use Rattle.question_clauses.proofs.Lists.{found_is, finds}
use Rattle.question_clauses.proofs.LogRules.{has_event, event_matches, is_shown, in_chain, alarm_happens, one_alarm, one_event, one_step, one_step_less, match_comes, match_real, each_comes, each_done, has_alarm, no_step_back}
use Rattle.question_clauses.specs.Decoded.{alarm_at, alarm_event, is_false_alarm, comes}
use Rattle.question_clauses.specs.LogClauses.{chain, matching_events}
use Rattle.question_clauses.specs.LogLaws.{EventsAndAlarms, MatchesAreExact, HasOneStep, HasOneMatch, HasOneAlarm}
use Rattle.question_clauses.specs.LogTruth.{LogClausesHold, GuardsHold}
use Rattle.log_order.specs.Log.{Log}
use Rattle.prop_core.specs.VariableNames.{Meaning, happens, matches}
use Rattle.replay.specs.Explanation.{is_matching}
use Rattle.des_base.proofs.Elements.{filter_from}

module _ (net : Net) (log : Log) (n : ℕ) (value : Meaning → Bool) (held : LogClausesHold net log n value) (guards : GuardsHold net log value) where
  one_step_of : (i : ℕ) → i < length log.alarms → HasOneStep n value i
  one_step_of i known =
      let found = each_comes net log n value held guards i known in
      record { step = found.0; within = found.1; is = found.2; only = λ t inside is. one_step net log n value held i t found.0 known inside found.1 is found.2 }

  one_match_of : (i : ℕ) → i < length log.alarms → is_false_alarm log value i ≡ false → HasOneMatch net log n value i
  one_match_of i known real =
      let found = each_done net log n value held guards i known real in
      record {
        event = found.2;
        step = found.0;
        within = found.1;
        matching = found.3;
        is = found.4;
        comes_there = match_comes net log n value held i found.2 found.0 found.3 found.1 found.4;
        only = only found.2 found.0 found.1 found.3 found.4;
      }
    where
      only : (f s : ℕ) → s < n → is_matching net log f i ≡ true → value (matches i f (suc s)) ≡ true →
          (e t : ℕ) → t < n → is_matching net log e i ≡ true → value (matches i e (suc t)) ≡ true → (e ≡ f) × (t ≡ s)
      only f s below matching is e t step fits there = by (cases_lt s t) (cases_lt t s)
        where
          by : (s < t) ⊎ (t ≤ s) → (t < s) ⊎ (s ≤ t) → (e ≡ f) × (t ≡ s)
          by (inl less) other = absurd (one_step_less net log n value held i f e s t matching fits less step is there)
          by (inr h) (inl less) = absurd (one_step_less net log n value held i e f t s fits matching less below there is)
          by (inr h) (inr k) =
              let same : t ≡ s = omega arith in
              (one_event net log n value held i e f s fits matching below (subst (λ x. value (matches i e (suc x)) ≡ true) same there) is, same)

  told : (e t i : ℕ) → t < n → alarm_at net log value e (suc t) ≡ Some i → (is_matching net log e i ≡ true) × (value (matches i e (suc t)) ≡ true) × (value (happens e (suc t)) ≡ true)
  told e t i step h =
      let found = found_is (λ j. value (matches j e (suc t))) (chain net log e) i h in
      let matching = (filter_from (is_matching net log e) (numbers_below (length log.alarms)) i found.1).0 in
      (matching, found.0, alarm_happens net log n value held i e t matching step found.0)

  one_alarm_of : (e t : ℕ) → t < n → is_some (label_of net e) ≡ true → value (happens e (suc t)) ≡ true → HasOneAlarm net log value e t
  one_alarm_of e t step shown is =
      let some = has_alarm net log n value held guards e t shown step is in
      let found = finds (λ j. value (matches j e (suc t))) (chain net log e) some.0 (in_chain net log e some.0 some.1) some.2 in
      let what = told e t found.0 step found.1 in
      record {
        alarm = found.0;
        found = found.1;
        matching = what.0;
        is = what.1;
        only = λ i matching there. one_alarm net log n value held i found.0 e t matching what.0 step there what.1;
      }

  in_step : (i j s t : ℕ) → i < length log.alarms → Contains log.pairs (i, j) → s ≤ n → t ≤ n → comes value i s ≡ true → comes value j t ≡ true → s ≤ t
  in_step i j s t known pair first second here there = by (cases_lt t s)
    where
      by : (t < s) ⊎ (s ≤ t) → s ≤ t
      by (inl less) = absurd (no_step_back net log n value held guards i j t s known pair less first there here)
      by (inr h) = h

pub matches_are_exact : MatchesAreExact
matches_are_exact net log n value held guards =
    record {
      steps = one_step_of net log n value held guards;
      alarms = one_match_of net log n value held guards;
      real = λ i e t step matching is. match_real net log n value held i e t matching step is;
      events = one_alarm_of net log n value held guards;
      found = λ e t i step h. let what = told net log n value held guards e t i step h in record { matching = what.0; is = what.1; there = what.2 };
      kept = in_step net log n value held guards;
    }

pub events_and_alarms : EventsAndAlarms
events_and_alarms net log n value held guards i e t step = (to, from)
  where
    to : alarm_at net log value e (suc t) ≡ Some i → alarm_event net log value t i ≡ Some e
    to h =
        let what = told net log n value held guards e t i step h in
        let found = finds (λ f. value (matches i f (suc t))) (matching_events net log i) e (has_event net log e i what.0) what.1 in
        let other = found_is (λ f. value (matches i f (suc t))) (matching_events net log i) found.0 found.1 in
        found.1 ∙ ap Some (one_event net log n value held i found.0 e t (event_matches net log found.0 i other.1) what.0 step other.0 what.1)

    from : alarm_event net log value t i ≡ Some e → alarm_at net log value e (suc t) ≡ Some i
    from h =
        let found = found_is (λ f. value (matches i f (suc t))) (matching_events net log i) e h in
        let matching = event_matches net log e i found.1 in
        let alarm = one_alarm_of net log n value held guards e t step (is_shown net log e i matching) (alarm_happens net log n value held i e t matching step found.0) in
        alarm.found ∙ ap Some (sym (alarm.only i matching found.0))
