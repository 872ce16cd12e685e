-- The names of an addition are new, and few.
use Rattle.std.proofs.Common.{◌≡◌, ◌≢◌, ℕ, zero, suc, ◌+◌, ◌*◌, ◌<◌, ◌≤◌, Bool, true, false, List, [], ◌∷◌, ◌++◌, ◌∙◌, length, cond, refl, sym, ap, subst, arith, Contains, map, flat_map, filter, inl, inr, ◌⊎◌, is_some, length-append, sum_by}
use Rattle.std.proofs.lemmas.List.{length-map}
use Rattle.std.proofs.lemmas.List.Sums.{length-filter}
use Rattle.std.proofs.lemmas.List.FromFn.{length-range_with_len}
use Rattle.des_base.proofs.Elements.{cons_cases, here_first, here_later, none_in_nil, all_from, flat_has, flat_from, map_has, map_from, filter_has, filter_from, pairs_filter, pairs_append}
use Rattle.des_base.proofs.NumbersBelow.{range_once}
use Rattle.des_base.specs.ChainCount.{chain_count}
use Rattle.des_base.specs.Lists.{EachPair, numbers_below}
use Rattle.des_net.specs.Network.{Net, label_of, observable_events}
use Rattle.question_clauses.proofs.Drafts.{flat_length, sum_more, same_count, taken_count, longer, doubtful_more, taken_is, is_taken}
use Rattle.question_clauses.proofs.Growth.{length_split, length_end, grown, number_split, match_split, taken}
use Rattle.question_clauses.proofs.Lists.{from_numbers, in_numbers, pairs_flat, pairs_map}
use Rattle.question_clauses.proofs.LogRules.{matching_alarm, is_shown, shown_event}
use Rattle.question_clauses.proofs.Stay.{with_alarm, with_pair, all_range, matching_same, doubtful_same, doubtful_new}
use Rattle.question_clauses.proofs.Explained.{doubtful_below}
use Rattle.question_clauses.specs.Additions.{alarm_added, pair_added, IsTaken}
use Rattle.question_clauses.specs.Drafts.{taken_events}
use Rattle.question_clauses.specs.LogClauses.{chain, matching_events}
use Rattle.question_clauses.specs.LogNames.{IsLogMeaning, link_meanings, alarm_meanings, match_chains, false_meanings, added_meanings, first_meanings, MeaningsAreNew, MeaningsAreFew, FirstMeaningsAreAll}
use Rattle.log_order.specs.Log.{Log, Alarm, no_log, is_doubtful}
use Rattle.prop_core.specs.VariableNames.{Meaning, in_state, happens, asked, matches, done, unmatched, closed, dropped, reaches, some_of_first, of_states, of_events, of_matches}
use Rattle.replay.specs.Explanation.{is_matching}
use Rattle.replay.specs.QuestionSize.{alarm_variables, variable_bound, matching_count, doubtful_count}
use Rattle.question_clauses.specs.LaidOut.{chain_meanings}
use Rattle.std.proofs.lemmas.List.Elements.{Contains-append_cases, Contains-append_left, Contains-append_right}

event_of_link : Meaning → ℕ
event_of_link (matches i e t) = e
event_of_link (unmatched e k t) = e
event_of_link (closed e k) = e
event_of_link a = 0

link_step : Meaning → ℕ
link_step (matches i e t) = t
link_step (unmatched e k t) = t
link_step a = 0

is_done : Meaning → Bool
is_done (done i t) = true
is_done a = false

-- what the names of a link are
link_from : (n i e k : ℕ) (meaning : Meaning) → Contains (link_meanings n i e k) meaning →
    (meaning ≡ closed e (suc k)) ⊎ ((t : ℕ) × (t < n) × ((meaning ≡ matches i e (suc t)) ⊎ (meaning ≡ unmatched e (suc k) (suc t))))
link_from n i e k meaning in' = by (cons_cases (closed e (suc k)) (flat_map (λ t. matches i e (suc t) ∷ unmatched e (suc k) (suc t) ∷ []) (numbers_below n)) meaning in')
  where
    two : (t : ℕ) → (matches i e (suc t) ≡ meaning) ⊎ Contains (unmatched e (suc k) (suc t) ∷ []) meaning → (meaning ≡ matches i e (suc t)) ⊎ (meaning ≡ unmatched e (suc k) (suc t))
    two t (inl is) = inl (sym is)
    two t (inr rest) = last (cons_cases (unmatched e (suc k) (suc t)) [] meaning rest)
      where
        last : (unmatched e (suc k) (suc t) ≡ meaning) ⊎ Contains [] meaning → (meaning ≡ matches i e (suc t)) ⊎ (meaning ≡ unmatched e (suc k) (suc t))
        last (inl is) = inr (sym is)
        last (inr none) = absurd (none_in_nil meaning none)

    by : (closed e (suc k) ≡ meaning) ⊎ Contains (flat_map (λ t. matches i e (suc t) ∷ unmatched e (suc k) (suc t) ∷ []) (numbers_below n)) meaning →
        (meaning ≡ closed e (suc k)) ⊎ ((t : ℕ) × (t < n) × ((meaning ≡ matches i e (suc t)) ⊎ (meaning ≡ unmatched e (suc k) (suc t))))
    by (inl is) = inl (sym is)
    by (inr rest) =
        let found = flat_from (λ t. matches i e (suc t) ∷ unmatched e (suc k) (suc t) ∷ []) (numbers_below n) meaning rest in
        inr (found.0, from_numbers n found.0 found.1, two found.0 (cons_cases (matches i e (suc found.0)) (unmatched e (suc k) (suc found.0) ∷ []) meaning found.2))

link_event : (n i e k : ℕ) (meaning : Meaning) → Contains (link_meanings n i e k) meaning → event_of_link meaning ≡ e
unfolding event_of_link
link_event n i e k meaning in' = by (link_from n i e k meaning in')
  where
    by : (meaning ≡ closed e (suc k)) ⊎ ((t : ℕ) × (t < n) × ((meaning ≡ matches i e (suc t)) ⊎ (meaning ≡ unmatched e (suc k) (suc t)))) → event_of_link meaning ≡ e
    by (inl is) = ap event_of_link is
    by (inr (t, h, inl is)) = ap event_of_link is
    by (inr (t, h, inr is)) = ap event_of_link is

link_not_done : (n i e k : ℕ) (meaning : Meaning) → Contains (link_meanings n i e k) meaning → is_done meaning ≡ false
unfolding is_done
link_not_done n i e k meaning in' = by (link_from n i e k meaning in')
  where
    by : (meaning ≡ closed e (suc k)) ⊎ ((t : ℕ) × (t < n) × ((meaning ≡ matches i e (suc t)) ⊎ (meaning ≡ unmatched e (suc k) (suc t)))) → is_done meaning ≡ false
    by (inl is) = ap is_done is
    by (inr (t, h, inl is)) = ap is_done is
    by (inr (t, h, inr is)) = ap is_done is

two_step : (i e k t : ℕ) (meaning : Meaning) → Contains (matches i e (suc t) ∷ unmatched e (suc k) (suc t) ∷ []) meaning → link_step meaning ≡ suc t
unfolding link_step
two_step i e k t meaning in' = by (cons_cases (matches i e (suc t)) (unmatched e (suc k) (suc t) ∷ []) meaning in')
  where
    last : (unmatched e (suc k) (suc t) ≡ meaning) ⊎ Contains [] meaning → link_step meaning ≡ suc t
    last (inl is) = ap link_step (sym is)
    last (inr none) = absurd (none_in_nil meaning none)

    by : (matches i e (suc t) ≡ meaning) ⊎ Contains (unmatched e (suc k) (suc t) ∷ []) meaning → link_step meaning ≡ suc t
    by (inl is) = ap link_step (sym is)
    by (inr rest) = last (cons_cases (unmatched e (suc k) (suc t)) [] meaning rest)

link_once : (n i e k : ℕ) → EachPair (λ a b. a ≢ b) (link_meanings n i e k)
unfolding link_step
link_once n i e k = (
  all_from (λ b. closed e (suc k) ≢ b) (flat_map (λ t. matches i e (suc t) ∷ unmatched e (suc k) (suc t) ∷ []) (numbers_below n)) (λ b in' same.
      let found = flat_from (λ t. matches i e (suc t) ∷ unmatched e (suc k) (suc t) ∷ []) (numbers_below n) b in' in
      let step = two_step i e k found.0 b found.2 in
      let none = ap link_step same in
      omega (arith, step, none)),
  pairs_flat (λ t. matches i e (suc t) ∷ unmatched e (suc k) (suc t) ∷ []) (numbers_below n) (range_once 0 n) (λ t. ((differ t, tt), (tt, tt)))
      (λ s t a in' in2. let x = two_step i e k s a in' in let y = two_step i e k t a in2 in omega (arith, x, y)),
)
  where
    differ : (t : ℕ) → matches i e (suc t) ≡ unmatched e (suc k) (suc t) → ⊥
    differ t h = cc

module _ (net : Net) (log : Log) (n : ℕ) (new : Alarm) where
  alarm_once : EachPair (λ a b. a ≢ b) (alarm_meanings net log n new)
  unfolding is_done
  alarm_once =
      pairs_append (λ a b. a ≢ b) (flat_map (λ e. link_meanings n (length log.alarms) e (length (chain net log e))) (taken_events net log new)) (map (λ t. done (length log.alarms) t) (numbers_below (suc n)))
      (pairs_flat (λ e. link_meanings n (length log.alarms) e (length (chain net log e))) (taken_events net log new)
      (pairs_filter (λ a b. a ≢ b) (λ e. is_matching net (with_alarm log new) e (length log.alarms)) (numbers_below (length net.events)) (range_once 0 (length net.events)))
      (λ e. link_once n (length log.alarms) e (length (chain net log e)))
      (λ e f a in' in2. sym (link_event n (length log.alarms) e (length (chain net log e)) a in') ∙ link_event n (length log.alarms) f (length (chain net log f)) a in2))
      (pairs_map (λ t. done (length log.alarms) t) (numbers_below (suc n)) (range_once 0 (suc n)) same_step)
      apart
    where
      same_step : (s t : ℕ) → done (length log.alarms) s ≡ done (length log.alarms) t → s ≡ t
      same_step s t h = cc

      two : (b : Bool) → b ≡ false → b ≡ true → ⊥
      two true h k = cc
      two false h k = cc

      apart : (a b : Meaning) → Contains (flat_map (λ e. link_meanings n (length log.alarms) e (length (chain net log e))) (taken_events net log new)) a → Contains (map (λ t. done (length log.alarms) t) (numbers_below (suc n))) b → a ≡ b → ⊥
      apart a b in' in2 same =
          let link = flat_from (λ e. link_meanings n (length log.alarms) e (length (chain net log e))) (taken_events net log new) a in' in
          let step = map_from (λ t. done (length log.alarms) t) (numbers_below (suc n)) b in2 in
          two (is_done a) (link_not_done n (length log.alarms) link.0 (length (chain net log link.0)) a link.2) (ap is_done (same ∙ sym step.2))

  -- what a new name is
  new_from : (meaning : Meaning) → Contains (alarm_meanings net log n new) meaning →
      ((e : ℕ) × IsTaken net log new e × (meaning ≡ closed e (suc (length (chain net log e)))))
      ⊎ ((e : ℕ) × (t : ℕ) × IsTaken net log new e × (t < n) × (meaning ≡ matches (length log.alarms) e (suc t)))
      ⊎ ((e : ℕ) × (t : ℕ) × IsTaken net log new e × (t < n) × (meaning ≡ unmatched e (suc (length (chain net log e))) (suc t)))
      ⊎ ((t : ℕ) × (t ≤ n) × (meaning ≡ done (length log.alarms) t))
  new_from meaning in' = by (Contains-append_cases (flat_map (λ e. link_meanings n (length log.alarms) e (length (chain net log e))) (taken_events net log new)) (map (λ t. done (length log.alarms) t) (numbers_below (suc n))) meaning in')
    where
      by : Contains (flat_map (λ e. link_meanings n (length log.alarms) e (length (chain net log e))) (taken_events net log new)) meaning ⊎ Contains (map (λ t. done (length log.alarms) t) (numbers_below (suc n))) meaning →
          ((e : ℕ) × IsTaken net log new e × (meaning ≡ closed e (suc (length (chain net log e)))))
          ⊎ ((e : ℕ) × (t : ℕ) × IsTaken net log new e × (t < n) × (meaning ≡ matches (length log.alarms) e (suc t)))
          ⊎ ((e : ℕ) × (t : ℕ) × IsTaken net log new e × (t < n) × (meaning ≡ unmatched e (suc (length (chain net log e))) (suc t)))
          ⊎ ((t : ℕ) × (t ≤ n) × (meaning ≡ done (length log.alarms) t))
      by (inl there) =
          let link = flat_from (λ e. link_meanings n (length log.alarms) e (length (chain net log e))) (taken_events net log new) meaning there in
          at link.0 (taken_is net log n new link.0 link.1) (link_from n (length log.alarms) link.0 (length (chain net log link.0)) meaning link.2)
        where
          at : (e : ℕ) → IsTaken net log new e → (meaning ≡ closed e (suc (length (chain net log e)))) ⊎ ((t : ℕ) × (t < n) × ((meaning ≡ matches (length log.alarms) e (suc t)) ⊎ (meaning ≡ unmatched e (suc (length (chain net log e))) (suc t)))) →
              ((f : ℕ) × IsTaken net log new f × (meaning ≡ closed f (suc (length (chain net log f)))))
              ⊎ ((f : ℕ) × (t : ℕ) × IsTaken net log new f × (t < n) × (meaning ≡ matches (length log.alarms) f (suc t)))
              ⊎ ((f : ℕ) × (t : ℕ) × IsTaken net log new f × (t < n) × (meaning ≡ unmatched f (suc (length (chain net log f))) (suc t)))
              ⊎ ((t : ℕ) × (t ≤ n) × (meaning ≡ done (length log.alarms) t))
          at e taken' (inl is) = inl (e, taken', is)
          at e taken' (inr (t, h, inl is)) = inr (inl (e, t, taken', h, is))
          at e taken' (inr (t, h, inr is)) = inr (inr (inl (e, t, taken', h, is)))
      by (inr there) =
          let step = map_from (λ t. done (length log.alarms) t) (numbers_below (suc n)) meaning there in
          let below = from_numbers (suc n) step.0 step.1 in
          inr (inr (inr (step.0, omega (arith, below), sym step.2)))

  -- it may also be that the alarm is false
  false_from : (b : Bool) (meaning : Meaning) → new.doubtful ≡ b → Contains (false_meanings b (length log.alarms)) meaning → (new.doubtful ≡ true) × (meaning ≡ dropped (length log.alarms))
  false_from false meaning e in' = absurd (none_in_nil meaning in')
  false_from true meaning e in' = by (cons_cases (dropped (length log.alarms)) [] meaning in')
    where
      by : (dropped (length log.alarms) ≡ meaning) ⊎ Contains [] meaning → (new.doubtful ≡ true) × (meaning ≡ dropped (length log.alarms))
      by (inl is) = (e, sym is)
      by (inr none) = absurd (none_in_nil meaning none)

  -- how long the chains over its matches are
  abbrev links : ℕ
  links = chain_count (length (taken_events net log new))

  abbrev chains : List Meaning
  chains = match_chains n (length log.alarms) (length (taken_events net log new))

  abbrev falses : List Meaning
  falses = false_meanings new.doubtful (length log.alarms)

  -- it may be a link of such a chain
  chain_from : (meaning : Meaning) → Contains chains meaning → (t : ℕ) × (k : ℕ) × (t < n) × (k < links) × (meaning ≡ some_of_first (of_matches (length log.alarms) (suc t)) (suc k))
  chain_from meaning in' =
      let step = flat_from (λ t. chain_meanings (of_matches (length log.alarms) (suc t)) (length (taken_events net log new))) (numbers_below n) meaning in' in
      let link = map_from (λ k. some_of_first (of_matches (length log.alarms) (suc step.0)) (suc k)) (numbers_below links) meaning step.2 in
      (step.0, link.0, from_numbers n step.0 step.1, from_numbers links link.0 link.1, sym link.2)

  chain_has : (t k : ℕ) → t < n → k < links → Contains chains (some_of_first (of_matches (length log.alarms) (suc t)) (suc k))
  chain_has t k step below =
      flat_has (λ s. chain_meanings (of_matches (length log.alarms) (suc s)) (length (taken_events net log new))) (numbers_below n) t (some_of_first (of_matches (length log.alarms) (suc t)) (suc k)) (in_numbers n t step)
      (map_has (λ j. some_of_first (of_matches (length log.alarms) (suc t)) (suc j)) (numbers_below links) k (in_numbers links k below))

  chains_once : EachPair (λ a b. a ≢ b) chains
  chains_once =
      pairs_flat (λ t. chain_meanings (of_matches (length log.alarms) (suc t)) (length (taken_events net log new))) (numbers_below n) (range_once 0 n)
      (λ t. pairs_map (λ k. some_of_first (of_matches (length log.alarms) (suc t)) (suc k)) (numbers_below links) (range_once 0 links) (same_link t)) same_step
    where
      same_link : (t j k : ℕ) → some_of_first (of_matches (length log.alarms) (suc t)) (suc j) ≡ some_of_first (of_matches (length log.alarms) (suc t)) (suc k) → j ≡ k
      same_link t j k h = cc

      one_step : (s t j k : ℕ) → some_of_first (of_matches (length log.alarms) (suc s)) (suc j) ≡ some_of_first (of_matches (length log.alarms) (suc t)) (suc k) → s ≡ t
      one_step s t j k h = cc

      same_step : (s t : ℕ) (a : Meaning) → Contains (chain_meanings (of_matches (length log.alarms) (suc s)) (length (taken_events net log new))) a → Contains (chain_meanings (of_matches (length log.alarms) (suc t)) (length (taken_events net log new))) a → s ≡ t
      same_step s t a in' in2 =
          let first = map_from (λ k. some_of_first (of_matches (length log.alarms) (suc s)) (suc k)) (numbers_below links) a in' in
          let second = map_from (λ k. some_of_first (of_matches (length log.alarms) (suc t)) (suc k)) (numbers_below links) a in2 in
          one_step s t first.0 second.0 (first.2 ∙ sym second.2)

  abbrev pub IsLinkName : Meaning → Type 0
  IsLinkName meaning = (t : ℕ) × (k : ℕ) × (t < n) × (k < links) × (meaning ≡ some_of_first (of_matches (length log.alarms) (suc t)) (suc k))

  added_split : (meaning : Meaning) → Contains (added_meanings net log n (alarm_added new)) meaning → Contains (alarm_meanings net log n new) meaning ⊎ (IsLinkName meaning ⊎ ((new.doubtful ≡ true) × (meaning ≡ dropped (length log.alarms))))
  added_split meaning in' = by (Contains-append_cases (alarm_meanings net log n new) (chains ++ falses) meaning in')
    where
      behind : Contains chains meaning ⊎ Contains falses meaning → IsLinkName meaning ⊎ ((new.doubtful ≡ true) × (meaning ≡ dropped (length log.alarms)))
      behind (inl a) = inl (chain_from meaning a)
      behind (inr b) = inr (false_from new.doubtful meaning refl b)

      by : Contains (alarm_meanings net log n new) meaning ⊎ Contains (chains ++ falses) meaning → Contains (alarm_meanings net log n new) meaning ⊎ (IsLinkName meaning ⊎ ((new.doubtful ≡ true) × (meaning ≡ dropped (length log.alarms))))
      by (inl a) = inl a
      by (inr b) = inr (behind (Contains-append_cases chains falses meaning b))

  not_dropped : (i : ℕ) → Contains (alarm_meanings net log n new) (dropped i) → ⊥
  not_dropped i in' = by (new_from (dropped i) in')
    where
      by : ((e : ℕ) × IsTaken net log new e × (dropped i ≡ closed e (suc (length (chain net log e)))))
          ⊎ ((e : ℕ) × (t : ℕ) × IsTaken net log new e × (t < n) × (dropped i ≡ matches (length log.alarms) e (suc t)))
          ⊎ ((e : ℕ) × (t : ℕ) × IsTaken net log new e × (t < n) × (dropped i ≡ unmatched e (suc (length (chain net log e))) (suc t)))
          ⊎ ((t : ℕ) × (t ≤ n) × (dropped i ≡ done (length log.alarms) t)) → ⊥
      by (inl (e, h, is)) = cc
      by (inr (inl (e, t, h, step, is))) = cc
      by (inr (inr (inl (e, t, h, step, is)))) = cc
      by (inr (inr (inr (t, h, is)))) = cc

  not_link : (meaning : Meaning) → IsLinkName meaning → Contains (alarm_meanings net log n new) meaning → ⊥
  not_link meaning (s, j, step', below, link) in' = by (new_from meaning in')
    where
      by : ((e : ℕ) × IsTaken net log new e × (meaning ≡ closed e (suc (length (chain net log e)))))
          ⊎ ((e : ℕ) × (t : ℕ) × IsTaken net log new e × (t < n) × (meaning ≡ matches (length log.alarms) e (suc t)))
          ⊎ ((e : ℕ) × (t : ℕ) × IsTaken net log new e × (t < n) × (meaning ≡ unmatched e (suc (length (chain net log e))) (suc t)))
          ⊎ ((t : ℕ) × (t ≤ n) × (meaning ≡ done (length log.alarms) t)) → ⊥
      by (inl (e, h, is)) = let both = sym is ∙ link in cc
      by (inr (inl (e, t, h, step, is))) = let both = sym is ∙ link in cc
      by (inr (inr (inl (e, t, h, step, is)))) = let both = sym is ∙ link in cc
      by (inr (inr (inr (t, h, is)))) = let both = sym is ∙ link in cc

  added_once : EachPair (λ a b. a ≢ b) (added_meanings net log n (alarm_added new))
  added_once =
      pairs_append (λ a b. a ≢ b) (alarm_meanings net log n new) (chains ++ falses) alarm_once
      (pairs_append (λ a b. a ≢ b) chains falses chains_once (one new.doubtful) (λ a b in' in2 same.
      let link = chain_from a in' in
      let found = false_from new.doubtful b refl in2 in
      no_both link.0 link.1 (sym link.4 ∙ same ∙ found.1)))
      (λ a b in' in2 same. apart a b in' same (Contains-append_cases chains falses b in2))
    where
      one : (b : Bool) → EachPair (λ x y. x ≢ y) (false_meanings b (length log.alarms))
      one true = (tt, tt)
      one false = tt

      no_both : (t k : ℕ) → some_of_first (of_matches (length log.alarms) (suc t)) (suc k) ≡ dropped (length log.alarms) → ⊥
      no_both t k h = cc

      apart : (a b : Meaning) → Contains (alarm_meanings net log n new) a → a ≡ b → Contains chains b ⊎ Contains falses b → ⊥
      apart a b in' same (inl chain) = not_link b (chain_from b chain) (subst (λ x. Contains (alarm_meanings net log n new) x) same in')
      apart a b in' same (inr false') = let found = false_from new.doubtful b refl false' in not_dropped (length log.alarms) (subst (λ x. Contains (alarm_meanings net log n new) x) (same ∙ found.1) in')

  alarm_not_old : (meaning : Meaning) → Contains (alarm_meanings net log n new) meaning → IsLogMeaning net log n meaning → ⊥
  alarm_not_old meaning in' old = by (new_from meaning in')
    where
      by : ((e : ℕ) × IsTaken net log new e × (meaning ≡ closed e (suc (length (chain net log e)))))
          ⊎ ((e : ℕ) × (t : ℕ) × IsTaken net log new e × (t < n) × (meaning ≡ matches (length log.alarms) e (suc t)))
          ⊎ ((e : ℕ) × (t : ℕ) × IsTaken net log new e × (t < n) × (meaning ≡ unmatched e (suc (length (chain net log e))) (suc t)))
          ⊎ ((t : ℕ) × (t ≤ n) × (meaning ≡ done (length log.alarms) t)) → ⊥
      by (inl (e, h, is)) = let known = subst (IsLogMeaning net log n) is old in let low = known.1 in omega (arith, low)
      by (inr (inl (e, t, h, step, is))) = let known = subst (IsLogMeaning net log n) is old in let below = matching_alarm net log e (length log.alarms) known.0 in omega (arith, below)
      by (inr (inr (inl (e, t, h, step, is)))) = let known = subst (IsLogMeaning net log n) is old in let low = known.1 in omega (arith, low)
      by (inr (inr (inr (t, h, is)))) = let known = subst (IsLogMeaning net log n) is old in let low = known.0 in omega (arith, low)

  not_old : (meaning : Meaning) → Contains (added_meanings net log n (alarm_added new)) meaning → IsLogMeaning net log n meaning → ⊥
  not_old meaning in' old = by (added_split meaning in')
    where
      by : Contains (alarm_meanings net log n new) meaning ⊎ (IsLinkName meaning ⊎ ((new.doubtful ≡ true) × (meaning ≡ dropped (length log.alarms)))) → ⊥
      by (inl a) = alarm_not_old meaning a old
      by (inr (inl (t, k, step, below, is))) = let known = subst (IsLogMeaning net log n) is old in let low = known.0 in omega (arith, low)
      by (inr (inr b)) = let below = doubtful_below log (length log.alarms) (subst (IsLogMeaning net log n) b.1 old) in omega (arith, below)

  in_alarm : (meaning : Meaning) → Contains (alarm_meanings net log n new) meaning → Contains (added_meanings net log n (alarm_added new)) meaning
  in_alarm meaning there = Contains-append_left (alarm_meanings net log n new) (chains ++ falses) meaning there

  in_links : (e : ℕ) (meaning : Meaning) → IsTaken net log new e → Contains (link_meanings n (length log.alarms) e (length (chain net log e))) meaning → Contains (added_meanings net log n (alarm_added new)) meaning
  in_links e meaning h there =
      in_alarm meaning (Contains-append_left (flat_map (λ f. link_meanings n (length log.alarms) f (length (chain net log f))) (taken_events net log new)) (map (λ t. done (length log.alarms) t) (numbers_below (suc n))) meaning
      (flat_has (λ f. link_meanings n (length log.alarms) f (length (chain net log f))) (taken_events net log new) e meaning (is_taken net log n new e h) there))

  in_two : (e t : ℕ) (meaning : Meaning) → IsTaken net log new e → t < n → Contains (matches (length log.alarms) e (suc t) ∷ unmatched e (suc (length (chain net log e))) (suc t) ∷ []) meaning → Contains (added_meanings net log n (alarm_added new)) meaning
  in_two e t meaning h step there =
      in_links e meaning h (here_later (closed e (suc (length (chain net log e)))) (flat_map (λ s. matches (length log.alarms) e (suc s) ∷ unmatched e (suc (length (chain net log e))) (suc s) ∷ []) (numbers_below n)) meaning
      (flat_has (λ s. matches (length log.alarms) e (suc s) ∷ unmatched e (suc (length (chain net log e))) (suc s) ∷ []) (numbers_below n) t meaning (in_numbers n t step) there))

  -- the chain of e has at most one more alarm
  chain_split : (e k : ℕ) → k ≤ length (chain net (with_alarm log new) e) → (k ≤ length (chain net log e)) ⊎ ((k ≡ suc (length (chain net log e))) × IsTaken net log new e)
  chain_split e zero h = inl (omega arith)
  chain_split e (suc k) h =
      let low = subst (λ xs. suc k ≤ length xs) (grown net log n new e) h in
      by (length_split (chain net log e) (is_matching net (with_alarm log new) e) (length log.alarms) k (omega (arith, low)))
    where
      by : (k < length (chain net log e)) ⊎ ((k ≡ length (chain net log e)) × (is_matching net (with_alarm log new) e (length log.alarms) ≡ true)) →
          (suc k ≤ length (chain net log e)) ⊎ ((suc k ≡ suc (length (chain net log e))) × IsTaken net log new e)
      by (inl a) = inl (omega arith)
      by (inr b) = inr (ap suc b.0, b.1)

  chain_end : (e : ℕ) → IsTaken net log new e → suc (length (chain net log e)) ≤ length (chain net (with_alarm log new) e)
  chain_end e h =
      let same = length_end (chain net log e) (is_matching net (with_alarm log new) e) (length log.alarms) h in
      subst (λ xs. suc (length (chain net log e)) ≤ length xs) (sym (grown net log n new e)) (omega (arith, same))

  chain_keeps : (e : ℕ) → length (chain net log e) ≤ length (chain net (with_alarm log new) e)
  chain_keeps e =
      let more = length-append (chain net log e) (filter (is_matching net (with_alarm log new) e) (length log.alarms ∷ [])) in
      subst (λ xs. length (chain net log e) ≤ length xs) (sym (grown net log n new e)) (omega (arith, more))

  same_matches : (i : ℕ) → i < length log.alarms → length (matching_events net (with_alarm log new) i) ≡ length (matching_events net log i)
  same_matches i h = ap length (all_range (length net.events) (λ e. is_matching net (with_alarm log new) e i) (λ e. is_matching net log e i) (λ e. matching_same net log new e i h))

  name_split : (meaning : Meaning) → IsLogMeaning net (with_alarm log new) n meaning → IsLogMeaning net log n meaning ⊎ Contains (added_meanings net log n (alarm_added new)) meaning
  name_split (in_state c q t) h = absurd h
  name_split (happens e t) h = absurd h
  name_split asked h = inl tt
  name_split (matches i e zero) h = absurd (omega (arith, h.1.0))
  name_split (matches i e (suc t)) h = by (match_split net log n new e i h.0)
    where
      by : (is_matching net log e i ≡ true) ⊎ (i ≡ length log.alarms) → IsLogMeaning net log n (matches i e (suc t)) ⊎ Contains (added_meanings net log n (alarm_added new)) (matches i e (suc t))
      by (inl a) = inl (a, h.1)
      by (inr b) = inr (subst (λ x. Contains (added_meanings net log n (alarm_added new)) (matches x e (suc t))) (sym b)
          (in_two e t (matches (length log.alarms) e (suc t)) (taken net log n new e i b h.0) (omega (arith, h.1.1)) (0, omega arith, refl)))
  name_split (done i t) h = by (number_split net log n new i h.0)
    where
      by : (i < length log.alarms) ⊎ (i ≡ length log.alarms) → IsLogMeaning net log n (done i t) ⊎ Contains (added_meanings net log n (alarm_added new)) (done i t)
      by (inl a) = inl (a, h.1)
      by (inr b) = inr (subst (λ x. Contains (added_meanings net log n (alarm_added new)) (done x t)) (sym b)
          (in_alarm (done (length log.alarms) t) (Contains-append_right (flat_map (λ f. link_meanings n (length log.alarms) f (length (chain net log f))) (taken_events net log new)) (map (λ s. done (length log.alarms) s) (numbers_below (suc n))) (done (length log.alarms) t)
          (map_has (λ s. done (length log.alarms) s) (numbers_below (suc n)) t (in_numbers (suc n) t (omega (arith, h.1)))))))
  name_split (unmatched e k zero) h = absurd (omega (arith, h.2.0))
  name_split (unmatched e k (suc t)) h = by (chain_split e k h.1)
    where
      by : (k ≤ length (chain net log e)) ⊎ ((k ≡ suc (length (chain net log e))) × IsTaken net log new e) → IsLogMeaning net log n (unmatched e k (suc t)) ⊎ Contains (added_meanings net log n (alarm_added new)) (unmatched e k (suc t))
      by (inl a) = inl (h.0, a, h.2)
      by (inr b) = inr (subst (λ x. Contains (added_meanings net log n (alarm_added new)) (unmatched e x (suc t))) (sym b.0)
          (in_two e t (unmatched e (suc (length (chain net log e))) (suc t)) b.1 (omega (arith, h.2.1)) (1, omega arith, refl)))
  name_split (closed e k) h = by (chain_split e k h.1)
    where
      by : (k ≤ length (chain net log e)) ⊎ ((k ≡ suc (length (chain net log e))) × IsTaken net log new e) → IsLogMeaning net log n (closed e k) ⊎ Contains (added_meanings net log n (alarm_added new)) (closed e k)
      by (inl a) = inl (h.0, a)
      by (inr b) = inr (subst (λ x. Contains (added_meanings net log n (alarm_added new)) (closed e x)) (sym b.0)
          (in_links e (closed e (suc (length (chain net log e)))) b.1 (0, omega arith, refl)))
  name_split (dropped i) h = by (number_split net log n new i (doubtful_below (with_alarm log new) i h))
    where
      own : (b : Bool) → b ≡ true → Contains (false_meanings b (length log.alarms)) (dropped (length log.alarms))
      own true e = here_first (dropped (length log.alarms)) [] (dropped (length log.alarms)) refl
      own false e = cc

      by : (i < length log.alarms) ⊎ (i ≡ length log.alarms) → IsLogMeaning net log n (dropped i) ⊎ Contains (added_meanings net log n (alarm_added new)) (dropped i)
      by (inl a) = inl (sym (doubtful_same log new i a) ∙ h)
      by (inr b) = inr (subst (λ x. Contains (added_meanings net log n (alarm_added new)) (dropped x)) (sym b)
          (Contains-append_right (alarm_meanings net log n new) (chains ++ falses) (dropped (length log.alarms))
          (Contains-append_right chains falses (dropped (length log.alarms)) (own new.doubtful (sym (doubtful_new log new) ∙ subst (λ x. is_doubtful (with_alarm log new) x ≡ true) b h)))))
  name_split (reaches i j) h = absurd h
  name_split (some_of_first (of_states c t) k) h = absurd h
  name_split (some_of_first (of_events t g) k) h = absurd h
  name_split (some_of_first (of_matches i zero) k) h = absurd (omega (arith, h.1.0))
  name_split (some_of_first (of_matches i (suc t)) zero) h = absurd (omega (arith, h.2))
  name_split (some_of_first (of_matches i (suc t)) (suc k)) h = by (number_split net log n new i h.0)
    where
      by : (i < length log.alarms) ⊎ (i ≡ length log.alarms) →
          IsLogMeaning net log n (some_of_first (of_matches i (suc t)) (suc k)) ⊎ Contains (added_meanings net log n (alarm_added new)) (some_of_first (of_matches i (suc t)) (suc k))
      by (inl a) = inl (a, h.1, h.2, subst (λ m. suc k ≤ chain_count m) (same_matches i a) h.3)
      by (inr b) =
          let below : suc k ≤ links = subst (λ x. suc k ≤ chain_count (length (matching_events net (with_alarm log new) x))) b h.3 in
          inr (subst (λ x. Contains (added_meanings net log n (alarm_added new)) (some_of_first (of_matches x (suc t)) (suc k))) (sym b)
          (Contains-append_right (alarm_meanings net log n new) (chains ++ falses) (some_of_first (of_matches (length log.alarms) (suc t)) (suc k))
          (Contains-append_left chains falses (some_of_first (of_matches (length log.alarms) (suc t)) (suc k)) (chain_has t k (omega (arith, h.1.1)) (omega (arith, below))))))

  name_keeps : (meaning : Meaning) → IsLogMeaning net log n meaning → IsLogMeaning net (with_alarm log new) n meaning
  name_keeps (in_state c q t) h = absurd h
  name_keeps (happens e t) h = absurd h
  name_keeps asked h = tt
  name_keeps (matches i e t) h = (matching_same net log new e i (matching_alarm net log e i h.0) ∙ h.0, h.1)
  name_keeps (done i t) h = (let more = longer net log n new in omega (arith, more, h.0), h.1)
  name_keeps (unmatched e k t) h = (h.0, let more = chain_keeps e in omega (arith, more, h.1), h.2)
  name_keeps (closed e k) h = (h.0, let more = chain_keeps e in omega (arith, more, h.1))
  name_keeps (dropped i) h = doubtful_same log new i (doubtful_below log i h) ∙ h
  name_keeps (reaches i j) h = absurd h
  name_keeps (some_of_first (of_states c t) k) h = absurd h
  name_keeps (some_of_first (of_events t g) k) h = absurd h
  name_keeps (some_of_first (of_matches i t) k) h = (let more = longer net log n new in omega (arith, more, h.0), h.1, h.2, subst (λ m. k ≤ chain_count m) (sym (same_matches i h.0)) h.3)

  alarm_known : (meaning : Meaning) → Contains (alarm_meanings net log n new) meaning → IsLogMeaning net (with_alarm log new) n meaning
  alarm_known meaning in' = by (new_from meaning in')
    where
      by : ((e : ℕ) × IsTaken net log new e × (meaning ≡ closed e (suc (length (chain net log e)))))
          ⊎ ((e : ℕ) × (t : ℕ) × IsTaken net log new e × (t < n) × (meaning ≡ matches (length log.alarms) e (suc t)))
          ⊎ ((e : ℕ) × (t : ℕ) × IsTaken net log new e × (t < n) × (meaning ≡ unmatched e (suc (length (chain net log e))) (suc t)))
          ⊎ ((t : ℕ) × (t ≤ n) × (meaning ≡ done (length log.alarms) t)) → IsLogMeaning net (with_alarm log new) n meaning
      by (inl (e, h, is)) = subst (IsLogMeaning net (with_alarm log new) n) (sym is) (is_shown net (with_alarm log new) e (length log.alarms) h, chain_end e h)
      by (inr (inl (e, t, h, step, is))) = subst (IsLogMeaning net (with_alarm log new) n) (sym is) (h, (omega arith, omega arith))
      by (inr (inr (inl (e, t, h, step, is)))) = subst (IsLogMeaning net (with_alarm log new) n) (sym is) (omega arith, chain_end e h, (omega arith, omega arith))
      by (inr (inr (inr (t, h, is)))) = subst (IsLogMeaning net (with_alarm log new) n) (sym is) (let more = longer net log n new in omega (arith, more), h)

  new_known : (meaning : Meaning) → Contains (added_meanings net log n (alarm_added new)) meaning → IsLogMeaning net (with_alarm log new) n meaning
  new_known meaning in' = by (added_split meaning in')
    where
      by : Contains (alarm_meanings net log n new) meaning ⊎ (IsLinkName meaning ⊎ ((new.doubtful ≡ true) × (meaning ≡ dropped (length log.alarms)))) → IsLogMeaning net (with_alarm log new) n meaning
      by (inl a) = alarm_known meaning a
      by (inr (inl (t, k, step, below, is))) = subst (IsLogMeaning net (with_alarm log new) n) (sym is) (let more = longer net log n new in omega (arith, more), (omega arith, omega (arith, step)), omega arith, omega (arith, below))
      by (inr (inr b)) = subst (IsLogMeaning net (with_alarm log new) n) (sym b.1) (doubtful_new log new ∙ b.0)

  -- how many they are
  names_size : length (added_meanings net log n (alarm_added new)) ≡ length (taken_events net log new) * (1 + n * 2) + suc n + n * links + cond new.doubtful 1 0
  names_size =
      let range = length-range_with_len 0 n in
      let inner : (e : ℕ) → length (link_meanings n (length log.alarms) e (length (chain net log e))) ≡ 1 + n * 2 = λ e.
      let flat = flat_length (λ t. matches (length log.alarms) e (suc t) ∷ unmatched e (suc (length (chain net log e))) (suc t) ∷ []) (numbers_below n) 2 (λ t. refl) in omega (arith, flat, range) in
      let front = flat_length (λ e. link_meanings n (length log.alarms) e (length (chain net log e))) (taken_events net log new) (1 + n * 2) inner in
      let back = length-map (numbers_below (suc n)) (λ t. done (length log.alarms) t) in
      let range' = length-range_with_len 0 (suc n) in
      let whole = length-append (flat_map (λ e. link_meanings n (length log.alarms) e (length (chain net log e))) (taken_events net log new)) (map (λ t. done (length log.alarms) t) (numbers_below (suc n))) in
      let all = length-append (alarm_meanings net log n new) (chains ++ falses) in
      let both = length-append chains falses in
      let steps = flat_length (λ t. chain_meanings (of_matches (length log.alarms) (suc t)) (length (taken_events net log new))) (numbers_below n) links
      (λ t. length-map (numbers_below links) (λ k. some_of_first (of_matches (length log.alarms) (suc t)) (suc k)) ∙ length-range_with_len 0 links) in
      let moved = ap (λ k. k * links) range in
      let last = false_size new.doubtful in
      omega (arith, front, back, range', whole, all, both, steps, moved, last)
    where
      false_size : (b : Bool) → length (false_meanings b (length log.alarms)) ≡ cond b 1 0
      false_size true = refl
      false_size false = refl

-- with the sums of the bound as they are, and 256 more for a doubtful alarm, which the counter takes
pub names_leave_room : (net : Net) (log : Log) (n : ℕ) (new : Alarm) →
    length (added_meanings net log n (alarm_added new)) + variable_bound net log n + 256 * doubtful_count (with_alarm log new) ≤ variable_bound net (with_alarm log new) n + 256 * doubtful_count log
names_leave_room net log n new =
    let sum = sum_more (λ i. alarm_variables n (matching_count net (with_alarm log new) i)) (λ i. alarm_variables n (matching_count net log i)) (length log.alarms)
    (λ i below. ap (alarm_variables n) (same_count net log n new i below)) in
    let more = ap (λ k. sum_by (λ i. alarm_variables n (matching_count net (with_alarm log new) i)) (numbers_below k)) (longer net log n new) in
    let size = names_size net log n new in
    let moved : length (taken_events net log new) * (1 + n * 2) + suc n + n * chain_count (length (taken_events net log new))
    ≡ matching_count net (with_alarm log new) (length log.alarms) * (1 + n * 2) + suc n + n * chain_count (matching_count net (with_alarm log new) (length log.alarms)) =
    ap (λ k. k * (1 + n * 2) + suc n + n * chain_count k) (taken_count net log n new) in
    let doubt = doubtful_more net log n new in
    let few = names_few n (matching_count net (with_alarm log new) (length log.alarms)) (chain_count (matching_count net (with_alarm log new) (length log.alarms))) in
    omega (arith, sum, more, size, moved, doubt, few)
  where
    names_few : (k m o : ℕ) → m * (1 + k * 2) + suc k + k * o ≤ k * (2 * m + o + 1) + 1 + m
    names_few k m o = omega arith

names_small : (net : Net) (log : Log) (n : ℕ) (new : Alarm) → length (added_meanings net log n (alarm_added new)) + variable_bound net log n ≤ variable_bound net (with_alarm log new) n
names_small net log n new = let room = names_leave_room net log n new in let doubt = doubtful_more net log n new in omega (arith, room, doubt)

pub meanings_are_few : MeaningsAreFew
meanings_are_few net log n (alarm_added new) = names_small net log n new
meanings_are_few net log n (pair_added i j) = omega arith

pub meanings_are_new : MeaningsAreNew
meanings_are_new net log n (alarm_added new) =
    record { once = added_once net log n new; fresh = not_old net log n new; all = λ meaning. (name_split net log n new meaning, back meaning) }
  where
    back : (meaning : Meaning) → IsLogMeaning net log n meaning ⊎ Contains (added_meanings net log n (alarm_added new)) meaning → IsLogMeaning net (with_alarm log new) n meaning
    back meaning (inl old) = name_keeps net log n new meaning old
    back meaning (inr fresh) = new_known net log n new meaning fresh
meanings_are_new net log n (pair_added i j) =
    record { once = tt; fresh = λ meaning in' old. none_in_nil meaning in'; all = λ meaning. (λ h. inl (same meaning h), back meaning) }
  where
    same : (meaning : Meaning) → IsLogMeaning net (with_pair log i j) n meaning → IsLogMeaning net log n meaning
    same (in_state c q t) h = h
    same (happens e t) h = h
    same asked h = h
    same (matches a e t) h = h
    same (done a t) h = h
    same (unmatched e k t) h = h
    same (closed e k) h = h
    same (dropped a) h = h
    same (reaches a b) h = h
    same (some_of_first (of_states c t) k) h = h
    same (some_of_first (of_events t g) k) h = h
    same (some_of_first (of_matches a t) k) h = h

    again : (meaning : Meaning) → IsLogMeaning net log n meaning → IsLogMeaning net (with_pair log i j) n meaning
    again (in_state c q t) h = h
    again (happens e t) h = h
    again asked h = h
    again (matches a e t) h = h
    again (done a t) h = h
    again (unmatched e k t) h = h
    again (closed e k) h = h
    again (dropped a) h = h
    again (reaches a b) h = h
    again (some_of_first (of_states c t) k) h = h
    again (some_of_first (of_events t g) k) h = h
    again (some_of_first (of_matches a t) k) h = h

    back : (meaning : Meaning) → IsLogMeaning net log n meaning ⊎ Contains [] meaning → IsLogMeaning net (with_pair log i j) n meaning
    back meaning (inl old) = again meaning old
    back meaning (inr none) = absurd (none_in_nil meaning none)

-- the names of the empty log
first_of : (net : Net) (n : ℕ) (meaning : Meaning) → IsLogMeaning net no_log n meaning → Contains (first_meanings net) meaning
first_of net n (in_state c q t) h = absurd h
first_of net n (happens e t) h = absurd h
first_of net n asked h = (0, omega arith, refl)
first_of net n (matches i e t) h = absurd (let below = matching_alarm net no_log e i h.0 in omega (arith, below))
first_of net n (done i t) h = absurd (omega (arith, h.0))
first_of net n (unmatched e k t) h = absurd (omega (arith, h.0, h.1))
first_of net n (closed e k) h =
    let none : k ≡ 0 = omega (arith, h.1) in
    subst (λ x. Contains (first_meanings net) (closed e x)) (sym none)
    (here_later asked (map (λ f. closed f 0) (observable_events net)) (closed e 0) (map_has (λ f. closed f 0) (observable_events net) e (filter_has (λ f. is_some (label_of net f)) (numbers_below (length net.events)) e h.0 (in_numbers (length net.events) e (shown_event net e h.0)))))
first_of net n (dropped i) h = absurd (let below = doubtful_below no_log i h in omega (arith, below))
first_of net n (reaches i j) h = absurd h
first_of net n (some_of_first (of_states c t) k) h = absurd h
first_of net n (some_of_first (of_events t g) k) h = absurd h
first_of net n (some_of_first (of_matches i t) k) h = absurd (omega (arith, h.0))

first_back : (net : Net) (n : ℕ) (meaning : Meaning) → Contains (first_meanings net) meaning → IsLogMeaning net no_log n meaning
first_back net n meaning in' = by (cons_cases asked (map (λ e. closed e 0) (observable_events net)) meaning in')
  where
    by : (asked ≡ meaning) ⊎ Contains (map (λ e. closed e 0) (observable_events net)) meaning → IsLogMeaning net no_log n meaning
    by (inl is) = subst (IsLogMeaning net no_log n) is tt
    by (inr rest) =
        let found = map_from (λ e. closed e 0) (observable_events net) meaning rest in
        subst (IsLogMeaning net no_log n) found.2 ((filter_from (λ e. is_some (label_of net e)) (numbers_below (length net.events)) found.0 found.1).0, omega arith)

pub first_meanings_are_all : FirstMeaningsAreAll
first_meanings_are_all net n = record {
  once = (
    all_from (λ b. asked ≢ b) (map (λ e. closed e 0) (observable_events net)) (λ b in' same. let found = map_from (λ e. closed e 0) (observable_events net) b in' in differ found.0 (same ∙ sym found.2)),
    pairs_map (λ e. closed e 0) (observable_events net) (pairs_filter (λ a b. a ≢ b) (λ e. is_some (label_of net e)) (numbers_below (length net.events)) (range_once 0 (length net.events))) same_event,
  );
  all = λ meaning. (first_of net n meaning, first_back net n meaning);
  few =
      let size = length-map (observable_events net) (λ e. closed e 0) in
      let count = length-filter (λ e. is_some (label_of net e)) (numbers_below (length net.events)) in
      omega (arith, size, count);
}
  where
    differ : (e : ℕ) → asked ≡ closed e 0 → ⊥
    differ e h = cc

    same_event : (e f : ℕ) → closed e 0 ≡ closed f 0 → e ≡ f
    same_event e f h = cc
