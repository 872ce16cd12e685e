-- Names on consecutive variables.
use Rattle.std.proofs.Common.{◌≡◌, ◌≢◌, ℕ, zero, suc, ◌+◌, ◌*◌, ◌<◌, ◌≤◌, List, [], ◌∷◌, ◌++◌, ◌∙◌, length, Some, refl, sym, ap, subst, arith, Contains, true, map, flat_map, length-append, slice_get, inl, inr, ◌⊎◌, option_map}
use Rattle.std.specs.List.{AllByRecursion, range_with_len}
use Rattle.std.proofs.lemmas.Option.{slice_get-map, slice_get_within}
use Rattle.std.proofs.lemmas.List.{length-map}
use Rattle.std.proofs.lemmas.List.FromFn.{length-range_with_len}
use Rattle.des_base.proofs.Elements.{cons_cases, here_first, here_later, none_in_nil, all_from, pairs_append}
use Rattle.des_base.specs.ChainCount.{chain_count}
use Rattle.des_base.specs.Lists.{numbers_below}
use Rattle.des_net.specs.Network.{Net}
use Rattle.question_clauses.proofs.Drafts.{flat_length}
use Rattle.question_clauses.proofs.Lists.{all_at, get_past}
use Rattle.question_clauses.proofs.NewNames.{meanings_are_new, first_meanings_are_all}
use Rattle.question_clauses.proofs.Stay.{get_same}
use Rattle.question_clauses.proofs.LogCodes.{has_name}
use Rattle.question_clauses.specs.Additions.{alarm_added, with_addition}
use Rattle.question_clauses.specs.Drafts.{taken_events}
use Rattle.question_clauses.specs.LogClauses.{chain}
use Rattle.question_clauses.specs.LogNames.{IsLogMeaning, link_meanings, alarm_meanings, match_chains, false_meanings, added_meanings, first_meanings, BringsNewMeanings, AreLogMeanings, ReadsInOrder, MeaningsBegin, LogMeaningsGrow, PlacesOfMeanings, OrderedReads}
use Rattle.log_order.specs.Log.{Log, Alarm}
use Rattle.prop_core.specs.Clauses.{Clause}
use Rattle.prop_core.specs.VariableNames.{Meaning, NamedLiteral, meaning_of, named_literal, named_clause, matches, unmatched, closed, done, dropped, some_of_first, of_matches, HasEachOnce}
use Rattle.prop_core.specs.declared.lit.Lit.{Lit}
use Rattle.question_clauses.proofs.LaidOut.{laid_once}
use Rattle.question_clauses.specs.LaidOut.{laid_out, chain_meanings}
use Rattle.std.proofs.lemmas.List.Elements.{Contains-append_cases, Contains-append_left, Contains-append_right}

pub laid_out_from : (first : ℕ) (xs : List Meaning) (entry : ℕ × Meaning) → Contains (laid_out first xs) entry → Contains xs entry.1 × (first ≤ entry.0) × (entry.0 < first + length xs)
laid_out_from first [] entry in' = absurd (none_in_nil entry in')
laid_out_from first (x ∷ xs) entry in' = by (cons_cases (first, x) (laid_out (first + 1) xs) entry in') (laid_out_from (first + 1) xs entry)
  where
    by : (◌≡◌ {A = ℕ × Meaning} (first, x) entry) ⊎ Contains (laid_out (first + 1) xs) entry → (Contains (laid_out (first + 1) xs) entry → Contains xs entry.1 × (first + 1 ≤ entry.0) × (entry.0 < first + 1 + length xs)) →
        Contains (x ∷ xs) entry.1 × (first ≤ entry.0) × (entry.0 < first + suc (length xs))
    by (inl is) later = let var : first ≡ entry.0 = ap (λ (y : ℕ × Meaning). y.0) is in (here_first x xs entry.1 (ap (λ (y : ℕ × Meaning). y.1) is), omega arith, omega arith)
    by (inr rest) later = let found = later rest in (here_later x xs entry.1 found.0, omega (arith, found.1), omega (arith, found.2))

pub laid_out_has : (first : ℕ) (xs : List Meaning) (k : ℕ) (x : Meaning) → slice_get xs k ≡ Some x → Contains (laid_out first xs) (first + k, x)
laid_out_has first [] k x h = cc
laid_out_has first (y ∷ xs) zero x h =
    let is : y ≡ x = cc in
    let same : first ≡ first + 0 = omega arith in
    here_first (first, y) (laid_out (first + 1) xs) (first + 0, x) (λ i. (same i, is i))
laid_out_has first (y ∷ xs) (suc k) x h =
    let rest = laid_out_has (first + 1) xs k x h in
    let same : first + 1 + k ≡ first + suc k = omega arith in
    here_later (first, y) (laid_out (first + 1) xs) (first + suc k, x) (subst (λ v. Contains (laid_out (first + 1) xs) (v, x)) same rest)

laid_out_in : (first : ℕ) (xs : List Meaning) (x : Meaning) → Contains xs x → (var : ℕ) × Contains (laid_out first xs) (var, x)
laid_out_in first [] x in' = absurd (none_in_nil x in')
laid_out_in first (y ∷ xs) x in' = by (cons_cases y xs x in') (laid_out_in (first + 1) xs x)
  where
    by : (y ≡ x) ⊎ Contains xs x → (Contains xs x → (var : ℕ) × Contains (laid_out (first + 1) xs) (var, x)) → (var : ℕ) × Contains ((first, y) ∷ laid_out (first + 1) xs) (var, x)
    by (inl is) later = (first, here_first (first, y) (laid_out (first + 1) xs) (first, x) (λ i. (first, is i)))
    by (inr rest) later = let found = later rest in (found.0, here_later (first, y) (laid_out (first + 1) xs) (found.0, x) found.1)

pub meanings_begin : MeaningsBegin
meanings_begin net n first = record {
  once = laid_once first (first_meanings net) (first_meanings_are_all net n).once;
  below = all_from (λ (entry : ℕ × Meaning). entry.0 < first + length (first_meanings net)) (laid_out first (first_meanings net)) (λ entry in'. (laid_out_from first (first_meanings net) entry in').2);
  exact = λ meaning. (
    λ h. laid_out_in first (first_meanings net) meaning (((first_meanings_are_all net n).all meaning).0 h),
    λ h. ((first_meanings_are_all net n).all meaning).1 (laid_out_from first (first_meanings net) (h.0, meaning) h.1).0,
  );
}

pub log_meanings_grow : LogMeaningsGrow
log_meanings_grow net log n first addition names are = record { once = once; below = below; exact = λ meaning. (to meaning, λ h. from meaning h.0 h.1) }
  where
    laws : BringsNewMeanings net log n addition
    laws = meanings_are_new net log n addition

    once : HasEachOnce (names ++ laid_out first (added_meanings net log n addition))
    once = pairs_append (λ a b. (a.0 ≢ b.0) × (a.1 ≢ b.1)) names (laid_out first (added_meanings net log n addition)) are.once (laid_once first (added_meanings net log n addition) laws.once) (λ a b in' in2.
        let below' = all_at (λ (entry : ℕ × Meaning). entry.0 < first) names are.below a in' in
        let found = laid_out_from first (added_meanings net log n addition) b in2 in
        let above = found.1 in (
          λ same. omega (arith, below', above, same),
          λ same. laws.fresh b.1 found.0 (subst (IsLogMeaning net log n) same ((are.exact a.1).1 (a.0, in'))),
        ))

    below : AllByRecursion (λ (entry : ℕ × Meaning). entry.0 < first + length (added_meanings net log n addition)) (names ++ laid_out first (added_meanings net log n addition))
    below = all_from (λ (entry : ℕ × Meaning). entry.0 < first + length (added_meanings net log n addition)) (names ++ laid_out first (added_meanings net log n addition)) (λ entry in'. by entry (Contains-append_cases names (laid_out first (added_meanings net log n addition)) entry in'))
      where
        by : (entry : ℕ × Meaning) → Contains names entry ⊎ Contains (laid_out first (added_meanings net log n addition)) entry → entry.0 < first + length (added_meanings net log n addition)
        by entry (inl old) = let low = all_at (λ (x : ℕ × Meaning). x.0 < first) names are.below entry old in omega (arith, low)
        by entry (inr fresh) = (laid_out_from first (added_meanings net log n addition) entry fresh).2

    to : (meaning : Meaning) → IsLogMeaning net (with_addition log addition) n meaning → (var : ℕ) × Contains (names ++ laid_out first (added_meanings net log n addition)) (var, meaning)
    to meaning h = by ((laws.all meaning).0 h)
      where
        by : IsLogMeaning net log n meaning ⊎ Contains (added_meanings net log n addition) meaning → (var : ℕ) × Contains (names ++ laid_out first (added_meanings net log n addition)) (var, meaning)
        by (inl old) = let found = (are.exact meaning).0 old in (found.0, Contains-append_left names (laid_out first (added_meanings net log n addition)) (found.0, meaning) found.1)
        by (inr fresh) = let found = laid_out_in first (added_meanings net log n addition) meaning fresh in (found.0, Contains-append_right names (laid_out first (added_meanings net log n addition)) (found.0, meaning) found.1)

    from : (meaning : Meaning) (var : ℕ) → Contains (names ++ laid_out first (added_meanings net log n addition)) (var, meaning) → IsLogMeaning net (with_addition log addition) n meaning
    from meaning var in' = by (Contains-append_cases names (laid_out first (added_meanings net log n addition)) (var, meaning) in')
      where
        by : Contains names (var, meaning) ⊎ Contains (laid_out first (added_meanings net log n addition)) (var, meaning) → IsLogMeaning net (with_addition log addition) n meaning
        by (inl old) = (laws.all meaning).1 (inl ((are.exact meaning).1 (var, old)))
        by (inr fresh) = (laws.all meaning).1 (inr (laid_out_from first (added_meanings net log n addition) (var, meaning) fresh).0)

-- places in lists in a row
pub flat_get : (f : ℕ → List Meaning) (xs : List ℕ) (c p x j : ℕ) → ((y : ℕ) → length (f y) ≡ c) → slice_get xs p ≡ Some x → j < c → slice_get (flat_map f xs) (p * c + j) ≡ slice_get (f x) j
flat_get f [] c p x j size is less = cc
flat_get f (y ∷ xs) c zero x j size is less =
    let same : y ≡ x = cc in
    let place : 0 * c + j ≡ j = omega arith in
    let long = size y in
    ap (slice_get (f y ++ flat_map f xs)) place ∙ get_same (f y) (flat_map f xs) j (omega (arith, long)) ∙ ap (λ z. slice_get (f z) j) same
flat_get f (y ∷ xs) c (suc p) x j size is less =
    let long = size y in
    let place : suc p * c + j ≡ length (f y) + (p * c + j) = omega (arith, long) in
    ap (slice_get (f y ++ flat_map f xs)) place ∙ get_past (f y) (flat_map f xs) (p * c + j) ∙ flat_get f xs c p x j size is less

range_get : (a m t : ℕ) → t < m → slice_get (range_with_len a m) t ≡ Some (a + t)
range_get a zero t h = absurd (omega arith)
range_get a (suc m) zero h = let same : a ≡ a + 0 = omega arith in ap Some same
range_get a (suc m) (suc t) h = let same : (a + 1) + t ≡ a + suc t = omega arith in range_get (a + 1) m t (omega arith) ∙ ap Some same

pub number_get : (m t : ℕ) → t < m → slice_get (numbers_below m) t ≡ Some t
number_get m t h = let same : 0 + t ≡ t = omega arith in range_get 0 m t h ∙ ap Some same

pub link_size : (n i e k : ℕ) → length (link_meanings n i e k) ≡ 1 + n * 2
link_size n i e k =
    let flat = flat_length (λ t. matches i e (suc t) ∷ unmatched e (suc k) (suc t) ∷ []) (numbers_below n) 2 (λ t. refl) in
    let range = length-range_with_len 0 n in
    omega (arith, flat, range)

step_get : (n i e k t j : ℕ) → t < n → j < 2 → slice_get (link_meanings n i e k) (suc (t * 2 + j)) ≡ slice_get (matches i e (suc t) ∷ unmatched e (suc k) (suc t) ∷ []) j
step_get n i e k t j h less = flat_get (λ s. matches i e (suc s) ∷ unmatched e (suc k) (suc s) ∷ []) (numbers_below n) 2 t t j (λ s. refl) (number_get n t h) less

module _ (net : Net) (log : Log) (n first : ℕ) (new : Alarm) (names : List (ℕ × Meaning)) (are : AreLogMeanings net log n first names) where
  -- how long the chains over its matches are, and these
  abbrev links : ℕ
  links = chain_count (length (taken_events net log new))

  abbrev chains : List Meaning
  chains = match_chains n (length log.alarms) (length (taken_events net log new))

  abbrev falses : List Meaning
  falses = false_meanings new.doubtful (length log.alarms)

  at : (k : ℕ) (meaning : Meaning) → slice_get (added_meanings net log n (alarm_added new)) k ≡ Some meaning → meaning_of (names ++ laid_out first (added_meanings net log n (alarm_added new))) (first + k) ≡ Some meaning
  at k meaning is =
      has_name (names ++ laid_out first (added_meanings net log n (alarm_added new))) (first + k, meaning) (log_meanings_grow net log n first (alarm_added new) names are).once
      (Contains-append_right names (laid_out first (added_meanings net log n (alarm_added new))) (first + k, meaning) (laid_out_has first (added_meanings net log n (alarm_added new)) k meaning is))

  old_link_at : (p e j : ℕ) → slice_get (taken_events net log new) p ≡ Some e → j < 1 + n * 2 →
      slice_get (alarm_meanings net log n new) (p * (1 + n * 2) + j) ≡ slice_get (link_meanings n (length log.alarms) e (length (chain net log e))) j
  old_link_at p e j is less =
      get_same (flat_map (λ f. link_meanings n (length log.alarms) f (length (chain net log f))) (taken_events net log new)) (map (λ t. done (length log.alarms) t) (numbers_below (suc n))) (p * (1 + n * 2) + j) inside
      ∙ flat_get (λ f. link_meanings n (length log.alarms) f (length (chain net log f))) (taken_events net log new) (1 + n * 2) p e j (λ f. link_size n (length log.alarms) f (length (chain net log f))) is less
    where
      place : (q m c : ℕ) → q < m → j < c → q * c + j < m * c
      place q zero c h k = absurd (omega arith)
      place zero (suc m) c h k = omega arith
      place (suc q) (suc m) c h k = let rest = place q m c (omega arith) k in omega (arith, rest)

      inside : p * (1 + n * 2) + j < length (flat_map (λ f. link_meanings n (length log.alarms) f (length (chain net log f))) (taken_events net log new))
      inside =
          let whole = flat_length (λ f. link_meanings n (length log.alarms) f (length (chain net log f))) (taken_events net log new) (1 + n * 2) (λ f. link_size n (length log.alarms) f (length (chain net log f))) in
          let low = place p (length (taken_events net log new)) (1 + n * 2) (slice_get_within (taken_events net log new) p e is) less in
          subst (λ m. p * (1 + n * 2) + j < m) (sym whole) low

  old_done_at : (t : ℕ) → t ≤ n → slice_get (alarm_meanings net log n new) (length (taken_events net log new) * (1 + n * 2) + t) ≡ Some (done (length log.alarms) t)
  old_done_at t h =
      let whole = flat_length (λ f. link_meanings n (length log.alarms) f (length (chain net log f))) (taken_events net log new) (1 + n * 2) (λ f. link_size n (length log.alarms) f (length (chain net log f))) in
      let place = ap (λ m. m + t) (sym whole) in
      ap (slice_get (alarm_meanings net log n new)) place
      ∙ get_past (flat_map (λ f. link_meanings n (length log.alarms) f (length (chain net log f))) (taken_events net log new)) (map (λ s. done (length log.alarms) s) (numbers_below (suc n))) t
      ∙ slice_get-map (λ s. done (length log.alarms) s) (numbers_below (suc n)) t
      ∙ ap (option_map (λ s. done (length log.alarms) s)) (number_get (suc n) t (omega arith))

  -- what stands among the names that each alarm has
  further : (k : ℕ) (meaning : Meaning) → slice_get (alarm_meanings net log n new) k ≡ Some meaning → slice_get (added_meanings net log n (alarm_added new)) k ≡ Some meaning
  further k meaning is = get_same (alarm_meanings net log n new) (chains ++ falses) k (slice_get_within (alarm_meanings net log n new) k meaning is) ∙ is

  link_at : (p e j : ℕ) (meaning : Meaning) → slice_get (taken_events net log new) p ≡ Some e → j < 1 + n * 2 → slice_get (link_meanings n (length log.alarms) e (length (chain net log e))) j ≡ Some meaning →
      slice_get (added_meanings net log n (alarm_added new)) (p * (1 + n * 2) + j) ≡ Some meaning
  link_at p e j meaning is less there = further (p * (1 + n * 2) + j) meaning (old_link_at p e j is less ∙ there)

  done_at : (t : ℕ) → t ≤ n → slice_get (added_meanings net log n (alarm_added new)) (length (taken_events net log new) * (1 + n * 2) + t) ≡ Some (done (length log.alarms) t)
  done_at t h = further (length (taken_events net log new) * (1 + n * 2) + t) (done (length log.alarms) t) (old_done_at t h)

  names_long : length (alarm_meanings net log n new) ≡ length (taken_events net log new) * (1 + n * 2) + suc n
  names_long =
      let all = flat_length (λ f. link_meanings n (length log.alarms) f (length (chain net log f))) (taken_events net log new) (1 + n * 2) (λ f. link_size n (length log.alarms) f (length (chain net log f))) in
      let dones = length-map (numbers_below (suc n)) (λ t. done (length log.alarms) t) ∙ length-range_with_len 0 (suc n) in
      let whole = length-append (flat_map (λ f. link_meanings n (length log.alarms) f (length (chain net log f))) (taken_events net log new)) (map (λ t. done (length log.alarms) t) (numbers_below (suc n))) in
      omega (arith, all, dones, whole)

  chain_long : (t : ℕ) → length (chain_meanings (of_matches (length log.alarms) (suc t)) (length (taken_events net log new))) ≡ links
  chain_long t = length-map (numbers_below links) (λ k. some_of_first (of_matches (length log.alarms) (suc t)) (suc k)) ∙ length-range_with_len 0 links

  chains_long : length chains ≡ n * links
  chains_long =
      flat_length (λ t. chain_meanings (of_matches (length log.alarms) (suc t)) (length (taken_events net log new))) (numbers_below n) links chain_long ∙ ap (λ k. k * links) (length-range_with_len 0 n)

  chain_at : (t k : ℕ) → t < n → k < links → slice_get (added_meanings net log n (alarm_added new)) (length (taken_events net log new) * (1 + n * 2) + (suc n + t * links) + k) ≡ Some (some_of_first (of_matches (length log.alarms) (suc t)) (suc k))
  chain_at t k step below =
      let place : length (taken_events net log new) * (1 + n * 2) + (suc n + t * links) + k ≡ length (alarm_meanings net log n new) + (t * links + k) = omega (arith, names_long) in
      let inside = within t n links k step below in
      ap (slice_get (added_meanings net log n (alarm_added new))) place
      ∙ get_past (alarm_meanings net log n new) (chains ++ falses) (t * links + k)
      ∙ get_same chains falses (t * links + k) (omega (arith, inside, chains_long))
      ∙ flat_get (λ s. chain_meanings (of_matches (length log.alarms) (suc s)) (length (taken_events net log new))) (numbers_below n) links t t k chain_long (number_get n t step) below
      ∙ slice_get-map (λ j. some_of_first (of_matches (length log.alarms) (suc t)) (suc j)) (numbers_below links) k
      ∙ ap (option_map (λ j. some_of_first (of_matches (length log.alarms) (suc t)) (suc j))) (number_get links k below)
    where
      within : (q m c j : ℕ) → q < m → j < c → q * c + j < m * c
      within q zero c j h l = absurd (omega (arith, h))
      within zero (suc m) c j h l = omega (arith, l)
      within (suc q) (suc m) c j h l = let rest = within q m c j (omega (arith, h)) l in omega (arith, rest)

  false_at : new.doubtful ≡ true → slice_get (added_meanings net log n (alarm_added new)) (length (taken_events net log new) * (1 + n * 2) + (suc n + n * links)) ≡ Some (dropped (length log.alarms))
  false_at doubtful =
      let place : length (taken_events net log new) * (1 + n * 2) + (suc n + n * links) ≡ length (alarm_meanings net log n new) + (length chains + 0) = omega (arith, names_long, chains_long) in
      ap (slice_get (added_meanings net log n (alarm_added new))) place
      ∙ get_past (alarm_meanings net log n new) (chains ++ falses) (length chains + 0)
      ∙ get_past chains falses 0
      ∙ ap (λ b. slice_get (false_meanings b (length log.alarms)) 0) doubtful

pub places_of_meanings : PlacesOfMeanings
places_of_meanings net log n first new names are = record {
  closing = closed_at;
  matching = λ p e t is h. matches_at p e is t h;
  passing = λ p e t is h. unmatched_at p e is t h;
  being_done = λ t h. at net log n first new names are (length (taken_events net log new) * (1 + n * 2) + t) (done (length log.alarms) t) (done_at net log n first new names are t h);
  chaining = λ t step k below. chained_at t step k below;
  being_false = λ h. at net log n first new names are (length (taken_events net log new) * (1 + n * 2) + (suc n + n * chain_count (length (taken_events net log new)))) (dropped (length log.alarms)) (false_at net log n first new names are h);
}
  where
    chained_at : (t : ℕ) → t < n → (k : ℕ) → k < chain_count (length (taken_events net log new)) →
        meaning_of (names ++ laid_out first (added_meanings net log n (alarm_added new))) (first + (length (taken_events net log new) * (1 + n * 2) + (suc n + t * chain_count (length (taken_events net log new)))) + k) ≡ Some (some_of_first (of_matches (length log.alarms) (suc t)) (suc k))
    chained_at t step k below =
        let same : first + (length (taken_events net log new) * (1 + n * 2) + (suc n + t * chain_count (length (taken_events net log new))) + k) ≡ first + (length (taken_events net log new) * (1 + n * 2) + (suc n + t * chain_count (length (taken_events net log new)))) + k = omega arith in
        subst (λ v. meaning_of (names ++ laid_out first (added_meanings net log n (alarm_added new))) v ≡ Some (some_of_first (of_matches (length log.alarms) (suc t)) (suc k))) same
        (at net log n first new names are (length (taken_events net log new) * (1 + n * 2) + (suc n + t * chain_count (length (taken_events net log new))) + k) (some_of_first (of_matches (length log.alarms) (suc t)) (suc k))
        (chain_at net log n first new names are t k step below))

    closed_at : (p e : ℕ) → slice_get (taken_events net log new) p ≡ Some e →
        meaning_of (names ++ laid_out first (added_meanings net log n (alarm_added new))) (first + p * (1 + n * 2)) ≡ Some (closed e (suc (length (chain net log e))))
    closed_at p e is =
        let same : p * (1 + n * 2) + 0 ≡ p * (1 + n * 2) = omega arith in
        subst (λ k. meaning_of (names ++ laid_out first (added_meanings net log n (alarm_added new))) (first + k) ≡ Some (closed e (suc (length (chain net log e))))) same
        (at net log n first new names are (p * (1 + n * 2) + 0) (closed e (suc (length (chain net log e)))) (link_at net log n first new names are p e 0 (closed e (suc (length (chain net log e)))) is (omega arith) refl))

    matches_at : (p e : ℕ) → slice_get (taken_events net log new) p ≡ Some e → (t : ℕ) → t < n →
        meaning_of (names ++ laid_out first (added_meanings net log n (alarm_added new))) (first + (p * (1 + n * 2) + suc (t * 2))) ≡ Some (matches (length log.alarms) e (suc t))
    matches_at p e is t h =
        let same : suc (t * 2) ≡ suc (t * 2 + 0) = omega arith in
        at net log n first new names are (p * (1 + n * 2) + suc (t * 2)) (matches (length log.alarms) e (suc t))
        (link_at net log n first new names are p e (suc (t * 2)) (matches (length log.alarms) e (suc t)) is (omega arith)
        (ap (slice_get (link_meanings n (length log.alarms) e (length (chain net log e)))) same ∙ step_get n (length log.alarms) e (length (chain net log e)) t 0 h (omega arith)))

    unmatched_at : (p e : ℕ) → slice_get (taken_events net log new) p ≡ Some e → (t : ℕ) → t < n →
        meaning_of (names ++ laid_out first (added_meanings net log n (alarm_added new))) (first + (p * (1 + n * 2) + suc (t * 2 + 1))) ≡ Some (unmatched e (suc (length (chain net log e))) (suc t))
    unmatched_at p e is t h =
        at net log n first new names are (p * (1 + n * 2) + suc (t * 2 + 1)) (unmatched e (suc (length (chain net log e))) (suc t))
        (link_at net log n first new names are p e (suc (t * 2 + 1)) (unmatched e (suc (length (chain net log e))) (suc t)) is (omega arith) (step_get n (length log.alarms) e (length (chain net log e)) t 1 h (omega arith)))

pub ordered_literal : (names : List (ℕ × Meaning)) (l : Lit) (m : NamedLiteral) → meaning_of names l.var ≡ Some m.meaning → l.positive ≡ m.positive → named_literal names l ≡ Some m
ordered_literal names l m h sign = rw h (λ i. Some (record { meaning = m.meaning; positive = sign i }))

pub ordered_names : (names : List (ℕ × Meaning)) (clause : Clause) (named : List NamedLiteral) → ReadsInOrder names clause named → named_clause names clause ≡ Some named
ordered_names names [] [] z = refl
ordered_names names [] (m ∷ ms) z = absurd z
ordered_names names (l ∷ ls) [] z = absurd z
ordered_names names (l ∷ ls) (m ∷ ms) z = rw (ordered_literal names l m z.0.0 z.0.1, ordered_names names ls ms z.1) refl

pub ordered_reads : OrderedReads
ordered_reads names clause named zip = record { read = named; by_name = ordered_names names clause named zip; same = λ x. (λ h. h, λ h. h) }
