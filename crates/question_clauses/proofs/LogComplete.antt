-- A linearisation has a value for the names of its log.
use Rattle.std.proofs.Common.{◌≡◌, ◌≢◌, ℕ, zero, suc, ◌+◌, ◌<◌, Bool, true, false, List, [], ◌∷◌, ◌++◌, ◌∙◌, length, refl, sym, ap, subst, arith, Contains, map, flat_map, filter, is_some, not, inl, inr, ◌⊎◌, ◌||◌, ◌&&◌, ◌==◌, take, drop, get_or, IsTrue, take_all}
use Rattle.std.specs.List.{AllByRecursion, AllZip, list_any}
use Rattle.std.proofs.lemmas.Bool.{eqb-true, eq-eqb, or_right}
use Rattle.std.proofs.lemmas.List.{length-map}
use Rattle.card_counter.proofs.Exclusions.{chains_hold}
use Rattle.card_counter.specs.Exclusions.{AtMostOneOf}
use Rattle.des_base.proofs.BoolLemmas.{otherwise, or_left, both, join, clash}
use Rattle.des_base.proofs.Elements.{pair_at, none_in_nil, all_from, filter_has, filter_from, pairs_filter, any_has, has_any}
use Rattle.des_base.proofs.NumbersBelow.{range_once}
use Rattle.des_base.specs.Lists.{EachPair, numbers_below}
use Rattle.des_net.specs.Network.{Net, label_of}
use Rattle.des_net.specs.Width.{joined}
use Rattle.question_clauses.proofs.Lists.{all_at, unmapped_at}
use Rattle.question_clauses.proofs.Pieces.{IsStepSet, AreFrom, piece_is, pieces_are_steps}
use Rattle.question_clauses.proofs.LogRules.{or_false_is, shown_matches, shown_event, in_chain, has_event}
use Rattle.question_clauses.proofs.Entries.{real_in, real_once, entry_in, real_has, real_from, one_entry, dropped_has, dropped_from, has_false}
use Rattle.question_clauses.specs.LogClauses.{chain, LogClause, log_clause, IsLogClause, chain_closed, takes_rest, uses_up, passes_on, taken_or_passed, not_done_first, stays_done, match_is_done, matched_once, match_is_real, done_by_match, one_match, done_if_asked, before_if_asked, matching_events, match_inputs}
use Rattle.question_clauses.specs.Decoded.{is_false_alarm}
use Rattle.question_clauses.specs.LogLaws.{HasFalse, LogIsComplete}
use Rattle.question_clauses.specs.LogTruth.{LogClausesHold, GuardsHold, DifferInLog}
use Rattle.log_order.specs.Log.{Log, is_doubtful, place_in}
use Rattle.prop_core.proofs.Premises.{implies, two_negations}
use Rattle.prop_core.specs.NamedClauses.{named_true, named_clause_true}
use Rattle.prop_core.specs.VariableNames.{Meaning, yes, in_state, happens, asked, matches, done, unmatched, closed, dropped, reaches, some_of_first, of_states, of_events, of_matches, remaining}
use Rattle.replay.specs.Explanation.{Entry, alarms_of, real_alarms, may_stand, observables, Shows, Linearises, is_matching}
use Rattle.question_clauses.proofs.StepLemmas.{found, among, mapped}
use Rattle.question_clauses.proofs.Fronts.{take_has, take_grows, take_last, take_not, apart_append, once_left, block_once, next_front, front_and_rest, place_inside, inside_place}
use Rattle.question_clauses.proofs.Blocks.{cut_order, blocks_length, block_at, block_alarms, joined_alarms, block_has, paired, partner, partner_back, paired_in, same_alarm, same_event}
use Rattle.std.proofs.lemmas.List.Elements.{Contains-append_cases, Contains-append_left, Contains-append_right}
use Rattle.question_clauses.proofs.CodedTruth.{alarm_stands_for, coded_truth}

-- what stands in a list that was changed element by element
c_one_of : (a b c : Bool) → (a ≡ true → (b ≡ true) ⊎ (c ≡ true)) → not a || (b || (c || false)) ≡ true
c_one_of true true c h = refl
c_one_of true false true h = refl
c_one_of true false false h = by (h refl)
  where
    by : (false ≡ true) ⊎ (false ≡ true) → not true || (false || (false || false)) ≡ true
    by (inl x) = x
    by (inr x) = x
c_one_of false b c h = refl

c_either : (a b c : Bool) → (a ≡ true → (b ≡ true) ⊎ (c ≡ true)) → not a || (b || c) ≡ true
c_either true b c h = by (h refl)
  where
    by : (b ≡ true) ⊎ (c ≡ true) → b || c ≡ true
    by (inl x) = or_left b c x
    by (inr x) = or_right b c x
c_either false b c h = refl

pub chain_once : (net : Net) (log : Log) (e : ℕ) → EachPair (λ x y. x ≢ y) (chain net log e)
chain_once net log e = pairs_filter (λ x y. x ≢ y) (is_matching net log e) (numbers_below (length log.alarms)) (range_once 0 (length log.alarms))

module _ (net : Net) (log : Log) (value : Meaning → Bool) (pieces : List (List ℕ)) (are : AreFrom net value 0 pieces)
    (before : List Entry) (blocks : List (List Entry)) (none : real_alarms before ≡ [])
    (matched : AllZip (λ piece block. AllZip (Shows net log) (observables net piece) (real_alarms block)) pieces blocks)
    (doubted : (entry : Entry) → Contains (flat_map (λ block. block) (before ∷ blocks)) entry → may_stand log entry ≡ true)
    (once : EachPair (λ i j. i ≢ j) (joined (map alarms_of (before ∷ blocks)))) (each : (i : ℕ) → i < length log.alarms → Contains (joined (map alarms_of (before ∷ blocks))) i)
    (kept : (i j : ℕ) → Contains log.pairs (i, j) → place_in (joined (map alarms_of (before ∷ blocks))) i < place_in (joined (map alarms_of (before ∷ blocks))) j) where
  abbrev truth : Meaning → Bool
  truth = coded_truth net log pieces (before ∷ blocks) value

  abbrev steps : List (List ℕ)
  steps = map alarms_of (before ∷ blocks)

  abbrev seen : ℕ → List ℕ
  seen t = observables net (get_or pieces t [])

  abbrev reals : ℕ → List ℕ
  reals t = real_alarms (get_or blocks t [])

  zipped : (t : ℕ) → t < length pieces → AllZip (Shows net log) (seen t) (reals t)
  zipped t h = block_at (λ piece block. AllZip (Shows net log) (observables net piece) (real_alarms block)) pieces blocks t matched h

  same_length : length pieces ≡ length blocks
  same_length = blocks_length (λ piece block. AllZip (Shows net log) (observables net piece) (real_alarms block)) pieces blocks matched

  piece : (t : ℕ) → t < length pieces → IsStepSet net value t (get_or pieces t [])
  piece t h = let same : 0 + t ≡ t = omega arith in subst (λ r. IsStepSet net value r (get_or pieces t [])) same (piece_is net value 0 t pieces are h)

  shown_once : (t : ℕ) → t < length pieces → EachPair (λ e f. e ≢ f) (seen t)
  shown_once t h = pairs_filter (λ e f. e ≢ f) (λ e. is_some (label_of net e)) (get_or pieces t []) (piece t h).once

  stands_match : (i e t : ℕ) → t < length pieces → alarm_stands_for net pieces (before ∷ blocks) i e (suc t) ≡ true → is_matching net log e i ≡ true
  stands_match i e t h is = shown_matches net log e i (paired (Shows net log) e i (seen t) (reals t) (zipped t h) is).0

  stands_happens : (i e t : ℕ) → t < length pieces → alarm_stands_for net pieces (before ∷ blocks) i e (suc t) ≡ true → value (happens e (suc t)) ≡ true
  stands_happens i e t h is =
      let inside = (paired_in e i (seen t) (reals t) is).0 in
      (((piece t h).exact e).0 (filter_from (λ f. is_some (label_of net f)) (get_or pieces t []) e inside).1).1

  someone : (e t : ℕ) → t < length pieces → is_some (label_of net e) ≡ true → value (happens e (suc t)) ≡ true → (i : ℕ) × (alarm_stands_for net pieces (before ∷ blocks) i e (suc t) ≡ true)
  someone e t h shown is =
      partner (Shows net log) e (seen t) (reals t) (zipped t h) (filter_has (λ f. is_some (label_of net f)) (get_or pieces t []) e shown (((piece t h).exact e).1 (shown_event net e shown, is)))

  -- no alarm before place k of the chain stands for the event
  rest_value : (e k t : ℕ) → coded_truth net log pieces (before ∷ blocks) value (remaining e k t) ≡ value (happens e t) && not (list_any (λ i. alarm_stands_for net pieces (before ∷ blocks) i e t) (take k (chain net log e)))
  rest_value e zero t = and_not_false (value (happens e t))
    where
      and_not_false : (b : Bool) → b ≡ b && true
      and_not_false true = refl
      and_not_false false = refl
  rest_value e (suc k) t = refl

  rest_from : (e k t : ℕ) → coded_truth net log pieces (before ∷ blocks) value (remaining e k t) ≡ true → (value (happens e t) ≡ true) × ((i : ℕ) → Contains (take k (chain net log e)) i → alarm_stands_for net pieces (before ∷ blocks) i e t ≡ true → ⊥)
  rest_from e k t h =
      let parts = both (value (happens e t)) (not (list_any (λ i. alarm_stands_for net pieces (before ∷ blocks) i e t) (take k (chain net log e)))) (sym (rest_value e k t) ∙ h) in
      (parts.0, λ i in' is. contra (list_any (λ j. alarm_stands_for net pieces (before ∷ blocks) j e t) (take k (chain net log e))) (has_any (λ j. alarm_stands_for net pieces (before ∷ blocks) j e t) (take k (chain net log e)) i in' is) parts.1)
    where
      contra : (b : Bool) → b ≡ true → not b ≡ true → ⊥
      contra true x y = cc
      contra false x y = cc

  rest_to : (e k t : ℕ) → value (happens e t) ≡ true → ((i : ℕ) → Contains (take k (chain net log e)) i → alarm_stands_for net pieces (before ∷ blocks) i e t ≡ true → ⊥) → coded_truth net log pieces (before ∷ blocks) value (remaining e k t) ≡ true
  rest_to e k t is none =
      rest_value e k t ∙ join (value (happens e t)) (not (list_any (λ i. alarm_stands_for net pieces (before ∷ blocks) i e t) (take k (chain net log e)))) is
      (ap not (otherwise (list_any (λ i. alarm_stands_for net pieces (before ∷ blocks) i e t) (take k (chain net log e)))
      (λ h. let found' = any_has (λ i. alarm_stands_for net pieces (before ∷ blocks) i e t) (take k (chain net log e)) h in none found'.0 found'.1 found'.2)))

  done_to : (i t : ℕ) → Contains (joined (take (suc t) steps)) i → truth (done i t) ≡ true
  done_to i t in' = found i (joined (take (suc t) steps)) in'

  done_from : (i t : ℕ) → truth (done i t) ≡ true → Contains (joined (take (suc t) steps)) i
  done_from i t h = among i (joined (take (suc t) steps)) h

  step_count : length steps ≡ suc (length pieces)
  step_count = ap suc (length-map blocks alarms_of ∙ sym same_length)

  next : (t : ℕ) → t < length pieces → joined (take (suc (suc t)) steps) ≡ joined (take (suc t) steps) ++ alarms_of (get_or blocks t [])
  next t h = next_front steps (suc t) (omega (arith, step_count)) ∙ ap (λ xs. joined (take (suc t) steps) ++ xs) (block_alarms blocks t)

  front_once : (t : ℕ) → EachPair (λ i j. i ≢ j) (joined (take (suc t) steps))
  front_once t = once_left (joined (take (suc t) steps)) (joined (drop (suc t) steps)) (subst (λ xs. EachPair (λ i j. i ≢ j) xs) (front_and_rest steps (suc t)) once)

  reals_once : (t : ℕ) → EachPair (λ i j. i ≢ j) (reals t)
  reals_once t = real_once (get_or blocks t []) (subst (λ xs. EachPair (λ i j. i ≢ j) xs) (block_alarms blocks t) (block_once steps (suc t) once))

  all_once : EachPair (λ i j. i ≢ j) (alarms_of (flat_map (λ block. block) (before ∷ blocks)))
  all_once = subst (λ xs. EachPair (λ i j. i ≢ j) xs) (sym (joined_alarms (before ∷ blocks))) once

  -- an entry says whether its alarm is false
  told : (entry : Entry) → Contains (flat_map (λ block. block) (before ∷ blocks)) entry → entry.real ≡ not (is_false_alarm log truth entry.alarm)
  told entry in' = by entry.real refl (doubted entry in') (is_doubtful log entry.alarm) refl
    where
      by : (b : Bool) → entry.real ≡ b → entry.real || is_doubtful log entry.alarm ≡ true → (d : Bool) → is_doubtful log entry.alarm ≡ d → entry.real ≡ not (is_doubtful log entry.alarm && truth (dropped entry.alarm))
      by true e may true f = rw (e, f) (sym (ap not (otherwise (truth (dropped entry.alarm)) other)))
        where
          other : truth (dropped entry.alarm) ≡ true → ⊥
          other h =
              let twin = dropped_from (flat_map (λ block. block) (before ∷ blocks)) entry.alarm h in
              clash entry.real e (one_entry (flat_map (λ block. block) (before ∷ blocks)) entry twin.0 all_once in' twin.1 (sym twin.3) ∙ twin.2)
      by true e may false f = rw (e, f) refl
      by false e may true f = rw (e, f) (sym (ap not (dropped_has (flat_map (λ block. block) (before ∷ blocks)) entry in' e)))
      by false e may false f = let bad = rw (e, f) at may in cc

  false_by : (entry : Entry) → Contains (flat_map (λ block. block) (before ∷ blocks)) entry → entry.real ≡ false → is_false_alarm log truth entry.alarm ≡ true
  false_by entry in' e = flip (is_false_alarm log truth entry.alarm) (sym (told entry in') ∙ e)
    where
      flip : (b : Bool) → not b ≡ false → b ≡ true
      flip true k = refl
      flip false k = cc

  first_false : (i : ℕ) → Contains (joined (take 1 steps)) i → is_false_alarm log truth i ≡ true
  first_false i in' = by (Contains-append_cases (alarms_of before) [] i in')
    where
      by : Contains (alarms_of before) i ⊎ Contains [] i → is_false_alarm log truth i ≡ true
      by (inr rest) = absurd (none_in_nil i rest)
      by (inl here) =
          let found' = entry_in before i here in
          subst (λ j. is_false_alarm log truth j ≡ true) found'.2
          (false_by found'.0 (Contains-append_left before (flat_map (λ block. block) blocks) found'.0 found'.1)
          (otherwise found'.0.real (λ h. none_in_nil found'.0.alarm (subst (λ xs. Contains xs found'.0.alarm) none (real_has before found'.0 found'.1 h)))))

  -- an alarm that stands for an event isn't false
  stands_real : (i e t : ℕ) → alarm_stands_for net pieces (before ∷ blocks) i e (suc t) ≡ true → truth (dropped i) ≡ true → ⊥
  stands_real i e t is h =
      let here = real_from (get_or blocks t []) i (paired_in e i (seen t) (reals t) is).1 in
      let twin = dropped_from (flat_map (λ block. block) (before ∷ blocks)) i h in
      clash here.0.real here.2
      (one_entry (flat_map (λ block. block) (before ∷ blocks)) here.0 twin.0 all_once (Contains-append_right before (flat_map (λ block. block) blocks) here.0 (block_has blocks t here.0 here.1)) twin.1 (here.3 ∙ sym twin.3) ∙ twin.2)

  -- an alarm of a block is false, or stands for an event
  block_split : (i t : ℕ) → t < length pieces → Contains (alarms_of (get_or blocks t [])) i →
      (is_false_alarm log truth i ≡ true) ⊎ ((e : ℕ) × (is_matching net log e i ≡ true) × (alarm_stands_for net pieces (before ∷ blocks) i e (suc t) ≡ true))
  block_split i t h in' = let found' = entry_in (get_or blocks t []) i in' in by found'.0 found'.1 found'.2 found'.0.real refl
    where
      by : (entry : Entry) → Contains (get_or blocks t []) entry → entry.alarm ≡ i → (b : Bool) → entry.real ≡ b →
          (is_false_alarm log truth i ≡ true) ⊎ ((e : ℕ) × (is_matching net log e i ≡ true) × (alarm_stands_for net pieces (before ∷ blocks) i e (suc t) ≡ true))
      by entry here is true e =
          let event = partner_back (Shows net log) i (seen t) (reals t) (zipped t h) (subst (λ j. Contains (reals t) j) is (real_has (get_or blocks t []) entry here e)) in
          inr (event.0, stands_match i event.0 t h event.1, event.1)
      by entry here is false e = inl (subst (λ j. is_false_alarm log truth j ≡ true) is (false_by entry (Contains-append_right before (flat_map (λ block. block) blocks) entry (block_has blocks t entry here)) e))

  -- a front of the chain over its matches
  any_of_matches : (i t : ℕ) (es : List ℕ) (k : ℕ) → list_any truth (take k (map (λ e. matches i e (suc t)) es)) ≡ list_any (λ e. alarm_stands_for net pieces (before ∷ blocks) i e (suc t)) (take k es)
  any_of_matches i t [] zero = refl
  any_of_matches i t [] (suc k) = refl
  any_of_matches i t (e ∷ es) zero = refl
  any_of_matches i t (e ∷ es) (suc k) = ap (λ b. alarm_stands_for net pieces (before ∷ blocks) i e (suc t) || b) (any_of_matches i t es k)

  -- an alarm stands for one event of a step
  one_of_matches : (i t : ℕ) → AtMostOneOf truth (match_inputs net log i (suc t))
  one_of_matches i t a b x y less at_a at_b here there =
      let first = unmapped_at (λ e. matches i e (suc t)) (matching_events net log i) a x at_a in
      let second = unmapped_at (λ e. matches i e (suc t)) (matching_events net log i) b y at_b in
      pair_at (λ e f. e ≢ f) (matching_events net log i) a b first.0 second.0
      (pairs_filter (λ e f. e ≢ f) (λ e. is_matching net log e i) (numbers_below (length net.events)) (range_once 0 (length net.events))) less first.1 second.1
      (same_event first.0 second.0 i (seen t) (reals t) (reals_once t) (ap truth first.2 ∙ here) (ap truth second.2 ∙ there))

  clause_true : (which : LogClause) → IsLogClause net log (length pieces) which → named_clause_true (coded_truth net log pieces (before ∷ blocks) value) (log_clause net log (length pieces) which) ≡ true
  clause_true (chain_closed e k t) h =
      two_negations (k == length (chain net log e)) (coded_truth net log pieces (before ∷ blocks) value (remaining e k (suc t))) (λ shut is.
      let step : t < length pieces = h.2 in
      let open' = rest_from e k (suc t) is in
      let found' = someone e t step h.0 open'.0 in
      let all : take k (chain net log e) ≡ chain net log e = (let same = eqb-true k (length (chain net log e)) shut in take_all k (chain net log e) (omega (arith, same))) in
      open'.1 found'.0 (subst (λ xs. Contains xs found'.0) (sym all) (in_chain net log e found'.0 (stands_match found'.0 e t step found'.1))) found'.1)
  clause_true (takes_rest i e k t) h =
      implies (alarm_stands_for net pieces (before ∷ blocks) i e (suc t)) (coded_truth net log pieces (before ∷ blocks) value (remaining e k (suc t))) (λ is.
      let step : t < length pieces = h.1 in
      rest_to e k (suc t) (stands_happens i e t step is) (λ j in' other.
      let same = same_alarm e j i (seen t) (reals t) (shown_once t step) other is in
      take_not (chain net log e) k i (chain_once net log e) h.0 (subst (λ x. Contains (take k (chain net log e)) x) same in')))
  clause_true (uses_up i e k t) h =
      two_negations (alarm_stands_for net pieces (before ∷ blocks) i e (suc t)) (coded_truth net log pieces (before ∷ blocks) value (remaining e (suc k) (suc t))) (λ is rest.
      (rest_from e (suc k) (suc t) rest).1 i (take_has (chain net log e) k (suc k) i h.0 (omega arith)) is)
  clause_true (passes_on e k t) h =
      implies (coded_truth net log pieces (before ∷ blocks) value (remaining e (suc k) (suc t))) (coded_truth net log pieces (before ∷ blocks) value (remaining e k (suc t))) (λ rest.
      let open' = rest_from e (suc k) (suc t) rest in
      rest_to e k (suc t) open'.0 (λ i in' is. open'.1 i (take_grows (chain net log e) k i in') is))
  clause_true (taken_or_passed i e k t) h =
      c_one_of (coded_truth net log pieces (before ∷ blocks) value (remaining e k (suc t))) (alarm_stands_for net pieces (before ∷ blocks) i e (suc t)) (coded_truth net log pieces (before ∷ blocks) value (remaining e (suc k) (suc t))) (λ rest.
      let open' = rest_from e k (suc t) rest in by (alarm_stands_for net pieces (before ∷ blocks) i e (suc t)) refl open'.0 open'.1)
    where
      by : (b : Bool) → alarm_stands_for net pieces (before ∷ blocks) i e (suc t) ≡ b → value (happens e (suc t)) ≡ true → ((j : ℕ) → Contains (take k (chain net log e)) j → alarm_stands_for net pieces (before ∷ blocks) j e (suc t) ≡ true → ⊥) →
          (alarm_stands_for net pieces (before ∷ blocks) i e (suc t) ≡ true) ⊎ (coded_truth net log pieces (before ∷ blocks) value (remaining e (suc k) (suc t)) ≡ true)
      by true is there none = inl is
      by false is there none = inr (rest_to e (suc k) (suc t) there (λ j in' other. at j other (take_last (chain net log e) k j i h.0 in')))
        where
          at : (j : ℕ) → alarm_stands_for net pieces (before ∷ blocks) j e (suc t) ≡ true → Contains (take k (chain net log e)) j ⊎ (i ≡ j) → ⊥
          at j other (inl early) = none j early other
          at j other (inr same) = clash (alarm_stands_for net pieces (before ∷ blocks) j e (suc t)) other (subst (λ x. alarm_stands_for net pieces (before ∷ blocks) x e (suc t) ≡ false) same is)
  clause_true (not_done_first i) h =
      subst (λ b. not (truth (done i 0)) || b ≡ true) (sym (or_false_is log truth i []))
      (implies (truth (done i 0)) (is_false_alarm log truth i) (λ is. first_false i (done_from i 0 is)))
  clause_true (stays_done i t) h =
      implies (truth (done i t)) (truth (done i (suc t))) (λ is.
      done_to i (suc t) (subst (λ xs. Contains xs i) (sym (next t h.1)) (Contains-append_left (joined (take (suc t) steps)) (alarms_of (get_or blocks t [])) i (done_from i t is))))
  clause_true (match_is_done i e t) h =
      implies (alarm_stands_for net pieces (before ∷ blocks) i e (suc t)) (truth (done i (suc t))) (λ is.
      done_to i (suc t) (subst (λ xs. Contains xs i) (sym (next t h.1)) (Contains-append_right (joined (take (suc t) steps)) (alarms_of (get_or blocks t [])) i
      (real_in (get_or blocks t []) i (paired_in e i (seen t) (reals t) is).1))))
  clause_true (matched_once i e t) h =
      two_negations (alarm_stands_for net pieces (before ∷ blocks) i e (suc t)) (truth (done i t)) (λ is earlier.
      apart_append (joined (take (suc t) steps)) (alarms_of (get_or blocks t [])) i (subst (λ xs. EachPair (λ a b. a ≢ b) xs) (next t h.1) (front_once (suc t))) (done_from i t earlier)
      (real_in (get_or blocks t []) i (paired_in e i (seen t) (reals t) is).1))
  clause_true (match_is_real i e t) h =
      two_negations (alarm_stands_for net pieces (before ∷ blocks) i e (suc t)) (truth (dropped i)) (λ is other. stands_real i e t is other)
  clause_true (done_by_match i t) h =
      subst (λ b. not (truth (done i (suc t))) || (truth (done i t) || b) ≡ true) (sym (or_false_is log truth i (map (λ e. yes (matches i e (suc t))) (matching_events net log i))))
      (c_either (truth (done i (suc t))) (truth (done i t)) (is_false_alarm log truth i || list_any (named_true truth) (map (λ e. yes (matches i e (suc t))) (matching_events net log i))) (λ is.
      by (Contains-append_cases (joined (take (suc t) steps)) (alarms_of (get_or blocks t [])) i (subst (λ xs. Contains xs i) (next t h.1) (done_from i (suc t) is)))))
    where
      by : Contains (joined (take (suc t) steps)) i ⊎ Contains (alarms_of (get_or blocks t [])) i →
          (truth (done i t) ≡ true) ⊎ (is_false_alarm log truth i || list_any (named_true truth) (map (λ e. yes (matches i e (suc t))) (matching_events net log i)) ≡ true)
      by (inl early) = inl (done_to i t early)
      by (inr now) = inr (at (block_split i t h.1 now))
        where
          at : (is_false_alarm log truth i ≡ true) ⊎ ((e : ℕ) × (is_matching net log e i ≡ true) × (alarm_stands_for net pieces (before ∷ blocks) i e (suc t) ≡ true)) →
              is_false_alarm log truth i || list_any (named_true truth) (map (λ e. yes (matches i e (suc t))) (matching_events net log i)) ≡ true
          at (inl false') = or_left (is_false_alarm log truth i) (list_any (named_true truth) (map (λ e. yes (matches i e (suc t))) (matching_events net log i))) false'
          at (inr (e, matching, is)) =
              or_right (is_false_alarm log truth i) (list_any (named_true truth) (map (λ f. yes (matches i f (suc t))) (matching_events net log i)))
              (mapped truth (λ f. matches i f (suc t)) (matching_events net log i) e (has_event net log e i matching) is)
  clause_true (one_match i t which) h =
      chains_hold truth (of_matches i (suc t)) (match_inputs net log i (suc t)) (λ k. sym (any_of_matches i t (matching_events net log i) k)) (one_of_matches i t) which h.2
  clause_true (done_if_asked i) h =
      or_left (truth (done i (length pieces))) false
      (done_to i (length pieces) (subst (λ xs. Contains (joined xs) i) (sym (take_all (suc (length pieces)) steps (omega (arith, step_count)))) (each i h)))
  clause_true (before_if_asked i j t) h =
      implies (truth (done j t)) (truth (done i t)) (λ is.
      let whole = front_and_rest steps (suc t) in
      let less = subst (λ xs. place_in xs i < place_in xs j) whole (kept i j h.0) in
      let inside = place_inside (joined (take (suc t) steps)) (joined (drop (suc t) steps)) j (done_from j t is) in
      done_to i t (inside_place (joined (take (suc t) steps)) (joined (drop (suc t) steps)) i (omega (arith, less, inside))))

  guards_true : GuardsHold net log (coded_truth net log pieces (before ∷ blocks) value)
  guards_true = (refl, shut (filter (λ e. is_some (label_of net e)) (numbers_below (length net.events))))
    where
      shut : (es : List ℕ) → AllByRecursion (λ m. IsTrue (named_true (coded_truth net log pieces (before ∷ blocks) value) m)) (map (λ e. yes (closed e (length (chain net log e)))) es)
      shut [] = tt
      shut (e ∷ es) = (eq-eqb (length (chain net log e)) (length (chain net log e)) refl, shut es)

coded_differs : (net : Net) (log : Log) (pieces : List (List ℕ)) (blocks : List (List Entry)) (given : Meaning → Bool) → DifferInLog given (coded_truth net log pieces blocks given)
coded_differs net log pieces blocks given (in_state c q t) h = refl
coded_differs net log pieces blocks given (happens e t) h = refl
coded_differs net log pieces blocks given asked h = cc
coded_differs net log pieces blocks given (matches i e t) h = cc
coded_differs net log pieces blocks given (done i t) h = cc
coded_differs net log pieces blocks given (unmatched e k t) h = cc
coded_differs net log pieces blocks given (closed e k) h = cc
coded_differs net log pieces blocks given (dropped i) h = cc
coded_differs net log pieces blocks given (reaches i j) h = refl
coded_differs net log pieces blocks given (some_of_first (of_states c t) k) h = refl
coded_differs net log pieces blocks given (some_of_first (of_events t g) k) h = refl
coded_differs net log pieces blocks given (some_of_first (of_matches i t) k) h = cc

complete_from : (net : Net) (log : Log) (given : Meaning → Bool) (pieces : List (List ℕ)) (order : List Entry) → AreFrom net given 0 pieces → Linearises net log (joined pieces) order →
    (value : Meaning → Bool) × DifferInLog given value × LogClausesHold net log (length pieces) value × GuardsHold net log value × HasFalse log value order
complete_from net log given pieces order are linear =
    let cut = cut_order net log pieces order linear.shown in
    let same : alarms_of order ≡ joined (map alarms_of (cut.before ∷ cut.blocks)) = ap alarms_of cut.whole ∙ joined_alarms (cut.before ∷ cut.blocks) in
    let once = subst (λ xs. EachPair (λ i j. i ≢ j) xs) same linear.complete.once in
    let each : (i : ℕ) → i < length log.alarms → Contains (joined (map alarms_of (cut.before ∷ cut.blocks))) i = λ i known. subst (λ xs. Contains xs i) same (linear.complete.each i known) in
    let kept : (i j : ℕ) → Contains log.pairs (i, j) → place_in (joined (map alarms_of (cut.before ∷ cut.blocks))) i < place_in (joined (map alarms_of (cut.before ∷ cut.blocks))) j =
    λ i j in'. subst (λ xs. place_in xs i < place_in xs j) same (all_at (λ (p : ℕ × ℕ). place_in (alarms_of order) p.0 < place_in (alarms_of order) p.1) log.pairs linear.kept (i, j) in') in
    let doubted : (entry : Entry) → Contains (flat_map (λ block. block) (cut.before ∷ cut.blocks)) entry → may_stand log entry ≡ true =
    λ entry in'. all_at (λ e. may_stand log e ≡ true) order linear.doubted entry (subst (λ xs. Contains xs entry) (sym cut.whole) in') in (
      coded_truth net log pieces (cut.before ∷ cut.blocks) given,
      coded_differs net log pieces (cut.before ∷ cut.blocks) given,
      clause_true net log given pieces are cut.before cut.blocks cut.none cut.matched doubted once each kept,
      guards_true net log given pieces are cut.before cut.blocks cut.none cut.matched doubted once each kept,
      has_false log (coded_truth net log pieces (cut.before ∷ cut.blocks) given) order linear.complete
          (all_from (λ entry. entry.real ≡ not (is_false_alarm log (coded_truth net log pieces (cut.before ∷ cut.blocks) given) entry.alarm)) order
          (λ entry in'. told net log given pieces are cut.before cut.blocks cut.none cut.matched doubted once each kept entry (subst (λ xs. Contains xs entry) cut.whole in'))),
    )

pub log_is_complete : LogIsComplete
log_is_complete net log n given pieces order are linear =
    let from = (pieces_are_steps net n given pieces).0 are in
    subst (λ m. (value : Meaning → Bool) × DifferInLog given value × LogClausesHold net log m value × GuardsHold net log value × HasFalse log value order) from.0 (complete_from net log given pieces order from.1 linear)
