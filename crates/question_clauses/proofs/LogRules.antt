-- What the clauses of a log say of a value, one rule at a time.
use Rattle.std.proofs.Common.{◌≡◌, ℕ, zero, suc, ◌+◌, ◌-◌, ◌<◌, ◌≤◌, Bool, true, false, List, [], ◌∷◌, ◌∙◌, length, Option, Some, None, refl, sym, ap, subst, arith, Contains, map, slice_get, filter, is_some, not, inl, inr, ◌⊎◌, ◌||◌, ◌&&◌, cond, option_map, unwrap_or, IsTrue}
use Rattle.std.specs.Prelude.{bytes_eq, IsSomeAnd}
use Rattle.std.specs.Option.{option_map_or}
use Rattle.std.specs.List.{AllByRecursion, list_any}
use Rattle.std.proofs.lemmas.Bool.{cases_lt, cases_order}
use Rattle.std.proofs.lemmas.Option.{slice_get_within, slice_get_past, slice_get-map}
use Rattle.std.proofs.lemmas.List.{get_or_past}
use Rattle.card_counter.proofs.Exclusions.{exclusion_is_sound}
use Rattle.card_counter.specs.Exclusions.{AtMostOneOf}
use Rattle.des_base.proofs.BoolLemmas.{otherwise, either, both, join, clash}
use Rattle.des_base.proofs.Elements.{cons_cases, here_first, here_later, none_in_nil, contains_at, at_place, some_at, filter_has, filter_from}
use Rattle.des_base.specs.Lists.{numbers_below}
use Rattle.des_net.specs.Network.{Net, Event, label_of, no_event}
use Rattle.question_clauses.proofs.Lists.{range_has}
use Rattle.question_clauses.specs.LogClauses.{chain, IsLink, chain_closed, takes_rest, uses_up, passes_on, taken_or_passed, not_done_first, stays_done, match_is_done, matched_once, done_by_match, one_match, done_if_asked, before_if_asked, matching_events, match_inputs, match_is_real, or_false}
use Rattle.question_clauses.specs.Decoded.{is_false_alarm, comes}
use Rattle.question_clauses.specs.LogTruth.{LogClausesHold, GuardsHold}
use Rattle.log_order.specs.Log.{Log, Alarm, labels_of, is_doubtful}
use Rattle.prop_core.proofs.Premises.{implied, neither}
use Rattle.prop_core.specs.NamedClauses.{named_true}
use Rattle.prop_core.specs.VariableNames.{Meaning, NamedLiteral, yes, happens, asked, matches, done, closed, dropped, remaining, of_matches}
use Rattle.replay.proofs.ListTests.{text_in, in_text}
use Rattle.replay.specs.Explanation.{Shows, has_label, is_matching}

one_of : (a b c : Bool) → not a || (b || (c || false)) ≡ true → a ≡ true → (b ≡ true) ⊎ (c ≡ true)
one_of true true c h k = inl refl
one_of true false true h k = inr refl
one_of true false false h k = cc
one_of false b c h k = cc

under_two : (a b c : Bool) → not a || (not b || (c || false)) ≡ true → a ≡ true → b ≡ true → c ≡ true
under_two true true true h k l = refl
under_two true true false h k l = cc
under_two true false c h k l = cc
under_two false b c h k l = cc

-- these literals, or that the alarm is false
pub or_false_is : (log : Log) (value : Meaning → Bool) (i : ℕ) (literals : List NamedLiteral) → list_any (named_true value) (or_false log i literals) ≡ is_false_alarm log value i || list_any (named_true value) literals
or_false_is log value i literals = by (is_doubtful log i)
  where
    by : (b : Bool) → list_any (named_true value) (cond b (yes (dropped i) ∷ literals) literals) ≡ (b && value (dropped i)) || list_any (named_true value) literals
    by true = refl
    by false = refl

-- one of these names is true
some_true : (value : Meaning → Bool) (meaning : ℕ → Meaning) (xs : List ℕ) → list_any (named_true value) (map (λ x. yes (meaning x)) xs) ≡ true → (x : ℕ) × Contains xs x × (value (meaning x) ≡ true)
some_true value meaning [] h = cc
some_true value meaning (y ∷ xs) h = by (either (value (meaning y)) (list_any (named_true value) (map (λ x. yes (meaning x)) xs)) h) (some_true value meaning xs)
  where
    by : (value (meaning y) ≡ true) ⊎ (list_any (named_true value) (map (λ x. yes (meaning x)) xs) ≡ true) →
        (list_any (named_true value) (map (λ x. yes (meaning x)) xs) ≡ true → (x : ℕ) × Contains xs x × (value (meaning x) ≡ true)) → (x : ℕ) × Contains (y ∷ xs) x × (value (meaning x) ≡ true)
    by (inl e) later = (y, here_first y xs y refl, e)
    by (inr rest) later = let found = later rest in (found.0, here_later y xs found.0 found.1, found.2)

pub shows : (net : Net) (log : Log) (e i : ℕ) → is_matching net log e i ≡ true → Shows net log e i
shows net log e i h = by (label_of net e) h
  where
    by : (o : Option (List ℕ)) → option_map_or (has_label log i) o false ≡ true → IsSomeAnd o (Contains (labels_of log i))
    by None k = cc
    by (Some label) k = text_in label (labels_of log i) k

pub shown_matches : (net : Net) (log : Log) (e i : ℕ) → Shows net log e i → is_matching net log e i ≡ true
shown_matches net log e i h = by (label_of net e) h
  where
    by : (o : Option (List ℕ)) → IsSomeAnd o (Contains (labels_of log i)) → option_map_or (has_label log i) o false ≡ true
    by None k = absurd k
    by (Some label) k = in_text label (labels_of log i) k

pub is_shown : (net : Net) (log : Log) (e i : ℕ) → is_matching net log e i ≡ true → is_some (label_of net e) ≡ true
is_shown net log e i h = by (label_of net e) h
  where
    by : (o : Option (List ℕ)) → option_map_or (has_label log i) o false ≡ true → is_some o ≡ true
    by None k = cc
    by (Some label) k = refl

pub shown_event : (net : Net) (e : ℕ) → is_some (label_of net e) ≡ true → e < length net.events
shown_event net e h = by (cases_lt e (length net.events))
  where
    by : (e < length net.events) ⊎ (length net.events ≤ e) → e < length net.events
    by (inl below) = below
    by (inr past) = let none = get_or_past net.events e no_event past in absurd (nothing (subst (λ (event : Event). is_some event.label ≡ true) none h))
      where
        nothing : false ≡ true → ⊥
        nothing k = cc

pub matching_alarm : (net : Net) (log : Log) (e i : ℕ) → is_matching net log e i ≡ true → i < length log.alarms
matching_alarm net log e i h = by (cases_lt i (length log.alarms))
  where
    none : (o : Option (List ℕ)) → option_map_or (λ (label : List ℕ). list_any (bytes_eq label) []) o false ≡ true → ⊥
    none None k = cc
    none (Some label) k = cc

    by : (i < length log.alarms) ⊎ (length log.alarms ≤ i) → i < length log.alarms
    by (inl below) = below
    by (inr past) = absurd (none (label_of net e) (subst (λ o. option_map_or (λ label. list_any (bytes_eq label) (unwrap_or (option_map (λ (alarm : Alarm). alarm.labels) o) [])) (label_of net e) false ≡ true) (slice_get_past log.alarms i past) h))

pub in_chain : (net : Net) (log : Log) (e i : ℕ) → is_matching net log e i ≡ true → Contains (chain net log e) i
in_chain net log e i h =
    let below = matching_alarm net log e i h in
    filter_has (is_matching net log e) (numbers_below (length log.alarms)) i h (range_has 0 (length log.alarms) i (omega arith) (omega (arith, below)))

pub link_matches : (net : Net) (log : Log) (i e k : ℕ) → IsLink net log i e k → is_matching net log e i ≡ true
link_matches net log i e k link = (filter_from (is_matching net log e) (numbers_below (length log.alarms)) i (contains_at (chain net log e) k i link)).0

pub has_event : (net : Net) (log : Log) (e i : ℕ) → is_matching net log e i ≡ true → Contains (matching_events net log i) e
has_event net log e i h =
    let below = shown_event net e (is_shown net log e i h) in
    filter_has (λ f. is_matching net log f i) (numbers_below (length net.events)) e h (range_has 0 (length net.events) e (omega arith) (omega (arith, below)))

pub event_matches : (net : Net) (log : Log) (e i : ℕ) → Contains (matching_events net log i) e → is_matching net log e i ≡ true
event_matches net log e i in' = (filter_from (λ f. is_matching net log f i) (numbers_below (length net.events)) e in').0

-- where an element stands, and what becomes of it
pub place_of : {X Y : Type 0} (f : X → Y) (xs : List X) (x : X) → Contains xs x → (k : ℕ) × (slice_get xs k ≡ Some x) × (slice_get (map f xs) k ≡ Some (f x))
place_of f xs x in' = let got = at_place xs x in' in (got.0, got.1, slice_get-map f xs got.0 ∙ ap (option_map f) got.1)

one_there : (xs : List ℕ) (j k x y : ℕ) → j ≡ k → slice_get xs j ≡ Some x → slice_get xs k ≡ Some y → x ≡ y
one_there xs j k x y same at_j at_k = let both : Some x ≡ Some y = sym at_j ∙ ap (slice_get xs) same ∙ at_k in cc

module _ (net : Net) (log : Log) (n : ℕ) (value : Meaning → Bool) (held : LogClausesHold net log n value) where
  -- what holds further down a chain holds further up
  pub ascends : (e k m t : ℕ) → k ≤ m → m ≤ length (chain net log e) → t < n → value (remaining e m (suc t)) ≡ true → value (remaining e k (suc t)) ≡ true
  ascends e k zero t h inside step is = let same : k ≡ 0 = omega arith in rw same is
  ascends e k (suc m) t h inside step is = by (cases_lt k (suc m)) (λ above. ascends e k m t above (omega arith) step)
    where
      by : (k < suc m) ⊎ (suc m ≤ k) → (k ≤ m → value (remaining e m (suc t)) ≡ true → value (remaining e k (suc t)) ≡ true) → value (remaining e k (suc t)) ≡ true
      by (inl below) later = later (omega arith) (implied (value (remaining e (suc m) (suc t))) (value (remaining e m (suc t))) (held (passes_on e m t) (omega arith, omega arith)) is)
      by (inr past) later = let same : k ≡ suc m = omega arith in rw same is

  pub match_happens : (i e k t : ℕ) → IsLink net log i e k → t < n → value (matches i e (suc t)) ≡ true → value (happens e (suc t)) ≡ true
  match_happens i e k t link step is =
      let within = slice_get_within (chain net log e) k i link in
      ascends e 0 k t (omega arith) (omega (arith, within)) step
      (implied (value (matches i e (suc t))) (value (remaining e k (suc t))) (held (takes_rest i e k t) (link, omega arith)) is)

  pub alarm_happens : (i e t : ℕ) → is_matching net log e i ≡ true → t < n → value (matches i e (suc t)) ≡ true → value (happens e (suc t)) ≡ true
  alarm_happens i e t matching step is =
      let at = at_place (chain net log e) i (in_chain net log e i matching) in
      match_happens i e at.0 t at.1 step is

  one_alarm_less : (i j e k l t : ℕ) → IsLink net log i e k → IsLink net log j e l → k < l → t < n → value (matches i e (suc t)) ≡ true → value (matches j e (suc t)) ≡ true → ⊥
  one_alarm_less i j e k l t first second less step here there =
      let within = slice_get_within (chain net log e) l j second in
      neither (value (matches i e (suc t))) (value (remaining e (suc k) (suc t))) (held (uses_up i e k t) (first, omega arith)) here
      (ascends e (suc k) l t (omega arith) (omega (arith, within)) step
      (implied (value (matches j e (suc t))) (value (remaining e l (suc t))) (held (takes_rest j e l t) (second, omega arith)) there))

  -- an event in a step has one alarm at most
  pub one_alarm : (i j e t : ℕ) → is_matching net log e i ≡ true → is_matching net log e j ≡ true → t < n → value (matches i e (suc t)) ≡ true → value (matches j e (suc t)) ≡ true → i ≡ j
  one_alarm i j e t first second step here there = by (cases_lt a.0 b.0) (cases_lt b.0 a.0)
    where
      a : (k : ℕ) × IsLink net log i e k
      a = at_place (chain net log e) i (in_chain net log e i first)

      b : (k : ℕ) × IsLink net log j e k
      b = at_place (chain net log e) j (in_chain net log e j second)

      by : (a.0 < b.0) ⊎ (b.0 ≤ a.0) → (b.0 < a.0) ⊎ (a.0 ≤ b.0) → i ≡ j
      by (inl less) other = absurd (one_alarm_less i j e a.0 b.0 t a.1 b.1 less step here there)
      by (inr h) (inl less) = absurd (one_alarm_less j i e b.0 a.0 t b.1 a.1 less step there here)
      by (inr h) (inr k) = let same : a.0 ≡ b.0 = omega arith in let is = subst (λ x. slice_get (chain net log e) x ≡ Some i) same a.1 in some_same (sym is ∙ b.1)
        where
          some_same : Some i ≡ Some j → i ≡ j
          some_same p = cc

  -- from k on in the chain of an event whose chain is closed some alarm takes it
  taken_from : (m e k t : ℕ) → k + m ≡ length (chain net log e) → is_some (label_of net e) ≡ true → value (closed e (length (chain net log e))) ≡ true → t < n →
      value (remaining e k (suc t)) ≡ true → (i : ℕ) × (is_matching net log e i ≡ true) × (value (matches i e (suc t)) ≡ true)
  taken_from zero e k t count shown shut step is =
      let same : k ≡ length (chain net log e) = omega arith in
      absurd (neither (value (closed e (length (chain net log e)))) (value (remaining e (length (chain net log e)) (suc t)))
      (held (chain_closed e (length (chain net log e)) t) (shown, omega arith, omega arith)) shut (subst (λ x. value (remaining e x (suc t)) ≡ true) same is))
  taken_from (suc m) e k t count shown shut step is =
      let at = some_at (chain net log e) k (omega arith) in
      by at.0 at.1 (one_of (value (remaining e k (suc t))) (value (matches at.0 e (suc t))) (value (remaining e (suc k) (suc t)))
      (held (taken_or_passed at.0 e k t) (at.1, omega arith)) is) (taken_from m e (suc k) t (omega arith) shown shut step)
    where
      by : (i : ℕ) → IsLink net log i e k → (value (matches i e (suc t)) ≡ true) ⊎ (value (remaining e (suc k) (suc t)) ≡ true) →
          (value (remaining e (suc k) (suc t)) ≡ true → (i' : ℕ) × (is_matching net log e i' ≡ true) × (value (matches i' e (suc t)) ≡ true)) → (i' : ℕ) × (is_matching net log e i' ≡ true) × (value (matches i' e (suc t)) ≡ true)
      by i link (inl here) later = (i, link_matches net log i e k link, here)
      by i link (inr past) later = later past

  pub done_later : (d i s : ℕ) → i < length log.alarms → s + d ≤ n → value (done i s) ≡ true → value (done i (s + d)) ≡ true
  done_later zero i s known inside is = let same : s ≡ s + 0 = omega arith in subst (λ x. value (done i x) ≡ true) same is
  done_later (suc d) i s known inside is =
      let before = done_later d i s known (omega arith) is in
      let same : suc (s + d) ≡ s + suc d = omega arith in
      subst (λ x. value (done i x) ≡ true) same (implied (value (done i (s + d))) (value (done i (suc (s + d)))) (held (stays_done i (s + d)) (known, omega arith)) before)

  -- an alarm that is done from the start is false
  pub false_first : (i : ℕ) → i < length log.alarms → value (done i 0) ≡ true → is_false_alarm log value i ≡ true
  false_first i known is = implied (value (done i 0)) (is_false_alarm log value i) (subst (λ b. not (value (done i 0)) || b ≡ true) (or_false_is log value i []) (held (not_done_first i) known)) is

  -- a true alarm that gets done in a step is matched there
  pub comes_by_match : (i t : ℕ) → i < length log.alarms → t < n → is_false_alarm log value i ≡ false → comes value i (suc t) ≡ true → (e : ℕ) × (is_matching net log e i ≡ true) × (value (matches i e (suc t)) ≡ true)
  comes_by_match i t known step real is =
      let parts = both (value (done i (suc t))) (not (value (done i t))) is in
      let clause : not (value (done i (suc t))) || (value (done i t) || (is_false_alarm log value i || list_any (named_true value) (map (λ e. yes (matches i e (suc t))) (matching_events net log i)))) ≡ true =
      subst (λ b. not (value (done i (suc t))) || (value (done i t) || b) ≡ true) (or_false_is log value i (map (λ e. yes (matches i e (suc t))) (matching_events net log i))) (held (done_by_match i t) (known, step)) in
      let found = some_true value (λ e. matches i e (suc t)) (matching_events net log i) (last (value (done i (suc t))) (value (done i t)) (is_false_alarm log value i) (list_any (named_true value) (map (λ e. yes (matches i e (suc t))) (matching_events net log i))) clause parts.0 parts.1 real) in
      (found.0, event_matches net log found.0 i found.1, found.2)
    where
      last : (a b c d : Bool) → not a || (b || (c || d)) ≡ true → a ≡ true → not b ≡ true → c ≡ false → d ≡ true
      last true false false d h k l m = h
      last true false true d h k l m = cc
      last true true c d h k l m = cc
      last false b c d h k l m = cc

  -- What is done got done in a step, or is so from the start.
  pub comes_before : (m i : ℕ) → value (done i m) ≡ true → (t : ℕ) × (t ≤ m) × (comes value i t ≡ true)
  comes_before zero i is = (0, omega arith, is)
  comes_before (suc m) i is = by (value (done i m)) refl (comes_before m i)
    where
      by : (b : Bool) → value (done i m) ≡ b → (value (done i m) ≡ true → (t : ℕ) × (t ≤ m) × (comes value i t ≡ true)) → (t : ℕ) × (t ≤ suc m) × (comes value i t ≡ true)
      by true e later = let found = later e in let low = found.1 in (found.0, omega (arith, low), found.2)
      by false e later = (suc m, omega arith, join (value (done i (suc m))) (not (value (done i m))) is (ap not e))

  pub comes_done : (i t : ℕ) → comes value i t ≡ true → value (done i t) ≡ true
  comes_done i zero is = is
  comes_done i (suc t) is = (both (value (done i (suc t))) (not (value (done i t))) is).0

  -- it isn't done in an earlier step
  pub not_before : (i s t : ℕ) → i < length log.alarms → s < t → t ≤ n → value (done i s) ≡ true → comes value i t ≡ true → ⊥
  not_before i s zero known less inside before is = omega arith
  not_before i s (suc t) known less inside before is =
      let gap = difference s t (omega arith) in
      let same = gap.1 in
      let later = subst (λ x. value (done i x) ≡ true) same (done_later gap.0 i s known (omega (arith, same)) before) in
      contra (value (done i t)) later (both (value (done i (suc t))) (not (value (done i t))) is).1
    where
      difference : (a b : ℕ) → a ≤ b → (d : ℕ) × (a + d ≡ b)
      difference a b h = (b - a, omega arith)

      contra : (b : Bool) → b ≡ true → not b ≡ true → ⊥
      contra true h k = cc
      contra false h k = cc

  pub one_step : (i s t : ℕ) → i < length log.alarms → s ≤ n → t ≤ n → comes value i s ≡ true → comes value i t ≡ true → s ≡ t
  one_step i s t known first second here there = by (cases_lt s t) (cases_lt t s)
    where
      by : (s < t) ⊎ (t ≤ s) → (t < s) ⊎ (s ≤ t) → s ≡ t
      by (inl less) other = absurd (not_before i s t known less second (comes_done i s here) there)
      by (inr h) (inl less) = absurd (not_before i t s known less first (comes_done i t there) here)
      by (inr h) (inr k) = omega arith

  -- an alarm with a match isn't false
  pub match_real : (i e t : ℕ) → is_matching net log e i ≡ true → t < n → value (matches i e (suc t)) ≡ true → is_false_alarm log value i ≡ false
  match_real i e t matching step is = by (is_doubtful log i) refl
    where
      by : (b : Bool) → is_doubtful log i ≡ b → is_false_alarm log value i ≡ false
      by true e' = rw e' (otherwise (value (dropped i)) (neither (value (matches i e (suc t))) (value (dropped i)) (held (match_is_real i e t) (matching, e', step)) is))
      by false e' = rw e' refl

  pub match_done : (i e t : ℕ) → is_matching net log e i ≡ true → t < n → value (matches i e (suc t)) ≡ true → value (done i (suc t)) ≡ true
  match_done i e t matching step is = implied (value (matches i e (suc t))) (value (done i (suc t))) (held (match_is_done i e t) (matching, step)) is

  not_done_before : (i e s t : ℕ) → is_matching net log e i ≡ true → s < t → t < n → value (done i (suc s)) ≡ true → value (matches i e (suc t)) ≡ true → ⊥
  not_done_before i e s t matching less step before is =
      let gap = difference (suc s) t (omega arith) in
      let same = gap.1 in
      neither (value (matches i e (suc t))) (value (done i t)) (held (matched_once i e t) (matching, step)) is
      (subst (λ x. value (done i x) ≡ true) same (done_later gap.0 i (suc s) (matching_alarm net log e i matching) (omega (arith, same)) before))
    where
      difference : (a b : ℕ) → a ≤ b → (d : ℕ) × (a + d ≡ b)
      difference a b h = (b - a, omega arith)

  -- it gets done in the step of its match
  pub match_comes : (i e t : ℕ) → is_matching net log e i ≡ true → t < n → value (matches i e (suc t)) ≡ true → comes value i (suc t) ≡ true
  match_comes i e t matching step is =
      join (value (done i (suc t))) (not (value (done i t))) (match_done i e t matching step is)
      (ap not (otherwise (value (done i t)) (neither (value (matches i e (suc t))) (value (done i t)) (held (matched_once i e t) (matching, step)) is)))

  -- an alarm has one step at most
  pub one_step_less : (i e f s t : ℕ) → is_matching net log e i ≡ true → is_matching net log f i ≡ true → s < t → t < n → value (matches i e (suc s)) ≡ true → value (matches i f (suc t)) ≡ true → ⊥
  one_step_less i e f s t first second less step here there = not_done_before i f s t second less step (match_done i e s first (omega arith) here) there

  -- and one event there
  pub one_event : (i e f t : ℕ) → is_matching net log e i ≡ true → is_matching net log f i ≡ true → t < n → value (matches i e (suc t)) ≡ true → value (matches i f (suc t)) ≡ true → e ≡ f
  one_event i e f t first second step here there = by (cases_order at_e.0 at_f.0)
    where
      sound : AtMostOneOf value (match_inputs net log i (suc t))
      sound = exclusion_is_sound value (of_matches i (suc t)) (match_inputs net log i (suc t)) (λ which is. held (one_match i t which) (matching_alarm net log e i first, step, is))

      at_e : (k : ℕ) × (slice_get (matching_events net log i) k ≡ Some e) × (slice_get (match_inputs net log i (suc t)) k ≡ Some (matches i e (suc t)))
      at_e = place_of (λ g. matches i g (suc t)) (matching_events net log i) e (has_event net log e i first)

      at_f : (k : ℕ) × (slice_get (matching_events net log i) k ≡ Some f) × (slice_get (match_inputs net log i (suc t)) k ≡ Some (matches i f (suc t)))
      at_f = place_of (λ g. matches i g (suc t)) (matching_events net log i) f (has_event net log f i second)

      by : (at_e.0 ≡ at_f.0) ⊎ ((at_e.0 < at_f.0) ⊎ (at_f.0 < at_e.0)) → e ≡ f
      by (inl same) = one_there (matching_events net log i) at_e.0 at_f.0 e f same at_e.1 at_f.1
      by (inr (inl less)) = absurd (sound at_e.0 at_f.0 (matches i e (suc t)) (matches i f (suc t)) less at_e.2 at_f.2 here there)
      by (inr (inr more)) = absurd (sound at_f.0 at_e.0 (matches i f (suc t)) (matches i e (suc t)) more at_f.2 at_e.2 there here)

  module _ (guards : GuardsHold net log value) where
    pub each_comes : (i : ℕ) → i < length log.alarms → (t : ℕ) × (t ≤ n) × (comes value i t ≡ true)
    each_comes i known = comes_before n i (implied (value asked) (value (done i n)) (held (done_if_asked i) known) guards.0)

    -- a true alarm has a match
    pub each_done : (i : ℕ) → i < length log.alarms → is_false_alarm log value i ≡ false → (t : ℕ) × (t < n) × (e : ℕ) × (is_matching net log e i ≡ true) × (value (matches i e (suc t)) ≡ true)
    each_done i known real = let found = each_comes i known in by found.0 found.1 found.2
      where
        by : (t : ℕ) → t ≤ n → comes value i t ≡ true → (s : ℕ) × (s < n) × (e : ℕ) × (is_matching net log e i ≡ true) × (value (matches i e (suc s)) ≡ true)
        by zero inside is = clash (is_false_alarm log value i) (false_first i known is) real
        by (suc t) inside is = let match = comes_by_match i t known (omega arith) real is in (t, omega arith, match.0, match.1, match.2)

    -- an observable event that happens has an alarm
    pub has_alarm : (e t : ℕ) → is_some (label_of net e) ≡ true → t < n → value (happens e (suc t)) ≡ true → (i : ℕ) × (is_matching net log e i ≡ true) × (value (matches i e (suc t)) ≡ true)
    has_alarm e t shown step is = taken_from (length (chain net log e)) e 0 t (omega arith) shown shut step is
      where
        observable : List ℕ
        observable = filter (λ f. is_some (label_of net f)) (numbers_below (length net.events))

        known : Contains observable e
        known = let below = shown_event net e shown in filter_has (λ f. is_some (label_of net f)) (numbers_below (length net.events)) e shown (range_has 0 (length net.events) e (omega arith) (omega (arith, below)))

        from_map : (es : List ℕ) → AllByRecursion (λ m. IsTrue (named_true value m)) (map (λ f. yes (closed f (length (chain net log f)))) es) → Contains es e → value (closed e (length (chain net log e))) ≡ true
        from_map [] all in' = absurd (none_in_nil e in')
        from_map (f ∷ es) all in' = at (cons_cases f es e in') (from_map es all.1)
          where
            at : (f ≡ e) ⊎ Contains es e → (Contains es e → value (closed e (length (chain net log e))) ≡ true) → value (closed e (length (chain net log e))) ≡ true
            at (inl is') later = subst (λ g. value (closed g (length (chain net log g))) ≡ true) is' all.0
            at (inr rest) later = later rest

        shut : value (closed e (length (chain net log e))) ≡ true
        shut = from_map observable guards.1 known

    -- pairs don't step back
    pub no_step_back : (i j s t : ℕ) → i < length log.alarms → Contains log.pairs (i, j) → s < t → t ≤ n → comes value j s ≡ true → comes value i t ≡ true → ⊥
    no_step_back i j s t known pair less inside later earlier =
        not_before i s t known less inside (under_two (value asked) (value (done j s)) (value (done i s)) (held (before_if_asked i j s) (pair, omega arith)) guards.0 (comes_done j s later)) earlier
