-- The truth of names by which all clauses of a question are true: of an explanation, with its guards and its bound, and of the empty run, with none.
use Rattle.std.proofs.Common.{◌≡◌, ◌∙◌, ℕ, zero, suc, ◌≤◌, ◌⊎◌, inl, inr, Bool, true, false, not, ◌||◌, List, [], ◌∷◌, ◌++◌, length, Option, Some, None, refl, sym, ap, subst, arith, Contains, slice_get, IsTrue, count_by, map}
use Rattle.std.specs.List.{AllByRecursion, AllZip, list_any}
use Rattle.card_counter.proofs.Exact.{named_count_is_exact}
use Rattle.card_counter.specs.Counting.{is_count, with_counts}
use Rattle.card_counter.specs.CounterClauses.{IsNamedCount}
use Rattle.des_base.proofs.BoolLemmas.{either, not_true}
use Rattle.des_base.proofs.Elements.{flat_from, map_from}
use Rattle.des_base.specs.Lists.{numbers_below}
use Rattle.des_net.specs.Network.{Net, Component, IsNetwork, IsComponent}
use Rattle.des_net.specs.Run.{IsRun}
use Rattle.des_net.specs.Width.{IsPiece, joined}
use Rattle.question_clauses.proofs.LogComplete.{log_is_complete}
use Rattle.question_clauses.proofs.LogOpen.{log_is_open}
use Rattle.question_clauses.proofs.ReadNames.{only_log_matters}
use Rattle.question_clauses.specs.Coded.{opened}
use Rattle.question_clauses.specs.LogClauses.{doubtful_alarms}
use Rattle.question_clauses.specs.LogLaws.{HasFalse}
use Rattle.question_clauses.specs.LogTruth.{LogClausesHold, GuardsHold, is_of_log}
use Rattle.log_order.specs.Log.{Log}
use Rattle.prop_core.specs.NamedClauses.{named_true, AllHold}
use Rattle.prop_core.specs.VariableNames.{Meaning, in_state, happens, asked, matches, done, unmatched, closed, dropped, reaches, some_of_first, Exclusion, of_states, of_events, of_matches, NamedLiteral, yes}
use Rattle.replay.specs.Explanation.{Entry, faults_of, Explains, Linearises}
use Rattle.question_clauses.proofs.StepsExact.{runs_have_steps, only_steps_matter, same_sets}
use Rattle.question_clauses.specs.Steps.{StepClausesHold, AreSteps, AgreeOnSteps, is_event, is_of_steps}
use Rattle.run_decode.proofs.Faults.{faults_are_inputs}
use Rattle.run_decode.specs.DecodedRuns.{true_faults}
use Rattle.run_decode.specs.Drawn.{fault_inputs, dropped_meanings, at_most, bound_literals}
use Rattle.run_decode.specs.Faithful.{IsWithin}
use Rattle.run_decode.specs.Question.{HasColumn}
use Rattle.std.proofs.lemmas.List.Elements.{Contains-append_cases}
use Rattle.step_encode.specs.FaultInputs.{fault_events, fault_meanings}

-- all clauses of the question are true, with however many columns
pub record QuestionHolds (net : Net) (log : Log) (n : ℕ) (value : Meaning → Bool) : Type 0 where
  pub steps : StepClausesHold net n value
  pub logged : LogClausesHold net log n value
  pub count : (columns : ℕ) → AllHold (IsNamedCount (fault_inputs net log n) columns) value

abbrev pub BoundHolds : Net → Log → ℕ → Option ℕ → (Meaning → Bool) → Type 0
BoundHolds net log n bound value = AllByRecursion (λ l. IsTrue (named_true value l)) (bound_literals net log n bound)

-- ---- the counter beside the steps and the log

not_count : (meaning : Meaning) → is_event meaning || is_of_log meaning ≡ true → is_count meaning ≡ false
not_count (in_state c q t) h = refl
not_count (happens e t) h = refl
not_count asked h = refl
not_count (matches i e t) h = refl
not_count (done i t) h = refl
not_count (unmatched e k t) h = refl
not_count (closed e k) h = refl
not_count (dropped i) h = refl
not_count (reaches i j) h = cc
not_count (some_of_first family i) h = refl

inputs_are_named : (net : Net) (log : Log) (n : ℕ) (x : NamedLiteral) → Contains (fault_inputs net log n) x → is_count x.meaning ≡ false
inputs_are_named net log n x in' =
    let named = map_from yes (fault_meanings net n ++ dropped_meanings log) x in' in
    subst (λ (y : NamedLiteral). is_count y.meaning ≡ false) named.2 (by named.0 (Contains-append_cases (fault_meanings net n) (dropped_meanings log) named.0 named.1))
  where
    by : (meaning : Meaning) → Contains (fault_meanings net n) meaning ⊎ Contains (dropped_meanings log) meaning → is_count meaning ≡ false
    by meaning (inl of_event) =
        let event = flat_from (λ e. map (λ t. happens e (suc t)) (numbers_below n)) (fault_events net) meaning of_event in
        let step = map_from (λ t. happens event.0 (suc t)) (numbers_below n) meaning event.2 in
        subst (λ m. is_count m ≡ false) step.2 refl
    by meaning (inr of_alarm) = let alarm = map_from (λ i. dropped i) (doubtful_alarms log) meaning of_alarm in subst (λ m. is_count m ≡ false) alarm.2 refl

-- the count goes with every truth of the steps and the log
pub count_holds : (net : Net) (log : Log) (n : ℕ) (value : Meaning → Bool) → StepClausesHold net n value → LogClausesHold net log n value → QuestionHolds net log n (with_counts (fault_inputs net log n) value)
count_holds net log n value steps logged =
    let exact = named_count_is_exact (fault_inputs net log n) value in record {
      steps = only_steps_matter net n value (with_counts (fault_inputs net log n) value) (record { states = λ c q t. refl; events = λ e t. refl; chains = λ family k of_steps. refl }) steps;
      logged = (only_log_matters net log n value (with_counts (fault_inputs net log n) value) (λ meaning h. sym (exact.others meaning (not_count meaning h)))).0 logged;
      count = exact.free (inputs_are_named net log n);
    }

guards_hold : (net : Net) (log : Log) (n : ℕ) (value : Meaning → Bool) → GuardsHold net log value → GuardsHold net log (with_counts (fault_inputs net log n) value)
guards_hold net log n value guards =
    let exact = named_count_is_exact (fault_inputs net log n) value in
    (only_log_matters net log n value (with_counts (fault_inputs net log n) value) (λ meaning h. sym (exact.others meaning (not_count meaning h)))).1 guards

-- ---- the bound

at_most_true : (value : Meaning → Bool) (m b : ℕ) → value (reaches m (suc b)) ≡ false → AllByRecursion (λ l. IsTrue (named_true value l)) (at_most m b)
at_most_true value zero b h = tt
at_most_true value (suc m) b h = (ap not h, tt)

pub bound_holds : (net : Net) (log : Log) (n : ℕ) (bound : Option ℕ) (value : Meaning → Bool) → IsWithin bound (true_faults net log n value) → BoundHolds net log n bound (with_counts (fault_inputs net log n) value)
bound_holds net log n None value within = tt
bound_holds net log n (Some b) value within =
    at_most_true (with_counts (fault_inputs net log n) value) (length (fault_inputs net log n)) b ((named_count_is_exact (fault_inputs net log n) value).bound b within)

none_counted : (p : NamedLiteral → Bool) (xs : List NamedLiteral) → length xs ≡ 0 → count_by p xs ≡ 0
none_counted p [] h = refl
none_counted p (x ∷ xs) h = absurd (omega (arith, h))

pub bound_says : (net : Net) (log : Log) (n columns : ℕ) (bound : Option ℕ) (value : Meaning → Bool) → HasColumn net log n columns bound → AllHold (IsNamedCount (fault_inputs net log n) columns) value →
    BoundHolds net log n bound value → IsWithin bound (true_faults net log n value)
bound_says net log n columns None value column count bounds = tt
bound_says net log n columns (Some b) value column count bounds = by (length (fault_inputs net log n)) refl bounds
  where
    by : (m : ℕ) → length (fault_inputs net log n) ≡ m → AllByRecursion (λ l. IsTrue (named_true value l)) (at_most m b) → true_faults net log n value ≤ b
    by zero size all = let none = none_counted (named_true value) (fault_inputs net log n) size in omega (arith, none)
    by (suc m) size all =
        (named_count_is_exact (fault_inputs net log n) value).few columns b count (column (omega (arith, size)))
        (subst (λ k. value (reaches k (suc b)) ≡ false) (sym size) (not_true (value (reaches (suc m) (suc b))) all.0))

-- ---- of an explanation

-- a truth of names by which the question is true, whose steps are the word in pieces, and by which as many alarms are false as in the order
pub record HasTruth (net : Net) (log : Log) (n : ℕ) (bound : Option ℕ) (word : List ℕ) (order : List Entry) : Type 0 where
  pub value : Meaning → Bool
  pub pieces : List (List ℕ)
  pub whole : word ≡ joined pieces
  pub steps : AreSteps net n value pieces
  pub false_alarms : HasFalse log value order
  pub holds : QuestionHolds net log n value
  pub guards : GuardsHold net log value
  pub bounds : BoundHolds net log n bound value

pub explained_has_truth : (net : Net) (log : Log) (n : ℕ) (bound : Option ℕ) (word : List ℕ) (order : List Entry) → IsNetwork net → Explains net log n word order → IsWithin bound (faults_of net word order) → HasTruth net log n bound word order
explained_has_truth net log n bound word order network explains within =
    let pieces = explains.fits.0 in
    let count = explains.fits.1 in
    let cut = explains.fits.2 in
    let given = runs_have_steps net word pieces (λ meaning. false) network explains.run cut in
    let clauses = subst (λ m. StepClausesHold net m given.0) count given.1 in
    let steps = subst (λ m. AreSteps net m given.0 pieces) count given.2 in
    let made = log_is_complete net log n given.0 pieces order steps (subst (λ w. Linearises net log w order) cut.whole explains.linear) in
    let same : AgreeOnSteps given.0 made.0 = record { states = λ c q t. sym (made.1 (in_state c q t) refl); events = λ e t. sym (made.1 (happens e t) refl); chains = λ family k of_steps. sym (made.1 (some_of_first family k) (ap not of_steps)) } in
    let are = same_sets net n given.0 made.0 pieces (λ e t known step. made.1 (happens e (suc t)) refl) steps in
    let faults : faults_of net word order ≡ true_faults net log n made.0 = ap (λ w. faults_of net w order) cut.whole ∙ faults_are_inputs net log n made.0 pieces order are made.4 in record {
      value = with_counts (fault_inputs net log n) made.0;
      pieces = pieces;
      whole = cut.whole;
      steps = same_sets net n made.0 (with_counts (fault_inputs net log n) made.0) pieces (λ e t known step. refl) are;
      false_alarms = made.4;
      holds = count_holds net log n made.0 (only_steps_matter net n given.0 made.0 same clauses) made.2;
      guards = guards_hold net log n made.0 made.3;
      bounds = bound_holds net log n bound made.0 (subst (IsWithin bound) faults within);
    }

-- ---- of the empty run

first_initial : (marks : List Bool) → list_any (λ mark. mark) marks ≡ true → (q : ℕ) × (slice_get marks q ≡ Some true)
first_initial [] h = cc
first_initial (mark ∷ marks) h = by (either mark (list_any (λ m. m) marks) h) (first_initial marks)
  where
    by : (mark ≡ true) ⊎ (list_any (λ m. m) marks ≡ true) → (list_any (λ m. m) marks ≡ true → (q : ℕ) × (slice_get marks q ≡ Some true)) → (q : ℕ) × (slice_get (mark ∷ marks) q ≡ Some true)
    by (inl e) later = (0, ap Some e)
    by (inr rest) later = let found = later rest in (suc found.0, found.1)

starts : (components : List Component) → AllByRecursion IsComponent components → (states : List ℕ) × AllZip (λ (component : Component) (q : ℕ). slice_get component.initial q ≡ Some true) components states
starts [] all = ([], tt)
starts (component ∷ components) all =
    let first = first_initial component.initial all.0.startable in
    let rest = starts components all.1 in
    (first.0 ∷ rest.0, (first.1, rest.1))

blanks : ℕ → List (List ℕ)
blanks zero = []
blanks (suc n) = [] ∷ blanks n

record AreBlank (net : Net) (n : ℕ) (pieces : List (List ℕ)) : Type 0 where
  size : length pieces ≡ n
  empty : [] ≡ joined pieces
  apart : AllByRecursion (IsPiece net) pieces

are_blank : (net : Net) (n : ℕ) → AreBlank net n (blanks n)
unfolding blanks
are_blank net zero = record { size = refl; empty = refl; apart = tt }
are_blank net (suc n) = let rest = are_blank net n in record { size = ap suc rest.size; empty = rest.empty; apart = (tt, rest.apart) }

-- the chains of the steps keep their truth
same_chains : (value : Meaning → Bool) (family : Exclusion) (k : ℕ) → is_of_steps family ≡ true → value (some_of_first family k) ≡ opened value (some_of_first family k)
same_chains value (of_states c t) k h = refl
same_chains value (of_events t g) k h = refl
same_chains value (of_matches i t) k h = cc

pub question_has_truth : (net : Net) (log : Log) (n : ℕ) → IsNetwork net → (value : Meaning → Bool) × QuestionHolds net log n value
question_has_truth net log n network =
    let start = starts net.components network.components in
    let blank = are_blank net n in
    let run : IsRun net [] = (start.0, start.0, start.1, refl) in
    let given = runs_have_steps net [] (blanks n) (λ meaning. false) network run (record { whole = blank.empty; apart = blank.apart }) in
    let clauses = subst (λ m. StepClausesHold net m given.0) blank.size given.1 in
    let open' = log_is_open given.0 in
    let steps = only_steps_matter net n given.0 (opened given.0) (record { states = λ c q t. refl; events = λ e t. refl; chains = same_chains given.0 }) clauses in
    (with_counts (fault_inputs net log n) (opened given.0), count_holds net log n (opened given.0) steps (λ which is. open'.1 net log n which is))
