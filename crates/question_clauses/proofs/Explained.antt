-- The code of a log under assignments of variables.
use Rattle.std.proofs.Common.{◌≡◌, ◌∙◌, ℕ, suc, ◌<◌, ◌≤◌, Bool, true, false, List, [], ◌∷◌, inl, inr, ◌⊎◌, cond, count_by, Option, Some, None, refl, sym, ap, subst, arith, Contains, IsTrue, not, option_map, unwrap_or, length}
use Rattle.std.specs.List.{list_any}
use Rattle.std.proofs.lemmas.Bool.{cases_lt}
use Rattle.std.proofs.lemmas.Option.{slice_get_past}
use Rattle.std.proofs.lemmas.List.Elements.{Contains-get_or}
use Rattle.des_base.proofs.Elements.{here_first, here_later}
use Rattle.des_base.specs.Lists.{numbers_below}
use Rattle.des_net.specs.Network.{Net, IsNetwork, IsComponent, IsEvent, no_component, no_event, event_at, component_at, parts_of}
use Rattle.des_net.specs.declared.parts.Part.{Part}
use Rattle.log_order.specs.Log.{Log, Alarm, is_doubtful}
use Rattle.question_clauses.proofs.LogComplete.{log_is_complete}
use Rattle.question_clauses.proofs.Guards.{literals_by_name, read_named}
use Rattle.question_clauses.proofs.Lists.{all_at}
use Rattle.question_clauses.proofs.Matches.{matches_are_exact}
use Rattle.question_clauses.proofs.LogOpen.{log_is_open}
use Rattle.replay.specs.Explanation.{Linearises, Entry}
use Rattle.question_clauses.proofs.LogSound.{log_is_sound}
use Rattle.question_clauses.specs.Coded.{opened}
use Rattle.question_clauses.specs.LogClauses.{log_clause, guard_literals, not_done_first, or_false}
use Rattle.question_clauses.specs.LogCodeLaws.{IsLogCode, DifferInLogVariables, MakesLogTrue, LogCodeIsExact, IsUnboundedQuestion, ExplanationsAreCoded, AssignmentsExplain, RunsStayOpen}
use Rattle.question_clauses.specs.LogCodes.{IsNamedLog}
use Rattle.question_clauses.specs.LogTruth.{LogClausesHold, GuardsHold, is_of_log, DifferInLog}
use Rattle.question_clauses.specs.Decoded.{is_false_alarm, decoded}
use Rattle.question_clauses.specs.LogLaws.{HasFalse}
use Rattle.prop_core.proofs.NameLemmas.{values_match, assignments_match, code_holds}
use Rattle.prop_core.specs.Clauses.{Clause, AllClausesTrue}
use Rattle.prop_core.specs.NamedClauses.{named_clause_true, Match, value_by, assignment_by, IsCode, AllHold}
use Rattle.prop_core.specs.VariableNames.{Meaning, in_state, happens, done, dropped, some_of_first, meaning_of, yes, no}
use Rattle.prop_core.specs.declared.lit.Lit.{Lit}
use Rattle.question_clauses.proofs.StepsExact.{runs_have_steps, only_steps_matter, sets_in_order, same_sets}
use Rattle.question_clauses.proofs.StepsSound.{steps_are_sound}
use Rattle.question_clauses.proofs.StepCode.{steps_from_all, all_from_steps}
use Rattle.question_clauses.specs.StepClauses.{StepClause, step_clause, moves}
use Rattle.question_clauses.specs.StepCodes.{IsNamedStep}
use Rattle.question_clauses.specs.Steps.{StepClausesHold, AreSteps, AgreeOnSteps, AgreeOnEvents, step_sets}

log_from_all : (net : Net) (log : Log) (n : ℕ) (value : Meaning → Bool) → AllHold (IsNamedLog net log n) value → LogClausesHold net log n value
log_from_all net log n value all which is = all (log_clause net log n which) (which, is, refl)

all_from_log : (net : Net) (log : Log) (n : ℕ) (value : Meaning → Bool) → LogClausesHold net log n value → AllHold (IsNamedLog net log n) value
all_from_log net log n value holds named (which, is, same) = subst (λ clause. IsTrue (named_clause_true value clause)) same (holds which is)

pub doubtful_below : (log : Log) (i : ℕ) → is_doubtful log i ≡ true → i < length log.alarms
doubtful_below log i h = by (cases_lt i (length log.alarms))
  where
    nothing : false ≡ true → ⊥
    nothing k = cc

    by : (i < length log.alarms) ⊎ (length log.alarms ≤ i) → i < length log.alarms
    by (inl below) = below
    by (inr past) = absurd (nothing (subst (λ o. unwrap_or (option_map (λ (alarm : Alarm). alarm.doubtful) o) false ≡ true) (slice_get_past log.alarms i past) h))

module _ (net : Net) (log : Log) (n : ℕ) (names : List (ℕ × Meaning)) (written : List Clause) (assumed : List Lit) (code : IsLogCode net log n names written assumed) where
  -- what is true by name is true by variable, and the other way round
  written_true : (assignment : ℕ → Bool) (value : Meaning → Bool) → Match names assignment value → LogClausesHold net log n value → AllClausesTrue assignment written
  written_true assignment value match holds = (code_holds (IsNamedLog net log n) names written assignment value code.clauses match).1 (all_from_log net log n value holds)

  pub log_true : (assignment : ℕ → Bool) (value : Meaning → Bool) → Match names assignment value → LogClausesHold net log n value → GuardsHold net log value → MakesLogTrue assignment written assumed
  log_true assignment value match holds guards = record {
    clauses = written_true assignment value match holds;
    guards = (literals_by_name names assignment value match assumed (guard_literals net log) code.guards).1 guards;
  }

  pub log_holds : (assignment : ℕ → Bool) (value : Meaning → Bool) → Match names assignment value → MakesLogTrue assignment written assumed → LogClausesHold net log n value × GuardsHold net log value
  log_holds assignment value match makes = (
    log_from_all net log n value ((code_holds (IsNamedLog net log n) names written assignment value code.clauses match).0 makes.clauses),
    (literals_by_name names assignment value match assumed (guard_literals net log) code.guards).0 makes.guards,
  )

  -- variables that aren't of the log keep their truth where their names do
  kept : (given : ℕ → Bool) (value : Meaning → Bool) → DifferInLog (value_by names given) value → DifferInLogVariables names given (assignment_by names value given)
  kept given value differ var h = by (meaning_of names var) refl
    where
      by : (o : Option Meaning) → meaning_of names var ≡ o → assignment_by names value given var ≡ given var
      by None e = ap (λ o. unwrap_or (option_map value o) (given var)) e
      by (Some meaning) e =
          let other : is_of_log meaning ≡ false = sym (ap (λ o. unwrap_or (option_map is_of_log o) false) e) ∙ h in
          ap (λ o. unwrap_or (option_map value o) (given var)) e ∙ differ meaning other ∙ sym (values_match names code.once given var meaning e)

  -- a doubtful alarm has a variable, since its clauses are there
  dropped_named : (i : ℕ) → is_doubtful log i ≡ true → (var : ℕ) × (meaning_of names var ≡ Some (dropped i))
  dropped_named i h =
      let there = code.clauses.all (log_clause net log n (not_done_first i)) (not_done_first i, doubtful_below log i h, refl) in
      read_named names there.0 there.2.read (yes (dropped i)) there.2.by_name
      ((there.2.same (yes (dropped i))).1 (here_later (no (done i 0)) (or_false log i []) (yes (dropped i)) (subst (λ b. Contains (cond b (yes (dropped i) ∷ []) []) (yes (dropped i))) (sym h) (here_first (yes (dropped i)) [] (yes (dropped i)) refl))))

  -- so by variables the same alarms are false
  pub false_kept : (assignment : ℕ → Bool) (value : Meaning → Bool) (order : List Entry) → Match names assignment value → HasFalse log value order → HasFalse log (value_by names assignment) order
  false_kept assignment value order match has = has ∙ ap (λ (p : ℕ → Bool). count_by p (numbers_below (length log.alarms))) (λ j i. same i j)
    where
      same : (i : ℕ) → is_false_alarm log value i ≡ is_false_alarm log (value_by names assignment) i
      same i = by (is_doubtful log i) refl
        where
          by : (b : Bool) → is_doubtful log i ≡ b → is_false_alarm log value i ≡ is_false_alarm log (value_by names assignment) i
          by false e = rw e refl
          by true e = let named = dropped_named i e in rw e (sym (match named.0 (dropped i) named.1) ∙ values_match names code.once assignment named.0 (dropped i) named.1)

  completed : (given : ℕ → Bool) (value : Meaning → Bool) (order : List Entry) → DifferInLog (value_by names given) value → LogClausesHold net log n value → GuardsHold net log value → HasFalse log value order →
      (assignment : ℕ → Bool) × DifferInLogVariables names given assignment × MakesLogTrue assignment written assumed × HasFalse log (value_by names assignment) order
  completed given value order differ holds guards has = (
    assignment_by names value given,
    kept given value differ,
    log_true (assignment_by names value given) value (assignments_match names value given) holds guards,
    false_kept (assignment_by names value given) value order (assignments_match names value given) has,
  )

  opened_up : (given : ℕ → Bool) → (assignment : ℕ → Bool) × DifferInLogVariables names given assignment × AllClausesTrue assignment written
  opened_up given =
      let law = log_is_open (value_by names given) in (
        assignment_by names (opened (value_by names given)) given,
        kept given (opened (value_by names given)) law.0,
        written_true (assignment_by names (opened (value_by names given)) given) (opened (value_by names given)) (assignments_match names (opened (value_by names given)) given) (λ which h. law.1 net log n which h),
      )

pub log_code_is_exact : LogCodeIsExact
log_code_is_exact net log n names written assumed code = record {
  sound = λ assignment pieces alarms valid complete kept steps makes.
      let holds = log_holds net log n names written assumed code assignment (value_by names assignment) (values_match names code.once assignment) makes in
      log_is_sound net log n (value_by names assignment) pieces alarms valid complete kept steps holds.0 holds.1;
  complete = λ given pieces order steps linear.
      let found = log_is_complete net log n (value_by names given) pieces order steps linear in
      completed net log n names written assumed code given found.0 order found.1 found.2 found.3 found.4;
  matched = λ assignment makes.
      let holds = log_holds net log n names written assumed code assignment (value_by names assignment) (values_match names code.once assignment) makes in
      matches_are_exact net log n (value_by names assignment) holds.0 holds.1;
  unguarded = opened_up net log n names written assumed code;
}

-- variables as their names say, and those without a name false
by_variable : List (ℕ × Meaning) → (Meaning → Bool) → ℕ → Bool
by_variable names value = assignment_by names value (λ var. false)

matched_by : (names : List (ℕ × Meaning)) (value : Meaning → Bool) → Match names (by_variable names value) value
unfolding by_variable
matched_by names value = assignments_match names value (λ var. false)

-- The events of the steps have variables, since the clauses of the steps are there.
some_state : (marks : List Bool) → list_any (λ mark. mark) marks ≡ true → 0 < length marks
some_state [] h = cc
some_state (mark ∷ marks) h = omega arith

pub event_named : (net : Net) (n : ℕ) (names : List (ℕ × Meaning)) (stepped : List Clause) → IsNetwork net → IsCode names (IsNamedStep net n) stepped → (e t : ℕ) → e < length net.events → t < n →
    (var : ℕ) × (meaning_of names var ≡ Some (happens e (suc t)))
event_named net n names stepped network code e t known step = by (parts_of net e) refl is_event.moving
  where
    is_event : IsEvent net.components (event_at net e)
    is_event = all_at (IsEvent net.components) net.events network.events (event_at net e) (Contains-get_or net.events e no_event known)

    by : (parts : List Part) → parts_of net e ≡ parts → 0 < length (parts_of net e) → (var : ℕ) × (meaning_of names var ≡ Some (happens e (suc t)))
    by [] is moving = absurd (omega (arith, ap length is))
    by (part ∷ parts) is moving =
        let inside : Contains (parts_of net e) part = subst (λ ps. Contains ps part) (sym is) (here_first part parts part refl) in
        let known' = all_at _ (parts_of net e) is_event.known part inside in
        let component : IsComponent (component_at net part.comp) = all_at IsComponent net.components network.components (component_at net part.comp) (Contains-get_or net.components part.comp no_component known'.component) in
        let marks = some_state (component_at net part.comp).initial component.startable in
        let same = component.marked in
        let which : StepClause = moves e part.comp part.action 0 t in
        let there = code.all (step_clause net which) (which, (inside, omega (arith, marks, same), step), refl) in
        read_named names there.0 there.2.read (no (happens e (suc t))) there.2.by_name ((there.2.same (no (happens e (suc t)))).1 (0, omega arith, refl))

-- The steps of a truth that a truth of the log goes on from: by variables they are as by name.
stepped_from : (net : Net) (log : Log) (n : ℕ) (names : List (ℕ × Meaning)) (stepped written : List Clause) (assumed : List Lit) (pieces : List (List ℕ)) →
    IsNetwork net → IsUnboundedQuestion net log n names stepped written assumed → (given value : Meaning → Bool) → StepClausesHold net n given → AreSteps net n given pieces → DifferInLog given value →
    AreSteps net n (value_by names (by_variable names value)) pieces × AllClausesTrue (by_variable names value) stepped
stepped_from net log n names stepped written assumed pieces network question given value clauses steps differ = (
  same_sets net n given (value_by names (by_variable names value)) pieces agree steps,
  (code_holds (IsNamedStep net n) names stepped (by_variable names value) value question.steps (matched_by names value)).1
      (all_from_steps net n value (only_steps_matter net n given value same clauses)),
)
  where
    same : AgreeOnSteps given value
    same = record { states = λ c q t. sym (differ (in_state c q t) refl); events = λ e t. sym (differ (happens e t) refl); chains = λ family k of_steps. sym (differ (some_of_first family k) (ap not of_steps)) }

    agree : AgreeOnEvents net n given (value_by names (by_variable names value))
    agree e t known step =
        let named = event_named net n names stepped network question.steps e t known step in
        sym (values_match names question.log_code.once (by_variable names value) named.0 (happens e (suc t)) named.1) ∙ matched_by names value named.0 (happens e (suc t)) named.1 ∙ differ (happens e (suc t)) refl

pub explanations_are_coded : ExplanationsAreCoded
explanations_are_coded net log n names stepped written assumed word order pieces network question run count cut linear =
    let given = runs_have_steps net word pieces (λ meaning. false) network run cut in
    let clauses = subst (λ m. StepClausesHold net m given.0) count given.1 in
    let steps = subst (λ m. AreSteps net m given.0 pieces) count given.2 in
    let made = log_is_complete net log n given.0 pieces order steps (subst (λ w. Linearises net log w order) cut.whole linear) in
    let all = stepped_from net log n names stepped written assumed pieces network question given.0 made.0 clauses steps made.1 in (
      by_variable names made.0,
      all.0,
      record { steps = all.1; log_true = log_true net log n names written assumed question.log_code (by_variable names made.0) made.0 (matched_by names made.0) made.2 made.3 },
      false_kept net log n names written assumed question.log_code (by_variable names made.0) made.0 order (matched_by names made.0) made.4,
    )

pub runs_stay_open : RunsStayOpen
runs_stay_open net log n names stepped written assumed word pieces network question run count cut =
    let given = runs_have_steps net word pieces (λ meaning. false) network run cut in
    let clauses = subst (λ m. StepClausesHold net m given.0) count given.1 in
    let steps = subst (λ m. AreSteps net m given.0 pieces) count given.2 in
    let law = log_is_open given.0 in
    let all = stepped_from net log n names stepped written assumed pieces network question given.0 (opened given.0) clauses steps law.0 in (
      by_variable names (opened given.0),
      all.0,
      all.1,
      written_true net log n names written assumed question.log_code (by_variable names (opened given.0)) (opened given.0) (matched_by names (opened given.0)) (λ which h. law.1 net log n which h),
    )

pub assignments_explain : AssignmentsExplain
assignments_explain net log n names stepped written assumed assignment alarms network question valid complete kept makes =
    let matched = values_match names question.log_code.once assignment in
    let holds = log_holds net log n names written assumed question.log_code assignment (value_by names assignment) matched makes.log_true in
    let clauses = steps_from_all net n (value_by names assignment) ((code_holds (IsNamedStep net n) names stepped assignment (value_by names assignment) question.steps matched).0 makes.steps) in
    let arranged' = log_is_sound net log n (value_by names assignment) (step_sets net n (value_by names assignment)) alarms valid complete kept (sets_in_order net n (value_by names assignment)) holds.0 holds.1 in
    let run = steps_are_sound net n (value_by names assignment) (decoded net log (value_by names assignment) alarms n) network clauses arranged'.steps in
    record {
      steps = arranged'.steps;
      explains = record { run = run.0; fits = (decoded net log (value_by names assignment) alarms n, arranged'.steps.count, run.1); linear = arranged'.linear };
      false_alarms = arranged'.false_alarms;
    }
