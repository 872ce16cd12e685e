-- A question with what was made for verdicts beside it tells which explanations have an event, and which haven't.
use Rattle.std.proofs.Common.{◌≡◌, ◌≢◌, ◌∙◌, ◌⊎◌, inl, inr, ℕ, suc, ◌<◌, Bool, true, false, not, ◌==◌, List, [], ◌∷◌, ◌++◌, length, Some, None, refl, sym, ap, subst, Contains, IsTrue}
use Rattle.std.specs.Bool.{beq}
use Rattle.std.proofs.lemmas.Bool.{eqb-true, eq-eqb}
use Rattle.std.specs.List.{list_any}
use Rattle.card_counter.specs.CounterState.{positive}
use Rattle.des_base.specs.Lists.{EachPair, numbers_below}
use Rattle.des_net.specs.Network.{Net, IsNetwork}
use Rattle.des_base.proofs.BoolLemmas.{either as or_cases, otherwise as as_false, clash, beq_true, beq_false, or_left, or_right}
use Rattle.des_base.proofs.Elements.{all_append, all_from as all_of, cons_cases, map_from, map_has, none_in_nil}
use Rattle.question_clauses.proofs.Lists.{all_at, in_numbers, from_numbers}
use Rattle.log_order.specs.Log.{Log, IsValidLog}
use Rattle.prop_core.proofs.NameLemmas.{values_match, assignments_match}
use Rattle.prop_core.specs.Clauses.{Clause, negation, literal_true, clause_true, AllClausesTrue, AllLiteralsTrue}
use Rattle.prop_core.specs.NamedClauses.{value_by, assignment_by}
use Rattle.prop_core.specs.VariableNames.{Meaning, happens, meaning_of, HasEachOnce}
use Rattle.prop_core.specs.declared.grid.Grid.{Grid}
use Rattle.prop_core.specs.declared.lit.Lit.{Lit}
use Rattle.run_decode.proofs.Assumptions.{is_guard}
use Rattle.run_decode.proofs.Tells.{ridden_tells, consistent_by, unnamed, guards_true, Rides, SaysOfWords}
use Rattle.run_decode.specs.Faithful.{MakesTrue}
use Rattle.run_decode.specs.Tells.{Tells}
use Rattle.step_encode.specs.FaultInputs.{event_literal, event_literals}
use Rattle.question_clauses.proofs.Happening.{happened}
use Rattle.fault_verdicts.proofs.Truths.{happening, happening_is, some_true, true_some}
use Rattle.fault_verdicts.specs.Asked.{asked_for, without, with_event, some_step_clause, some_step_clauses, no_step_literals}
use Rattle.fault_verdicts.specs.Telling.{IsEventGrid, AreMade, AsksBeside}

-- the event happens in no step, and in some
abbrev Nowhere : ℕ → ℕ → (Meaning → Bool) → Type 0
Nowhere n e value = (t : ℕ) → t < n → value (happens e (suc t)) ≡ false

abbrev Somewhere : ℕ → ℕ → (Meaning → Bool) → Type 0
Somewhere n e value = (t : ℕ) × (t < n) × (value (happens e (suc t)) ≡ true)

nowhere_says : (net : Net) (log : Log) (n e : ℕ) → e < length net.events → SaysOfWords net log n (Nowhere n e) (λ word order. Contains word e → ⊥)
nowhere_says net log n e known value pieces order are false' = (
  λ none in'. let found = happened net n value pieces are e in' in clash (value (happens e (suc found.0))) found.2 (none found.0 found.1),
  λ none t less. as_false (value (happens e (suc t))) (λ is. none (happening net n value pieces are e t known less is)),
)

somewhere_says : (net : Net) (log : Log) (n e : ℕ) → e < length net.events → SaysOfWords net log n (Somewhere n e) (λ word order. Contains word e)
somewhere_says net log n e known value pieces order are false' = (
  λ some. happening net n value pieces are e some.0 known some.1 some.2,
  λ in'. happened net n value pieces are e in',
)

-- ---- the clauses of variables that were made

-- where the variable is false the clause is true
false_variable : (assignment : ℕ → Bool) (grid : Grid) (entry : ℕ × ℕ) → assignment entry.0 ≡ false → clause_true assignment (some_step_clause grid entry) ≡ true
false_variable assignment grid entry is = or_left (beq (assignment entry.0) false) (list_any (literal_true assignment) (event_literals grid entry.1)) (beq_false (assignment entry.0) ∙ ap not is)

-- and where an event of the grid is true
true_event : (assignment : ℕ → Bool) (grid : Grid) (entry : ℕ × ℕ) → list_any (literal_true assignment) (event_literals grid entry.1) ≡ true → clause_true assignment (some_step_clause grid entry) ≡ true
true_event assignment grid entry is = or_right (beq (assignment entry.0) false) (list_any (literal_true assignment) (event_literals grid entry.1)) is

pub event_of_true : (assignment : ℕ → Bool) (grid : Grid) (entry : ℕ × ℕ) → clause_true assignment (some_step_clause grid entry) ≡ true → assignment entry.0 ≡ true → list_any (literal_true assignment) (event_literals grid entry.1) ≡ true
event_of_true assignment grid entry clause is = by (or_cases (beq (assignment entry.0) false) (list_any (literal_true assignment) (event_literals grid entry.1)) clause)
  where
    by : (beq (assignment entry.0) false ≡ true) ⊎ (list_any (literal_true assignment) (event_literals grid entry.1) ≡ true) → list_any (literal_true assignment) (event_literals grid entry.1) ≡ true
    by (inl off) = let flip : not (assignment entry.0) ≡ true = sym (beq_false (assignment entry.0)) ∙ off in clash (not (assignment entry.0)) flip (ap not is)
    by (inr on) = on

clauses_of_made : (assignment : ℕ → Bool) (grid : Grid) (made : List (ℕ × ℕ)) → ((entry : ℕ × ℕ) → Contains made entry → clause_true assignment (some_step_clause grid entry) ≡ true) → AllClausesTrue assignment (some_step_clauses grid made)
clauses_of_made assignment grid made each = all_of (λ c. IsTrue (clause_true assignment c)) (some_step_clauses grid made) (λ c in'.
    let found = map_from (some_step_clause grid) made c in' in
    subst (λ d. IsTrue (clause_true assignment d)) found.2 (each found.0 found.1))

-- one event for each variable that was made
one_event : (made : List (ℕ × ℕ)) → EachPair (λ a b. a.0 ≢ b.0) made → (var e f : ℕ) → Contains made (var, e) → Contains made (var, f) → e ≡ f
one_event [] once var e f first second = absurd (none_in_nil (var, e) first)
one_event (entry ∷ made) once var e f first second = by (cons_cases entry made (var, e) first) (cons_cases entry made (var, f) second) (one_event made once.1 var e f)
  where
    by : (entry ≡ (var, e)) ⊎ Contains made (var, e) → (entry ≡ (var, f)) ⊎ Contains made (var, f) → (Contains made (var, e) → Contains made (var, f) → e ≡ f) → e ≡ f
    by (inl a) (inl b) later = ap (λ (p : ℕ × ℕ). p.1) (sym a ∙ b)
    by (inl a) (inr b) later = absurd (all_at (λ (p : ℕ × ℕ). entry.0 ≢ p.0) made once.0 (var, f) b (ap (λ (p : ℕ × ℕ). p.0) a))
    by (inr a) (inl b) later = absurd (all_at (λ (p : ℕ × ℕ). entry.0 ≢ p.0) made once.0 (var, e) a (ap (λ (p : ℕ × ℕ). p.0) b))
    by (inr a) (inr b) later = later a b

no_step_off : (net : Net) (n : ℕ) (names : List (ℕ × Meaning)) (grid : Grid) → IsEventGrid names net n grid → (e : ℕ) → e < length net.events → (value : Meaning → Bool) (given : ℕ → Bool) → Nowhere n e value →
    (l : Lit) → Contains (no_step_literals grid e) l → IsTrue (literal_true (assignment_by names value given) l)
no_step_off net n names grid gridded e known value given none l in' =
    let assignment = assignment_by names value given in
    let outer = map_from negation (event_literals grid e) l in' in
    let inner = map_from (event_literal grid e) (numbers_below grid.steps) outer.0 outer.1 in
    let less = subst (λ m. inner.0 < m) gridded.0 (from_numbers grid.steps inner.0 inner.1) in
    let is = happening_is net n names grid gridded assignment value (assignments_match names value given) e inner.0 known less ∙ none inner.0 less in
    let low : assignment (event_literal grid e inner.0).var ≡ false = sym (beq_true (assignment (event_literal grid e inner.0).var)) ∙ is in
    subst (λ (m : Lit). IsTrue (literal_true assignment m)) outer.2 (subst (λ (m : Lit). IsTrue (literal_true assignment (negation m))) inner.2
    (beq_false (assignment (event_literal grid e inner.0).var) ∙ ap not low))

module _ (net : Net) (n : ℕ) (names : List (ℕ × Meaning)) (once : HasEachOnce names) (grid : Grid) (gridded : IsEventGrid names net n grid) (made : List (ℕ × ℕ)) (are : AreMade names net made) where
  -- all made variables false
  free : (value : Meaning → Bool) → AllClausesTrue (assignment_by names value (λ var. false)) (some_step_clauses grid made)
  free value = clauses_of_made (assignment_by names value (λ var. false)) grid made (λ entry in'.
      false_variable (assignment_by names value (λ var. false)) grid entry (unnamed names value (λ var. false) entry.0 (all_at (λ (p : ℕ × ℕ). meaning_of names p.0 ≡ None) made are.new entry in')))

  nowhere_rides : (e : ℕ) → e < length net.events → Rides names (some_step_clauses grid made) (no_step_literals grid e) (Nowhere n e)
  nowhere_rides e known = record {
    complete = λ value none. (
      λ var. false,
      record {
        clauses_true = free value;
        assumed_true = all_of (λ l. IsTrue (literal_true (assignment_by names value (λ var. false)) l)) (no_step_literals grid e) (λ l in'. no_step_off net n names grid gridded e known value (λ var. false) none l in');
      },
    );
    sound = λ assignment makes t less. by assignment makes t less;
    free = λ value. (λ var. false, free value);
  }
    where
      by : (assignment : ℕ → Bool) → MakesTrue assignment (some_step_clauses grid made) (no_step_literals grid e) → Nowhere n e (value_by names assignment)
      by assignment makes t less =
          let there = map_has negation (event_literals grid e) (event_literal grid e t) (map_has (event_literal grid e) (numbers_below grid.steps) t (in_numbers grid.steps t (subst (λ m. t < m) (sym gridded.0) less))) in
          let on = all_at (λ l. IsTrue (literal_true assignment l)) (no_step_literals grid e) makes.assumed_true (negation (event_literal grid e t)) there in
          let is = happening_is net n names grid gridded assignment (value_by names assignment) (values_match names once assignment) e t known less in
          sym is ∙ beq_true (assignment (event_literal grid e t).var) ∙ low (assignment (event_literal grid e t).var) on
        where
          low : (b : Bool) → beq b false ≡ true → b ≡ false
          low true h = cc
          low false h = refl

  somewhere_rides : (var e : ℕ) → Contains made (var, e) → Rides names (some_step_clauses grid made) (positive var ∷ []) (Somewhere n e)
  somewhere_rides var e in' = record {
    complete = λ value some. (λ v. v == var, record { clauses_true = clauses_of_made (assignment_by names value (λ v. v == var)) grid made (λ entry there. each value some entry there); assumed_true = (chosen value, tt) });
    sound = λ assignment makes.
        let clause = all_at (λ c. IsTrue (clause_true assignment c)) (some_step_clauses grid made) makes.clauses_true (some_step_clause grid (var, e)) (map_has (some_step_clause grid) made (var, e) in') in
        true_some net n names grid gridded assignment (value_by names assignment) (values_match names once assignment) e known
        (event_of_true assignment grid (var, e) clause (sym (beq_true (assignment var)) ∙ makes.assumed_true.0));
    free = λ value. (λ v. false, free value);
  }
    where
      known : e < length net.events
      known = all_at (λ (p : ℕ × ℕ). p.1 < length net.events) made are.events (var, e) in'

      chosen : (value : Meaning → Bool) → beq (assignment_by names value (λ v. v == var) var) true ≡ true
      chosen value = beq_true (assignment_by names value (λ v. v == var) var) ∙ unnamed names value (λ v. v == var) var (all_at (λ (p : ℕ × ℕ). meaning_of names p.0 ≡ None) made are.new (var, e) in') ∙ eq-eqb var var refl

      each : (value : Meaning → Bool) → Somewhere n e value → (entry : ℕ × ℕ) → Contains made entry → clause_true (assignment_by names value (λ v. v == var)) (some_step_clause grid entry) ≡ true
      each value some entry there = by (entry.0 == var) refl
        where
          by : (b : Bool) → entry.0 == var ≡ b → clause_true (assignment_by names value (λ v. v == var)) (some_step_clause grid entry) ≡ true
          by true is =
              let same : entry.0 ≡ var = eqb-true entry.0 var is in
              let event : entry.1 ≡ e = one_event made are.once var entry.1 e (subst (λ v. Contains made (v, entry.1)) same there) in' in
              true_event (assignment_by names value (λ v. v == var)) grid entry (subst (λ f. list_any (literal_true (assignment_by names value (λ v. v == var))) (event_literals grid f) ≡ true) (sym event)
              (some_true net n names grid gridded (assignment_by names value (λ v. v == var)) value (assignments_match names value (λ v. v == var)) e some.0 known some.1 some.2))
          by false is = false_variable (assignment_by names value (λ v. v == var)) grid entry
              (unnamed names value (λ v. v == var) entry.0 (all_at (λ (p : ℕ × ℕ). meaning_of names p.0 ≡ None) made are.new entry there) ∙ is)

-- ---- what is told

module _ (net : Net) (log : Log) (n k : ℕ) (names : List (ℕ × Meaning)) (grid : Grid) (made : List (ℕ × ℕ)) (whole : List Clause) (assumed : List Lit) (network : IsNetwork net) (valid : IsValidLog log)
    (beside : AsksBeside net log n k names grid made whole assumed) where
  -- no event is a guard
  all_off : (e : ℕ) → e < length net.events → AllLiteralsTrue (assignment_by names is_guard (λ var. false)) (no_step_literals grid e)
  all_off e known = all_of (λ l. IsTrue (literal_true (assignment_by names is_guard (λ var. false)) l)) (no_step_literals grid e)
      (λ l in'. no_step_off net n names grid beside.gridded e known is_guard (λ var. false) (λ t less. refl) l in')

  pub without_told : (e : ℕ) → e < length net.events → Tells whole (assumed ++ no_step_literals grid e) (asked_for net log n k e without)
  without_told e known =
      ridden_tells net log n (Some k) names beside.clauses (some_step_clauses grid made) whole assumed (no_step_literals grid e) (Nowhere n e) (λ word order. Contains word e → ⊥) network valid beside.asks
      (nowhere_rides net n names beside.asks.question.once grid beside.gridded made beside.made_new e known) (nowhere_says net log n e known) beside.both
      (consistent_by (assignment_by names is_guard (λ var. false)) (assumed ++ no_step_literals grid e)
      (all_append (λ l. IsTrue (literal_true (assignment_by names is_guard (λ var. false)) l)) assumed (no_step_literals grid e)
      (guards_true names net log n (Some k) (λ var. false) assumed beside.asks.assumes) (all_off e known)))

  pub with_told : (var e : ℕ) → Contains made (var, e) → Tells whole (assumed ++ positive var ∷ []) (asked_for net log n k e (with_event var))
  with_told var e in' =
      let known = all_at (λ (p : ℕ × ℕ). p.1 < length net.events) made beside.made_new.events (var, e) in' in
      ridden_tells net log n (Some k) names beside.clauses (some_step_clauses grid made) whole assumed (positive var ∷ []) (Somewhere n e) (λ word order. Contains word e) network valid beside.asks
      (somewhere_rides net n names beside.asks.question.once grid beside.gridded made beside.made_new var e in') (somewhere_says net log n e known) beside.both
      (consistent_by (assignment_by names is_guard (λ v. true)) (assumed ++ positive var ∷ [])
      (all_append (λ l. IsTrue (literal_true (assignment_by names is_guard (λ v. true)) l)) assumed (positive var ∷ [])
      (guards_true names net log n (Some k) (λ v. true) assumed beside.asks.assumes)
      (beq_true (assignment_by names is_guard (λ v. true) var) ∙ unnamed names is_guard (λ v. true) var (all_at (λ (p : ℕ × ℕ). meaning_of names p.0 ≡ None) made beside.made_new.new (var, e) in'), tt)))
