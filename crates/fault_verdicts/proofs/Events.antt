-- The events of the run that an assignment gives, and how many faults it has.
use Rattle.std.proofs.Common.{◌≡◌, ◌↔◌, ◌∙◌, inl, inr, ℕ, zero, suc, ◌<◌, ◌≤◌, Bool, true, List, [], ◌∷◌, length, Option, refl, sym, ap, subst, arith, Contains, IsTrue}
use Rattle.std.proofs.lemmas.List.Elements.{Contains-append_left as append_left, Contains-append_right as append_right}
use Rattle.card_counter.proofs.Exact.{counter_is_exact}
use Rattle.card_counter.specs.CounterState.{CounterState, bound_literal, counter_clauses}
use Rattle.card_counter.specs.Counting.{true_count}
use Rattle.des_base.proofs.Elements.{all_from as all_of, here_first}
use Rattle.des_net.specs.Network.{Net, IsNetwork}
use Rattle.des_net.specs.Width.{joined}
use Rattle.question_clauses.proofs.Happening.{happened}
use Rattle.fault_verdicts.proofs.Truths.{happening}
use Rattle.fault_verdicts.specs.Judging.{at_most_of}
use Rattle.least_faults.specs.Asking.{AreAssumptions, bound_part}
use Rattle.question_clauses.proofs.Lists.{all_at}
use Rattle.question_clauses.specs.Decoded.{decoded}
use Rattle.log_encode.specs.CodedLog.{CodedLog}
use Rattle.log_order.proofs.LeastOrder.{least_order-is}
use Rattle.log_order.specs.Log.{Keeps, ListsOnce, Log, IsValidLog}
use Rattle.log_order.specs.Order.{least_order}
use Rattle.prop_core.specs.Clauses.{Clause, clause_true, literal_true, AllClausesTrue, AllLiteralsTrue}
use Rattle.prop_core.specs.Grids.{grid_variable}
use Rattle.prop_core.specs.VariableNames.{Meaning, happens}
use Rattle.prop_core.specs.declared.lit.Lit.{Lit}
use Rattle.replay.specs.Traced.{word_of}
use Rattle.replay.specs.declared.run.RunStep.{RunStep}
use Rattle.question_clauses.specs.Steps.{AreSteps}
use Rattle.run_decode.proofs.DecodeNames.{run_clauses_hold}
use Rattle.run_decode.proofs.DecodeRuns.{are_settled, run_word}
use Rattle.run_decode.proofs.RunNames.{truths_are_read}
use Rattle.run_decode.proofs.RunsGiven.{decoded_by_name}
use Rattle.run_decode.specs.Decoding.{BelongTogether, IsTrueRun, RunClausesHold, decoded_run}
use Rattle.run_decode.specs.RunNaming.{truth_of}
use Rattle.run_decode.specs.WholeNaming.{AreClausesOf, AreCodedTogether}
use Rattle.step_encode.specs.Coded.{CodedSteps, code_grid}

-- The run has an event exactly if a variable of the event is true.
pub run_has : (net : Net) (log : Log) (steps : CodedSteps) (code : CodedLog) (value : ℕ → Bool) (run : List RunStep) → IsNetwork net → IsValidLog log → BelongTogether net log steps code → IsTrueRun steps code value →
    run ≡ decoded_run net log (truth_of steps code value) (least_order (length log.alarms) log.pairs) steps.steps → (e : ℕ) → e < length net.events →
    Contains (word_of run) e ↔ ((t : ℕ) × (t < steps.steps) × (value (grid_variable (code_grid steps) e (suc t)) ≡ true))
run_has net log steps code value run network valid together is_true is e known = (
  λ in'. let found = happened net n truth pieces are e (subst (λ w. Contains w e) (ap word_of is ∙ word) in') in (found.0, found.1, sym (read found.0 found.1) ∙ found.2),
  λ some. subst (λ w. Contains w e) (sym (ap word_of is ∙ word)) (happening net n truth pieces are e some.0 known some.1 (read some.0 some.1 ∙ some.2)),
)
  where
    n : ℕ
    n = steps.steps

    truth : Meaning → Bool
    truth = truth_of steps code value

    order : List ℕ
    order = least_order (length log.alarms) log.pairs

    holds : RunClausesHold net log n truth
    holds = subst (λ l. RunClausesHold net l n truth) together.same_log (run_clauses_hold net log steps code value together is_true)

    listed : ListsOnce (length log.alarms) order
    listed = (least_order-is (length log.alarms) log.pairs valid).listed

    kept : Keeps order log.pairs
    kept = (least_order-is (length log.alarms) log.pairs valid).kept

    read : (t : ℕ) → t < n → truth (happens e (suc t)) ≡ value (grid_variable (code_grid steps) e (suc t))
    read t less = (truths_are_read steps code value together.beside).events e t (subst (λ (m : Net). e < length m.events) (sym together.of_steps) known) less

    pieces : List (List ℕ)
    pieces = decoded net log truth order n

    word : word_of (decoded_run net log truth order n) ≡ joined pieces
    word = run_word net log truth order n (are_settled net log n truth order holds.logged holds.guarded listed kept) listed.below

    are : AreSteps net n truth pieces
    are = (decoded_by_name net log n truth order network valid listed kept holds.stepped holds.logged holds.guarded).steps

-- ---- clauses of the parts and guards that are true

pub true_run_of : (steps : CodedSteps) (code : CodedLog) (counter : CounterState) (own : List Clause) (bound : Option ℕ) (assumed : List Lit) (value : ℕ → Bool) → AreClausesOf steps code counter own → AreAssumptions code counter bound assumed →
    AllClausesTrue value own → AllLiteralsTrue value assumed → IsTrueRun steps code value
true_run_of steps code counter own bound assumed value clauses assumptions all literals = record {
  guards = assumptions.guards;
  makes = record {
    stepped = clauses.stepped;
    written = clauses.written;
    step_code = clauses.step_code;
    log_code = clauses.log_code;
    guards_read = assumptions.read;
    makes = record {
      steps = all_of (λ c. IsTrue (clause_true value c)) clauses.stepped (λ clause in'. all_at (λ c. IsTrue (clause_true value c)) own all clause ((clauses.same clause).1 (inl in')));
      log_true = record {
        clauses = all_of (λ c. IsTrue (clause_true value c)) clauses.written (λ clause in'. all_at (λ c. IsTrue (clause_true value c)) own all clause ((clauses.same clause).1 (inr (inl in'))));
        guards = all_of (λ l. IsTrue (literal_true value l)) assumptions.guards
            (λ l in'. all_at (λ l'. IsTrue (literal_true value l')) assumed literals l (subst (λ xs. Contains xs l) (sym assumptions.whole) (append_left assumptions.guards (bound_part counter bound) l in')));
      };
    };
  };
}

-- no more inputs are true than the bound says
pub few_inputs_true : (steps : CodedSteps) (code : CodedLog) (counter : CounterState) (own : List Clause) (k m : ℕ) (assumed : List Lit) (value : ℕ → Bool) → length counter.inputs ≡ m → AreCodedTogether steps code counter → AreClausesOf steps code counter own →
    AreAssumptions code counter (at_most_of m k) assumed → AllClausesTrue value own → AllLiteralsTrue value assumed → true_count value counter.inputs ≤ k
few_inputs_true steps code counter own k zero assumed value none together clauses assumptions all literals = no_inputs counter.inputs none
  where
    no_inputs : (inputs : List Lit) → length inputs ≡ 0 → true_count value inputs ≤ k
    no_inputs [] h = omega arith
    no_inputs (l ∷ inputs) h = absurd (omega (arith, h))
few_inputs_true steps code counter own k (suc m) assumed value some together clauses assumptions all literals =
    let there = append_right assumptions.guards (bound_literal counter k ∷ []) (bound_literal counter k) (here_first (bound_literal counter k) [] (bound_literal counter k) refl) in
    let within = all_at (λ l. IsTrue (literal_true value l)) assumed literals (bound_literal counter k) (subst (λ ys. Contains ys (bound_literal counter k)) (sym assumptions.whole) there) in
    ((counter_is_exact counter together.counted).bounded k assumptions.column value).0
    (value, (λ var other. refl), (all_of (λ c. IsTrue (clause_true value c)) (counter_clauses counter) (λ clause in'. all_at (λ c. IsTrue (clause_true value c)) own all clause ((clauses.same clause).1 (inr (inr in')))), within))
