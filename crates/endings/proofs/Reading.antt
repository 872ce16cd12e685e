-- Files that are read as texts.
use Rattle.std.proofs.Common.{◌≡◌, ◌≢◌, inr, ℕ, List, length, Option, Some, None, ap, refl}
use Rattle.std.specs.Prelude.{option_map}
use Rattle.des_net.specs.Network.{Net}
use Rattle.event_costs.specs.CostText.{IsCostDue, IsTableOf, first_cost_fault}
use Rattle.event_costs.specs.declared.fault.CostRefusal.{CostRefusal}
use Rattle.event_costs.specs.declared.fault.CostRefusal.TheVariants.{Fault as CostFaulty, Memory as CostMemory}
use Rattle.model_text.specs.declared.fault.ModelRefusal.{ModelRefusal}
use Rattle.model_text.specs.declared.fault.ModelRefusal.TheVariants.{Fault, Memory as ModelMemory}
use Rattle.model_text.specs.ModelFaults.{network_of, first_model_fault, IsModelDue}
use Rattle.log_order.specs.Log.{Log as AlarmLog}
use Rattle.log_csv.specs.declared.fault.LogReadRefusal.{LogReadRefusal}
use Rattle.log_csv.specs.declared.fault.LogReadRefusal.TheVariants.{Fault as LogFaulty, Memory as LogMemory}
use Rattle.log_csv.specs.Faults.{IsLogDue}
use Rattle.log_csv.specs.LogText.{log_of, first_log_fault}
use Rattle.log_csv.specs.ScriptText.{first_script_fault, script_of}
use Rattle.log_csv.specs.declared.row.Row.{Row}
use Rattle.prop_core.specs.Clauses.{Clause}
use Rattle.proof_ledger.specs.Checking.{check_proof}
use Rattle.proof_ledger.specs.declared.checker.Checked.{Checked}
use Rattle.proof_text.specs.declared.fault.TextRefusal.{TextRefusal}
use Rattle.proof_text.specs.declared.fault.TextRefusal.TheVariants.{Fault as TextFaulty, Memory as TextMemory}
use Rattle.proof_text.specs.TextFaults.{IsTextDue}
use Rattle.proof_text.specs.CnfText.{formula, formula_of, first_cnf_fault}
use Rattle.proof_text.specs.LratText.{proof_of, first_lrat_fault}
use Rattle.replay.specs.declared.run.RunStep.{RunStep}
use Rattle.replay.specs.declared.run_text.RunRefusal.{RunRefusal}
use Rattle.replay.specs.declared.run_text.RunRefusal.TheVariants.{Fault as RunFaulty, Memory as RunMemory}
use Rattle.replay.specs.RunText.{run_of, first_run_fault, TellsFault}
use Rattle.endings.specs.declared.stop.Stop.{Stop}
use Rattle.endings.specs.declared.stop.Stop.TheVariants.{Faulty, Memory}
use Rattle.endings.specs.declared.stop.FaultyText.{FaultyText}
use Rattle.endings.specs.declared.stop.FaultyText.TheVariants.{Model, Log, Run, Cnf, Lrat, Cost}
use Rattle.endings.specs.Refusals.{stop_of_model, stop_of_log, stop_of_run, stop_of_cnf, stop_of_lrat, stop_of_cost}
use Rattle.endings.specs.Texts.{fault_of_model, fault_of_log, fault_of_script, fault_of_run, fault_of_cnf, fault_of_lrat, fault_of_costs}
use Rattle.endings.specs.Files.{Loads, Holds, IsText, IsReadAs, StopsIn}

pub none_told : {X : Type 0} (f : X → FaultyText) (o : Option X) → o ≡ None → option_map f o ≡ None
none_told f None h = refl
none_told f (Some x) h = cc

pub none_before : {X : Type 0} (f : X → FaultyText) (o : Option X) → option_map f o ≡ None → o ≡ None
none_before f None h = refl
none_before f (Some x) h = cc

pub model_stops : (l : Loads) (i : ℕ) (name : List ℕ) (limit : ℕ) (text : List ℕ) (refusal : ModelRefusal) (stop : Stop)
    → Holds l.held name limit text → IsModelDue (first_model_fault text) refusal → stop ≡ stop_of_model refusal → stop ≢ Memory → StopsIn l i name limit fault_of_model stop
model_stops l i name limit text (Fault fault) stop holds due is never =
    inr (record { bytes = text; holds = holds; text = Model fault; faulty = ap (option_map (λ f. Model f)) due; told = is })
model_stops l i name limit text ModelMemory stop holds due is never = absurd (never is)

pub model_read : (held : List ℕ → Option (List ℕ)) (name : List ℕ) (limit : ℕ) (text : List ℕ) (net : Net) → Holds held name limit text → first_model_fault text ≡ None → net ≡ network_of text
    → IsReadAs held name limit fault_of_model (λ text. net ≡ network_of text)
model_read held name limit text net holds well is = (text, record { holds = holds; well = none_told _ (first_model_fault text) well }, is)

pub run_stops : (l : Loads) (i : ℕ) (name : List ℕ) (limit : ℕ) (net : Net) (text : List ℕ) (refusal : RunRefusal) (stop : Stop)
    → Holds l.held name limit text → TellsFault (first_run_fault net text) refusal → stop ≡ stop_of_run refusal → stop ≢ Memory → StopsIn l i name limit (fault_of_run net) stop
run_stops l i name limit net text (RunFaulty fault) stop holds due is never =
    inr (record { bytes = text; holds = holds; text = Run fault; faulty = ap (option_map (λ f. Run f)) due; told = is })
run_stops l i name limit net text RunMemory stop holds due is never = absurd (never is)

pub run_read : (held : List ℕ → Option (List ℕ)) (name : List ℕ) (limit : ℕ) (net : Net) (text : List ℕ) (run : List RunStep) → Holds held name limit text → first_run_fault net text ≡ None → run ≡ run_of net text
    → IsReadAs held name limit (fault_of_run net) (λ text. run ≡ run_of net text)
run_read held name limit net text run holds well is = (text, record { holds = holds; well = none_told _ (first_run_fault net text) well }, is)

-- ---- texts whose refusal has the fault

-- the stop has the fault that is found
by_fault : {X : Type 0} (l : Loads) (i : ℕ) (name : List ℕ) (limit : ℕ) (fault : List ℕ → Option X) (of : X → FaultyText) (text : List ℕ) (x : X) (stop : Stop)
    → Holds l.held name limit text → fault text ≡ Some x → stop ≡ Faulty (of x) → StopsIn l i name limit (λ bytes. option_map of (fault bytes)) stop
by_fault l i name limit fault of text x stop holds found is = inr (record { bytes = text; holds = holds; text = of x; faulty = ap (option_map of) found; told = is })

is_well : {X : Type 0} (held : List ℕ → Option (List ℕ)) (name : List ℕ) (limit : ℕ) (fault : List ℕ → Option X) (of : X → FaultyText) (text : List ℕ)
    → Holds held name limit text → fault text ≡ None → IsText held name limit (λ bytes. option_map of (fault bytes)) text
is_well held name limit fault of text holds well = record { holds = holds; well = none_told of (fault text) well }

pub log_stops : (l : Loads) (i : ℕ) (name : List ℕ) (limit : ℕ) (text : List ℕ) (refusal : LogReadRefusal) (stop : Stop)
    → Holds l.held name limit text → IsLogDue (first_log_fault text) refusal → stop ≡ stop_of_log refusal → stop ≢ Memory → StopsIn l i name limit fault_of_log stop
log_stops l i name limit text (LogFaulty fault) stop holds due is never = by_fault l i name limit first_log_fault (λ f. Log f) text fault stop holds due is
log_stops l i name limit text LogMemory stop holds due is never = absurd (never is)

pub log_read : (held : List ℕ → Option (List ℕ)) (name : List ℕ) (limit : ℕ) (text : List ℕ) (log : AlarmLog) → Holds held name limit text → first_log_fault text ≡ None → log ≡ log_of text
    → IsReadAs held name limit fault_of_log (λ text. log ≡ log_of text)
log_read held name limit text log holds well is = (text, is_well held name limit first_log_fault (λ f. Log f) text holds well, is)

pub script_stops : (l : Loads) (i : ℕ) (name : List ℕ) (limit : ℕ) (text : List ℕ) (refusal : LogReadRefusal) (stop : Stop)
    → Holds l.held name limit text → IsLogDue (first_script_fault text) refusal → stop ≡ stop_of_log refusal → stop ≢ Memory → StopsIn l i name limit fault_of_script stop
script_stops l i name limit text (LogFaulty fault) stop holds due is never = by_fault l i name limit first_script_fault (λ f. Log f) text fault stop holds due is
script_stops l i name limit text LogMemory stop holds due is never = absurd (never is)

pub script_read : (held : List ℕ → Option (List ℕ)) (name : List ℕ) (limit : ℕ) (text : List ℕ) (rows : List Row) → Holds held name limit text → first_script_fault text ≡ None → rows ≡ script_of text
    → IsReadAs held name limit fault_of_script (λ text. rows ≡ script_of text)
script_read held name limit text rows holds well is = (text, is_well held name limit first_script_fault (λ f. Log f) text holds well, is)

pub cnf_stops : (l : Loads) (i : ℕ) (name : List ℕ) (limit : ℕ) (text : List ℕ) (refusal : TextRefusal) (stop : Stop)
    → Holds l.held name limit text → IsTextDue (first_cnf_fault text) refusal → stop ≡ stop_of_cnf refusal → stop ≢ Memory → StopsIn l i name limit fault_of_cnf stop
cnf_stops l i name limit text (TextFaulty fault) stop holds due is never = by_fault l i name limit first_cnf_fault (λ f. Cnf f) text fault stop holds due is
cnf_stops l i name limit text TextMemory stop holds due is never = absurd (never is)

pub cnf_read : (held : List ℕ → Option (List ℕ)) (name : List ℕ) (limit : ℕ) (text : List ℕ) (vars : ℕ) (clauses : List Clause) → Holds held name limit text → first_cnf_fault text ≡ None → formula vars clauses ≡ formula_of text
    → IsReadAs held name limit fault_of_cnf (λ text. formula vars clauses ≡ formula_of text)
cnf_read held name limit text vars clauses holds well is = (text, is_well held name limit first_cnf_fault (λ f. Cnf f) text holds well, is)

pub lrat_stops : (l : Loads) (i : ℕ) (name : List ℕ) (limit : ℕ) (vars : ℕ) (clauses : List Clause) (text : List ℕ) (refusal : TextRefusal) (stop : Stop)
    → Holds l.held name limit text → IsTextDue (first_lrat_fault vars (length clauses) text) refusal → stop ≡ stop_of_lrat refusal → stop ≢ Memory → StopsIn l i name limit (fault_of_lrat (formula vars clauses)) stop
lrat_stops l i name limit vars clauses text (TextFaulty fault) stop holds due is never = by_fault l i name limit (first_lrat_fault vars (length clauses)) (λ f. Lrat f) text fault stop holds due is
lrat_stops l i name limit vars clauses text TextMemory stop holds due is never = absurd (never is)

pub lrat_checked : (held : List ℕ → Option (List ℕ)) (name : List ℕ) (limit : ℕ) (vars : ℕ) (clauses : List Clause) (text : List ℕ) (checked : Checked)
    → Holds held name limit text → first_lrat_fault vars (length clauses) text ≡ None → checked ≡ check_proof clauses (proof_of text)
    → IsReadAs held name limit (fault_of_lrat (formula vars clauses)) (λ text. checked ≡ check_proof clauses (proof_of text))
lrat_checked held name limit vars clauses text checked holds well is = (text, is_well held name limit (first_lrat_fault vars (length clauses)) (λ f. Lrat f) text holds well, is)

pub costs_stop : (l : Loads) (i : ℕ) (name : List ℕ) (limit : ℕ) (net : Net) (text : List ℕ) (refusal : CostRefusal) (stop : Stop)
    → Holds l.held name limit text → IsCostDue (first_cost_fault net text) refusal → stop ≡ stop_of_cost refusal → stop ≢ Memory → StopsIn l i name limit (fault_of_costs net) stop
costs_stop l i name limit net text (CostFaulty fault) stop holds due is never = by_fault l i name limit (first_cost_fault net) (λ f. Cost f) text fault stop holds due is
costs_stop l i name limit net text CostMemory stop holds due is never = absurd (never is)

pub costs_read : (held : List ℕ → Option (List ℕ)) (name : List ℕ) (limit : ℕ) (net : Net) (text : List ℕ) (table : List (Option ℕ)) → Holds held name limit text → first_cost_fault net text ≡ None → IsTableOf net text table
    → IsReadAs held name limit (fault_of_costs net) (λ text. IsTableOf net text table)
costs_read held name limit net text table holds well is = (text, is_well held name limit (first_cost_fault net) (λ f. Cost f) text holds well, is)
