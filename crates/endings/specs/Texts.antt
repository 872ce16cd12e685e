-- The kinds of files, their limits, and the first fault of a text.
use Rattle.std.specs.Prelude.{ℕ, List, [], ◌∷◌, length, Option, None, option_map}
use Rattle.des_net.specs.Network.{Net}
use Rattle.event_costs.specs.CostText.{first_cost_fault}
use Rattle.model_text.specs.ModelFaults.{network_of, first_model_fault}
use Rattle.replay.specs.RunText.{first_run_fault}
use Rattle.log_csv.specs.LogText.{first_log_fault}
use Rattle.log_csv.specs.ScriptText.{first_script_fault}
use Rattle.proof_text.specs.CnfText.{Formula, formula_of, first_cnf_fault}
use Rattle.proof_text.specs.LratText.{first_lrat_fault}
use Rattle.endings.specs.declared.stop.FaultyText.{FaultyText}
use Rattle.endings.specs.declared.stop.FaultyText.TheVariants.{Model, Log, Run, Cnf, Lrat, Cost}

-- the kinds of files
pub data FileKind : Type 0 where
  model : FileKind
  log : FileKind
  script : FileKind
  run : FileKind
  cnf : FileKind
  lrat : FileKind
  costs : FileKind

-- how many bytes a file of this kind may have
abbrev pub limit_of : FileKind → ℕ
limit_of model = 16777216
limit_of log = 16777216
limit_of script = 16777216
limit_of run = 536870912
limit_of cnf = 536870912
limit_of lrat = 536870912
limit_of costs = 16777216

-- the first fault of a model text
abbrev pub fault_of_model : List ℕ → Option FaultyText
fault_of_model bytes = option_map (λ fault. Model fault) (first_model_fault bytes)

-- the first fault of a run text over this network
abbrev pub fault_of_run : Net → List ℕ → Option FaultyText
fault_of_run net bytes = option_map (λ fault. Run fault) (first_run_fault net bytes)

-- the first fault of a log text
abbrev pub fault_of_log : List ℕ → Option FaultyText
fault_of_log bytes = option_map (λ fault. Log fault) (first_log_fault bytes)

-- the first fault of a script, which has the codes of a log that are about its shape
abbrev pub fault_of_script : List ℕ → Option FaultyText
fault_of_script bytes = option_map (λ fault. Log fault) (first_script_fault bytes)

-- the first fault of a formula text
abbrev pub fault_of_cnf : List ℕ → Option FaultyText
fault_of_cnf bytes = option_map (λ fault. Cnf fault) (first_cnf_fault bytes)

-- the first fault of a proof text over this formula, of which the numbers of variables and of clauses matter
abbrev pub fault_of_lrat : Formula → List ℕ → Option FaultyText
fault_of_lrat formula bytes = option_map (λ fault. Lrat fault) (first_lrat_fault formula.vars (length formula.clauses) bytes)

-- the first fault of a cost text over this network
abbrev pub fault_of_costs : Net → List ℕ → Option FaultyText
fault_of_costs net bytes = option_map (λ fault. Cost fault) (first_cost_fault net bytes)

-- the first fault of a text by the kind of its file, where the files before it are given: a run and costs are read over the model, and a proof over the formula
abbrev pub fault_of_text : FileKind → List (List ℕ) → List ℕ → Option FaultyText
fault_of_text model files bytes = fault_of_model bytes
fault_of_text log files bytes = fault_of_log bytes
fault_of_text script files bytes = fault_of_script bytes
fault_of_text run [] bytes = None
fault_of_text run (text ∷ files) bytes = fault_of_run (network_of text) bytes
fault_of_text cnf files bytes = fault_of_cnf bytes
fault_of_text lrat [] bytes = None
fault_of_text lrat (text ∷ files) bytes = fault_of_lrat (formula_of text) bytes
fault_of_text costs [] bytes = None
fault_of_text costs (text ∷ files) bytes = fault_of_costs (network_of text) bytes
