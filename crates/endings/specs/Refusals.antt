-- Why a command stops where a reader refuses a text.
use Rattle.event_costs.specs.declared.fault.CostRefusal.{CostRefusal}
use Rattle.event_costs.specs.declared.fault.CostRefusal.TheVariants.{Fault as CostFaulty, Memory as CostMemory}
use Rattle.model_text.specs.declared.fault.ModelRefusal.{ModelRefusal}
use Rattle.model_text.specs.declared.fault.ModelRefusal.TheVariants.{Fault as ModelFaulty, Memory as ModelMemory}
use Rattle.log_csv.specs.declared.fault.LogReadRefusal.{LogReadRefusal}
use Rattle.log_csv.specs.declared.fault.LogReadRefusal.TheVariants.{Fault as LogFaulty, Memory as LogMemory}
use Rattle.proof_text.specs.declared.fault.TextRefusal.{TextRefusal}
use Rattle.proof_text.specs.declared.fault.TextRefusal.TheVariants.{Fault as TextFaulty, Memory as TextMemory}
use Rattle.replay.specs.declared.run_text.RunRefusal.{RunRefusal}
use Rattle.replay.specs.declared.run_text.RunRefusal.TheVariants.{Fault as RunFaulty, Memory as RunMemory}
use Rattle.endings.specs.declared.stop.FaultyText.TheVariants.{Model, Log, Run, Cnf, Lrat, Cost}
use Rattle.endings.specs.declared.stop.Stop.{Stop}
use Rattle.endings.specs.declared.stop.Stop.TheVariants.{Faulty, Memory}

-- where a model text is refused: by its fault, or since memory ran out
abbrev pub stop_of_model : ModelRefusal → Stop
stop_of_model (ModelFaulty fault) = Faulty (Model fault)
stop_of_model ModelMemory = Memory

-- where a run text is refused
abbrev pub stop_of_run : RunRefusal → Stop
stop_of_run (RunFaulty fault) = Faulty (Run fault)
stop_of_run RunMemory = Memory

-- where a log text or a script is refused
abbrev pub stop_of_log : LogReadRefusal → Stop
stop_of_log (LogFaulty fault) = Faulty (Log fault)
stop_of_log LogMemory = Memory

-- where a formula text is refused
abbrev pub stop_of_cnf : TextRefusal → Stop
stop_of_cnf (TextFaulty fault) = Faulty (Cnf fault)
stop_of_cnf TextMemory = Memory

-- where a proof text is refused
abbrev pub stop_of_lrat : TextRefusal → Stop
stop_of_lrat (TextFaulty fault) = Faulty (Lrat fault)
stop_of_lrat TextMemory = Memory

-- where a cost text is refused
abbrev pub stop_of_cost : CostRefusal → Stop
stop_of_cost (CostFaulty fault) = Faulty (Cost fault)
stop_of_cost CostMemory = Memory
