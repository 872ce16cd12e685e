-- The place and the kind of a text's first fault.
use Rattle.std.specs.Prelude.{◌≡◌, ⊤, ℕ, Option, Some, option_map}
use Rattle.log_csv.specs.declared.fault.LogFault.{LogFault}
use Rattle.log_csv.specs.declared.fault.LogReadRefusal.{LogReadRefusal}
use Rattle.log_csv.specs.declared.fault.LogReadRefusal.TheVariants.{Fault, Memory}

-- the fault of this code on this row
abbrev pub log_fault_at : ℕ → Option ℕ → Option LogFault
log_fault_at row code = option_map (λ c. record { row = row; code = c }) code

-- A refusal names the first fault. Any call may run out of memory instead.
abbrev pub IsLogDue : Option LogFault → LogReadRefusal → Type 0
IsLogDue fault (Fault told) = fault ≡ Some told
IsLogDue fault Memory = ⊤
