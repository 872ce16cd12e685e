-- What the steps of reading a text come to.
use Rattle.std.specs.Prelude.{◌≡◌, ⊤, ℕ, ◌+◌, List, [], ◌∷◌, ◌++◌, ◌==◌, is_some, true, false, Option, Some, None, Result, Ok, Err}
use Rattle.std.specs.Borrow.{Bor}
use Rattle.std.specs.List.{AllByRecursion, list_all, slice_split}
use Rattle.des_base.specs.declared.name.NameFault.{NameFault}
use Rattle.des_base.specs.declared.name.NameFault.TheVariants as fault
use Rattle.des_base.specs.Names.{is_name_text, place_of}
use Rattle.log_order.specs.Log.{Log}
use Rattle.log_order.specs.declared.refusal.LogRefusal.{LogRefusal}
use Rattle.log_order.specs.declared.refusal.LogRefusal.TheVariants as refused
use Rattle.log_csv.specs.declared.fault.LogReadRefusal.{LogReadRefusal}
use Rattle.log_csv.specs.declared.fault.LogReadRefusal.TheVariants as text
use Rattle.log_csv.specs.declared.row.Row.{Row}
use Rattle.log_csv.specs.declared.refusal.RowRefusal.{RowRefusal}
use Rattle.log_csv.specs.declared.refusal.RowRefusal.TheVariants.{Shape, Name, Memory}
use Rattle.log_csv.specs.Records.{Record, alarm, before, ask, nothing, malformed}
use Rattle.log_csv.specs.Faults.{IsLogDue, log_fault_at}
use Rattle.log_csv.specs.ScriptText.{row_code, row_of}
use Rattle.log_csv.specs.LogText.{ids_of, log_of_records, record_code}

-- the pieces between bars of what is left of a field, if anything is
abbrev pub pieces_in : Option (Bor (List ℕ)) → List (List ℕ)
pieces_in None = []
pieces_in (Some rest) = slice_split (λ byte. byte == 124) rest.now

-- why a record becomes no row, where one of its texts became no name
abbrev pub row_refusal_of_name : NameFault → RowRefusal
row_refusal_of_name fault.Shape = Name
row_refusal_of_name fault.Memory = Memory

-- the refusal of a text for the record of this row
abbrev pub row_refusal_at : ℕ → RowRefusal → LogReadRefusal
row_refusal_at row Shape = text.Fault (record { row = row; code = 6 })
row_refusal_at row Name = text.Fault (record { row = row; code = 7 })
row_refusal_at row Memory = text.Memory

-- the text as a name, where it is one
abbrev pub IsNamedInRow : List ℕ → Result (List ℕ) RowRefusal → Type 0
IsNamedInRow text (Ok name) = (name ≡ text) × (is_name_text text ≡ true)
IsNamedInRow text (Err Shape) = ⊥
IsNamedInRow text (Err Name) = is_name_text text ≡ false
IsNamedInRow text (Err Memory) = ⊤

-- the same for some texts
abbrev pub AreNamed : List (List ℕ) → Result (List (List ℕ)) RowRefusal → Type 0
AreNamed texts (Ok names) = (names ≡ texts) × (list_all is_name_text texts ≡ true)
AreNamed texts (Err Shape) = ⊥
AreNamed texts (Err Name) = list_all is_name_text texts ≡ false
AreNamed texts (Err Memory) = ⊤

-- the row of a record, or its code
abbrev pub Reads : Record → Result Row RowRefusal → Type 0
Reads said (Ok row) = (row_code said ≡ None) × (row_of said ≡ Some row)
Reads said (Err Shape) = row_code said ≡ Some 6
Reads said (Err Name) = row_code said ≡ Some 7
Reads said (Err Memory) = ⊤

-- the same, where a record may also say nothing
abbrev pub ReadsRecord : Record → Result (Option Row) RowRefusal → Type 0
ReadsRecord said (Ok row) = (row_code said ≡ None) × (row_of said ≡ row)
ReadsRecord said (Err Shape) = row_code said ≡ Some 6
ReadsRecord said (Err Name) = row_code said ≡ Some 7
ReadsRecord said (Err Memory) = ⊤

-- the alarms of a pair are among these
abbrev pub IsKnown : List (List ℕ) → Record → Type 0
IsKnown ids (alarm maybe id labels) = ⊤
IsKnown ids (before first second) = (is_some (place_of first ids) ≡ true) × (is_some (place_of second ids) ≡ true)
IsKnown ids ask = ⊤
IsKnown ids nothing = ⊤
IsKnown ids malformed = ⊤

-- the log of accepted records
pub record IsLogOf (earlier : List Record) (log : Log) : Type 0 where
  pub is : log ≡ log_of_records earlier
  pub known : AllByRecursion (IsKnown (ids_of earlier)) earlier

-- a record behind these was added, or refused for its code
abbrev pub Adds : List Record → Record → ℕ → Log → Result (Unit {0}) LogReadRefusal → Type 0
Adds earlier said row log (Ok done) = (record_code earlier said ≡ None) × IsLogOf (earlier ++ said ∷ []) log
Adds earlier said row log (Err refusal) = IsLogDue (log_fault_at row (record_code earlier said)) refusal

-- the refusal of a text, where the log refuses the record of this row
abbrev pub log_refusal_at : ℕ → LogRefusal → LogReadRefusal
log_refusal_at row refused.Double = text.Fault (record { row = row; code = 1 })
log_refusal_at row refused.Unknown = text.Fault (record { row = row; code = 2 })
log_refusal_at row refused.Cycle = text.Fault (record { row = row; code = 3 })
log_refusal_at row refused.NoLabels = text.Fault (record { row = row; code = 4 })
log_refusal_at row refused.Limit = text.Fault (record { row = row; code = 5 })
log_refusal_at row refused.Memory = text.Memory
