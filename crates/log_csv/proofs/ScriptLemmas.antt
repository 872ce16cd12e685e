-- The rows of a script, one after another.
use Rattle.std.proofs.Common.{◌≡◌, ◌+◌, ◌≤◌, ℕ, suc, List, [], ◌∷◌, ◌++◌, length, Option, Some, None, Ok, Err, refl, arith, ap, sym, ◌∙◌, append_assoc, map}
use Rattle.std.specs.Prelude.{filter_map}
use Rattle.std.specs.List.{cons_option}
use Rattle.std.specs.Option.{option_to_list, option_or}
use Rattle.std.proofs.lemmas.List.{append-nil}
use Rattle.log_csv.specs.declared.fault.LogFault.{LogFault}
use Rattle.log_csv.specs.declared.fault.LogReadRefusal.{LogReadRefusal}
use Rattle.log_csv.specs.declared.fault.LogReadRefusal.TheVariants as text
use Rattle.log_csv.specs.declared.row.Row.{Row}
use Rattle.log_csv.specs.declared.refusal.RowRefusal.{RowRefusal}
use Rattle.log_csv.specs.declared.refusal.RowRefusal.TheVariants.{Shape, Name, Memory}
use Rattle.log_csv.specs.Records.{Record, record_of}
use Rattle.log_csv.specs.Faults.{IsLogDue, log_fault_at}
use Rattle.log_csv.specs.ScriptText.{first_row_fault, row_code, row_of}
use Rattle.log_csv.specs.Reading.{ReadsRecord, row_refusal_at}

-- ---- a record

pub push-row : (rows new : List Row) (said : Record) (row : Row) → new ≡ rows ++ row ∷ [] → ReadsRecord said (Ok (Some row)) → new ≡ rows ++ option_to_list (row_of said)
push-row rows new said row e r = e ∙ ap (λ o. rows ++ option_to_list o) (sym r.1)

pub push-none : (rows : List Row) (said : Record) → ReadsRecord said (Ok None) → rows ≡ rows ++ option_to_list (row_of said)
push-none rows said r = sym (append-nil rows) ∙ ap (λ o. rows ++ option_to_list o) (sym r.1)

pub refused-due : (said : Record) (row : ℕ) (e : RowRefusal) → ReadsRecord said (Err e) → IsLogDue (log_fault_at row (row_code said)) (row_refusal_at row e)
refused-due said row Shape h = ap (log_fault_at row) h
refused-due said row Name h = ap (log_fault_at row) h
refused-due said row Memory h = tt

pub ruleset pushed_rows = (push-row, push-none, refused-due)

-- ---- the records to come

-- a fault of the first record is that of all
pub due_here : (first later all : Option LogFault) (e : LogReadRefusal) → option_or first later ≡ all → IsLogDue first e → IsLogDue all e
due_here first later all text.Memory h d = tt
due_here None later all (text.Fault told) h d = cc
due_here (Some fault) later all (text.Fault told) h d = sym h ∙ d

pub no_fault : (first later all : Option LogFault) → option_or first later ≡ all → first ≡ None → later ≡ all
no_fault None later all h e = h
no_fault (Some fault) later all h e = cc

first_row : (o : Option Row) (rest : List Row) → cons_option o rest ≡ option_to_list o ++ rest
first_row None rest = refl
first_row (Some row) rest = refl

pub rows-on : (rows new : List Row) (old left : List (List (List ℕ))) (fields : List (List ℕ)) (all : List Row) → old ≡ fields ∷ left → rows ++ filter_map row_of (map record_of old) ≡ all
    → new ≡ rows ++ option_to_list (row_of (record_of fields)) → new ++ filter_map row_of (map record_of left) ≡ all
rows-on rows new old left fields all e h p =
    let rest = filter_map row_of (map record_of left) in
    ap (λ xs. xs ++ rest) p
    ∙ append_assoc rows (option_to_list (row_of (record_of fields))) rest
    ∙ ap (λ xs. rows ++ xs) (sym (first_row (row_of (record_of fields)) rest))
    ∙ ap (λ xs. rows ++ filter_map row_of (map record_of xs)) (sym e)
    ∙ h

pub row_faults-first : (row : ℕ) (old left : List (List (List ℕ))) (fields : List (List ℕ)) (all : Option LogFault) → old ≡ fields ∷ left → first_row_fault row (map record_of old) ≡ all
    → option_or (log_fault_at row (row_code (record_of fields))) (first_row_fault (row + 1) (map record_of left)) ≡ all
row_faults-first row old left fields all e h = ap (λ xs. first_row_fault row (map record_of xs)) (sym e) ∙ h

pub row_faults-on : (row : ℕ) (old left : List (List (List ℕ))) (fields : List (List ℕ)) (all : Option LogFault) → old ≡ fields ∷ left → first_row_fault row (map record_of old) ≡ all
    → row_code (record_of fields) ≡ None → first_row_fault (row + 1) (map record_of left) ≡ all
row_faults-on row old left fields all e h c = no_fault _ _ all (row_faults-first row old left fields all e h) (ap (log_fault_at row) c)

pub row_faults-here : (row : ℕ) (old left : List (List (List ℕ))) (fields : List (List ℕ)) (all : Option LogFault) (refusal : LogReadRefusal) → old ≡ fields ∷ left → first_row_fault row (map record_of old) ≡ all
    → IsLogDue (log_fault_at row (row_code (record_of fields))) refusal → IsLogDue all refusal
row_faults-here row old left fields all refusal e h d = due_here _ _ all refusal (row_faults-first row old left fields all e h) d

-- with a record behind it, there is room for the row's number
pub count-on : (row bytes : ℕ) (old left : List (List (List ℕ))) (fields : List (List ℕ)) → old ≡ fields ∷ left → row + length old ≤ bytes → row + 1 + length left ≤ bytes
count-on row bytes old left fields e h = let k : length old ≡ suc (length left) = ap length e in omega arith

pub no_rows : (rows : List Row) (old : List (List (List ℕ))) (all : List Row) → old ≡ [] → rows ++ filter_map row_of (map record_of old) ≡ all → rows ≡ all
no_rows rows old all e h = sym (append-nil rows) ∙ ap (λ xs. rows ++ filter_map row_of (map record_of xs)) (sym e) ∙ h

pub no_row_faults : (row : ℕ) (old : List (List (List ℕ))) (all : Option LogFault) → old ≡ [] → first_row_fault row (map record_of old) ≡ all → all ≡ None
no_row_faults row old all e h = sym h ∙ ap (λ xs. first_row_fault row (map record_of xs)) e

pub ruleset script_rows = (rows-on, row_faults-on, row_faults-here, count-on, no_rows, no_row_faults)
