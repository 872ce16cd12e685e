-- The logs, scripts and first faults of worked texts.
use Rattle.std.proofs.Common.{◌≡◌, ℕ, true, false, [], ◌∷◌, Option, None, Some, refl}
use Rattle.std.specs.Prelude.{codes}
use Rattle.csv.proofs.OnLiterals.{csv_on_literals}
use Rattle.des_base.specs.Names.{is_name_byte, is_name_text}
use Rattle.log_order.specs.Log.{Log, no_log, a_log, an_alarm}
use Rattle.log_csv.specs.declared.fault.LogFault.{LogFault}
use Rattle.log_csv.specs.declared.row.Row.TheVariants.{Alarm, Maybe, Before, Ask}
use Rattle.log_csv.specs.Records.{alarm, before, nothing, malformed, record_of}
use Rattle.log_csv.specs.ScriptText.{first_script_fault, row_code, script_of}
use Rattle.log_csv.specs.LogText.{first_log_fault, log_of, log_of_records, record_code}
use Rattle.log_csv.specs.PrintedLog.{alarm_line, log_text}

abbrev at : ℕ → ℕ → Option LogFault
at row code = Some (record { row = row; code = code })

-- one alarm, whose record has a quoted field and fields that are empty
abbrev pub one_trip : Log
one_trip = a_log ((an_alarm (codes "a1") (codes "T" ∷ []) false) ∷ []) []

pub trip-read : log_of (codes "\"alarm\",a1,T,,") ≡ one_trip
unfolding csv_on_literals record_of
trip-read = refl

pub trip-well : first_log_fault (codes "\"alarm\",a1,T,,") ≡ None
unfolding csv_on_literals record_of record_code is_name_text is_name_byte
trip-well = refl

-- the same, but doubtful
abbrev pub perhaps_trip : Log
perhaps_trip = a_log ((an_alarm (codes "a1") (codes "T" ∷ []) true) ∷ []) []

pub perhaps-read : log_of (codes "maybe,a1,T") ≡ perhaps_trip
unfolding csv_on_literals record_of
perhaps-read = refl

pub nothing-read : log_of [] ≡ no_log
unfolding csv_on_literals
nothing-read = refl

-- ---- first faults

pub double-alarm : first_log_fault (codes ",\nalarm,a,T\nalarm,a,F") ≡ at 3 1
unfolding csv_on_literals record_of record_code is_name_text is_name_byte
double-alarm = refl

pub double-doubtful : first_log_fault (codes "alarm,a,T\nmaybe,a,F") ≡ at 2 1
unfolding csv_on_literals record_of record_code is_name_text is_name_byte
double-doubtful = refl

pub unknown-alarm : first_log_fault (codes "alarm,a,T\nbefore,a,z") ≡ at 2 2
unfolding csv_on_literals record_of record_code is_name_text is_name_byte
unknown-alarm = refl

pub own-cycle : first_log_fault (codes "alarm,a,T\nbefore,a,a") ≡ at 2 3
unfolding csv_on_literals record_of record_code is_name_text is_name_byte
own-cycle = refl

pub no-labels : first_log_fault (codes "alarm,a,") ≡ at 1 4
unfolding csv_on_literals record_of record_code is_name_text is_name_byte
no-labels = refl

pub too-short : first_log_fault (codes "alarm,a") ≡ at 1 6
unfolding csv_on_literals record_of record_code is_name_text is_name_byte
too-short = refl

pub question-in-log : first_log_fault (codes "ask") ≡ at 1 6
unfolding csv_on_literals record_of record_code is_name_text is_name_byte
question-in-log = refl

pub no-name : first_log_fault (codes "alarm,a b,T") ≡ at 1 7
unfolding csv_on_literals record_of record_code is_name_text is_name_byte
no-name = refl

-- ---- records

pub labels-said : record_of (codes "alarm" ∷ codes "a" ∷ codes "T|F|T" ∷ []) ≡ alarm false (codes "a") (codes "T" ∷ codes "F" ∷ codes "T" ∷ [])
unfolding record_of
labels-said = refl

pub empty-label : row_code (alarm false (codes "a") (codes "T" ∷ [] ∷ [])) ≡ Some 7
unfolding row_code is_name_text is_name_byte
empty-label = refl

pub blank-said : record_of ([] ∷ [] ∷ []) ≡ nothing
unfolding record_of
blank-said = refl

pub further-field : record_of (codes "before" ∷ codes "a" ∷ codes "b" ∷ [] ∷ codes "c" ∷ []) ≡ malformed
unfolding record_of
further-field = refl

-- a repeated label, a repeated pair and a pair in the other order of the alarms
pub pairs-read : log_of_records (alarm false (codes "b") (codes "T" ∷ codes "T" ∷ []) ∷ alarm false (codes "a") (codes "F" ∷ []) ∷ before (codes "a") (codes "b") ∷ nothing ∷ before (codes "a") (codes "b") ∷ [])
    ≡ (a_log ((an_alarm (codes "b") (codes "T" ∷ []) false) ∷ (an_alarm (codes "a") (codes "F" ∷ []) false) ∷ []) ((1, 0) ∷ []))
pairs-read = refl

-- ---- scripts

pub script-read : script_of (codes "alarm,a,A\nask\nbefore,b,a\n") ≡ Alarm (codes "a") (codes "A" ∷ []) ∷ Ask ∷ Before (codes "b") (codes "a") ∷ []
unfolding csv_on_literals record_of
script-read = refl

pub doubtful-row : script_of (codes "maybe,a,A|B\n") ≡ Maybe (codes "a") (codes "A" ∷ codes "B" ∷ []) ∷ []
unfolding csv_on_literals record_of
doubtful-row = refl

pub question-too-long : first_script_fault (codes "ask,x") ≡ at 1 6
unfolding csv_on_literals record_of row_code is_name_text is_name_byte
question-too-long = refl

pub script-name : first_script_fault (codes "before,a b,c") ≡ at 1 7
unfolding csv_on_literals record_of row_code is_name_text is_name_byte
script-name = refl

-- ---- printed logs

pub trip-text : log_text one_trip ≡ codes "alarm,a1,T\n"
unfolding alarm_line
trip-text = refl

pub perhaps-text : log_text perhaps_trip ≡ codes "maybe,a1,T\n"
unfolding alarm_line
perhaps-text = refl
