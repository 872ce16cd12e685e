-- Refusals and logs of worked scripts.
use Rattle.std.proofs.Common.{◌≡◌, ℕ, true, false, List, [], ◌∷◌, None, Some, refl}
use Rattle.std.specs.Prelude.{codes}
use Rattle.alarm_session.specs.Refusals.{refusal_number, refusal_of}
use Rattle.alarm_session.specs.Rows.{log_after_rows, row_refusal, script_built}
use Rattle.alarm_session.specs.declared.refusal.SessionRefusal.TheVariants.{Double, Unknown, Cycle, NoLabels, TooLarge}
use Rattle.des_net.specs.Models.{masked, pump}
use Rattle.least_faults.specs.Columns.{columns_built}
use Rattle.question_clauses.specs.Additions.{alarm_added, pair_added}
use Rattle.log_csv.specs.declared.row.Row.{Row}
use Rattle.log_csv.specs.declared.row.Row.TheVariants.{Alarm, Maybe, Before, Ask}
use Rattle.log_order.specs.Adding.{alarm_refusal, before_refusal}
use Rattle.log_order.specs.Log.{Log, a_log, an_alarm, no_log}
use Rattle.log_order.specs.declared.refusal.LogRefusal.{LogRefusal}
use Rattle.log_order.specs.declared.refusal.LogRefusal.TheVariants as of_log
use Rattle.run_decode.specs.QuestionAxioms.{added_built, question_built}
use Rattle.log_csv.proofs.LogLemmas.{refusal_code}

-- the refusals of a log have the numbers that they have in its text
pub same_codes : (refusal : LogRefusal) → refusal_number (refusal_of refusal) ≡ refusal_code refusal
same_codes of_log.Double = refl
same_codes of_log.Unknown = refl
same_codes of_log.Cycle = refl
same_codes of_log.NoLabels = refl
same_codes of_log.Limit = refl
same_codes of_log.Memory = refl

-- ---- a later alarm, that comes before the first, and then a pair that would close a cycle

abbrev pub x : List ℕ
x = codes "x"

abbrev pub y : List ℕ
y = codes "y"

abbrev pub both : Log
both = a_log (an_alarm x (codes "A" ∷ []) false ∷ an_alarm y (codes "B" ∷ []) true ∷ []) ((1, 0) ∷ [])

pub script-log : log_after_rows masked 2 no_log (Alarm x (codes "A" ∷ []) ∷ Ask ∷ Maybe y (codes "B" ∷ codes "B" ∷ []) ∷ Before y x ∷ Ask ∷ Before x y ∷ Ask ∷ []) ≡ both
unfolding alarm_refusal before_refusal
script-log = refl

pub ask-none : row_refusal masked 2 both Ask ≡ None
ask-none = refl

pub pair-cycle : row_refusal masked 2 both (Before x y) ≡ Some Cycle
unfolding before_refusal
pair-cycle = refl

pub pair-again : row_refusal masked 2 both (Before y x) ≡ None
unfolding before_refusal
pair-again = refl

pub pair-unknown : row_refusal masked 2 both (Before x (codes "z")) ≡ Some Unknown
pair-unknown = refl

-- ---- the question of a script, as it is built

-- An alarm that is refused adds nothing, nor does a pair that is there; the questions add one column and then two.
abbrev pub rows : List Row
rows = Alarm x (codes "T" ∷ []) ∷ Ask ∷ Maybe y (codes "T" ∷ []) ∷ Maybe y (codes "T" ∷ []) ∷ Before y x ∷ Before y x ∷ Ask ∷ []

pub script-built :
    script_built pump 1 rows (0 ∷ 1 ∷ 0 ∷ 0 ∷ 0 ∷ 0 ∷ 2 ∷ [])
    ≡ columns_built (added_built (added_built (columns_built (added_built (question_built pump no_log 1 0) (alarm_added (an_alarm x (codes "T" ∷ []) false))) 1) (alarm_added (an_alarm y (codes "T" ∷ []) true))) (pair_added 1 0)) 2
unfolding alarm_refusal before_refusal
script-built = refl

-- where the numbers end, no columns are added
pub script-short : script_built pump 1 rows (0 ∷ 1 ∷ []) ≡ script_built pump 1 rows (0 ∷ 1 ∷ 0 ∷ 0 ∷ 0 ∷ 0 ∷ 0 ∷ [])
unfolding alarm_refusal before_refusal
script-short = refl

-- Columns before an addition and behind it make other questions.
pub script-order : (script_built pump 1 (Maybe y (codes "T" ∷ []) ∷ Ask ∷ []) (0 ∷ 1 ∷ [])).counter.columns ≡ (20 ∷ 21 ∷ []) ∷ []
unfolding alarm_refusal before_refusal
script-order = refl

pub script-order_back : (script_built pump 1 (Ask ∷ Maybe y (codes "T" ∷ []) ∷ []) (1 ∷ [])).counter.columns ≡ (14 ∷ 21 ∷ []) ∷ []
unfolding alarm_refusal before_refusal
script-order_back = refl

-- ---- alarms that are refused

pub alarm-double : row_refusal masked 2 both (Maybe x []) ≡ Some Double
unfolding alarm_refusal
alarm-double = refl

pub alarm-no_labels : row_refusal masked 2 both (Alarm (codes "z") []) ≡ Some NoLabels
unfolding alarm_refusal
alarm-no_labels = refl

-- The valve and one alarm have the size 51 n + 256 n. A number of steps that no command takes shows what is too large.
pub alarm-too_large : row_refusal pump 65573 no_log (Alarm x (codes "T" ∷ [])) ≡ Some (TooLarge 20130911)
unfolding alarm_refusal
alarm-too_large = refl

pub alarm-fits : row_refusal pump 65146 no_log (Alarm x (codes "T" ∷ [])) ≡ None
unfolding alarm_refusal
alarm-fits = refl
