-- The guards of a log are its guard literals by the names of their variables, in order.
use Rattle.std.proofs.Common.{◌≡◌, List, Some}
use Rattle.question_clauses.specs.LogClauses.{guard_literals}
use Rattle.log_encode.proofs.CodeLemmas.{beside}
use Rattle.log_encode.specs.CodedLog.{CodedLog, IsCodedLog, log_guards, read_meanings}
use Rattle.prop_core.proofs.Listed.{clause_written}
use Rattle.prop_core.specs.VariableNames.{named_clause}
use Rattle.prop_core.specs.declared.lit.Lit.{Lit}

pub guards_listed : (code : CodedLog) (guards : List Lit) → IsCodedLog code → named_clause (read_meanings code) guards ≡ Some (guard_literals code.net code.log) → guards ≡ log_guards code
guards_listed code guards whole listed = clause_written (read_meanings code) (beside code whole).once guards (guard_literals code.net code.log) listed
