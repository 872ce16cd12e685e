-- What is built of a question is determined.
use Rattle.std.proofs.Common.{◌≡◌, ◌∙◌, ℕ, zero, suc, List, [], ◌∷◌, ◌++◌, length, refl, ap, arith, length-append}
use Rattle.std.specs.List.{range_with_len}
use Rattle.card_counter.specs.CounterState.{without_columns}
use Rattle.des_net.specs.Network.{Net}
use Rattle.log_encode.specs.CodedLog.{CodedLog, log_meanings, false_literals, IsCodedLog}
use Rattle.prop_core.proofs.Listed.{clause_written, listed_are_written}
use Rattle.prop_core.specs.Clauses.{Clause}
use Rattle.prop_core.specs.Listings.{written_by}
use Rattle.prop_core.specs.declared.lit.Lit.{Lit}
use Rattle.question_clauses.proofs.LaidOut.{steps_are_laid_out}
use Rattle.question_clauses.specs.StepCodes.{StepsBelow}
use Rattle.run_decode.specs.QuestionAxioms.{steps_built, inputs_built, alone_built, question_built, QuestionBegins, ColumnsAreCounted}
use Rattle.run_decode.specs.WholeNaming.{AreInputs}
use Rattle.step_encode.specs.Coded.{CodedSteps, code_meanings, code_grid, AppendsSteps}
use Rattle.step_encode.specs.FaultInputs.{fault_literals}

steps_written : (net : Net) (n : ℕ) (stepped : List Clause) → AppendsSteps net n (code_meanings (steps_built net n)) [] stepped → stepped ≡ written_by (code_meanings (steps_built net n)) (StepsBelow net n)
steps_written net n stepped appended = appended.whole ∙ listed_are_written (code_meanings (steps_built net n)) (StepsBelow net n) appended.more (steps_are_laid_out net n 0).once appended.listed

inputs_written : (steps : CodedSteps) (code : CodedLog) (inputs : List Lit) → IsCodedLog code → AreInputs steps code inputs → inputs ≡ inputs_built steps code
inputs_written steps code inputs coded are =
    are.whole ∙ ap (λ lits. fault_literals steps.net (code_grid steps) ++ lits) (clause_written (log_meanings code) coded.meanings.once are.false_lits (false_literals code.log) are.read)

pub question_begins : QuestionBegins
question_begins net log n code stepped written inputs appended coded built are =
    (λ i. record { steps = steps_built net n; code = code; counter = without_columns (counted i); vars = code.vars; axioms = stepped_are i ++ written })
    ∙ ap (alone_built (steps_built net n)) built
  where
    counted : inputs ≡ inputs_built (steps_built net n) code
    counted = inputs_written (steps_built net n) code inputs coded are

    stepped_are : stepped ≡ written_by (code_meanings (steps_built net n)) (StepsBelow net n)
    stepped_are = steps_written net n stepped appended

pub columns_are_counted : ColumnsAreCounted
columns_are_counted net log n zero = refl
columns_are_counted net log n (suc columns) =
    let before = question_built net log n columns in
    omega (arith, columns_are_counted net log n columns, length-append before.counter.columns (range_with_len before.vars (length before.counter.inputs) ∷ []))
