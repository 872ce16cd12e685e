-- The pump in two steps, the empty log, and a counter of one column, coded one after another: which variables have which names.
use Rattle.std.proofs.Common.{◌≡◌, ◌<◌, true, false, List, [], ◌∷◌, ◌++◌, refl, arith}
use Rattle.std.proofs.lemmas.List.Elements.{All-from_recursion}
use Rattle.card_counter.proofs.States.{none_is_made}
use Rattle.card_counter.specs.CounterState.{CounterState, IsMade, without_columns, with_column, bound_literal}
use Rattle.des_net.specs.Models.{pump}
use Rattle.log_encode.proofs.CodeLemmas.{empty_is_coded}
use Rattle.log_order.specs.Log.{Alarm, an_alarm}
use Rattle.question_clauses.specs.Additions.{alarm_added}
use Rattle.log_encode.specs.CodedLog.{CodedLog, empty_code}
use Rattle.prop_core.specs.VariableNames.{in_state, happens, asked, closed, reaches}
use Rattle.prop_core.specs.declared.lit.Lit.{Lit}
use Rattle.run_decode.proofs.WholeNames.{together_begins, together_grow}
use Rattle.run_decode.specs.RunNaming.{IsCodedBeside, run_meanings}
use Rattle.run_decode.specs.WholeNaming.{counter_after, whole_meanings, AreCodedTogether}
use Rattle.step_encode.specs.Coded.{CodedSteps, code_grid}
use Rattle.step_encode.specs.FaultInputs.{fault_literals}

abbrev steps : CodedSteps
steps = record { net = pump; steps = 2; first = 0 }

-- the steps take 17 variables
abbrev code : CodedLog
code = empty_code pump (code_grid steps) 17

-- the jam of the first step and of the second
abbrev inputs : List Lit
inputs = record { var = 9; positive = true } ∷ record { var = 10; positive = true } ∷ []

abbrev no_columns : CounterState
no_columns = without_columns inputs

abbrev counter : CounterState
counter = with_column no_columns 21

pub jam_variables : fault_literals pump (code_grid steps) ≡ inputs
jam_variables = refl

pub coded_beside : IsCodedBeside steps code
coded_beside = record { net = refl; grid = refl; logged = empty_is_coded pump (code_grid steps) 17 refl (omega arith) (omega arith) }

pub coded_together : AreCodedTogether steps code counter
coded_together =
    let begun = together_begins steps code no_columns [] coded_beside refl refl in
    let made : IsMade 21 no_columns = none_is_made 21 inputs (All-from_recursion (λ (l : Lit). l.var < 21) inputs (omega arith, (omega arith, tt))) in
    (together_grow steps code no_columns 21 begun (omega arith) made).by_column (omega arith)

pub names_of_run : run_meanings steps code ≡
    (0, in_state 0 0 0) ∷ (1, in_state 0 1 0) ∷ (2, in_state 0 2 0) ∷ (3, in_state 0 0 1) ∷ (4, in_state 0 1 1) ∷ (5, in_state 0 2 1) ∷ (6, in_state 0 0 2) ∷ (7, in_state 0 1 2) ∷ (8, in_state 0 2 2)
    ∷ (9, happens 0 1) ∷ (10, happens 0 2) ∷ (11, happens 1 1) ∷ (12, happens 1 2) ∷ (13, happens 2 1) ∷ (14, happens 2 2) ∷ (15, happens 3 1) ∷ (16, happens 3 2)
    ∷ (17, asked) ∷ (18, closed 1 0) ∷ (19, closed 2 0) ∷ (20, closed 3 0) ∷ []
names_of_run = refl

pub names_of_all : whole_meanings steps code counter ≡ run_meanings steps code ++ (21, reaches 1 1) ∷ (22, reaches 2 1) ∷ []
names_of_all = refl

pub no_jam_literal : bound_literal counter 0 ≡ record { var = 22; positive = false }
no_jam_literal = refl

-- a doubtful alarm that may stand for the trip: five variables of its link, three of when it is done, and one that it is false
abbrev perhaps : Alarm
perhaps = an_alarm (97 ∷ []) ((84 ∷ []) ∷ []) true

pub counted_too : counter_after code counter (alarm_added perhaps) 23 ≡ record {
  inputs = inputs ++ record { var = 31; positive = true } ∷ [];
  columns = (21 ∷ 22 ∷ 32 ∷ []) ∷ [];
  spare_inputs = 0;
}
counted_too = refl

-- a certain one changes nothing
pub not_counted : counter_after code counter (alarm_added (an_alarm (97 ∷ []) ((84 ∷ []) ∷ []) false)) 23 ≡ counter
not_counted = refl
