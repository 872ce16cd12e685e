-- The parts of a question, as they stand beside the book that holds its clauses.
use Rattle.std.specs.Prelude.{◌≡◌, ℕ, ◌+◌, ◌-◌, ◌*◌, ◌≤◌, List, length}
use Rattle.card_counter.specs.CounterState.{CounterState, IsMade}
use Rattle.des_base.specs.declared.TheConstants.{MOST_COLUMNS, MOST_STEPS, VAR_LIMIT}
use Rattle.des_net.specs.Network.{Net}
use Rattle.least_faults.specs.Bounds.{AreBounded}
use Rattle.least_faults.specs.declared.TheConstants.{MOST_SIZE}
use Rattle.least_faults.specs.declared.parts.Parts.{Parts}
use Rattle.log_encode.specs.CodedLog.{CodedLog}
use Rattle.log_order.specs.Log.{Log}
use Rattle.proof_ledger.specs.Book.{BookEntry, axioms_of, clauses_of}
use Rattle.prop_core.specs.Clauses.{Clause}
use Rattle.prop_core.specs.VariableNames.{Meaning}
use Rattle.replay.specs.QuestionSize.{question_size}
use Rattle.run_decode.specs.Decoding.{BelongTogether}
use Rattle.run_decode.specs.QuestionAxioms.{BuiltQuestion, question_built}
use Rattle.run_decode.specs.WholeNaming.{AreCodedTogether, AreClausesOf, whole_meanings}
use Rattle.sat_order.specs.Rank.{IsRanked}
use Rattle.sat_solve.specs.Searching.{HasAxiomVars}
use Rattle.step_encode.specs.Coded.{CodedSteps}

-- not too many steps, and not too large
pub record IsWithinLimits (net : Net) (log : Log) (n : ℕ) : Type 0 where
  pub steps : n ≤ MOST_STEPS
  pub size : question_size net log n ≤ MOST_SIZE

-- Steps, log and counter are coded together, on variables that were made; the axioms are the clauses of the three; and variables and axioms are no more than the question takes at most.
pub record AreParts (steps : CodedSteps) (code : CodedLog) (counter : CounterState) (vars : ℕ) (axioms : List Clause) : Type 0 where
  pub together : AreCodedTogether steps code counter
  pub clauses : AreClausesOf steps code counter axioms
  pub above : code.vars ≤ vars
  pub made : IsMade vars counter
  pub bounded : AreBounded steps code counter vars axioms

-- The parts are those of a book: its axioms are their clauses, in which all variables of its clauses occur, the solver has adopted all its clauses, and has their variables at least. The stored ranks are what was answered (`gives`) by what ranks, which may be asked (`may`).
pub record AreReady {R : Type 0} (may : R → ℕ → Type 0) (gives : R → ℕ → ℕ → Type 0) (parts : Parts R) (book : List BookEntry) : Type 0 where
  pub coded : AreParts parts.step parts.code.coded parts.counter parts.vars (axioms_of book)
  pub known : HasAxiomVars book
  pub adopted_all : parts.solver.adopted ≡ clauses_of book
  pub enough : parts.vars ≤ parts.solver.vars
  pub ranked : IsRanked may gives parts.solver.order

-- ---- beside further axioms

-- Steps, log and counter are coded together, on variables that were made, among which there may be others. With all columns that the counter may still get, they are within the limit.
pub record HaveRoom (steps : CodedSteps) (code : CodedLog) (counter : CounterState) (vars : ℕ) : Type 0 where
  pub together : AreCodedTogether steps code counter
  pub above : code.vars ≤ vars
  pub made : IsMade vars counter
  pub columns : length counter.columns ≤ MOST_COLUMNS
  pub fits : vars + (MOST_COLUMNS - length counter.columns) * length counter.inputs ≤ VAR_LIMIT

-- The parts stand beside a book that may have further axioms: all variables of its clauses occur in axioms, the solver has adopted all its clauses, and has the variables at least.
pub record AreReadyBeside {R : Type 0} (may : R → ℕ → Type 0) (gives : R → ℕ → ℕ → Type 0) (parts : Parts R) (book : List BookEntry) : Type 0 where
  pub coded : HaveRoom parts.step parts.code.coded parts.counter parts.vars
  pub known : HasAxiomVars book
  pub adopted_all : parts.solver.adopted ≡ clauses_of book
  pub enough : parts.vars ≤ parts.solver.vars
  pub ranked : IsRanked may gives parts.solver.order

-- ---- what was built

-- steps and log are coded for this network and this log
abbrev pub BelongTo : {R : Type 0} → Net → Log → Parts R → Type 0
BelongTo net log parts = BelongTogether net log parts.step parts.code.coded

-- what was built: how steps, log and counter are coded, and the axioms
abbrev pub built_of : {R : Type 0} → Parts R → List BookEntry → BuiltQuestion
built_of parts book = record { steps = parts.step; code = parts.code.coded; counter = parts.counter; vars = parts.vars; axioms = axioms_of book }

-- All of it is what network, log, n and the number of columns determine, the axioms as a list.
pub record IsBuilt {R : Type 0} (net : Net) (log : Log) (n : ℕ) (parts : Parts R) (book : List BookEntry) : Type 0 where
  pub determined : built_of parts book ≡ question_built net log n (length parts.counter.columns)

-- the meanings of all variables
abbrev pub meanings_of_parts : {R : Type 0} → Parts R → List (ℕ × Meaning)
meanings_of_parts parts = whole_meanings parts.step parts.code.coded parts.counter
