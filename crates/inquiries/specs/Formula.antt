-- A question as a formula of its own: network, log, n and the bound determine it, and some assignment makes it true exactly if something explains the log within the bound.
use Rattle.std.specs.Prelude.{◌≡◌, ◌↔◌, ℕ, Bool, All, List, ◌++◌, length, map, nat_eq, Option, None, if◌then◌else◌}
use Rattle.card_counter.specs.CounterState.{CounterState}
use Rattle.des_net.specs.Network.{Net}
use Rattle.least_faults.specs.Asking.{assumed_by}
use Rattle.least_faults.specs.Columns.{columns_for}
use Rattle.least_faults.specs.Evidence.{IsPosed}
use Rattle.log_order.specs.Log.{Log}
use Rattle.proof_ledger.specs.Book.{BookEntry, axiomatic, axioms_of}
use Rattle.proof_text.specs.CnfText.{Formula, formula}
use Rattle.proof_text.specs.Refutation.{unit_clauses}
use Rattle.prop_core.specs.Clauses.{Clause, HasValues, AllClausesTrue}
use Rattle.prop_core.specs.VariableNames.{Meaning}
use Rattle.prop_core.specs.declared.lit.Lit.{Lit}
use Rattle.run_decode.specs.Faithful.{IsExplainedWithin}
use Rattle.run_decode.specs.QuestionAxioms.{BuiltQuestion, question_built}

-- ---- what is asked

-- a counter of no inputs counts no faults, within whatever bound
abbrev pub counted_bound : CounterState → Option ℕ → Option ℕ
counted_bound counter bound = if nat_eq (length counter.inputs) 0 then None else bound

-- the bound, if there is a fault to count
abbrev pub bound_within : Net → Log → ℕ → Option ℕ → Option ℕ
bound_within net log n bound = counted_bound (question_built net log n 0).counter bound

-- the question, built with the columns that the bound needs
abbrev pub question_within : Net → Log → ℕ → Option ℕ → BuiltQuestion
question_within net log n bound = question_built net log n (columns_for (bound_within net log n bound))

-- the guards of the log, and then the counter's literal for the bound
abbrev pub question_assumed : Net → Log → ℕ → Option ℕ → List Lit
question_assumed net log n bound = assumed_by (question_within net log n bound).code (question_within net log n bound).counter (bound_within net log n bound)

-- the axioms of the question in their order, and then a unit clause for each assumption
abbrev pub question_formula : Net → Log → ℕ → Option ℕ → Formula
question_formula net log n bound = formula (question_within net log n bound).vars ((question_within net log n bound).axioms ++ unit_clauses (question_assumed net log n bound))

-- ---- what it says

-- some assignment makes all clauses true
abbrev pub IsSatisfiable : List Clause → Type 0
IsSatisfiable clauses = (assignment : ℕ → Bool) × AllClausesTrue assignment clauses

-- It is the formula of the question, over variables that it has. Some assignment makes it true exactly if something explains the log within the bound.
-- The book has the axioms of the question, and nothing else. With what is assumed they pose it within the bound.
pub record IsFormulaOf (net : Net) (log : Log) (n : ℕ) (bound : Option ℕ) (book : List BookEntry) (f : Formula) : Type 0 where
  pub is : f ≡ question_formula net log n bound
  pub known : All (HasValues f.vars) f.clauses
  pub exact : IsSatisfiable f.clauses ↔ IsExplainedWithin net log n bound
  pub alone : book ≡ map axiomatic (question_within net log n bound).axioms
  pub meanings : List (ℕ × Meaning)
  pub posed : IsPosed meanings (axioms_of book) (question_assumed net log n bound) net log n bound
