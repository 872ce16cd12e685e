-- What is found of a log, with the book that shows it.
use Rattle.std.specs.Prelude.{◌≡◌, ℕ, List, map}
use Rattle.des_net.specs.Network.{Net}
use Rattle.least_faults.specs.Answers.{IsAnswered}
use Rattle.answers.specs.declared.found.Found.{Found}
use Rattle.log_order.specs.Log.{Log}
use Rattle.proof_ledger.specs.Book.{BookEntry, axiomatic, axioms_of, IsValidBook}
use Rattle.prop_core.specs.VariableNames.{Meaning}
use Rattle.run_decode.specs.QuestionAxioms.{question_axioms, question_built}

-- The book is valid. It has the axioms of the question first, and then what shows the answer. All its axioms are the list that network, log, n and a number of columns determine.
pub record IsDiagnosed (net : Net) (log : Log) (n budget : ℕ) (book : List BookEntry) (found : Found) : Type 0 where
  pub meanings : List (ℕ × Meaning)
  pub answered : IsAnswered meanings (question_built net log n 0) net log n budget (map axiomatic (question_axioms net log n 0)) book found
  pub columns : ℕ
  pub axioms : axioms_of book ≡ question_axioms net log n columns
  pub valid : IsValidBook book
