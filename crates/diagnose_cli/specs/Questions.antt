-- The questions about a model and a log: their names, their last words, and what a reply to each says.
use Rattle.std.specs.Prelude.{◌≢◌, ℕ, ⊤, List, [], ◌∷◌, codes, Option, Some, None, IsSomeAnd}
use Rattle.des_base.specs.Numbers.{number_up_to}
use Rattle.des_net.specs.Network.{Net}
use Rattle.log_order.specs.Log.{Log}
use Rattle.proof_ledger.specs.Book.{BookEntry}
use Rattle.endings.specs.declared.ending.Kind.{Kind}
use Rattle.endings.specs.declared.ending.Kind.TheVariants.{Undecided}
use Rattle.diagnose_cli.specs.Replies.{IsEnough, SaysFormula, SaysFound, SaysProved}
use Rattle.diagnose_cli.specs.Words.{bound_of, most_number}

-- A question about a network and a log: its name, and what its last word may spell. By that its budget, where it has one, and what a reply to it says within n steps, where this book is left.
pub record NamedQuestion : Type 1 where
  pub name : List ℕ
  pub Word : Type 0
  pub spelled : List ℕ → Option Word
  pub budget : Word → Option ℕ
  pub says : Word → Net → Log → ℕ → List BookEntry → (Kind × List ℕ) → Type 0

-- the least number of faults that explains the log, found by a search that may learn as many clauses as its budget says
abbrev pub diagnose_question : NamedQuestion
diagnose_question = record { name = codes "diagnose"; Word = ℕ; spelled = λ last. number_up_to most_number last; budget = λ budget. Some budget; says = λ budget net log n book. SaysFound net log n budget book }

-- what explains the log as a formula, with at most as many faults as its last word says, or with any number
abbrev pub cnf_question : NamedQuestion
cnf_question = record { name = codes "cnf"; Word = Option ℕ; spelled = λ last. bound_of last; budget = λ bound. None; says = λ bound net log n book. SaysFormula net log n bound book }

-- the refutation that `diagnose` finds of one fault fewer, or of any number where nothing explains the log
abbrev pub proof_question : NamedQuestion
proof_question = record { name = codes "proof"; Word = ℕ; spelled = λ last. number_up_to most_number last; budget = λ budget. Some budget; says = λ budget net log n book. SaysProved net log n budget book }

-- all of them
abbrev pub named_questions : List NamedQuestion
named_questions = diagnose_question ∷ cnf_question ∷ proof_question ∷ []

-- ---- what is answered

-- the question has a budget, and this is large enough
abbrev pub HasEnough : (question : NamedQuestion) → question.Word → Net → Log → ℕ → Type 0
HasEnough question word net log n = IsSomeAnd (question.budget word) (λ budget. IsEnough budget net log n)

-- The reply says what the question asks about the network and the log within n steps, where this book is left. A budget that is large enough decides.
pub record AnswersTo (question : NamedQuestion) (word : question.Word) (net : Net) (log : Log) (n : ℕ) (book : List BookEntry) (reply : Kind × List ℕ) : Type 0 where
  pub says : question.says word net log n book reply
  pub decided : HasEnough question word net log n → reply.0 ≢ Undecided

-- P of each question that has a name
abbrev pub ForEach : List NamedQuestion → (NamedQuestion → Type 0) → Type 0
ForEach [] P = ⊤
ForEach (question ∷ others) P = P question × ForEach others P
