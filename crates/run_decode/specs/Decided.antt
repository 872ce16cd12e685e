-- What the refutation of a question decides.
use Rattle.std.specs.Prelude.{◌≡◌, ℕ, suc, Bool, List, Option, None, Some, IsTrue}
use Rattle.des_net.specs.Network.{Net, IsNetwork}
use Rattle.log_order.specs.Log.{Log, IsValidLog}
use Rattle.prop_core.specs.Clauses.{Clause, clause_true, AllClausesTrue, NegatesOnly}
use Rattle.prop_core.specs.VariableNames.{Meaning}
use Rattle.prop_core.specs.declared.lit.Lit.{Lit}
use Rattle.replay.specs.Explanation.{IsExplained, NeedsFaults, IsLeast, IsAbsent, IsMany}
use Rattle.run_decode.specs.Faithful.{MakesTrue, IsFaithful}
use Rattle.run_decode.specs.Question.{Asks}
use Rattle.replay.specs.declared.TheConstants.{MOST_FAULTS}

-- no assignment makes clauses and assumptions true
abbrev pub AreUnsatisfiable : List Clause → List Lit → Type 0
AreUnsatisfiable clauses assumed = (assignment : ℕ → Bool) → MakesTrue assignment clauses assumed → ⊥

-- each assignment that makes the clauses true makes this one true
abbrev pub Entails : List Clause → Clause → Type 0
Entails clauses clause = (assignment : ℕ → Bool) → AllClausesTrue assignment clauses → IsTrue (clause_true assignment clause)

-- With a bound all that explains has more faults: where something has just one more, that is the least number, and where the bound is 255 and something explains, there are many.
pub record IsAbove (net : Net) (log : Log) (n b : ℕ) : Type 0 where
  pub above : NeedsFaults net log n (suc b)
  pub least : IsExplained net log n (suc b) → IsLeast net log n (suc b)
  pub many : b ≡ MOST_FAULTS → (faults : ℕ) → IsExplained net log n faults → IsMany net log n

-- Without a bound nothing explains the log.
abbrev pub Decides : Net → Log → ℕ → Option ℕ → Type 0
Decides net log n None = IsAbsent net log n
Decides net log n (Some b) = IsAbove net log n b

-- A faithful question that is refuted is decided,
abbrev pub FaithfulDecides : Type 0
FaithfulDecides = (net : Net) (log : Log) (n : ℕ) (bound : Option ℕ) (clauses : List Clause) (assumed : List Lit) →
    IsFaithful clauses assumed net log n bound → AreUnsatisfiable clauses assumed → Decides net log n bound

-- and a clause of negated assumptions that its clauses entail decides it too.
abbrev pub RefutedIsDecided : Type 0
RefutedIsDecided = (net : Net) (log : Log) (n : ℕ) (bound : Option ℕ) (clauses : List Clause) (assumed : List Lit) (clause : Clause) →
    IsFaithful clauses assumed net log n bound → Entails clauses clause → NegatesOnly assumed clause → Decides net log n bound

-- An explanation without a fault has the least number.
abbrev pub NoneIsLeast : Type 0
NoneIsLeast = (net : Net) (log : Log) (n : ℕ) → IsExplained net log n 0 → IsLeast net log n 0

-- So a clause of negated assumptions decides a question that clauses and assumptions ask.
abbrev pub QuestionIsDecided : Type 0
QuestionIsDecided = (net : Net) (log : Log) (n : ℕ) (bound : Option ℕ) (meanings : List (ℕ × Meaning)) (clauses : List Clause) (assumed : List Lit) (clause : Clause) →
    IsNetwork net → IsValidLog log → Asks net log n bound meanings clauses assumed → Entails clauses clause → NegatesOnly assumed clause → Decides net log n bound
