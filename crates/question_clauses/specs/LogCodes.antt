-- Clauses over variables that are those of a log by name, and of an addition to it.
use Rattle.std.specs.Prelude.{◌≡◌, ℕ, List, ◌++◌, Contains}
use Rattle.des_net.specs.Network.{Net}
use Rattle.log_order.specs.Log.{Log, no_log}
use Rattle.question_clauses.specs.Additions.{Addition, with_addition, IsAddedClause, IsFirstClause}
use Rattle.question_clauses.specs.LogClauses.{LogClause, log_clause, IsLogClause}
use Rattle.prop_core.specs.Clauses.{Clause}
use Rattle.prop_core.specs.NamedClauses.{IsCode}
use Rattle.prop_core.specs.VariableNames.{Meaning, NamedLiteral, HasEachOnce, ReadsAs}
use Rattle.question_clauses.specs.StepCodes.{IsNamedStep}

-- the clauses of a log
abbrev pub IsNamedLog : Net → Log → ℕ → List NamedLiteral → Type 0
IsNamedLog net log n named = (which : LogClause) × IsLogClause net log n which × (log_clause net log n which ≡ named)

-- the clauses of the empty log
abbrev pub IsNamedFirst : Net → ℕ → List NamedLiteral → Type 0
IsNamedFirst net n named = (which : LogClause) × IsFirstClause net n which × (log_clause net no_log n which ≡ named)

-- the clauses that an addition brings
abbrev pub IsNamedAdded : Net → Log → ℕ → Addition → List NamedLiteral → Type 0
IsNamedAdded net log n addition named = (which : LogClause) × IsAddedClause net log n addition which × (log_clause net (with_addition log addition) n which ≡ named)

-- each entry of the first list of meanings is in the second
abbrev pub AreAmong : List (ℕ × Meaning) → List (ℕ × Meaning) → Type 0
AreAmong meanings more = (entry : ℕ × Meaning) → Contains meanings entry → Contains more entry

-- A clause that reads as something by some meanings reads so by more,
abbrev pub ReadingsStay : Type 0
ReadingsStay = (meanings more : List (ℕ × Meaning)) (clause : Clause) (named : List NamedLiteral) → HasEachOnce more → AreAmong meanings more → ReadsAs meanings clause named → ReadsAs more clause named

-- and clauses that are those of the steps or of a log still are by more.
pub record CodesStayBy (meanings more : List (ℕ × Meaning)) (clauses : List Clause) : Type 0 where
  pub steps : (net : Net) (n : ℕ) → IsCode meanings (IsNamedStep net n) clauses → IsCode more (IsNamedStep net n) clauses
  pub log : (net : Net) (log : Log) (n : ℕ) → IsCode meanings (IsNamedLog net log n) clauses → IsCode more (IsNamedLog net log n) clauses

-- This holds for all clauses, by more meanings that have each variable and each meaning once.
abbrev pub CodesStay : Type 0
CodesStay = (meanings more : List (ℕ × Meaning)) (clauses : List Clause) → HasEachOnce more → AreAmong meanings more → CodesStayBy meanings more clauses

-- The first clauses are the code of the empty log,
abbrev pub CodeBegins : Type 0
CodeBegins = (net : Net) (n : ℕ) (meanings : List (ℕ × Meaning)) (clauses : List Clause) → IsCode meanings (IsNamedFirst net n) clauses → IsCode meanings (IsNamedLog net no_log n) clauses

-- and the code of a log with those of an addition is the code of the log with the addition.
abbrev pub CodeGrows : Type 0
CodeGrows = (net : Net) (log : Log) (n : ℕ) (addition : Addition) (meanings more : List (ℕ × Meaning)) (clauses drafted : List Clause) → HasEachOnce more → AreAmong meanings more →
    IsCode meanings (IsNamedLog net log n) clauses → IsCode more (IsNamedAdded net log n addition) drafted → IsCode more (IsNamedLog net (with_addition log addition) n) (clauses ++ drafted)
