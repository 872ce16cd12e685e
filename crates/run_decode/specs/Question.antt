-- A question as code: by one naming all clauses of the steps, of the log, and of some columns of the counter of faults.
use Rattle.std.specs.Prelude.{◌⊎◌, ℕ, ◌<◌, ⊤, List, length, Option, Some, None}
use Rattle.card_counter.specs.CounterClauses.{IsNamedCount}
use Rattle.des_net.specs.Network.{Net}
use Rattle.question_clauses.specs.LogCodes.{IsNamedLog, AreAmong}
use Rattle.log_order.specs.Log.{Log}
use Rattle.prop_core.specs.Clauses.{Clause}
use Rattle.prop_core.specs.NamedClauses.{IsCode}
use Rattle.prop_core.specs.VariableNames.{Meaning, NamedLiteral, HasEachOnce, ReadsAs}
use Rattle.prop_core.specs.declared.lit.Lit.{Lit}
use Rattle.question_clauses.specs.StepCodes.{IsNamedStep}
use Rattle.run_decode.specs.Drawn.{fault_inputs, assumption_literals}

-- the clauses of the steps, of the log, and of `columns` columns of the counter
abbrev pub IsNamedQuestion : Net → Log → ℕ → ℕ → List NamedLiteral → Type 0
IsNamedQuestion net log n columns named = IsNamedStep net n named ⊎ (IsNamedLog net log n named ⊎ IsNamedCount (fault_inputs net log n) columns named)

-- by these meanings, each with one variable, the clauses are those, all of them and no others
pub record IsQuestion (net : Net) (log : Log) (n columns : ℕ) (meanings : List (ℕ × Meaning)) (clauses : List Clause) : Type 0 where
  pub once : HasEachOnce meanings
  pub code : IsCode meanings (IsNamedQuestion net log n columns) clauses

-- where the counter has an input, it has the column of the bound
abbrev pub HasColumn : Net → Log → ℕ → ℕ → Option ℕ → Type 0
HasColumn net log n columns None = ⊤
HasColumn net log n columns (Some b) = 0 < length (fault_inputs net log n) → b < columns

-- The clauses are those of a question, and what is assumed asks it within the bound.
pub record Asks (net : Net) (log : Log) (n : ℕ) (bound : Option ℕ) (meanings : List (ℕ × Meaning)) (clauses : List Clause) (assumed : List Lit) : Type 0 where
  pub columns : ℕ
  pub question : IsQuestion net log n columns meanings clauses
  pub column : HasColumn net log n columns bound
  pub assumes : ReadsAs meanings assumed (assumption_literals net log n bound)

-- ---- from its parts

-- by some of these meanings the clauses are those of a family
pub record IsCodeAmong (meanings : List (ℕ × Meaning)) (family : List NamedLiteral → Type 0) (written : List Clause) : Type 0 where
  pub own : List (ℕ × Meaning)
  pub among : AreAmong own meanings
  pub code : IsCode own family written

-- by some of these meanings the literals read as those
pub record IsReadAmong (meanings : List (ℕ × Meaning)) (literals : List Lit) (named : List NamedLiteral) : Type 0 where
  pub own : List (ℕ × Meaning)
  pub among : AreAmong own meanings
  pub reads : ReadsAs own literals named
