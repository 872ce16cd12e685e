-- When clauses are drawn from the families of a question: by what their variables stand for, each is a clause of the steps, of the log, or of the counter of faults.
use Rattle.std.specs.Prelude.{◌≡◌, ◌⊎◌, ℕ, zero, suc, List, [], ◌∷◌, ◌++◌, map, length, Option, Some, None}
use Rattle.std.specs.List.{AllByRecursion}
use Rattle.card_counter.specs.CounterClauses.{CountClause, count_clause, IsCountClause}
use Rattle.des_net.specs.Network.{Net}
use Rattle.log_order.specs.Log.{Log}
use Rattle.question_clauses.specs.LogClauses.{guard_literals, doubtful_alarms}
use Rattle.question_clauses.specs.LogCodes.{IsNamedLog}
use Rattle.prop_core.specs.Clauses.{Clause}
use Rattle.prop_core.specs.VariableNames.{Meaning, dropped, reaches, NamedLiteral, yes, no, HasEachOnce, ReadsAs}
use Rattle.prop_core.specs.declared.lit.Lit.{Lit}
use Rattle.question_clauses.specs.StepCodes.{IsNamedStep}
use Rattle.step_encode.specs.FaultInputs.{fault_meanings}

-- that a doubtful alarm is false, for each of them
abbrev pub dropped_meanings : Log → List Meaning
dropped_meanings log = map (λ i. dropped i) (doubtful_alarms log)

-- the inputs of the counter: that a fault event happens in a step, for each of both, and then that a doubtful alarm is false
abbrev pub fault_inputs : Net → Log → ℕ → List NamedLiteral
fault_inputs net log n = map yes (fault_meanings net n ++ dropped_meanings log)

-- a clause of a counter over these inputs, of whichever column
abbrev pub IsNamedCounting : List NamedLiteral → List NamedLiteral → Type 0
IsNamedCounting inputs named = (which : CountClause) × IsCountClause inputs which × (count_clause which ≡ named)

-- a clause of the steps, of the log with each end that its chains ever had, or of the counter of faults
abbrev pub IsNamedClause : Net → Log → ℕ → List NamedLiteral → Type 0
IsNamedClause net log n named = IsNamedStep net n named ⊎ (IsNamedLog net log n named ⊎ IsNamedCounting (fault_inputs net log n) named)

-- By these meanings the clause is, as a set, one of them.
abbrev pub IsInstance : Net → Log → ℕ → List (ℕ × Meaning) → Clause → Type 0
IsInstance net log n names clause = (named : List NamedLiteral) × IsNamedClause net log n named × ReadsAs names clause named

-- that at most b of this many inputs are true; of no inputs there is nothing to say
abbrev pub at_most : ℕ → ℕ → List NamedLiteral
at_most zero b = []
at_most (suc m) b = no (reaches (suc m) (suc b)) ∷ []

-- the literal for at most b faults, where the counter has an input; None sets no bound
abbrev pub bound_literals : Net → Log → ℕ → Option ℕ → List NamedLiteral
bound_literals net log n None = []
bound_literals net log n (Some b) = at_most (length (fault_inputs net log n)) b

-- what a question assumes: the guards of its log, and the bound
abbrev pub assumption_literals : Net → Log → ℕ → Option ℕ → List NamedLiteral
assumption_literals net log n bound = guard_literals net log ++ bound_literals net log n bound

-- Some naming, of which neither a variable nor a meaning stands twice, meanings each variable: by it all clauses are instances, and the assumptions are, as a set, the guards and the bound.
pub record IsDrawn (clauses : List Clause) (assumed : List Lit) (net : Net) (log : Log) (n : ℕ) (bound : Option ℕ) : Type 0 where
  pub meanings : List (ℕ × Meaning)
  pub once : HasEachOnce meanings
  pub instances : AllByRecursion (IsInstance net log n meanings) clauses
  pub assumes : ReadsAs meanings assumed (assumption_literals net log n bound)
