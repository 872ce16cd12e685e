-- What is asked about one event: which explanations within a bound have it, or haven't.
use Rattle.std.specs.Prelude.{◌≡◌, ◌⊎◌, ℕ, suc, true, List, [], ◌∷◌, ◌++◌, map, Some, Contains}
use Rattle.card_counter.specs.CounterState.{positive}
use Rattle.des_base.specs.Lists.{numbers_below}
use Rattle.des_net.specs.Network.{Net, is_fault}
use Rattle.log_order.specs.Log.{Log}
use Rattle.prop_core.specs.Clauses.{Clause, negation}
use Rattle.prop_core.specs.declared.grid.Grid.{Grid}
use Rattle.prop_core.specs.declared.lit.Lit.{Lit}
use Rattle.prop_core.specs.VariableNames.{Meaning, happens, NamedLiteral}
use Rattle.run_decode.specs.Drawn.{IsNamedClause, assumption_literals}
use Rattle.prop_core.specs.FurtherNames.{LiteralOf, holds, fails, lifted, AreDrawnBy, IsLifted}
use Rattle.run_decode.specs.Tells.{Property, Tells, ExplainsWithin}
use Rattle.step_encode.specs.FaultInputs.{event_literals}

-- which of both is asked; with the event it is by the literal of some earlier or present call
pub data Question : Type 0 where
  without : Question
  with_event : (literal : ℕ) → Question

-- what explains within k faults, without the event or with it
abbrev pub asked_for : Net → Log → ℕ → ℕ → ℕ → Question → Property
asked_for net log n k e without word order = ExplainsWithin net log n (Some k) word order × (Contains word e → ⊥)
asked_for net log n k e (with_event literal) word order = ExplainsWithin net log n (Some k) word order × Contains word e

-- ---- meanings

-- A meaning of a question, or that the event happens in some step: for each literal that was made for this, which the number distinguishes.
pub data VerdictMeaning : Type 0 where
  of_question : Meaning → VerdictMeaning
  occurs : (event literal : ℕ) → VerdictMeaning

-- a literal of a question among these
abbrev pub in_question : NamedLiteral → LiteralOf VerdictMeaning
in_question l = lifted of_question l

-- if the literal holds, the event happens in some step
abbrev pub some_step : ℕ → ℕ → ℕ → List (LiteralOf VerdictMeaning)
some_step n e literal = fails (occurs e literal) ∷ map (λ t. holds (of_question (happens e (suc t)))) (numbers_below n)

-- the event happens in none
abbrev pub no_step : ℕ → ℕ → List (LiteralOf VerdictMeaning)
no_step n e = map (λ t. fails (of_question (happens e (suc t)))) (numbers_below n)

-- a clause of a question, or the one that gives a fault event in some step
abbrev pub IsVerdictClause : Net → Log → ℕ → List (LiteralOf VerdictMeaning) → Type 0
IsVerdictClause net log n clause = IsLifted of_question (IsNamedClause net log n) clause ⊎ ((e : ℕ) × (literal : ℕ) × (is_fault net e ≡ true) × (clause ≡ some_step n e literal))

-- what is assumed of the event
abbrev pub assumed_of : ℕ → ℕ → Question → List (LiteralOf VerdictMeaning)
assumed_of n e without = no_step n e
assumed_of n e (with_event literal) = holds (occurs e literal) ∷ []

-- the guards, the bound, and what is assumed of the event
abbrev pub verdict_literals : Net → Log → ℕ → ℕ → ℕ → Question → List (LiteralOf VerdictMeaning)
verdict_literals net log n k e question = map in_question (assumption_literals net log n (Some k)) ++ assumed_of n e question

-- Clauses and assumptions ask this: they tell it, and by some meanings each clause is one of a question or gives a fault event in some step, and what is assumed are, as a set, the guards, the bound and what is assumed of the event.
pub record IsPosedOf (clauses : List Clause) (assumed : List Lit) (net : Net) (log : Log) (n k e : ℕ) (question : Question) : Type 0 where
  pub tells : Tells clauses assumed (asked_for net log n k e question)
  pub meanings : List (ℕ × VerdictMeaning)
  pub drawn : AreDrawnBy meanings clauses assumed (IsVerdictClause net log n) (verdict_literals net log n k e question)

-- ---- by variable

-- the clause that gives the event in some step, where the variable is true
abbrev pub some_step_clause : Grid → ℕ × ℕ → Clause
some_step_clause grid entry = negation (positive entry.0) ∷ event_literals grid entry.1

-- those of several variables, each with its event
abbrev pub some_step_clauses : Grid → List (ℕ × ℕ) → List Clause
some_step_clauses grid made = map (some_step_clause grid) made

-- that it happens in none
abbrev pub no_step_literals : Grid → ℕ → List Lit
no_step_literals grid e = map negation (event_literals grid e)
