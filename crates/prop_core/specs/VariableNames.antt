-- What the variables of a question stand for, and literals and clauses by these meanings.
use Rattle.std.specs.Prelude.{◌≢◌, ℕ, zero, suc, Bool, true, false, List, [], ◌∷◌, find, option_map, Option, Some, None, ◌≡◌, ◌==◌, Contains, ◌↔◌}
use Rattle.des_base.specs.Lists.{EachPair}
use Rattle.prop_core.specs.declared.lit.Lit.{Lit}
use Rattle.prop_core.specs.Clauses.{Clause}

-- an "at most one": over the states of a component after a step, the events of a group in a step, the matches of an alarm in a step
pub data Exclusion : Type 0 where
  of_states : (component step : ℕ) → Exclusion
  of_events : (step group : ℕ) → Exclusion
  of_matches : (alarm step : ℕ) → Exclusion

-- what a variable of a question stands for: something of the run or the log, or a part of a chain, of a counter or of an "at most one"
pub data Meaning : Type 0 where
  -- the component is in the state after `step` steps
  in_state : (component state step : ℕ) → Meaning
  -- the event happens in the step
  happens : (event step : ℕ) → Meaning
  -- the log is asked for
  asked : Meaning
  -- the alarm stands for the event in the step
  matches : (alarm event step : ℕ) → Meaning
  -- the alarm is matched within the first steps, or false
  done : (alarm steps : ℕ) → Meaning
  -- the event happens in the step, and none of the first alarms of its chain stands for it, of which there is at least one
  unmatched : (event alarms step : ℕ) → Meaning
  -- the chain of the event ends after `alarms` alarms
  closed : (event alarms : ℕ) → Meaning
  -- the alarm, which is perhaps false, is
  dropped : (alarm : ℕ) → Meaning
  -- of the first inputs at least `amount` are true
  reaches : (inputs amount : ℕ) → Meaning
  -- one of the first inputs of an "at most one" is true
  some_of_first : Exclusion → (inputs : ℕ) → Meaning

-- a literal by the meaning of its variable
pub record NamedLiteral : Type 0 where
  pub meaning : Meaning
  pub positive : Bool

-- the positive literal of a meaning
abbrev pub yes : Meaning → NamedLiteral
yes meaning = record { meaning = meaning; positive = true }

-- the negated literal of a meaning
abbrev pub no : Meaning → NamedLiteral
no meaning = record { meaning = meaning; positive = false }

-- e happens in step t, and none of the first k alarms of its chain stands for it there
abbrev pub remaining : ℕ → ℕ → ℕ → Meaning
remaining e zero t = happens e t
remaining e (suc k) t = unmatched e (suc k) t

-- no variable has two meanings, and no meaning two variables
abbrev pub HasEachOnce : List (ℕ × Meaning) → Type 0
HasEachOnce meanings = EachPair (λ a b. (a.0 ≢ b.0) × (a.1 ≢ b.1)) meanings

-- the meaning of a variable by a list of both
abbrev pub meaning_of : List (ℕ × Meaning) → ℕ → Option Meaning
meaning_of meanings var = option_map (λ entry. entry.1) (find (λ entry. entry.0 == var) meanings)

-- a literal by the meaning of its variable, if it has one
abbrev pub named_literal : List (ℕ × Meaning) → Lit → Option NamedLiteral
named_literal meanings l = option_map (λ meaning. record { meaning = meaning; positive = l.positive }) (meaning_of meanings l.var)

-- a literal in front of a clause, where both could be named
abbrev pub with_literal : Option NamedLiteral → Option (List NamedLiteral) → Option (List NamedLiteral)
with_literal None rest = None
with_literal (Some l) rest = option_map (λ ls. l ∷ ls) rest

-- a clause by the meanings of its variables, literal by literal, if each has one
abbrev pub named_clause : List (ℕ × Meaning) → Clause → Option (List NamedLiteral)
named_clause meanings [] = Some []
named_clause meanings (l ∷ clause) = with_literal (named_literal meanings l) (named_clause meanings clause)

-- two lists have the same elements
abbrev pub SameElements : List NamedLiteral → List NamedLiteral → Type 0
SameElements xs ys = (x : NamedLiteral) → Contains xs x ↔ Contains ys x

-- by the meanings of its variables the clause is, as a set, this one
pub record ReadsAs (meanings : List (ℕ × Meaning)) (clause : Clause) (named : List NamedLiteral) : Type 0 where
  pub read : List NamedLiteral
  pub by_name : named_clause meanings clause ≡ Some read
  pub same : SameElements read named
