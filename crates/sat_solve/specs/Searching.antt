-- What a search leaves in the book, and what its answers mean.
use Rattle.std.specs.Prelude.{◌≡◌, ℕ, ◌+◌, Bool, true, false, List, ◌++◌, ◌∷◌, [], length, count_by}
use Rattle.std.specs.List.{list_any, list_all}
use Rattle.prop_core.specs.declared.lit.Lit.{Lit}
use Rattle.prop_core.specs.Clauses.{Clause, negation, is_true, value_in, AllClausesTrue, AllLiteralsTrue}
use Rattle.prop_core.specs.Trail.{has_var, Clashes}
use Rattle.proof_ledger.specs.Book.{BookEntry, axiomatic, learnt, final, mark, clauses_of}
use Rattle.proof_ledger.specs.Fresh.{occurs, is_learnt, AreFresh}
use Rattle.sat_solve.specs.declared.answer.Answer.{Answer}
use Rattle.sat_solve.specs.declared.answer.Answer.TheVariants.{Sat, Unsat, Spent}

-- each variable of the book's clauses occurs in an axiom
abbrev pub HasAxiomVars : List BookEntry → Type 0
HasAxiomVars book = (var : ℕ) → list_any (has_var var) (clauses_of book) ≡ true → occurs var book ≡ true

-- the entry is a learnt or a final clause, such as a search puts
abbrev pub is_learnt_or_final : BookEntry → Bool
is_learnt_or_final (axiomatic clause) = false
is_learnt_or_final (learnt clause hints) = true
is_learnt_or_final (final clause hints) = true
is_learnt_or_final (mark number) = false

-- the entry is a final clause, as a refuted question leaves it
abbrev pub is_final : BookEntry → Bool
is_final (axiomatic clause) = false
is_final (learnt clause hints) = false
is_final (final clause hints) = true
is_final (mark number) = false

-- Derived entries alone were put, and as many learnt ones as the budget was lowered by. Where all variables occurred in axioms, they
-- still do, and each learnt clause was fresh.
pub record IsSearched (old new : List BookEntry) (budget_old budget_new : ℕ) : Type 0 where
  pub since : List BookEntry
  pub whole : new ≡ old ++ since
  pub derived : list_all is_learnt_or_final since ≡ true
  pub count : ℕ
  pub paid : count + budget_new ≡ budget_old
  pub number : count_by is_learnt since ≡ count
  pub learnt_entries : HasAxiomVars old → AreFresh old since count
  pub known : HasAxiomVars old → HasAxiomVars new

-- learnt entries alone
abbrev pub AreLearnt : List BookEntry → Type 0
AreLearnt entries = list_all is_learnt entries ≡ true

-- A search that has no answer yet has put learnt entries alone: a final entry comes with an answer.
pub record HasLearnt (old new : List BookEntry) : Type 0 where
  pub since : List BookEntry
  pub whole : new ≡ old ++ since
  pub all_learnt : AreLearnt since

-- learnt entries, and then one final entry
pub record IsClosedByFinal (since : List BookEntry) : Type 0 where
  pub before : List BookEntry
  pub clause : Clause
  pub hints : List ℕ
  pub whole : since ≡ before ++ final clause hints ∷ []
  pub all_learnt : AreLearnt before

-- what a search puts for its answer
abbrev pub IsPutFor : Answer → List BookEntry → Type 0
IsPutFor Sat since = AreLearnt since
IsPutFor (Unsat number) since = IsClosedByFinal since
IsPutFor Spent since = AreLearnt since

-- What a search put is what it puts for its answer. The final entry after Unsat is the one that `IsRefuted` speaks of: both are
-- the book's last.
pub record HasPut (old new : List BookEntry) (answer : Answer) : Type 0 where
  pub since : List BookEntry
  pub whole : new ≡ old ++ since
  pub put : IsPutFor answer since

-- the values make all clauses of the book and all assumptions true
pub record IsModel (values : List Bool) (book : List BookEntry) (assumed : List Lit) : Type 0 where
  pub clauses : AllClausesTrue (value_in values) (clauses_of book)
  pub assumptions : AllLiteralsTrue (value_in values) assumed

-- The book's last entry is a final one: the clause of this number, of negated assumptions alone.
pub record IsRefuted (book : List BookEntry) (assumed : List Lit) (number : ℕ) : Type 0 where
  pub earlier : List BookEntry
  pub clause : Clause
  pub hints : List ℕ
  pub last : book ≡ earlier ++ final clause hints ∷ []
  pub numbered : number ≡ length (clauses_of book)
  pub negated : list_all (λ l. is_true assumed (negation l)) clause ≡ true

-- Nothing is left of the budget at a further conflict.
pub record IsSpent (book : List BookEntry) (assumed : List Lit) (budget : ℕ) : Type 0 where
  pub nothing : budget ≡ 0
  pub clashes : Clashes (clauses_of book) assumed

-- what an answer means
abbrev pub IsAnswer : List Bool → List BookEntry → List Lit → ℕ → Answer → Type 0
IsAnswer values book assumed budget Sat = IsModel values book assumed
IsAnswer values book assumed budget (Unsat number) = IsRefuted book assumed number
IsAnswer values book assumed budget Spent = IsSpent book assumed budget
