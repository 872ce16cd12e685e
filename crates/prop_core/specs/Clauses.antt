-- Literals, clauses and assignments, as in propositional logic.
use Rattle.std.specs.Prelude.{◌≡◌, ℕ, Bool, true, not, ◌&&◌, ◌==◌, List, IsTrue, ◌<◌, All, slice_index_or, false, Contains}
use Rattle.std.specs.Bool.{beq}
use Rattle.std.specs.List.{list_any, AllByRecursion}
use Rattle.prop_core.specs.declared.lit.Lit.{Lit}

-- a list of literals, of which one at least has to be true; a literal may stand there more than once
abbrev pub Clause : Type 0
Clause = List Lit

-- the same variable with the other sign
abbrev pub negation : Lit → Lit
negation l = record { var = l.var; positive = not l.positive }

-- the same variable with the same sign
abbrev pub same_literal : Lit → Lit → Bool
same_literal a b = (a.var == b.var) && beq a.positive b.positive

-- An assignment gives each variable a truth value. It makes a literal true where the variable has the value of the literal's sign.
abbrev pub literal_true : (ℕ → Bool) → Lit → Bool
literal_true value l = beq (value l.var) l.positive

-- It makes a clause true where it makes one of its literals true, and so never the empty clause.
abbrev pub clause_true : (ℕ → Bool) → Clause → Bool
clause_true value clause = list_any (literal_true value) clause

-- the assignment makes each clause true; if there are none, each assignment does
abbrev pub AllClausesTrue : (ℕ → Bool) → List Clause → Type 0
AllClausesTrue value clauses = AllByRecursion (λ clause. IsTrue (clause_true value clause)) clauses

-- the assignment makes each of these literals true
abbrev pub AllLiteralsTrue : (ℕ → Bool) → List Lit → Type 0
AllLiteralsTrue value literals = AllByRecursion (λ l. IsTrue (literal_true value l)) literals

-- the truth value that a list of truth values gives a variable
abbrev pub value_in : List Bool → ℕ → Bool
value_in values var = slice_index_or values var false

-- each variable of the clause is below a count
abbrev pub HasValues : ℕ → Clause → Type 0
HasValues count clause = All (λ l. l.var < count) clause

-- Under a list of literals that are taken as true, a literal is true where it is in the list,
abbrev pub is_true : List Lit → Lit → Bool
is_true taken l = list_any (same_literal l) taken

-- false where its negation is,
abbrev pub is_false : List Lit → Lit → Bool
is_false taken l = is_true taken (negation l)

-- and open where neither is.
abbrev pub is_open : List Lit → Lit → Bool
is_open taken l = not (is_true taken l) && not (is_false taken l)

-- no literal is both true and false
abbrev pub AreConsistent : List Lit → Type 0
AreConsistent taken = (l : Lit) → is_true taken l ≡ true → is_false taken l ≡ false

-- the clause has no literals but negations of these
abbrev pub NegatesOnly : List Lit → Clause → Type 0
NegatesOnly literals clause = AllByRecursion (λ l. Contains literals (negation l)) clause
