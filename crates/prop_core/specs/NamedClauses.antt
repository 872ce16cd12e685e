-- Clauses by the meanings of their variables, and families of clauses.
use Rattle.std.specs.Prelude.{◌≡◌, ℕ, Bool, true, false, not, ◌&&◌, ◌==◌, List, Option, Some, find, option_map, unwrap_or, Contains, IsTrue}
use Rattle.std.specs.List.{AllByRecursion, list_any}
use Rattle.prop_core.specs.Clauses.{Clause}
use Rattle.prop_core.specs.VariableNames.{Meaning, in_state, happens, asked, matches, done, unmatched, closed, dropped, reaches, some_of_first, Exclusion, of_states, of_events, of_matches, NamedLiteral, HasEachOnce, meaning_of, ReadsAs}

-- ---- truth by name

-- whether two truth values are the same: a sign, and the truth of the meaning that stands with it
abbrev pub same_sign : Bool → Bool → Bool
same_sign true b = b
same_sign false b = not b

-- a literal is true where its meaning has the truth of its sign
abbrev pub named_true : (Meaning → Bool) → NamedLiteral → Bool
named_true value l = same_sign l.positive (value l.meaning)

-- a clause by name is true where one of its literals is; the empty clause never is
abbrev pub named_clause_true : (Meaning → Bool) → List NamedLiteral → Bool
named_clause_true value clause = list_any (named_true value) clause

-- ---- variables and meanings

-- whether two "at most one" are over the same: of one kind, with the same numbers
abbrev pub same_exclusion : Exclusion → Exclusion → Bool
same_exclusion (of_states c t) (of_states d u) = (c == d) && (t == u)
same_exclusion (of_events t g) (of_events u h) = (t == u) && (g == h)
same_exclusion (of_matches i t) (of_matches j u) = (i == j) && (t == u)
same_exclusion a b = false

-- whether two meanings are the same: of one kind, with the same numbers
abbrev pub same_meaning : Meaning → Meaning → Bool
same_meaning (in_state c q t) (in_state d r u) = (c == d) && ((q == r) && (t == u))
same_meaning (happens e t) (happens f u) = (e == f) && (t == u)
same_meaning asked asked = true
same_meaning (matches i e t) (matches j f u) = (i == j) && ((e == f) && (t == u))
same_meaning (done i t) (done j u) = (i == j) && (t == u)
same_meaning (unmatched e k t) (unmatched f l u) = (e == f) && ((k == l) && (t == u))
same_meaning (closed e k) (closed f l) = (e == f) && (k == l)
same_meaning (dropped i) (dropped j) = i == j
same_meaning (reaches i j) (reaches k l) = (i == k) && (j == l)
same_meaning (some_of_first a i) (some_of_first b j) = same_exclusion a b && (i == j)
same_meaning a b = false

-- the variable of a meaning by a list of both: the first that has it, if there is one
abbrev pub variable_of : List (ℕ × Meaning) → Meaning → Option ℕ
variable_of meanings meaning = option_map (λ entry. entry.0) (find (λ entry. same_meaning entry.1 meaning) meanings)

-- each variable has the truth of its meaning
abbrev pub Match : List (ℕ × Meaning) → (ℕ → Bool) → (Meaning → Bool) → Type 0
Match meanings assignment value = (var : ℕ) (meaning : Meaning) → meaning_of meanings var ≡ Some meaning → assignment var ≡ value meaning

-- the truth of a meaning by that of its variable, where a meaning without one is false
abbrev pub value_by : List (ℕ × Meaning) → (ℕ → Bool) → Meaning → Bool
value_by meanings assignment meaning = unwrap_or (option_map assignment (variable_of meanings meaning)) false

-- the truth of a variable by that of its meaning, where a variable without one keeps the given one
abbrev pub assignment_by : List (ℕ × Meaning) → (Meaning → Bool) → (ℕ → Bool) → ℕ → Bool
assignment_by meanings value given var = unwrap_or (option_map value (meaning_of meanings var)) (given var)

-- Where each meaning and each variable stands once, meanings that take their truth from their variables match the assignment.
abbrev pub ValuesMatch : Type 0
ValuesMatch = (meanings : List (ℕ × Meaning)) → HasEachOnce meanings → (assignment : ℕ → Bool) → Match meanings assignment (value_by meanings assignment)

-- Variables that take their truth from their meanings match it, whatever is given for the others.
abbrev pub AssignmentsMatch : Type 0
AssignmentsMatch = (meanings : List (ℕ × Meaning)) (value : Meaning → Bool) (given : ℕ → Bool) → Match meanings (assignment_by meanings value given) value

-- ---- families

-- one of the clauses is this one by the meanings
abbrev pub IsThere : List (ℕ × Meaning) → List Clause → List NamedLiteral → Type 0
IsThere meanings clauses named = (clause : Clause) × Contains clauses clause × ReadsAs meanings clause named

-- By these meanings the clauses are those of a family, all of them and no others.
pub record IsCode (meanings : List (ℕ × Meaning)) (family : List NamedLiteral → Type 0) (clauses : List Clause) : Type 0 where
  pub all : (named : List NamedLiteral) → family named → IsThere meanings clauses named
  pub only : AllByRecursion (λ clause. (named : List NamedLiteral) × family named × ReadsAs meanings clause named) clauses

-- each clause of a family is true
abbrev pub AllHold : (List NamedLiteral → Type 0) → (Meaning → Bool) → Type 0
AllHold family value = (named : List NamedLiteral) → family named → IsTrue (named_clause_true value named)
