-- Derivation of a clause by hints: the propagation part of the LRAT format. Hints with a true literal are skipped, and
-- hints after the false one are not looked at.
use Rattle.std.specs.Prelude.{◌≡◌, ℕ, ◌+◌, ◌-◌, ◌==◌, List, [], ◌∷◌, ◌++◌, map, filter, Option, Some, None, slice_get, if◌then◌else◌}
use Rattle.std.specs.List.{list_any, list_all}
use Rattle.prop_core.specs.declared.lit.Lit.{Lit}
use Rattle.prop_core.specs.Clauses.{Clause, negation, same_literal, is_true, is_false, is_open}

-- How a clause stands: all its literals are false; else one is true; else one literal alone is open, however often it
-- stands there; else more are.
pub data Standing : Type 0 where
  falsified : Standing
  satisfied : Standing
  unit : Lit → Standing
  wide : Standing

-- How a clause stands of whose literals none is true, not all are false, and these are open. There is always one.
abbrev pub open_standing : List Lit → Standing
open_standing [] = wide
open_standing (l ∷ ls) = if list_all (same_literal l) ls then unit l else wide

-- how a clause stands under the literals that are taken as true; the empty clause is false
abbrev pub standing : List Lit → Clause → Standing
standing taken clause =
    if list_all (is_false taken) clause then falsified
    else (if list_any (is_true taken) clause then satisfied else open_standing (filter (is_open taken) clause))

-- why a step does not derive, as a kind: this one where a hint names no clause that is held
abbrev pub unknown_clause : ℕ
unknown_clause = 1

-- the kind where two or more different literals of a hint's clause are open and none is true
abbrev pub two_open : ℕ
two_open = 2

-- the kind where the hints end and none was false
abbrev pub hints_end : ℕ
hints_end = 3

-- the step derives, or fails at a place among the hints, counted from 0, for a reason
pub data Derivation : Type 0 where
  derives : Derivation
  fails : ℕ → ℕ → Derivation

-- after a hint the derivation has ended, or goes on with what is taken as true
pub data Progress : Type 0 where
  ended : Derivation → Progress
  goes_on : List Lit → Progress

-- what the hint at a place leads to, by how its clause stands: the one open literal of a unit clause is taken as true
abbrev pub after_standing : List Lit → ℕ → Standing → Progress
after_standing taken at falsified = ended derives
after_standing taken at satisfied = goes_on taken
after_standing taken at (unit l) = goes_on (taken ++ l ∷ [])
after_standing taken at wide = ended (fails at two_open)

-- what the hint at a place leads to, with the clause that it names, if it names one that is held
abbrev pub after_hint : List Lit → ℕ → Option Clause → Progress
after_hint taken at None = ended (fails at unknown_clause)
after_hint taken at (Some clause) = after_standing taken at (standing taken clause)

-- what the hints from a place on give, with the literals that are taken as true so far
abbrev pub follow : (ℕ → Option Clause) → List Lit → ℕ → List ℕ → Derivation
follow held taken at [] = fails at hints_end
follow held taken at (hint ∷ hints) =
    elim (after_hint taken at (held hint)) as (λ _. Derivation) [ ended result ↦ result | goes_on more ↦ follow held more (at + 1) hints ]

-- A clause is derived from the clauses that are held, by their numbers, by setting all its literals false and following
-- the hints to a false clause.
abbrev pub derive : (ℕ → Option Clause) → Clause → List ℕ → Derivation
derive held clause hints = follow held (map negation clause) 0 hints

-- the clause derives from the clauses that are held, by these hints
abbrev pub Derives : (ℕ → Option Clause) → Clause → List ℕ → Type 0
Derives held clause hints = derive held clause hints ≡ derives

-- Clauses of a list are numbered from 1.
abbrev pub clause_numbered : List Clause → ℕ → Option Clause
clause_numbered clauses number = if number == 0 then None else slice_get clauses (number - 1)
