-- A worked search over all four clauses of two variables, by computation: its trail, its further conflict, what it leaves in
-- the book, and what its answer means. Then a level of assumptions, and which variable comes first.
use Rattle.std.proofs.Common.{◌≡◌, ℕ, List, [], ◌∷◌, ◌++◌, refl, true, false, map, arith}
use Rattle.std.specs.Prelude.{Some, None}
use Rattle.std.specs.List.{IsDistinct}
use Rattle.prop_core.specs.declared.lit.Lit.{Lit}
use Rattle.prop_core.specs.Clauses.{Clause}
use Rattle.prop_core.specs.Trail.{PlacedLiteral, IsTrail, Clashes}
use Rattle.proof_ledger.specs.Book.{BookEntry, axiomatic, learnt, final}
use Rattle.proof_ledger.specs.Fresh.{AreFresh}
use Rattle.sat_solve.specs.declared.answer.Answer.TheVariants.{Unsat}
use Rattle.sat_prop.specs.TrailState.{TrailState}
use Rattle.sat_solve.specs.Heap.{comes_before}
use Rattle.sat_solve.specs.Searching.{HasPut, IsModel, IsRefuted, IsSpent}
use Rattle.sat_solve.specs.Solving.{assumed_level_of}

abbrev yes : ℕ → Lit
yes var = record { var = var; positive = true }

abbrev no : ℕ → Lit
no var = record { var = var; positive = false }

abbrev decided : Lit → PlacedLiteral
decided l = record { literal = l; reason = None }

abbrev forced : Lit → Clause → PlacedLiteral
forced l c = record { literal = l; reason = Some c }

-- the first variable implies the second, and its negation
abbrev two : List Clause
two = (no 0 ∷ yes 1 ∷ []) ∷ (no 0 ∷ no 1 ∷ []) ∷ []

-- the first variable is decided, and the first clause forces the second
abbrev worked : List PlacedLiteral
worked = decided (yes 0) ∷ forced (yes 1) (no 0 ∷ yes 1 ∷ []) ∷ []

worked_is_trail : IsTrail two worked
unfolding IsDistinct
worked_is_trail = record { once = ((refl, tt), (tt, tt)); each = (refl, (((0, omega arith, refl), refl), tt)) }

-- The second clause is false then. With no assumption this is a further conflict.
conflict_is_further : Clashes two []
conflict_is_further = record {
  trail = worked;
  is_trail = worked_is_trail;
  assumes = refl;
  decision = yes 0;
  decided = (0, omega arith, refl);
  further = refl;
  conflict = no 0 ∷ no 1 ∷ [];
  among = (1, omega arith, refl);
  false_now = refl;
}

-- where nothing is left, this is what a search was spent on
spent : IsSpent (map axiomatic two) [] 0
spent = record { nothing = refl; clashes = conflict_is_further }

abbrev four : List BookEntry
four = map axiomatic ((yes 0 ∷ yes 1 ∷ []) ∷ (no 0 ∷ yes 1 ∷ []) ∷ (yes 0 ∷ no 1 ∷ []) ∷ (no 0 ∷ no 1 ∷ []) ∷ [])

-- propagation had not found the first variable in the four clauses
first_is_fresh : AreFresh four (learnt (yes 0 ∷ []) (1 ∷ 3 ∷ []) ∷ []) 1
unfolding IsDistinct
first_is_fresh = record {
  number = refl;
  each = (
    record {
      some = omega arith;
      once = (tt, tt);
      known = refl;
      found = yes 0;
      taken = [];
      taken_once = tt;
      alone = refl;
      left_open = refl;
      quiet = refl;
    },
    tt,
  );
}

-- with it they are refuted
refuted : IsRefuted (four ++ learnt (yes 0 ∷ []) (1 ∷ 3 ∷ []) ∷ final [] (5 ∷ 2 ∷ 4 ∷ []) ∷ []) [] 6
refuted = record {
  earlier = four ++ learnt (yes 0 ∷ []) (1 ∷ 3 ∷ []) ∷ [];
  clause = [];
  hints = 5 ∷ 2 ∷ 4 ∷ [];
  last = refl;
  numbered = refl;
  negated = refl;
}

-- one learnt entry, and then the final one
refuted_put : HasPut four (four ++ learnt (yes 0 ∷ []) (1 ∷ 3 ∷ []) ∷ final [] (5 ∷ 2 ∷ 4 ∷ []) ∷ []) (Unsat 6)
refuted_put = record {
  since = learnt (yes 0 ∷ []) (1 ∷ 3 ∷ []) ∷ final [] (5 ∷ 2 ∷ 4 ∷ []) ∷ [];
  whole = refl;
  put = record {
    before = learnt (yes 0 ∷ []) (1 ∷ 3 ∷ []) ∷ [];
    clause = [];
    hints = 5 ∷ 2 ∷ 4 ∷ [];
    whole = refl;
    all_learnt = refl;
  };
}

-- under the assumption that the first variable is true, two clauses refute it with its negation alone
assumption_refuted : IsRefuted (map axiomatic two ++ final (no 0 ∷ []) (1 ∷ 2 ∷ []) ∷ []) (yes 0 ∷ []) 3
assumption_refuted = record {
  earlier = map axiomatic two;
  clause = no 0 ∷ [];
  hints = 1 ∷ 2 ∷ [];
  last = refl;
  numbered = refl;
  negated = refl;
}

-- and without it they have a model
model : IsModel (false ∷ true ∷ []) (map axiomatic two) (yes 1 ∷ [])
model = record { clauses = (refl, (refl, tt)); assumptions = (refl, tt) }

-- four decisions, and one literal that a clause forced
abbrev stands : TrailState
stands = record {
  clauses = two;
  attached = 1 ∷ 2 ∷ [];
  literals = yes 0 ∷ yes 1 ∷ no 2 ∷ yes 3 ∷ yes 4 ∷ [];
  reasons = None ∷ Some 1 ∷ None ∷ None ∷ None ∷ [];
  vars = 5;
  spare = 0;
}

-- Of the decisions the first two are assumptions and the third isn't, so the last isn't counted. A forced literal is no decision.
two_assumed : assumed_level_of stands (yes 4 ∷ no 2 ∷ yes 1 ∷ yes 0 ∷ []) ≡ 2
two_assumed = refl

-- with the other sign it is no assumption
one_assumed : assumed_level_of stands (yes 2 ∷ yes 0 ∷ []) ≡ 1
one_assumed = refl

all_assumed : assumed_level_of stands (yes 0 ∷ no 2 ∷ yes 3 ∷ yes 4 ∷ []) ≡ 4
all_assumed = refl

-- the more active one comes first, whatever its rank,
active_first : comes_before (3 ∷ 5 ∷ []) (9 ∷ 1 ∷ []) 1 0 ≡ true
active_first = refl

-- of two as active the one of greater rank,
ranked_first : comes_before (3 ∷ 3 ∷ []) (1 ∷ 9 ∷ []) 1 0 ≡ true
ranked_first = refl

-- and then the smaller number
smaller_first : comes_before (3 ∷ 3 ∷ []) (9 ∷ 9 ∷ []) 0 1 ≡ true
smaller_first = refl
