-- Clauses that are held by their numbers: axioms, clauses by places above them, and others by a map.
use Rattle.std.specs.Prelude.{ℕ, ◌-◌, Bool, true, List, Option, Some, None, nat_lt, length, slice_index_or, if◌then◌else◌}
use Rattle.std.specs.Ordering.{nat_cmp}
use Rattle.std.specs.Option.{option_or, option_and_then}
use Rattle.std.specs.BTreeMap.{get}
use Rattle.prop_core.specs.Clauses.{Clause}
use Rattle.prop_core.specs.Derivation.{clause_numbered}
use Rattle.proof_ledger.specs.declared.held.HeldClauses.{HeldClauses}

-- the axiom of a number, if there is one and it isn't deleted
abbrev pub axiom_by : List Bool → List Clause → ℕ → Option Clause
axiom_by deleted axioms number = if slice_index_or deleted number true then None else clause_numbered axioms number

-- how far a number is above the first ones
abbrev pub place_above : ℕ → ℕ → Option ℕ
place_above first number = if nat_lt number first then None else Some (number - first)

-- the clause at the place that a number has above the first ones
abbrev pub near_by : ℕ → List (Option Clause) → ℕ → Option Clause
near_by first near number = option_and_then (λ place. slice_index_or near place None) (place_above first number)

-- the clause that is held by a number, if one is
abbrev pub held_by : HeldClauses → ℕ → Option Clause
held_by held number = option_or (axiom_by held.deleted.items held.axioms.now.clauses number) (option_or (near_by (length held.deleted.items) held.near number) (get nat_cmp held.far number))
