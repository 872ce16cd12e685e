-- The variables of a question's axioms are among its names, so that a budget above all clauses over them decides.
use Rattle.std.proofs.Common.{◌≡◌, ◌∙◌, ℕ, ◌^◌, Bool, true, false, ◌==◌, List, [], ◌∷◌, ◌++◌, map, option_map, Option, Some, None, refl, ap, subst, arith, Contains, count_by}
use Rattle.std.proofs.Math.Nat.{pow-le-pow_right}
use Rattle.std.proofs.lemmas.Bool.{eqb-true}
use Rattle.std.proofs.lemmas.List.{length-map}
use Rattle.std.specs.List.{AllByRecursion, list_any}
use Rattle.des_base.proofs.Elements.{here_first, here_later}
use Rattle.des_net.specs.Network.{Net}
use Rattle.least_faults.proofs.FreshCount.{fresh_below}
use Rattle.least_faults.specs.Deciding.{UndecidedIsSmall}
use Rattle.log_order.specs.Log.{Log}
use Rattle.proof_ledger.specs.Book.{axioms_of, mark}
use Rattle.proof_ledger.specs.Fresh.{is_learnt, occurs}
use Rattle.prop_core.specs.Clauses.{Clause}
use Rattle.prop_core.specs.Trail.{has_var}
use Rattle.prop_core.specs.VariableNames.{Meaning, NamedLiteral, meaning_of, named_clause, named_literal, with_literal}
use Rattle.prop_core.specs.declared.lit.Lit.{Lit}
use Rattle.run_decode.specs.Drawn.{IsInstance}
use Rattle.proof_ledger.proofs.AxiomLists.{axioms_between}

-- ---- what has a name is among the names

abbrev variables_of : List (ℕ × Meaning) → List ℕ
variables_of names = map (λ (entry : ℕ × Meaning). entry.0) names

found_known : (names : List (ℕ × Meaning)) (var : ℕ) (meaning : Meaning) → meaning_of names var ≡ Some meaning → Contains (variables_of names) var
found_known [] var meaning is = cc
found_known (entry ∷ names) var meaning is = by (entry.0 == var) refl (found_known names var meaning)
  where
    by : (b : Bool) → (entry.0 == var) ≡ b → (meaning_of names var ≡ Some meaning → Contains (variables_of names) var) → Contains (variables_of (entry ∷ names)) var
    by true e later = here_first entry.0 (variables_of names) var (eqb-true entry.0 var e)
    by false e later = here_later entry.0 (variables_of names) var (later (rw e at is))

literal_known : (names : List (ℕ × Meaning)) (l : Lit) (named : NamedLiteral) → named_literal names l ≡ Some named → Contains (variables_of names) l.var
literal_known names l named is = by (meaning_of names l.var) refl is
  where
    by : (o : Option Meaning) → meaning_of names l.var ≡ o → option_map (λ (meaning : Meaning). record { meaning = meaning; positive = l.positive }) o ≡ Some named → Contains (variables_of names) l.var
    by None e h = cc
    by (Some meaning) e h = found_known names l.var meaning e

clause_known : (names : List (ℕ × Meaning)) (clause : Clause) (read : List NamedLiteral) → named_clause names clause ≡ Some read → (var : ℕ) → has_var var clause ≡ true → Contains (variables_of names) var
clause_known names [] read is var there = cc
clause_known names (l ∷ clause) read is var there = by (named_literal names l) refl (named_clause names clause) refl is (clause_known names clause) (l.var == var) refl
  where
    by : (o : Option NamedLiteral) → named_literal names l ≡ o → (p : Option (List NamedLiteral)) → named_clause names clause ≡ p → with_literal o p ≡ Some read →
        ((rest : List NamedLiteral) → named_clause names clause ≡ Some rest → (v : ℕ) → has_var v clause ≡ true → Contains (variables_of names) v) → (b : Bool) → (l.var == var) ≡ b → Contains (variables_of names) var
    by None e p f h later b g = cc
    by (Some named) e None f h later b g = cc
    by (Some named) e (Some rest) f h later true g = subst (Contains (variables_of names)) (eqb-true l.var var g) (literal_known names l named e)
    by (Some named) e (Some rest) f h later false g = later rest f var (rw g at there)

instances_known : (names : List (ℕ × Meaning)) (net : Net) (log : Log) (n : ℕ) (clauses : List Clause) → AllByRecursion (IsInstance net log n names) clauses → (var : ℕ) → list_any (has_var var) clauses ≡ true → Contains (variables_of names) var
instances_known names net log n [] instances var there = cc
instances_known names net log n (clause ∷ clauses) instances var there = by (has_var var clause) refl (instances_known names net log n clauses instances.1 var)
  where
    by : (b : Bool) → has_var var clause ≡ b → (list_any (has_var var) clauses ≡ true → Contains (variables_of names) var) → Contains (variables_of names) var
    by true e later = clause_known names clause instances.0.2.read instances.0.2.by_name var e
    by false e later = later (rw e at there)

-- ---- the whole book

pub undecided_is_small : UndecidedIsSmall
undecided_is_small names first net log n budget lo best old new answered =
    let since = answered.left.since in
    let same = ap axioms_of answered.left.whole ∙ axioms_between old since in
    let known = λ (var : ℕ) (there : occurs var ((old ++ mark 0 ∷ []) ++ since) ≡ true).
    instances_known names net log n (axioms_of new) answered.asks.1.instances var (ap (list_any (has_var var)) same ∙ there) in
    let below = fresh_below (variables_of names) (old ++ mark 0 ∷ []) since (count_by is_learnt since) known answered.left.fresh in
    let count = length-map names (λ (entry : ℕ × Meaning). entry.0) in
    let power = ap (λ k. 3 ^ k) count in
    let most = pow-le-pow_right {n = 3} (omega arith) answered.few in
    omega (arith, below, power, most, answered.found.spent)
