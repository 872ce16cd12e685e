-- A proof that is verified refutes its axioms.
use Rattle.std.proofs.Common.{◌≡◌, ℕ, zero, suc, ◌-◌, ◌==◌, Bool, true, false, ◌∷◌, [], List, refl, arith, subst, Some, None, Option, slice_get, cond, IsTrue, nat_eq, sub-one}
use Rattle.std.specs.List.{list_any}
use Rattle.prop_core.specs.Clauses.{Clause, clause_true, AllClausesTrue}
use Rattle.prop_core.specs.Derivation.{derive, Derivation, derives, fails, clause_numbered}
use Rattle.prop_core.specs.Laws.{MakesHeldTrue}
use Rattle.prop_core.proofs.Entailed.{derived_clauses_are_true}
use Rattle.proof_ledger.specs.declared.checker.ProofStep.{ProofStep}
use Rattle.proof_ledger.specs.declared.checker.ProofStep.TheVariants.{Add, Delete}
use Rattle.proof_ledger.specs.declared.checker.Checked.{Checked}
use Rattle.proof_ledger.specs.declared.checker.Checked.TheVariants.{Verified}
use Rattle.proof_ledger.specs.Checking.{with_clause, without, is_empty_clause, Checking, answered, holds, after_add, after_step, check_from, check_proof, IsUnsatisfiable}
use Rattle.des_base.proofs.BoolLemmas.{differ}

-- two that hold the same are one
pub held_same : (f g : ℕ → Option Clause) → ((n : ℕ) → f n ≡ g n) → f ≡ g
held_same f g h = λ i x. h x i

with_true : (value : ℕ → Bool) (held : ℕ → Option Clause) (id : ℕ) (clause : Clause) → MakesHeldTrue value held → IsTrue (clause_true value clause) → MakesHeldTrue value (with_clause held id clause)
with_true value held id clause all here number given e = by (number == id) e
  where
    by : (b : Bool) → cond b (Some clause) (held number) ≡ Some given → IsTrue (clause_true value given)
    by true is = let same : clause ≡ given = cc in subst (λ (c : Clause). IsTrue (clause_true value c)) same here
    by false is = all number given is

without_true : (value : ℕ → Bool) (held : ℕ → Option Clause) (ids : List ℕ) → MakesHeldTrue value held → MakesHeldTrue value (without held ids)
without_true value held ids all number given e = by (list_any (nat_eq number) ids) e
  where
    by : (b : Bool) → cond b None (held number) ≡ Some given → IsTrue (clause_true value given)
    by true is = cc
    by false is = all number given is

-- after a step whose clauses are true the answer is not Verified, or true clauses are held
step_true : (value : ℕ → Bool) (held : ℕ → Option Clause) (step : ProofStep) → MakesHeldTrue value held → (c : Checking) → after_step held step ≡ c →
    elim c as (λ _. Type 0) [ answered checked ↦ (checked ≡ Verified → ⊥) | holds more ↦ MakesHeldTrue value more ]
step_true value held (Delete ids) all (answered checked) e = cc
step_true value held (Delete ids) all (holds more) e = let same : without held ids ≡ more = cc in subst (λ (m : ℕ → Option Clause). MakesHeldTrue value m) same (without_true value held ids all)
step_true value held (Add line id clause hints) all c e = by (derive held clause hints) refl c e
  where
    emptied : (cl : Clause) → IsTrue (clause_true value cl) → (c : Checking) → cond (is_empty_clause cl) (answered Verified) (holds (with_clause held id cl)) ≡ c →
        elim c as (λ _. Type 0) [ answered checked ↦ (checked ≡ Verified → ⊥) | holds more ↦ MakesHeldTrue value more ]
    emptied [] t c is = cc
    emptied (l ∷ ls) t (answered checked) is = cc
    emptied (l ∷ ls) t (holds more) is = let same : with_clause held id (l ∷ ls) ≡ more = cc in subst (λ (m : ℕ → Option Clause). MakesHeldTrue value m) same (with_true value held id (l ∷ ls) all t)

    by : (d : Derivation) → derive held clause hints ≡ d → (c : Checking) → after_add held line id clause d ≡ c →
        elim c as (λ _. Type 0) [ answered checked ↦ (checked ≡ Verified → ⊥) | holds more ↦ MakesHeldTrue value more ]
    by derives f c is = emptied clause (derived_clauses_are_true held clause hints f value all) c is
    by (fails at kind) f (answered checked) is = λ v. cc
    by (fails at kind) f (holds more) is = cc

verified_false : (value : ℕ → Bool) (steps : List ProofStep) (held : ℕ → Option Clause) → MakesHeldTrue value held → check_from held steps ≡ Verified → ⊥
verified_false value [] held all e = cc
verified_false value (step ∷ steps) held all e = by (after_step held step) (step_true value held step all (after_step held step) refl) e (verified_false value steps)
  where
    by : (c : Checking) → elim c as (λ _. Type 0) [ answered checked ↦ (checked ≡ Verified → ⊥) | holds more ↦ MakesHeldTrue value more ] →
        elim c as (λ _. Checked) [ answered checked ↦ checked | holds more ↦ check_from more steps ] ≡ Verified →
        ((held : ℕ → Option Clause) → MakesHeldTrue value held → check_from held steps ≡ Verified → ⊥) → ⊥
    by (answered checked) fact is later = fact is
    by (holds more) fact is later = later more fact is

one_of : (value : ℕ → Bool) (clauses : List Clause) → AllClausesTrue value clauses → (k : ℕ) (given : Clause) → slice_get clauses k ≡ Some given → IsTrue (clause_true value given)
one_of value [] all k given h = cc
one_of value (c ∷ clauses) all zero given h = let is : c ≡ given = cc in subst (λ (d : Clause). IsTrue (clause_true value d)) is all.0
one_of value (c ∷ clauses) all (suc k) given h = one_of value clauses all.1 k given h

-- numbers count from one
pub numbered-suc : (cs : List Clause) (j : ℕ) → clause_numbered cs (suc j) ≡ slice_get cs j
numbered-suc cs j = rw (differ (suc j) 0 (λ e. omega arith), sub-one) refl

pub numbered_true : (value : ℕ → Bool) (clauses : List Clause) → AllClausesTrue value clauses → MakesHeldTrue value (clause_numbered clauses)
numbered_true value clauses all number given e = by (number == 0) e
  where
    by : (b : Bool) → cond b None (slice_get clauses (number - 1)) ≡ Some given → IsTrue (clause_true value given)
    by true is = cc
    by false is = one_of value clauses all (number - 1) given is

pub verified_refutes : (axioms : List Clause) (steps : List ProofStep) → check_proof axioms steps ≡ Verified → IsUnsatisfiable axioms
verified_refutes axioms steps e value all = verified_false value steps (clause_numbered axioms) (numbered_true value axioms all) e
