use Rattle.std.proofs.Common.{◌≡◌, ◌+◌, ◌-◌, List, length, refl, Result, Ok, Err, IfOk, All, take}
use Rattle.proof_ledger.specs.Checking.{check_proof}
use Rattle.proof_ledger.specs.declared.checker.ProofStep.{ProofStep}
use Rattle.proof_ledger.specs.declared.checker.Checked.TheVariants.{Verified}
use Rattle.proof_text.proofs.Readable.{IsRefuting, is_refuting}
use Rattle.proof_text.specs.ProofNumbers.{NumbersAscend, HasNoZero}
use Rattle.proof_text.specs.Refutation.{front_to, refuted_formula, refutation_steps, steps_behind}
use Rattle.proof_text.proofs.refuting.refutation_proof.Goals as goal

weaker : {A B : Type 0} (r : Result A B) (P Q : A → Type 0) → ((a : A) → P a → Q a) → IfOk r P → IfOk r Q
weaker (Ok a) P Q f p = f a p
weaker (Err e) P Q f p = tt

abbrev is_behind : (c : goal.After-proof) → List ProofStep → Type 0
is_behind c steps = steps ≡ steps_behind c.axioms-axioms.result (c.axioms-axioms.result + length c.args.assumptions.now - c.axioms-axioms.result) c.args.last (take c.entries_to-count.result c.args.book.now.entries)

refuting : (c : goal.After-proof) → (steps : List ProofStep) → is_behind c steps → IsRefuting c.args.book.now.entries c.args.assumptions.now c.args.last steps
refuting c steps is =
    is_refuting c.args.book.now.entries c.args.assumptions.now c.args.last c.entries_to-count.result c.axioms-axioms.result (c.axioms-axioms.result + length c.args.assumptions.now) steps c.entries_to-count.ensures.valid c.requires c.entries_to-count.ensures.front
    c.axioms-axioms.ensures refl is

pub returns-clause-proof : goal.returns-clause-proof
returns-clause-proof c = weaker c.proof.result (is_behind c) (λ (steps : List ProofStep). steps ≡ refutation_steps (front_to c.args.last c.args.book.now.entries) c.args.assumptions.now) (λ steps is. (refuting c steps is).is) c.proof.ensures

pub returns-clause-verified : goal.returns-clause-verified
returns-clause-verified c = weaker c.proof.result (is_behind c) (λ (steps : List ProofStep). check_proof (refuted_formula (front_to c.args.last c.args.book.now.entries) c.args.assumptions.now) steps ≡ Verified) (λ steps is. (refuting c steps is).verified) c.proof.ensures

pub returns-clause-ascend : goal.returns-clause-ascend
returns-clause-ascend c = weaker c.proof.result (is_behind c) (λ (steps : List ProofStep). NumbersAscend 0 steps) (λ steps is. (refuting c steps is).ascend) c.proof.ensures

pub returns-clause-above : goal.returns-clause-above
returns-clause-above c = weaker c.proof.result (is_behind c) (λ (steps : List ProofStep). All HasNoZero steps) (λ steps is. (refuting c steps is).above) c.proof.ensures
