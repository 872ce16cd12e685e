-- The last final clause is that of the evidence.
use Rattle.std.proofs.Common.{◌≡◌, List, sym, subst}
use Rattle.proof_ledger.specs.Checking.{check_proof}
use Rattle.proof_ledger.specs.declared.checker.ProofStep.{ProofStep}
use Rattle.proof_ledger.specs.declared.checker.Checked.TheVariants.{Verified}
use Rattle.proof_text.specs.Refutation.{EndsIn, front_to, refuted_formula, refutation_steps}
use Rattle.prop_core.specs.declared.lit.Lit.{Lit}
use Rattle.inquiries.specs.Refuted.{IsVerifiedRefutation}
use Rattle.inquiries.proofs.Refutations.{ends_in, has_column, is_refuted, ok_both, some_final}
use Rattle.inquiries.proofs.refuting.refuting_proof.Goals as goal

pub assumed_within-requires : goal.assumed_within-requires
assumed_within-requires g c =
    has_column (goal.R-pre g) (goal.R-post g) c.args.case.now.net c.args.case.now.log c.args.parts.now c.args.book.now.entries c.args.bound c.requires.parts.belong c.requires.parts.ready c.requires.evidence

pub refutation_proof-requires : goal.refutation_proof-requires
refutation_proof-requires g c =
    let book = c.args.book.now.entries in
    let last = c.last_final-last.result in
    let some = some_final (goal.R-pre g) (goal.R-post g) c.args.case.now.net c.args.case.now.log c.args.parts.now book c.args.bound c.requires.parts.belong c.requires.parts.ready c.requires.evidence c.in_ok-assumed.assumed.items c.in_ok-assumed.ensures
    c.is_built.ensures.network c.is_whole.ensures.whole.valid in
    subst (λ (xs : List Lit). EndsIn book xs last) (sym c.as_slice.ensures.value)
    (ends_in (goal.R-pre g) (goal.R-post g) c.args.case.now.net c.args.case.now.log c.args.parts.now book c.args.bound c.requires.parts.belong c.requires.parts.ready c.requires.evidence c.in_ok-assumed.assumed.items c.in_ok-assumed.ensures
    c.is_built.ensures.network c.is_whole.ensures.whole.valid last (c.last_final-last.ensures some))

pub returns-clause-refuted : goal.returns-clause-refuted
returns-clause-refuted g c =
    let net = c.args.case.now.net in
    let log = c.args.case.now.log in
    let book = c.args.book.now.entries in
    let last = c.last_final-last.result in
    let assumed = c.in_ok-assumed.assumed.items in
    let some = some_final (goal.R-pre g) (goal.R-post g) net log c.args.parts.now book c.args.bound c.requires.parts.belong c.requires.parts.ready c.requires.evidence assumed c.in_ok-assumed.ensures
    c.is_built.ensures.network c.is_whole.ensures.whole.valid in
    ok_both c.refutation_proof.result (λ (steps : List ProofStep). steps ≡ refutation_steps (front_to last book) c.as_slice.result.now)
    (λ (steps : List ProofStep). check_proof (refuted_formula (front_to last book) c.as_slice.result.now) steps ≡ Verified)
    (λ (steps : List ProofStep). IsVerifiedRefutation net log c.args.parts.now.step.steps c.args.bound book steps)
    (λ steps is verified. is_refuted (goal.R-pre g) (goal.R-post g) net log c.args.parts.now book c.args.bound c.requires.parts.belong c.requires.parts.ready c.requires.evidence assumed c.in_ok-assumed.ensures
    c.is_built.ensures.network c.is_whole.ensures.whole.valid last steps (c.last_final-last.ensures some) c.requires.parts.built
    (subst (λ (xs : List Lit). steps ≡ refutation_steps (front_to last book) xs) c.as_slice.ensures.value is)
    (subst (λ (xs : List Lit). check_proof (refuted_formula (front_to last book) xs) steps ≡ Verified) c.as_slice.ensures.value verified))
    c.refutation_proof.ensures.proof c.refutation_proof.ensures.verified
