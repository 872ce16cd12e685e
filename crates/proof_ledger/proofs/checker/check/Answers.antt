use Rattle.std.proofs.Common.{◌≡◌, ◌∙◌, List, ap, sym, arith}
use Rattle.std.proofs.lemmas.List.{drop_all}
use Rattle.proof_ledger.specs.declared.checker.ProofStep.{ProofStep}
use Rattle.proof_ledger.specs.Checkers.{reached}
use Rattle.proof_ledger.specs.Checking.{check_proof, rest_gives}
use Rattle.proof_ledger.proofs.Checks.{verified_refutes}
use Rattle.proof_ledger.proofs.checker.check.Goals as goal

pub returns-clause-sound : goal.returns-clause-sound
returns-clause-sound c =
    let axioms = c.args.axioms.now.clauses in
    let steps = c.args.steps.now in
    let value : c.outcome.result ≡ check_proof axioms steps
    = c.outcome.ensures ∙ ap (λ (rest : List ProofStep). rest_gives (reached c.loop-step.checker) rest) (sym (drop_all c.loop-step.step-index steps (omega arith))) ∙ c.loop-step.invariant in
    λ verified. verified_refutes axioms steps (sym value ∙ verified)
