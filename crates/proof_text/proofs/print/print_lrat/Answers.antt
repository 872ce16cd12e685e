use Rattle.std.proofs.Common.{sym, subst, List, drop, length}
use Rattle.std.specs.Prelude.{All}
use Rattle.proof_ledger.specs.declared.checker.ProofStep.{ProofStep}
use Rattle.proof_text.specs.ProofNumbers.{NumbersAscend, HasNoZero}
use Rattle.proof_text.specs.PrintedText.{steps_text, ReadsBackAsProof}
use Rattle.proof_text.proofs.PrintLemmas.{appended, both_ok}
use Rattle.proof_text.proofs.LratPrinted.{printed_steps}
use Rattle.proof_text.proofs.print.print_lrat.Goals as goal

pub returns-else-is_err-clause-reads_back : goal.returns-else-is_err-clause-reads_back
returns-else-is_err-clause-reads_back c =
    let steps = c.steps.result.now in
    both_ok c.push_steps-printed.result c.push_steps-printed.ensures.ok c.push_steps-printed.ensures.fit
    (λ text. λ fit.
    subst (λ (l : List ProofStep). ReadsBackAsProof l (drop (length c.args.out.now.items) c.push_steps-printed.new.out.items)) c.steps.ensures
    (subst (ReadsBackAsProof steps) (appended c.args.out.now.items (steps_text steps) c.push_steps-printed.new.out.items text)
    (printed_steps steps fit (subst (λ (l : List ProofStep). NumbersAscend 0 l) (sym c.steps.ensures) c.requires.ascend) (subst (λ (l : List ProofStep). All HasNoZero l) (sym c.steps.ensures) c.requires.above))))
