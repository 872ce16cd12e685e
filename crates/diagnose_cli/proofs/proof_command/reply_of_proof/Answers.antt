-- What is printed behind the comment reads back.
use Rattle.std.proofs.Common.{◌∙◌, List, ℕ, drop, length, ap, subst}
use Rattle.std.proofs.Math.Seq.{drop-append_seam}
use Rattle.proof_text.specs.PrintedText.{ReadsBackAsProof, steps_text}
use Rattle.diagnose_cli.proofs.proof_command.reply_of_proof.Goals as goal

pub returns-clause-reads_back : goal.returns-clause-reads_back
returns-clause-reads_back c =
    let before = c.push_head.new.out.items in
    subst (λ (text : List ℕ). ReadsBackAsProof c.args.proof.now text) (ap (λ (all : List ℕ). drop (length before) all) c.in_ok-print_lrat.ensures.text ∙ drop-append_seam before (steps_text c.args.proof.now)) c.in_ok-print_lrat.ensures.reads_back
