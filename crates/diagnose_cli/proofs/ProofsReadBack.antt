-- A proof that is printed behind a comment reads back, and is verified as its steps are.
use Rattle.std.proofs.Common.{◌≡◌, ℕ, false, true, List, ◌∷◌, ◌++◌, [], length, Option, None, Some, refl, sym, subst, arith, append_assoc, codes, decimal}
use Rattle.std.specs.List.{list_all}
use Rattle.des_base.proofs.PrintedLines.{line_byte, word_in_line}
use Rattle.des_base.specs.CountedLines.{is_counted}
use Rattle.proof_ledger.specs.Checking.{check_proof}
use Rattle.proof_ledger.specs.declared.checker.Checked.TheVariants.{Verified}
use Rattle.proof_ledger.specs.declared.checker.ProofStep.{ProofStep}
use Rattle.proof_text.proofs.Commented.{commented, verified_alike}
use Rattle.proof_text.specs.CnfText.{Formula}
use Rattle.proof_text.specs.LratText.{proof_of}
use Rattle.proof_text.specs.PrintedText.{IsProofText, KeepsLimits, ReadsBackAsProof, steps_text}
use Rattle.proof_text.specs.Refutation.{CanBePrinted}
use Rattle.report.proofs.DecimalWords.{decimal_bytes}
use Rattle.des_net.specs.Network.{Net}
use Rattle.log_order.specs.Log.{Log as AlarmLog}
use Rattle.proof_ledger.specs.Book.{BookEntry}
use Rattle.endings.specs.declared.ending.Kind.{Kind}
use Rattle.diagnose_cli.specs.Replies.{TellsRefutation, reply_of_proof}
use Rattle.inquiries.specs.Formula.{question_formula}
use Rattle.inquiries.specs.Refuted.{IsVerifiedRefutation}
use Rattle.diagnose_cli.specs.ProofText.{IsCheckedText, bound_word, proof_head}

-- ---- behind the comment

abbrev head_line : Option ℕ → List ℕ
head_line bound = codes "c cnf " ++ bound_word bound

head_bytes : (bound : Option ℕ) → list_all line_byte (head_line bound) ≡ true
head_bytes None = refl
head_bytes (Some k) = word_in_line (decimal k) (decimal_bytes k)

head_skipped : (bound : Option ℕ) → is_counted 99 (head_line bound) ≡ false
head_skipped None = refl
head_skipped (Some k) = refl

reads_behind : (bound : Option ℕ) (steps : List ProofStep) (text : List ℕ) → ReadsBackAsProof steps text → ReadsBackAsProof steps (proof_head bound ++ text)
reads_behind bound steps text reads = subst (ReadsBackAsProof steps) (sym (append_assoc (head_line bound) (10 ∷ []) text)) (commented (head_line bound) text steps (head_bytes bound) (head_skipped bound) reads)

-- ---- and as it is checked

pub checked_text : (f : Formula) (bound : Option ℕ) (steps : List ProofStep) → KeepsLimits f → CanBePrinted f.vars f.clauses steps → ReadsBackAsProof steps (steps_text steps) → check_proof f.clauses steps ≡ Verified →
    IsCheckedText f (proof_head bound ++ steps_text steps)
checked_text f bound steps limits printable reads verified = record {
  well = read.well;
  verified = verified_alike f.clauses steps (proof_of (proof_head bound ++ steps_text steps)) read.value verified;
}
  where
    read : IsProofText f.vars (length f.clauses) steps (proof_head bound ++ steps_text steps)
    read = reads_behind bound steps (steps_text steps) reads f.vars (length f.clauses) (omega (arith, limits.0)) printable.steps_known printable.behind

-- so the reply is checked that has the refutation
pub tells_refutation : (net : Net) (alarms : AlarmLog) (n : ℕ) (bound : Option ℕ) (book : List BookEntry) (steps : List ProofStep) (reply : Kind × List ℕ) → IsVerifiedRefutation net alarms n bound book steps → ReadsBackAsProof steps (steps_text steps) →
    reply ≡ reply_of_proof bound steps → TellsRefutation net alarms n bound book reply
tells_refutation net alarms n bound book steps reply refuted reads is = record {
  steps = steps;
  refuted = refuted;
  is = is;
  again = λ limits. subst (λ (r : Kind × List ℕ). IsCheckedText (question_formula net alarms n bound) r.1) (sym is)
      (checked_text (question_formula net alarms n bound) bound steps limits refuted.printable reads refuted.verified);
}
