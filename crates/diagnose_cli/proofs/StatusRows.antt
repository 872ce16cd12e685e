-- What the status of an answer tells.
use Rattle.std.proofs.Common.{◌≡◌, ◌≢◌, ◌∙◌, ℕ, List, [], ◌∷◌, Some, refl, sym, subst, arith}
use Rattle.des_base.specs.CommandWords.{word_at}
use Rattle.des_base.specs.Outside.{Took}
use Rattle.des_net.specs.Network.{Net}
use Rattle.answers.specs.declared.found.Found.{Found}
use Rattle.answers.specs.declared.found.Found.TheVariants.{Explained, Absent, Many, Undecided}
use Rattle.sat_solve.proofs.Freshness.{fresh_closed}
use Rattle.log_csv.specs.LogText.{log_of}
use Rattle.log_order.specs.Log.{Log}
use Rattle.model_text.specs.ModelFaults.{network_of}
use Rattle.proof_ledger.specs.Checking.{check_proof, IsUnsatisfiable}
use Rattle.proof_ledger.specs.declared.checker.Checked.{Checked}
use Rattle.proof_ledger.specs.declared.checker.Checked.TheVariants.{Verified, Rejected}
use Rattle.proof_ledger.specs.declared.checker.ProofStep.{ProofStep}
use Rattle.proof_ledger.proofs.Checks.{verified_refutes}
use Rattle.proof_text.specs.CnfText.{formula_of}
use Rattle.proof_text.specs.LratText.{proof_of}
use Rattle.prop_core.specs.Clauses.{Clause}
use Rattle.replay.specs.Explanation.{IsAbsent}
use Rattle.report.specs.Replies.{text_of_found}
use Rattle.run_decode.specs.QuestionAxioms.{question_axioms}
use Rattle.endings.specs.declared.ending.Kind.{Kind}
use Rattle.endings.specs.declared.ending.Kind.TheVariants.{Done, Absent as NoneThere, Undecided as LeftOpen, Many as TooMany}
use Rattle.endings.specs.Endings.{status_of_kind}
use Rattle.endings.specs.Texts.{cnf, lrat}
use Rattle.diagnose_cli.specs.Commands.{asking, check}
use Rattle.diagnose_cli.specs.FilesRead.{AreBytes}
use Rattle.diagnose_cli.specs.Outcomes.{Outcome, ShowsReply}
use Rattle.diagnose_cli.specs.Questions.{diagnose_question}
use Rattle.diagnose_cli.specs.Replies.{AnswersQuestion, SaysFound, kind_of_found, reply_of_checked}
use Rattle.diagnose_cli.specs.Rows.{CallsDiagnose, CheckRows, DiagnoseRows, TellsLeast, TellsMany, TellsUndecided}
use Rattle.diagnose_cli.specs.Run.{Ends}
use Rattle.diagnose_cli.specs.Tasks.{Task, Reply, one, told_once}
use Rattle.diagnose_cli.proofs.Answered.{decided, reply_over, reply_said, row, shown_by, told_over}
use Rattle.diagnose_cli.proofs.Called.{called_so}
use Rattle.diagnose_cli.proofs.FilesInOrder.{same_text}
use Rattle.diagnose_cli.proofs.StopStatus.{not_low, reply_status}

-- ---- a proof that is verified

-- a reply of status 0 is that of a proof that is verified
yes : (axioms : List Clause) (steps : List ProofStep) (checked : Checked) → check_proof axioms steps ≡ checked → 0 ≡ status_of_kind (reply_of_checked checked).0 → IsUnsatisfiable axioms
yes axioms steps Verified is status = verified_refutes axioms steps is
yes axioms steps (Rejected line kind) is status = absurd (omega arith)

abbrev checking : Task Reply
checking = check.task tt

of_checked : (o : Outcome) (formula : List ℕ) (texts : List (List ℕ)) → o.loads.held (word_at o.words 1) ≡ Some formula → o.status ≡ 0 → AreBytes o.loads.held o.words 1 (cnf ∷ lrat ∷ []) [] texts → ShowsReply o (checking.says o.words o.book texts)
    → IsUnsatisfiable (formula_of formula).clauses
of_checked o formula (text ∷ proof ∷ []) there zero bytes tells =
    let checked = check_proof (formula_of text).clauses (proof_of proof) in
    let status : 0 ≡ status_of_kind (reply_of_checked checked).0 = subst (λ (r : Reply). 0 ≡ status_of_kind r.0) tells.says (sym zero ∙ tells.shown) in
    subst (λ (f : List ℕ). IsUnsatisfiable (formula_of f).clauses) (sym (same_text (o.loads.held (word_at o.words 1)) formula text there bytes.0.holds.told)) (yes (formula_of text).clauses (proof_of proof) checked refl status)
of_checked o formula _ there zero bytes tells = absurd tells.says

pub check_rows : (o : Outcome) → (o.status ≢ 4 → Ends o) → CheckRows o
check_rows o ends = record {
  checked = λ formula proof. row o ends check refl tt (formula ∷ proof ∷ []);
  refuted = λ formula asks zero.
      let answers = reply_status o.status Done zero in
      let over = told_over o (told_once checking) ends (called_so (one check) o.words refl tt asks.called) answers in
      of_checked o formula over.texts asks.told.0 zero over.bytes (reply_said o checking over.texts (not_low o.status 4 (omega arith) (omega arith) answers) over.said);
}

-- ---- what is found of a question

module _ (o : Outcome) (net : Net) (alarms : Log) (steps budget : ℕ) where
  abbrev Holds : Found → Type 0
  Holds found = AnswersQuestion net alarms steps budget o.book found

  abbrev Put : Found → Type 0
  Put found = Took o.before o.now (text_of_found net steps found ∷ [])

  least_of : (found : Found) → 0 ≡ status_of_kind (kind_of_found found) → Holds found → Put found → TellsLeast o net alarms steps
  least_of (Explained best) is holds put = let h = holds.diagnosed.answered.found in record { best = best; given = h.given; least = h.least; put = put }
  least_of _ is holds put = absurd (omega arith)

  absent_of : (found : Found) → 10 ≡ status_of_kind (kind_of_found found) → Holds found → Put found → IsAbsent net alarms steps
  absent_of Absent is holds put = holds.diagnosed.answered.found.absent
  absent_of _ is holds put = absurd (omega arith)

  many_of : (found : Found) → 12 ≡ status_of_kind (kind_of_found found) → Holds found → Put found → TellsMany o net alarms steps
  many_of (Many best) is holds put = let h = holds.diagnosed.answered.found in record { best = best; given = h.given; many = h.many; put = put }
  many_of _ is holds put = absurd (omega arith)

  undecided_of : (found : Found) → 11 ≡ status_of_kind (kind_of_found found) → Holds found → Put found → TellsUndecided o net alarms steps budget
  undecided_of (Undecided lo best) is holds put =
      let answered = holds.diagnosed.answered in
      record {
        lo = lo;
        best = best;
        spent = fresh_closed (question_axioms net alarms steps 0) answered.left.since o.book budget answered.left.whole answered.left.fresh answered.found.spent;
        meanings = holds.diagnosed.meanings;
        few = answered.few;
        conflict = answered.conflict;
        above = answered.found.above;
        known = answered.found.given;
        put = put;
      }
  undecided_of _ is holds put = absurd (omega arith)

module _ (o : Outcome) (ends : o.status ≢ 4 → Ends o) where
  told : (steps budget : ℕ) (text alarms : List ℕ) → CallsDiagnose o steps budget text alarms → (kind : Kind) → o.status ≡ status_of_kind kind
      → {R : Type 0} → ((found : Found) → status_of_kind kind ≡ status_of_kind (kind_of_found found) → Holds o (network_of text) (log_of alarms) steps budget found → Put o (network_of text) (log_of alarms) steps budget found → R) → R
  told steps budget text alarms asks kind is =
      let tells = reply_over o ends (asking diagnose_question) refl (steps, budget) (text ∷ alarms ∷ []) asks refl kind is in
      let says : SaysFound (network_of text) (log_of alarms) steps budget o.book tells.reply = tells.says.says in
      shown_by o kind_of_found (text_of_found (network_of text) steps) (Holds o (network_of text) (log_of alarms) steps budget) kind is tells says.found says.holds says.is

  pub diagnose_rows : DiagnoseRows o
  diagnose_rows = record {
    explained = λ steps budget text alarms asks is. told steps budget text alarms asks Done is (least_of o (network_of text) (log_of alarms) steps budget);
    absent = λ steps budget text alarms asks is. told steps budget text alarms asks NoneThere is (absent_of o (network_of text) (log_of alarms) steps budget);
    undecided = λ steps budget text alarms asks is. told steps budget text alarms asks LeftOpen is (undecided_of o (network_of text) (log_of alarms) steps budget);
    many = λ steps budget text alarms asks is. told steps budget text alarms asks TooMany is (many_of o (network_of text) (log_of alarms) steps budget);
    decided = λ steps budget text alarms asks enough.
        decided o (told_once ((asking diagnose_question).task (steps, budget))) ends (called_so (one (asking diagnose_question)) o.words refl (steps, budget) asks.called) (text ∷ alarms ∷ []) asks.told (refl, enough);
  }
