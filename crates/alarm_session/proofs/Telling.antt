-- What is true of a session's book: it is lean, and its axioms pose the question of the log.
use Rattle.std.proofs.Common.{◌≡◌, ◌∙◌, ℕ, ◌+◌, ◌*◌, List, length, None, sym, ap, subst, arith, append-nil}
use Rattle.std.proofs.Math.Nat.{mul-le-mul_right}
use Rattle.alarm_session.specs.Session.{IsKept, IsLean, Poses}
use Rattle.alarm_session.specs.declared.kept.Kept.{Kept}
use Rattle.des_net.specs.Network.{Net, IsNetwork}
use Rattle.des_net.specs.QuestionSize.{fault_event_count}
use Rattle.least_faults.proofs.Posing.{poses}
use Rattle.least_faults.specs.Bounds.{coded_clauses}
use Rattle.least_faults.specs.Evidence.{IsPosed}
use Rattle.least_faults.specs.Parts.{meanings_of_parts}
use Rattle.question_clauses.specs.LogClauses.{guard_literals}
use Rattle.log_encode.specs.CodedLog.{read_meanings}
use Rattle.log_order.specs.Log.{IsValidLog}
use Rattle.proof_ledger.specs.Book.{axioms_of}
use Rattle.prop_core.specs.VariableNames.{ReadsAs}
use Rattle.prop_core.specs.declared.lit.Lit.{Lit}
use Rattle.replay.specs.QuestionSize.{doubtful_count}
use Rattle.run_decode.proofs.FewNames.{inputs_are_counted}

module _ {R : Type 0} (net : Net) (n : ℕ) (kept : Kept R) (is : IsKept net n kept) where
  -- the clauses of the steps and of the log, by the network and the log
  coded_is : coded_clauses kept.parts.step.net kept.parts.code.coded.log kept.parts.step.steps ≡ coded_clauses net kept.log n
  coded_is =
      ap (λ (m : Net). coded_clauses m kept.parts.code.coded.log kept.parts.step.steps) is.of_log.belong.of_steps
      ∙ ap (λ k. coded_clauses net kept.parts.code.coded.log k) is.of_log.time
      ∙ ap (λ l. coded_clauses net l n) is.of_log.belong.same_log

  inputs_are : length kept.parts.counter.inputs ≡ fault_event_count net * n + doubtful_count kept.log
  inputs_are =
      inputs_are_counted kept.parts.step kept.parts.code.coded kept.parts.counter.inputs is.coded.together.inputs
      ∙ ap (λ (m : Net). fault_event_count m * kept.parts.step.steps + doubtful_count kept.parts.code.coded.log) is.of_log.belong.of_steps
      ∙ ap (λ k. fault_event_count net * k + doubtful_count kept.parts.code.coded.log) is.of_log.time
      ∙ ap (λ l. fault_event_count net * n + doubtful_count l) is.of_log.belong.same_log

  pub book_lean : IsLean kept.book.entries net kept.log n
  book_lean =
      let lean = is.coded.bounded.lean in
      let columns = is.coded.bounded.columns in
      let counted = mul-le-mul_right (length kept.parts.counter.inputs) columns in
      let inputs = ap (λ k. 256 * k) inputs_are in
      let spread = turn (fault_event_count net) n (doubtful_count kept.log) in
      omega (arith, lean, coded_is, counted, inputs, spread)
    where
      turn : (f k d : ℕ) → 256 * (f * k + d) ≡ 256 * k * f + 256 * d
      turn f k d = grind arith

  pub book_poses : IsNetwork net → IsValidLog kept.log → (guards : List Lit) → ReadsAs (read_meanings kept.parts.code.coded) guards (guard_literals kept.parts.code.coded.net kept.parts.code.coded.log) → Poses net kept.log n kept.book.entries
  book_poses network valid guards read = record {
    meanings = meanings_of_parts kept.parts;
    assumed = guards;
    posed = subst (λ k. IsPosed (meanings_of_parts kept.parts) (axioms_of kept.book.entries) guards net kept.log k None) is.of_log.time
        (subst (λ (m : Net). IsPosed (meanings_of_parts kept.parts) (axioms_of kept.book.entries) guards m kept.log kept.parts.step.steps None) is.of_log.belong.of_steps
        (poses kept.parts.step kept.parts.code.coded kept.parts.counter kept.parts.vars (axioms_of kept.book.entries) None guards is.coded (record { guards = guards; read = read; whole = sym (append-nil guards); column = tt })
        kept.log (subst IsNetwork (sym is.of_log.belong.of_steps) network) valid is.of_log.belong.same_log));
  }
