use Rattle.std.proofs.Common.{List, ◌≡◌, ◌∷◌, ◌++◌, ap, sym, subst, ◌∙◌, Option, None, append-nil}
use Rattle.proof_ledger.specs.declared.checker.ProofStep.{ProofStep}
use Rattle.std.proofs.lemmas.Result.{err_from_is_err_and}
use Rattle.std.specs.Prelude.{All}
use Rattle.des_base.specs.CountedLines.{numbered, counted_lines, tokens_of}
use Rattle.proof_text.specs.ProofNumbers.{NumbersAscend, HasNoZero}
use Rattle.proof_text.specs.declared.fault.TextFault.{TextFault}
use Rattle.proof_text.specs.TextFaults.{IsTextDue}
use Rattle.proof_text.specs.LratText.{lrat_line, proof_step_of, last_after, lrat_fault_of, first_lrat_fault, proof_steps_of, proof_of}
use Rattle.proof_text.proofs.WellLines.{numbers_ascend, no_zeros}
use Rattle.proof_text.proofs.reading.read_lrat.Goals as goal

-- The fault of a line is that of the text.
pub returns-in_err-step-clause-refused : goal.returns-in_err-step-clause-refused
returns-in_err-step-clause-refused c =
    let p = err_from_is_err_and c.from_residual.result c.from_residual.ensures.1 in
    let line = numbered c.in-Some.line.number c.in-Some.line.text.now in
    let later = lrat_fault_of c.args.vars (last_after c.loop-line.last (proof_step_of line.number (lrat_line (tokens_of line.text)))) c.next_line.new.self in
    let same : lrat_fault_of c.args.vars c.loop-line.last (line ∷ c.next_line.new.self) ≡ first_lrat_fault c.args.vars c.args.clauses c.args.bytes.now
    = ap (lrat_fault_of c.args.vars c.loop-line.last) (sym c.in-Some.ensures.line) ∙ c.loop-line.invariant.faults in
    rw (p.1, p.2) (subst (λ (fault : Option TextFault). IsTextDue fault c.in_err-step.field-0.0) same (c.in_err-step.ensures.refused later))

pub returns-clause-ascend : goal.returns-clause-ascend
returns-clause-ascend c =
    let none : first_lrat_fault c.args.vars c.args.clauses c.args.bytes.now ≡ None = sym c.loop-line.invariant.faults ∙ ap (lrat_fault_of c.args.vars c.loop-line.last) c.in_default.ensures.line in
    let steps : proof_of c.args.bytes.now ≡ c.loop-line.proof = sym c.loop-line.invariant.steps ∙ ap (λ ls. c.loop-line.proof ++ proof_steps_of ls) c.in_default.ensures.line ∙ append-nil c.loop-line.proof in
    subst (NumbersAscend c.args.clauses) steps (numbers_ascend c.args.vars c.args.clauses (counted_lines 99 c.args.bytes.now) none)

pub returns-clause-above : goal.returns-clause-above
returns-clause-above c =
    let none : first_lrat_fault c.args.vars c.args.clauses c.args.bytes.now ≡ None = sym c.loop-line.invariant.faults ∙ ap (lrat_fault_of c.args.vars c.loop-line.last) c.in_default.ensures.line in
    let steps : proof_of c.args.bytes.now ≡ c.loop-line.proof = sym c.loop-line.invariant.steps ∙ ap (λ ls. c.loop-line.proof ++ proof_steps_of ls) c.in_default.ensures.line ∙ append-nil c.loop-line.proof in
    subst (λ (l : List ProofStep). All HasNoZero l) steps (no_zeros c.args.vars c.args.clauses (counted_lines 99 c.args.bytes.now) none)
