use Rattle.std.proofs.Common.{◌≡◌, ◌∷◌, ◌∙◌, List, length, ap, sym, subst, Option, None}
use Rattle.std.proofs.lemmas.Result.{err_from_is_err_and}
use Rattle.des_base.specs.CountedLines.{NumberedLine, numbered, counted_lines, tokens_of}
use Rattle.proof_ledger.specs.Checkers.{reached}
use Rattle.proof_ledger.specs.Checking.{check_proof, rest_gives}
use Rattle.proof_ledger.proofs.Checks.{verified_refutes}
use Rattle.proof_text.specs.declared.fault.TextFault.{TextFault}
use Rattle.proof_text.specs.TextFaults.{IsTextDue}
use Rattle.proof_text.specs.LratText.{lrat_line, proof_step_of, last_after, lrat_fault_of, first_lrat_fault, proof_steps_of, proof_of}
use Rattle.proof_text.proofs.WellLines.{numbers_ascend, no_zeros}
use Rattle.proof_text.proofs.lrat_text.check_lrat.Goals as goal

-- The fault of a line is that of the text.
pub returns-in_err-last-clause-refused : goal.returns-in_err-last-clause-refused
returns-in_err-last-clause-refused c =
    let p = err_from_is_err_and c.from_residual-in_err-last.result c.from_residual-in_err-last.ensures.1 in
    let cnf = c.args.cnf.now in
    let line = numbered c.in-Some.line.number c.in-Some.line.text.now in
    let later = lrat_fault_of cnf.vars (last_after c.loop-line.last (proof_step_of line.number (lrat_line (tokens_of line.text)))) c.next_line.new.self in
    let same : lrat_fault_of cnf.vars c.loop-line.last (line ∷ c.next_line.new.self) ≡ first_lrat_fault cnf.vars (length cnf.clauses.clauses) c.args.bytes.now
    = ap (lrat_fault_of cnf.vars c.loop-line.last) (sym c.in-Some.ensures.line) ∙ c.loop-line.invariant.faults in
    rw (p.1, p.2) (subst (λ (fault : Option TextFault). IsTextDue fault c.in_err-last.field-0.0) same (c.in_err-last.ensures.refused later))

pub returns-clause-sound : goal.returns-clause-sound
returns-clause-sound c =
    let clauses = c.args.cnf.now.clauses.clauses in
    let value : c.outcome.result ≡ check_proof clauses (proof_of c.args.bytes.now)
    = c.outcome.ensures ∙ ap (λ (lines : List NumberedLine). rest_gives (reached c.loop-line.checker) (proof_steps_of lines)) (sym c.in_default.ensures.line) ∙ c.loop-line.invariant.outcome in
    λ verified. verified_refutes clauses (proof_of c.args.bytes.now) (sym value ∙ verified)

pub returns-clause-ascend : goal.returns-clause-ascend
returns-clause-ascend c =
    let cnf = c.args.cnf.now in
    let count = length cnf.clauses.clauses in
    let none : first_lrat_fault cnf.vars count c.args.bytes.now ≡ None = sym c.loop-line.invariant.faults ∙ ap (lrat_fault_of cnf.vars c.loop-line.last) c.in_default.ensures.line in
    numbers_ascend cnf.vars count (counted_lines 99 c.args.bytes.now) none

pub returns-clause-above : goal.returns-clause-above
returns-clause-above c =
    let cnf = c.args.cnf.now in
    let count = length cnf.clauses.clauses in
    let none : first_lrat_fault cnf.vars count c.args.bytes.now ≡ None = sym c.loop-line.invariant.faults ∙ ap (lrat_fault_of cnf.vars c.loop-line.last) c.in_default.ensures.line in
    no_zeros cnf.vars count (counted_lines 99 c.args.bytes.now) none
