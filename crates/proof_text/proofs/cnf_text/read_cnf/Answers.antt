use Rattle.std.proofs.Common.{◌≡◌, ◌<◌, ap, sym, subst, ◌∙◌, Option, None, [], false}
use Rattle.std.proofs.lemmas.Result.{err_from_is_err_and}
use Rattle.std.proofs.lemmas.List.Elements.{All-nil, All-same}
use Rattle.des_base.specs.CountedLines.{last_line}
use Rattle.prop_core.specs.ClauseStore.{ClauseStore}
use Rattle.prop_core.specs.declared.lit.Lit.{Lit}
use Rattle.prop_core.specs.Clauses.{HasValues}
use Rattle.proof_text.specs.ClauseReading.{spelled_clauses}
use Rattle.proof_text.specs.declared.fault.TextFault.{TextFault}
use Rattle.proof_text.specs.TextFaults.{text_fault_or, IsTextDue}
use Rattle.proof_text.specs.CnfText.{fault_of_tokens}
use Rattle.proof_text.proofs.CnfLemmas.{first_cnf_fault-tokens, clauses_known}
use Rattle.proof_text.proofs.PieceLemmas.{spelled_clauses-pieces}
use Rattle.proof_text.proofs.cnf_text.read_cnf.Goals as goal

-- A fault of the clauses is that of the text.
pub returns-in_err-reader-clause-refused : goal.returns-in_err-reader-clause-refused
returns-in_err-reader-clause-refused c =
    let p = err_from_is_err_and c.from_residual.result c.from_residual.ensures.1 in
    let same = first_cnf_fault-tokens c.args.bytes.now c.in-Some.line.number c.in-Some.line.text.now c.next_line.new.self c.in-Ok.header c.new.result (sym c.new-lines.ensures ∙ c.in-Some.ensures.line) c.in-Ok.ensures.well c.in-Ok.ensures.vars c.in-Ok.ensures.clauses c.new.ensures in
    rw (p.1, p.2) (subst (λ (fault : Option TextFault). IsTextDue fault c.in_err-reader.field-0.0) (sym same) (c.in_err-reader.ensures.faults (last_line c.args.bytes.now)))

pub returns-clause-known : goal.returns-clause-known
returns-clause-known c =
    let end = last_line c.args.bytes.now in
    let header = c.in-Ok.header in
    let none : fault_of_tokens header.vars end header.clauses false c.new.result ≡ None = c.in_ok-reader.ensures.faults end ∙ ap (λ code. text_fault_or end code None) (sym c.in_default-end_code.ensures) in
    let clauses : c.into_clauses.result.clauses ≡ spelled_clauses [] c.new.result = ap (λ (s : ClauseStore). s.clauses) c.into_clauses.ensures ∙ c.in_ok-reader.ensures.clauses ∙ sym (spelled_clauses-pieces c.new.result) in
    All-same (HasValues header.vars) _ _ clauses (clauses_known header.vars end header.clauses false [] c.new.result (All-nil (λ (l : Lit). l.var < header.vars)) none)
