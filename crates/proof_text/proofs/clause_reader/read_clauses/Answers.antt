use Rattle.std.proofs.Common.{◌≡◌, ◌∷◌, ◌++◌, append-nil, ap, sym, subst, ◌∙◌, Option, false}
use Rattle.std.proofs.lemmas.Result.{err_from_is_err_and}
use Rattle.proof_text.specs.declared.fault.TextFault.{TextFault}
use Rattle.proof_text.specs.ClauseReading.{spelled_clauses}
use Rattle.proof_text.specs.TextFaults.{IsTextDue}
use Rattle.proof_text.specs.CnfText.{lined, some_open, fault_of_tokens}
use Rattle.proof_text.proofs.PieceLemmas.{spelled_clauses-pieces}
use Rattle.proof_text.proofs.clause_reader.read_clauses.Goals as goal

-- The fault of a token is that of all tokens.
pub returns-in_err-take-clause-faults : goal.returns-in_err-take-clause-faults
returns-in_err-take-clause-faults c = λ end.
    let p = err_from_is_err_and c.from_residual.result c.from_residual.ensures.1 in
    let reader = c.loop-token.reader in
    let token = lined c.in-Some.token.line c.in-Some.token.text.now in
    let same : fault_of_tokens reader.vars end reader.left (some_open reader.front.items) (token ∷ c.next_token.new.self) ≡ fault_of_tokens c.args.header.vars end c.args.header.clauses false c.args.tokens
    = ap (λ v. fault_of_tokens v end reader.left (some_open reader.front.items) (token ∷ c.next_token.new.self)) c.loop-token.invariant.vars
    ∙ ap (fault_of_tokens c.args.header.vars end reader.left (some_open reader.front.items)) (sym c.in-Some.ensures)
    ∙ c.loop-token.invariant.faults end in
    rw (p.1, p.2) (subst (λ (fault : Option TextFault). IsTextDue fault c.in_err-take.field-0.0) same (c.in_err-take.ensures.faults end c.next_token.new.self))

-- The pieces that a 0 ends are the clauses that were read.
pub returns-clause-clauses : goal.returns-clause-clauses
returns-clause-clauses c =
    let read = c.loop-token.reader.clauses.clauses in
    sym (append-nil read)
    ∙ ap (λ ts. read ++ spelled_clauses c.loop-token.reader.front.items ts) (sym c.in_default.ensures)
    ∙ c.loop-token.invariant.clauses
    ∙ spelled_clauses-pieces c.args.tokens
