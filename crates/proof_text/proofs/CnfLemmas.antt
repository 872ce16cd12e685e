-- What a formula's text without a fault has.
use Rattle.std.proofs.Common.{◌≡◌, ◌<◌, ◌≤◌, ◌-◌, ℕ, Bool, true, false, List, [], ◌∷◌, ◌++◌, Option, None, Some, cond, refl, arith, ap, sym, ◌∙◌}
use Rattle.std.proofs.lemmas.Bool.Decides.{nat_tests}
use Rattle.std.proofs.lemmas.List.Elements.{All-nil, All-cons, All-push}
use Rattle.std.specs.Prelude.{◌&&◌, ◌==◌, not, nat_lt, All}
use Rattle.des_base.specs.CountedLines.{NumberedLine, numbered, counted_lines, tokens_of, last_line}
use Rattle.prop_core.specs.declared.lit.Lit.{Lit}
use Rattle.prop_core.specs.Clauses.{Clause, HasValues}
use Rattle.proof_text.specs.ClauseReading.{spelled_clauses}
use Rattle.proof_text.specs.declared.fault.TextFault.{TextFault}
use Rattle.proof_text.specs.declared.header.Header.{Header}
use Rattle.proof_text.specs.SignedNumbers.{is_number, is_zero, size_of, literal_of}
use Rattle.proof_text.specs.TextFaults.{text_fault_or, not_a_number, unknown_variable, other_count}
use Rattle.proof_text.specs.CnfText.{LinedToken, most, header_of, limit_code, tokens_in, token_code, left_after, fault_of_tokens, cnf_fault_of_lines, fault_of_body, first_cnf_fault}

pub within_limits : (header : Header) → header.vars ≤ most → header.clauses ≤ most → limit_code header ≡ None
within_limits header vars clauses = grind (arith, nat_tests)

-- where the header is well the text's first fault is that of its tokens
pub first_cnf_fault-tokens : (bytes : List ℕ) (number : ℕ) (text : List ℕ) (lines : List NumberedLine) (header : Header) (tokens : List LinedToken) → counted_lines 99 bytes ≡ numbered number text ∷ lines
    → header_of (tokens_of text) ≡ Some header → header.vars ≤ most → header.clauses ≤ most → tokens ≡ tokens_in lines
    → first_cnf_fault bytes ≡ fault_of_tokens header.vars (last_line bytes) header.clauses false tokens
first_cnf_fault-tokens bytes number text lines header tokens all is vars clauses behind =
    ap (cnf_fault_of_lines (last_line bytes)) all
    ∙ ap (λ o. fault_of_body (last_line bytes) number o (tokens_in lines)) is
    ∙ ap (λ code. text_fault_or number code (fault_of_tokens header.vars (last_line bytes) header.clauses false (tokens_in lines))) (within_limits header vars clauses)
    ∙ ap (fault_of_tokens header.vars (last_line bytes) header.clauses false) (sym behind)

pub text_fault_or-none : (line : ℕ) (code : Option ℕ) (later : Option TextFault) → text_fault_or line code later ≡ None → (code ≡ None) × (later ≡ None)
text_fault_or-none line None later h = (refl, h)
text_fault_or-none line (Some code) later h = cc

chain-none : (a b c : Bool) (x y z : ℕ) → cond (not a) (Some x) (cond b (Some y) (cond c (Some z) None)) ≡ None → (a ≡ true) × (b ≡ false)
chain-none false b c x y z h = cc
chain-none true true c x y z h = cc
chain-none true false c x y z h = (refl, refl)

known_literal : (number : Bool) (size vars : ℕ) → number ≡ true → nat_lt vars size ≡ false → (number && size == 0) ≡ false → size - 1 < vars
known_literal true size vars n within zero = grind (arith, nat_tests)
known_literal false size vars n within zero = cc

-- the clauses of tokens without a fault have known variables alone
pub clauses_known : (vars end left : ℕ) (is_open : Bool) (front : Clause) (tokens : List LinedToken) → HasValues vars front → fault_of_tokens vars end left is_open tokens ≡ None → All (HasValues vars) (spelled_clauses front tokens)
clauses_known vars end left is_open front [] h none = All-nil (HasValues vars)
clauses_known vars end left is_open front (token ∷ tokens) h none =
    let parts = text_fault_or-none token.line (token_code vars left is_open token.text) (fault_of_tokens vars end (left_after left is_open) (not (is_zero token.text)) tokens) none in
    let well = chain-none (is_number token.text) (nat_lt vars (size_of token.text)) (not is_open && left == 0) not_a_number unknown_variable other_count parts.0 in
    step (is_zero token.text) refl well.0 well.1 (λ next known. clauses_known vars end (left_after left is_open) (not (is_zero token.text)) next tokens known parts.1)
  where
    step : (b : Bool) → is_zero token.text ≡ b → is_number token.text ≡ true → nat_lt vars (size_of token.text) ≡ false → ((next : Clause) → HasValues vars next → All (HasValues vars) (spelled_clauses next tokens))
        → All (HasValues vars) (cond b (front ∷ spelled_clauses [] tokens) (spelled_clauses (front ++ literal_of token.text ∷ []) tokens))
    step true e number within rest = All-cons (HasValues vars) front (spelled_clauses [] tokens) h (rest [] (All-nil (λ (l : Lit). l.var < vars)))
    step false e number within rest =
        rest (front ++ literal_of token.text ∷ [])
        (All-push (λ (l : Lit). l.var < vars) front (literal_of token.text) h (known_literal (is_number token.text) (size_of token.text) vars number within e))
