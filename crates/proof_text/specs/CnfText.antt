-- DIMACS CNF: a header `p cnf V C`, and then the tokens of all further lines, taken together, as C clauses of non-zero
-- numbers, each ended by `0`.
use Rattle.std.specs.Prelude.{ℕ, ◌-◌, Bool, true, false, not, ◌&&◌, ◌||◌, ◌==◌, nat_lt, List, [], ◌∷◌, map, flat_map, codes, bytes_eq, Option, None, Some, option_map, option_and_then, if◌then◌else◌}
use Rattle.std.specs.List.{slice_split}
use Rattle.des_base.specs.Numbers.{number_of}
use Rattle.des_base.specs.CountedLines.{NumberedLine, counted_lines, tokens_of, last_line}
use Rattle.prop_core.specs.Clauses.{Clause}
use Rattle.proof_text.specs.declared.fault.TextFault.{TextFault}
use Rattle.proof_text.specs.declared.header.Header.{Header}
use Rattle.proof_text.specs.SignedNumbers.{is_number, is_zero, size_of, literal_of}
use Rattle.proof_text.specs.TextFaults.{no_header, not_a_number, unknown_variable, other_count, not_ended, over_limit, fault_on_line, text_fault_or}

-- the greatest number of variables, and of clauses, that a header may state
abbrev pub most : ℕ
most = 100000000

-- the words of a header `p cnf V C` for the numbers of variables and clauses
abbrev pub header_words : List (List ℕ) → Option (List ℕ × List ℕ)
header_words [] = None
header_words (p ∷ []) = None
header_words (p ∷ cnf ∷ []) = None
header_words (p ∷ cnf ∷ vars ∷ []) = None
header_words (p ∷ cnf ∷ vars ∷ clauses ∷ []) = if bytes_eq p (codes "p") && bytes_eq cnf (codes "cnf") then Some (vars, clauses) else None
header_words (p ∷ cnf ∷ vars ∷ clauses ∷ more ∷ words) = None

-- the header that states `vars` variables and `clauses` clauses
abbrev pub stated : ℕ → ℕ → Header
stated vars clauses = record { vars = vars; clauses = clauses }

-- the numbers, where both words are numbers without a sign
abbrev pub header_of_words : List ℕ × List ℕ → Option Header
header_of_words words = option_and_then (λ vars. option_map (stated vars) (number_of words.1)) (number_of words.0)

-- what the tokens of a header line state
abbrev pub header_of : List (List ℕ) → Option Header
header_of tokens = option_and_then header_of_words (header_words tokens)

-- the code of a header that states too many variables or clauses, if it does
abbrev pub limit_code : Header → Option ℕ
limit_code header = if nat_lt most header.vars || nat_lt most header.clauses then Some over_limit else None

-- the code of a header line that has another shape, or states more than the limits allow
abbrev pub header_code : Option Header → Option ℕ
header_code None = Some no_header
header_code (Some header) = limit_code header

-- a token and the number of its line
pub record LinedToken : Type 0 where
  pub line : ℕ
  pub text : List ℕ

-- the token with the number of its line
abbrev pub lined : ℕ → List ℕ → LinedToken
lined line text = record { line = line; text = text }

-- the tokens of the lines, one after another
abbrev pub tokens_in : List NumberedLine → List LinedToken
tokens_in lines = flat_map (λ line. map (lined line.number) (tokens_of line.text)) lines

-- some literals of a clause stand before its end
abbrev pub some_open : Clause → Bool
some_open [] = false
some_open (l ∷ ls) = true

-- The code of a token, where some of a clause stands before it or none, and `left` clauses may still begin.
abbrev pub token_code : ℕ → ℕ → Bool → List ℕ → Option ℕ
token_code vars left is_open text =
    if not (is_number text) then Some not_a_number
    else if nat_lt vars (size_of text) then Some unknown_variable
    else if not is_open && left == 0 then Some other_count
    else None

-- the code of the end, where `left` clauses may still begin and a clause is open or not; none where all are there and ended
abbrev pub end_code : ℕ → Bool → Option ℕ
end_code left is_open = if is_open then Some not_ended else if nat_lt 0 left then Some other_count else None

-- how many clauses may still begin after a token
abbrev pub left_after : ℕ → Bool → ℕ
left_after left is_open = if is_open then left else left - 1

-- the first fault of the tokens, and else that of the end, where the text's last line has this number
abbrev pub fault_of_tokens : ℕ → ℕ → ℕ → Bool → List LinedToken → Option TextFault
fault_of_tokens vars end left is_open [] = text_fault_or end (end_code left is_open) None
fault_of_tokens vars end left is_open (token ∷ tokens) =
    text_fault_or token.line (token_code vars left is_open token.text)
    (fault_of_tokens vars end (left_after left is_open) (not (is_zero token.text)) tokens)

-- the first fault behind a header that is well
abbrev pub fault_behind : ℕ → Option Header → List LinedToken → Option TextFault
fault_behind end None tokens = None
fault_behind end (Some header) tokens = fault_of_tokens header.vars end header.clauses false tokens

-- the first fault of a text by what its header states, on the line `number`, and by the tokens behind it; the last line is `end`
abbrev pub fault_of_body : ℕ → ℕ → Option Header → List LinedToken → Option TextFault
fault_of_body end number header tokens = text_fault_or number (header_code header) (fault_behind end header tokens)

-- the first fault of the counted lines, of which the first is the header; without any the header is missing, on the last line `end`
abbrev pub cnf_fault_of_lines : ℕ → List NumberedLine → Option TextFault
cnf_fault_of_lines end [] = fault_on_line end no_header
cnf_fault_of_lines end (header ∷ lines) = fault_of_body end header.number (header_of (tokens_of header.text)) (tokens_in lines)

-- the first fault of a text, if it has one; lines that begin with `c` are comments
abbrev pub first_cnf_fault : List ℕ → Option TextFault
first_cnf_fault bytes = cnf_fault_of_lines (last_line bytes) (counted_lines 99 bytes)

-- all but the last
abbrev pub before_last : {X : Type 0} → List X → List X
before_last [] = []
before_last (x ∷ []) = []
before_last (x ∷ next ∷ xs) = x ∷ before_last (next ∷ xs)

-- the token is the `0` that ends a clause
abbrev pub ends_clause : LinedToken → Bool
ends_clause token = is_zero token.text

-- the clause of the literals that these tokens spell, one for each
abbrev pub spelled_clause : List LinedToken → Clause
spelled_clause tokens = map (λ token. literal_of token.text) tokens

-- the clauses of the tokens: the pieces that a `0` ends
abbrev pub clauses_in : List LinedToken → List Clause
clauses_in tokens = map spelled_clause (before_last (slice_split ends_clause tokens))

-- a formula, and how many variables it is over
pub record Formula : Type 0 where
  pub vars : ℕ
  pub clauses : List Clause

-- the clauses, as a formula over `vars` variables
abbrev pub formula : ℕ → List Clause → Formula
formula vars clauses = record { vars = vars; clauses = clauses }

-- the formula of a header and the tokens behind it; without a header it has no variables and no clauses
abbrev pub formula_of_body : Option Header → List LinedToken → Formula
formula_of_body None tokens = formula 0 []
formula_of_body (Some header) tokens = formula header.vars (clauses_in tokens)

-- the formula of the counted lines, of which the first is the header; without any it has no variables and no clauses
abbrev pub formula_of_lines : List NumberedLine → Formula
formula_of_lines [] = formula 0 []
formula_of_lines (header ∷ lines) = formula_of_body (header_of (tokens_of header.text)) (tokens_in lines)

-- the formula of a text without a fault
abbrev pub formula_of : List ℕ → Formula
formula_of bytes = formula_of_lines (counted_lines 99 bytes)
