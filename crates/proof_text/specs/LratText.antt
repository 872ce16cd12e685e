-- LRAT: each counted line is a step. `ID LITERALS 0 HINTS 0` adds a clause, and `ID d IDS 0` deletes clauses.
use Rattle.std.specs.Prelude.{ℕ, Bool, true, false, not, ◌&&◌, ◌||◌, nat_lt, List, [], ◌∷◌, map, codes, bytes_eq, Option, None, Some, if◌then◌else◌}
use Rattle.std.specs.List.{list_any, list_all}
use Rattle.des_base.specs.CountedLines.{NumberedLine, counted_lines, tokens_of}
use Rattle.proof_ledger.specs.declared.checker.ProofStep.{ProofStep}
use Rattle.proof_ledger.specs.declared.checker.ProofStep.TheVariants.{Add, Delete}
use Rattle.proof_text.specs.declared.fault.TextFault.{TextFault}
use Rattle.proof_text.specs.SignedNumbers.{is_number, is_negative, is_zero, size_of, literal_of}
use Rattle.proof_text.specs.TextFaults.{not_a_number, unknown_variable, not_ended, not_ascending, negative_hint, over_limit, text_fault_or}

-- What stands before the first `0`; whether there is one; and what follows it.
pub record Cut : Type 0 where
  pub front : List (List ℕ)
  pub ended : Bool
  pub behind : List (List ℕ)

-- the cut of these parts: what stands before a `0`, whether there is one, and what follows it
abbrev pub cut : List (List ℕ) → Bool → List (List ℕ) → Cut
cut front ended behind = record { front = front; ended = ended; behind = behind }

-- the cut with one more token, the first before the `0`
abbrev pub with_token : List ℕ → Cut → Cut
with_token token c = cut (token ∷ c.front) c.ended c.behind

-- the tokens, cut at the first `0`, which stands on neither side; without one all of them stand in front
abbrev pub cut_at_zero : List (List ℕ) → Cut
cut_at_zero [] = cut [] false []
cut_at_zero (token ∷ tokens) = if is_zero token then cut [] true tokens else with_token token (cut_at_zero tokens)

-- A line as far as it goes. The token behind the number tells an addition from a deletion. Each list reaches up to a `0`;
-- ended is whether the last one is there, and rest is what follows it.
pub data LratLine : Type 0 where
  addition : (id : List ℕ) → (literals hints : List (List ℕ)) → (ended : Bool) → (rest : List (List ℕ)) → LratLine
  deletion : (id : List ℕ) → (ids : List (List ℕ)) → (ended : Bool) → (rest : List (List ℕ)) → LratLine

-- the token is the `d` that tells a deletion
abbrev pub is_deletion_mark : List ℕ → Bool
is_deletion_mark token = bytes_eq token (codes "d")

-- an addition by the cut of its literals, and by that of the tokens behind them, the hints
abbrev pub cut_addition : List ℕ → Cut → Cut → LratLine
cut_addition id literals hints = addition id literals.front hints.front hints.ended hints.behind

-- a deletion by the cut of the tokens behind its `d`
abbrev pub deletion_of : List ℕ → Cut → LratLine
deletion_of id ids = deletion id ids.front ids.ended ids.behind

-- the hints stand behind the literals
abbrev pub addition_line : List ℕ → List (List ℕ) → LratLine
addition_line id tokens = cut_addition id (cut_at_zero tokens) (cut_at_zero (cut_at_zero tokens).behind)

-- the line of these tokens; what is missing is empty, the number too
abbrev pub lrat_line : List (List ℕ) → LratLine
lrat_line [] = addition_line [] []
lrat_line (id ∷ []) = addition_line id []
lrat_line (id ∷ token ∷ tokens) = if is_deletion_mark token then deletion_of id (cut_at_zero tokens) else addition_line id (token ∷ tokens)

-- the greatest number of a clause
abbrev pub greatest : ℕ
greatest = 18446744073709551615

-- the token is a number greater than that of a clause can be, behind a `-` or not
abbrev pub is_too_large : List ℕ → Bool
is_too_large token = nat_lt greatest (size_of token)

-- tokens are left over behind a `0` that has to be the last
abbrev pub some_rest : List (List ℕ) → Bool
some_rest [] = false
some_rest (token ∷ tokens) = true

-- a number of 1 or more
abbrev pub is_positive : List ℕ → Bool
is_positive token = is_number token && not (is_negative token) && not (is_zero token)

-- a number without a `-`, also 0
abbrev pub is_unsigned : List ℕ → Bool
is_unsigned token = is_number token && not (is_negative token)

-- the first of these that holds, as a code
abbrev pub first_lrat_code : Bool → Bool → Bool → Bool → Bool → Bool → Option ℕ
first_lrat_code large strange unended low unknown negative =
    if large then Some over_limit
    else if strange then Some not_a_number
    else if unended then Some not_ended
    else if low then Some not_ascending
    else if unknown then Some unknown_variable
    else if negative then Some negative_hint
    else None

-- The code of a line, where there are `vars` variables, and an addition's number has to be greater than `last`.
abbrev pub lrat_line_code : ℕ → ℕ → LratLine → Option ℕ
lrat_line_code vars last (addition id literals hints ended rest) = first_lrat_code
    (is_too_large id || list_any is_too_large hints)
    (not (is_positive id) || not (list_all is_number literals) || not (list_all is_number hints) || not (list_all is_number rest))
    (not ended || some_rest rest)
    (not (nat_lt last (size_of id)))
    (list_any (λ token. nat_lt vars (size_of token)) literals)
    (list_any is_negative hints)
lrat_line_code vars last (deletion id ids ended rest) = first_lrat_code
    (is_too_large id || list_any is_too_large ids)
    (not (is_unsigned id) || not (list_all is_number ids) || list_any is_negative ids || not (list_all is_number rest))
    (not ended || some_rest rest)
    false false false

-- the step that a line says
abbrev pub proof_step_of : ℕ → LratLine → ProofStep
proof_step_of number (addition id literals hints ended rest) = Add number (size_of id) (map literal_of literals) (map size_of hints)
proof_step_of number (deletion id ids ended rest) = Delete (map size_of ids)

-- the number that the next addition has to exceed, after a step
abbrev pub last_after : ℕ → ProofStep → ℕ
last_after last (Add line id clause hints) = id
last_after last (Delete ids) = last

-- the first fault of the lines of a proof, where there are `vars` variables and the first addition has to be numbered above `last`
abbrev pub lrat_fault_of : ℕ → ℕ → List NumberedLine → Option TextFault
lrat_fault_of vars last [] = None
lrat_fault_of vars last (line ∷ lines) =
    text_fault_or line.number (lrat_line_code vars last (lrat_line (tokens_of line.text)))
    (lrat_fault_of vars (last_after last (proof_step_of line.number (lrat_line (tokens_of line.text)))) lines)

-- The first fault of the text of a proof, if it has one. Lines that begin with `c` are comments. Original clauses have the numbers from 1 to their count.
abbrev pub first_lrat_fault : ℕ → ℕ → List ℕ → Option TextFault
first_lrat_fault vars clauses bytes = lrat_fault_of vars clauses (counted_lines 99 bytes)

-- the steps that the lines say, one for each
abbrev pub proof_steps_of : List NumberedLine → List ProofStep
proof_steps_of lines = map (λ line. proof_step_of line.number (lrat_line (tokens_of line.text))) lines

-- the steps of a text without a fault
abbrev pub proof_of : List ℕ → List ProofStep
proof_of bytes = proof_steps_of (counted_lines 99 bytes)
