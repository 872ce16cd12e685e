-- How the clauses of a formula are read, token by token.
use Rattle.std.specs.Prelude.{ℕ, List, [], ◌∷◌, ◌++◌, if◌then◌else◌}
use Rattle.prop_core.specs.Clauses.{Clause}
use Rattle.proof_text.specs.declared.number.ClauseItem.{ClauseItem}
use Rattle.proof_text.specs.declared.number.ClauseItem.TheVariants.{Literal, End}
use Rattle.proof_text.specs.SignedNumbers.{is_number, is_zero, literal_of}
use Rattle.proof_text.specs.CnfText.{LinedToken}
use Rattle.proof_text.specs.TextFaults.{not_a_number, unknown_variable}

-- the clause that an item ends, where these literals stand before it
abbrev pub ended_by : ClauseItem → Clause → List Clause
ended_by (Literal l) front = []
ended_by End front = front ∷ []

-- the literals of a clause whose end is still to come, after an item
abbrev pub open_after : ClauseItem → Clause → Clause
open_after (Literal l) front = front ++ l ∷ []
open_after End front = []

-- the code of a token that isn't a number, or whose variable is too great
abbrev pub entry_code : List ℕ → ℕ
entry_code text = if is_number text then unknown_variable else not_a_number

-- the clauses of the tokens, one token after the other, where these literals stand in front
abbrev pub spelled_clauses : Clause → List LinedToken → List Clause
spelled_clauses front [] = []
spelled_clauses front (token ∷ tokens) =
    if is_zero token.text then front ∷ spelled_clauses [] tokens
    else spelled_clauses (front ++ literal_of token.text ∷ []) tokens
