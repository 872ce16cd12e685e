-- How a line of a proof is read that has no fault.
use Rattle.std.specs.Prelude.{ℕ, Bool, not, ◌&&◌, nat_lt, List, [], ◌∷◌, map, Option, None, Some, option_map, option_and_then, if◌then◌else◌}
use Rattle.std.specs.List.{list_all}
use Rattle.des_base.specs.Numbers.{number_up_to}
use Rattle.prop_core.specs.declared.lit.Lit.{Lit}
use Rattle.proof_ledger.specs.declared.checker.ProofStep.{ProofStep}
use Rattle.proof_ledger.specs.declared.checker.ProofStep.TheVariants.{Add, Delete}
use Rattle.proof_text.specs.SignedNumbers.{is_number, size_of, literal_of}
use Rattle.proof_text.specs.LratText.{Cut, cut_at_zero, greatest, is_too_large, is_unsigned, is_deletion_mark, some_rest}

-- the number of a clause, or 0
abbrev pub is_id : List ℕ → Bool
is_id token = is_unsigned token && not (is_too_large token)

-- a literal of one of the first `vars` variables, or 0
abbrev pub is_known_literal : ℕ → List ℕ → Bool
is_known_literal vars token = is_number token && not (nat_lt vars (size_of token))

-- what the front of a cut says, token by token, and what stands behind it: none where no `0` ends it, or a token of it fails the test
abbrev pub section_of : {X : Type 0} → (List ℕ → Bool) → (List ℕ → X) → Cut → Option (List X × List (List ℕ))
section_of test value c = if c.ended && list_all test c.front then Some (map value c.front, c.behind) else None

-- what the tokens before the first `0` say, where each passes the test, and what follows it
abbrev pub section : {X : Type 0} → (List ℕ → Bool) → (List ℕ → X) → List (List ℕ) → Option (List X × List (List ℕ))
section test value tokens = section_of test value (cut_at_zero tokens)

-- the numbers of clauses before the first `0`, and what follows it
abbrev pub ids_section : List (List ℕ) → Option (List ℕ × List (List ℕ))
ids_section tokens = section is_id size_of tokens

-- the literals before the first `0`, where there are `vars` variables, and what follows it
abbrev pub literals_section : ℕ → List (List ℕ) → Option (List Lit × List (List ℕ))
literals_section vars tokens = section (is_known_literal vars) literal_of tokens

-- what was read, where nothing follows it
abbrev pub only : {X : Type 0} → X × List (List ℕ) → Option X
only read = if some_rest read.1 then None else Some read.0

-- the numbers of clauses before the first `0`, where nothing follows it
abbrev pub ids_only : List (List ℕ) → Option (List ℕ)
ids_only tokens = option_and_then only (ids_section tokens)

-- the literals that were read, with the hints that stand behind them and end the line
abbrev pub with_hints : List Lit × List (List ℕ) → Option (List Lit × List ℕ)
with_hints read = option_map (λ hints. (read.0, hints)) (ids_only read.1)

-- the literals up to a `0`, over `vars` variables, and the hints up to another that ends the line
abbrev pub literals_and_hints : ℕ → List (List ℕ) → Option (List Lit × List ℕ)
literals_and_hints vars tokens = option_and_then with_hints (literals_section vars tokens)

-- the step of an addition, by its line, its number, and its literals and hints
abbrev pub add_step : ℕ → ℕ → List Lit × List ℕ → ProofStep
add_step line id parts = Add line id parts.0 parts.1

-- an addition, whose number is read: none where that is not above `last`
abbrev pub addition_read : ℕ → ℕ → ℕ → ℕ → List (List ℕ) → Option ProofStep
addition_read line vars last id tokens = if nat_lt last id then option_map (add_step line id) (literals_and_hints vars tokens) else None

-- a deletion, from the tokens behind its `d`
abbrev pub deletion_read : List (List ℕ) → Option ProofStep
deletion_read tokens = option_map Delete (ids_only tokens)

-- what stands behind a step's number, with that number
abbrev pub step_read : ℕ → ℕ → ℕ → List (List ℕ) → ℕ → Option ProofStep
step_read line vars last [] id = addition_read line vars last id []
step_read line vars last (token ∷ tokens) id = if is_deletion_mark token then deletion_read tokens else addition_read line vars last id (token ∷ tokens)

-- the step of the tokens of a line, where there are `vars` variables and an addition has to be numbered above `last`; none where they say no step
abbrev pub line_read : ℕ → ℕ → ℕ → List (List ℕ) → Option ProofStep
line_read line vars last [] = None
line_read line vars last (id ∷ tokens) = option_and_then (step_read line vars last tokens) (number_up_to greatest id)

-- what was read, if it was
abbrev pub if_read : {X : Type 0} → Bool → X → Option X
if_read read value = if read then Some value else None
