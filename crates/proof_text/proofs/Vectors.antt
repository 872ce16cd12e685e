-- Worked values of the first fault of a text, and of what it says.
use Rattle.std.proofs.Common.{◌≡◌, ℕ, List, [], ◌∷◌, ◌++◌, Option, None, refl, true, false}
use Rattle.std.specs.Prelude.{codes, flat_map}
use Rattle.std.specs.Fmt.{digits}
use Rattle.prop_core.specs.declared.lit.Lit.{Lit}
use Rattle.proof_ledger.specs.declared.checker.ProofStep.TheVariants.{Add, Delete}
use Rattle.proof_text.specs.declared.fault.TextFault.{TextFault}
use Rattle.proof_text.specs.SignedNumbers.{is_number, is_zero, size_of}
use Rattle.proof_text.specs.TextFaults.{fault_on_line}
use Rattle.proof_text.specs.CnfText.{first_cnf_fault, formula_of, formula}
use Rattle.proof_text.specs.PrintedText.{formula_text, steps_text}
use Rattle.proof_text.specs.LratText.{first_lrat_fault, proof_of}

abbrev yes : ℕ → Lit
yes var = record { var = var; positive = true }

abbrev no : ℕ → Lit
no var = record { var = var; positive = false }

abbrev text_of : List (List ℕ) → List ℕ
text_of lines = flat_map (λ line. line ++ 10 ∷ []) lines

-- ---- numbers

minus_zero : is_number (codes "-0") ≡ false
minus_zero = refl

leading_zero : is_number (codes "01") ≡ false
leading_zero = refl

minus_alone : is_number (codes "-") ≡ false
minus_alone = refl

zero : is_zero (codes "0") ≡ true
zero = refl

long_number : size_of (codes "-123456789012345678901234567890") ≡ 123456789012345678901234567890
long_number = refl

-- ---- faults of a formula

no_bytes : first_cnf_fault [] ≡ fault_on_line 1 1
no_bytes = refl

other_header : first_cnf_fault (text_of (codes "p cnf 2 -1" ∷ [])) ≡ fault_on_line 1 1
other_header = refl

word_among_literals : first_cnf_fault (text_of (codes "p cnf 2 1" ∷ codes "1 x 0" ∷ [])) ≡ fault_on_line 2 2
word_among_literals = refl

variable_too_great : first_cnf_fault (text_of (codes "p cnf 1 1" ∷ codes "1 -2 0" ∷ [])) ≡ fault_on_line 2 3
variable_too_great = refl

clause_too_many : first_cnf_fault (text_of (codes "p cnf 2 1" ∷ codes "1 0 2 0" ∷ [])) ≡ fault_on_line 2 4
clause_too_many = refl

clause_too_few : first_cnf_fault (text_of (codes "p cnf 2 2" ∷ codes "1 0" ∷ [])) ≡ fault_on_line 2 4
clause_too_few = refl

clause_without_end : first_cnf_fault (text_of (codes "p cnf 2 1" ∷ codes "1 2" ∷ [])) ≡ fault_on_line 2 5
clause_without_end = refl

-- code 5 comes before code 4 at the end
without_end_and_too_few : first_cnf_fault (text_of (codes "p cnf 2 3" ∷ codes "1 2" ∷ [] ∷ [])) ≡ fault_on_line 3 5
without_end_and_too_few = refl

-- the first token at fault decides, and 3 comes before 4 for one token
extra_clause_begins_above : first_cnf_fault (text_of (codes "p cnf 2 1" ∷ codes "1 0 3 x" ∷ [])) ≡ fault_on_line 2 3
extra_clause_begins_above = refl

variables_over_limit : first_cnf_fault (text_of (codes "p cnf 100000001 0" ∷ [])) ≡ fault_on_line 1 8
variables_over_limit = refl

-- ---- formulas

clause_over_lines : first_cnf_fault (text_of (codes "p cnf 2 1" ∷ codes "1" ∷ codes "2 0" ∷ [])) ≡ None
clause_over_lines = refl

clause_over_lines-formula : formula_of (text_of (codes "p cnf 2 1" ∷ codes "1" ∷ codes "2 0" ∷ [])) ≡ formula 2 ((yes 0 ∷ yes 1 ∷ []) ∷ [])
clause_over_lines-formula = refl

clauses_on_a_line : formula_of (text_of (codes "c x" ∷ codes "p cnf 2 3" ∷ [] ∷ codes "1 -2 0 0 -1" ∷ codes "c 7" ∷ codes " 0" ∷ [])) ≡ formula 2 ((yes 0 ∷ no 1 ∷ []) ∷ [] ∷ (no 0 ∷ []) ∷ [])
clauses_on_a_line = refl

-- ---- faults of a proof, of four clauses over two variables

abbrev lrat_fault : List (List ℕ) → Option TextFault
lrat_fault lines = first_lrat_fault 2 4 (text_of lines)

nothing : first_lrat_fault 2 4 [] ≡ None
nothing = refl

hint_negative : lrat_fault (codes "5 1 0 -1 2 0" ∷ []) ≡ fault_on_line 1 7
hint_negative = refl

line_not_ended : lrat_fault (codes "5 2 0 1 2" ∷ []) ≡ fault_on_line 1 5
line_not_ended = refl

number_of_an_axiom : lrat_fault (codes "4 2 0 1 2 0" ∷ []) ≡ fault_on_line 1 6
number_of_an_axiom = refl

not_ascending : lrat_fault (codes "6 2 0 1 2 0" ∷ codes "1 d 6 0" ∷ codes "6 0 5 3 4 0" ∷ []) ≡ fault_on_line 3 6
not_ascending = refl

variable_of_a_proof : first_lrat_fault 2 1 (text_of (codes "2 3 0 1 0" ∷ [])) ≡ fault_on_line 1 3
variable_of_a_proof = refl

long_literal : lrat_fault (codes "5 99999999999999999999 0 1 0" ∷ []) ≡ fault_on_line 1 3
long_literal = refl

id_too_large : lrat_fault (codes "18446744073709551616 1 0 1 0" ∷ []) ≡ fault_on_line 1 8
id_too_large = refl

-- too large comes before no number, even for the negative
large_before_strange : lrat_fault (codes "x 1 0 -18446744073709551616 0" ∷ []) ≡ fault_on_line 1 8
large_before_strange = refl

behind_the_end : lrat_fault (codes "5 d 3 0 4 0" ∷ []) ≡ fault_on_line 1 5
behind_the_end = refl

word_behind_the_end : lrat_fault (codes "5 d 3 0 x" ∷ []) ≡ fault_on_line 1 2
word_behind_the_end = refl

negative_deletion : lrat_fault (codes "-5 d 3 0" ∷ []) ≡ fault_on_line 1 2
negative_deletion = refl

zero_addition : lrat_fault (codes "0 1 0 2 0" ∷ []) ≡ fault_on_line 1 2
zero_addition = refl

low_before_unknown : lrat_fault (codes "4 9 0 -1 0" ∷ []) ≡ fault_on_line 1 6
low_before_unknown = refl

unknown_before_negative : lrat_fault (codes "5 9 0 -1 0" ∷ []) ≡ fault_on_line 1 3
unknown_before_negative = refl

-- ---- proofs

steps : lrat_fault (codes "5 2 0 1 2 0" ∷ codes "0 d 5 0" ∷ codes "c" ∷ codes "6 0 5 3 4 0" ∷ []) ≡ None
steps = refl

steps-proof : proof_of (text_of (codes "5 2 0 1 2 0" ∷ codes "0 d 5 0" ∷ codes "c" ∷ codes "6 0 5 3 4 0" ∷ [])) ≡ Add 1 5 (yes 1 ∷ []) (1 ∷ 2 ∷ []) ∷ Delete (5 ∷ []) ∷ Add 4 6 [] (5 ∷ 3 ∷ 4 ∷ []) ∷ []
steps-proof = refl

deletion_of_nothing : lrat_fault (codes "5 d 0" ∷ []) ≡ None
deletion_of_nothing = refl

deletion_of_nothing-proof : proof_of (codes "5 d 0") ≡ Delete [] ∷ []
deletion_of_nothing-proof = refl

-- ---- printed

printed_formula : formula_text (formula 2 ((yes 0 ∷ no 1 ∷ []) ∷ [] ∷ [])) ≡ codes "p cnf 2 2\n1 -2 0\n0\n"
unfolding digits
printed_formula = refl

printed_proof : steps_text (Add 1 5 (yes 1 ∷ []) (1 ∷ 2 ∷ []) ∷ Delete (5 ∷ []) ∷ Add 3 16 [] [] ∷ []) ≡ codes "5 2 0 1 2 0\n1 d 5 0\n16 0 0\n"
unfolding digits
printed_proof = refl
