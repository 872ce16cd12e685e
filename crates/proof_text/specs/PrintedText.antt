-- Formulas and proofs as they are printed: a clause or a step on each line, and single spaces.
use Rattle.std.specs.Prelude.{◌≡◌, ⊤, ℕ, ◌+◌, ◌<◌, ◌≤◌, ◌^◌, All, map, List, [], ◌∷◌, ◌++◌, flat_map, length, codes, decimal, None, if◌then◌else◌}
use Rattle.prop_core.specs.declared.lit.Lit.{Lit}
use Rattle.prop_core.specs.Clauses.{Clause, HasValues}
use Rattle.proof_ledger.specs.declared.checker.ProofStep.{ProofStep}
use Rattle.proof_ledger.specs.declared.checker.ProofStep.TheVariants.{Add, Delete}
use Rattle.proof_text.specs.CnfText.{Formula, most, first_cnf_fault, formula_of}
use Rattle.proof_text.specs.LratText.{first_lrat_fault, proof_of}

-- Variable 0 is printed as 1.
abbrev pub literal_word : Lit → List ℕ
literal_word l = if l.positive then decimal (l.var + 1) else 45 ∷ decimal (l.var + 1)

-- the literals, each with a space behind it
abbrev pub literals_text : Clause → List ℕ
literals_text clause = flat_map (λ l. literal_word l ++ 32 ∷ []) clause

-- the line of a clause, which ends with `0`
abbrev pub clause_text : Clause → List ℕ
clause_text clause = literals_text clause ++ codes "0\n"

-- the line `p cnf V C` of `vars` variables and `clauses` clauses
abbrev pub header_text : ℕ → ℕ → List ℕ
header_text vars clauses = codes "p cnf " ++ (decimal vars ++ 32 ∷ []) ++ decimal clauses ++ 10 ∷ []

-- the header, and then the line of each clause in their order
abbrev pub formula_text : Formula → List ℕ
formula_text f = header_text f.vars (length f.clauses) ++ flat_map clause_text f.clauses

-- the numbers, each with a space behind it
abbrev pub numbers_text : List ℕ → List ℕ
numbers_text numbers = flat_map (λ n. decimal n ++ 32 ∷ []) numbers

-- The first number of a deletion says nothing, and is printed as 1.
abbrev pub step_words_text : ProofStep → List ℕ
step_words_text (Add line id clause hints) = (decimal id ++ 32 ∷ []) ++ literals_text clause ++ codes "0 " ++ numbers_text hints
step_words_text (Delete ids) = codes "1 d " ++ numbers_text ids

-- the line of a step, which ends with `0`
abbrev pub step_text : ProofStep → List ℕ
step_text step = step_words_text step ++ codes "0\n"

-- the line of each step in their order
abbrev pub steps_text : List ProofStep → List ℕ
steps_text steps = flat_map step_text steps

-- The numbers of a step are below 2 ^ 64.
abbrev pub NumbersFit : ProofStep → Type 0
NumbersFit (Add line id clause hints) = (id < 2 ^ 64) × All (λ n. n < 2 ^ 64) hints
NumbersFit (Delete ids) = All (λ n. n < 2 ^ 64) ids

-- The text is one of this formula.
pub record IsFormulaText (f : Formula) (text : List ℕ) : Type 0 where
  pub well : first_cnf_fault text ≡ None
  pub value : formula_of text ≡ f

-- the formula has no more variables, and no more clauses, than a header may state
abbrev pub KeepsLimits : Formula → Type 0
KeepsLimits f = (f.vars ≤ most) × (length f.clauses ≤ most)

-- a step without the number of its line
abbrev pub without_line : ProofStep → ProofStep
without_line (Add line id clause hints) = Add 0 id clause hints
without_line (Delete ids) = Delete ids

-- The variables of a step are below a number.
abbrev pub HasVariablesBelow : ℕ → ProofStep → Type 0
HasVariablesBelow vars (Add line id clause hints) = HasValues vars clause
HasVariablesBelow vars (Delete ids) = ⊤

-- The text is one of this proof, but for the numbers of the lines, where there are `vars` variables and `clauses` clauses.
pub record IsProofText (vars clauses : ℕ) (steps : List ProofStep) (text : List ℕ) : Type 0 where
  pub well : first_lrat_fault vars clauses text ≡ None
  pub value : map without_line (proof_of text) ≡ map without_line steps

-- The number of an addition is above this one.
abbrev pub HasNumberAbove : ℕ → ProofStep → Type 0
HasNumberAbove clauses (Add line id clause hints) = clauses < id
HasNumberAbove clauses (Delete ids) = ⊤

-- The text reads back as this proof, for each number of variables above its own, at most 2^30, and each number of clauses below those of its additions.
abbrev pub ReadsBackAsProof : List ProofStep → List ℕ → Type 0
ReadsBackAsProof steps text = (vars clauses : ℕ) → vars ≤ 1073741824 → All (HasVariablesBelow vars) steps → All (HasNumberAbove clauses) steps → IsProofText vars clauses steps text
