-- The text of a refutation, behind a comment that names the formula which it refutes.
use Rattle.std.specs.Prelude.{◌≡◌, ℕ, List, ◌∷◌, ◌++◌, [], codes, decimal, length, Option, None, Some}
use Rattle.proof_ledger.specs.Checking.{check_proof}
use Rattle.proof_ledger.specs.declared.checker.Checked.TheVariants.{Verified}
use Rattle.proof_text.specs.CnfText.{Formula}
use Rattle.proof_text.specs.LratText.{first_lrat_fault, proof_of}

-- the word with which `cnf` is asked for the bound
abbrev pub bound_word : Option ℕ → List ℕ
bound_word None = codes "any"
bound_word (Some k) = decimal k

-- a comment that names the formula
abbrev pub proof_head : Option ℕ → List ℕ
proof_head bound = codes "c cnf " ++ bound_word bound ++ 10 ∷ []

-- As a proof for this formula the text has no fault, and its steps are verified.
pub record IsCheckedText (f : Formula) (text : List ℕ) : Type 0 where
  pub well : first_lrat_fault f.vars (length f.clauses) text ≡ None
  pub verified : check_proof f.clauses (proof_of text) ≡ Verified
