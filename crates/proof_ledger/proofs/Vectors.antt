-- Worked books and proofs, by computation.
use Rattle.std.proofs.Common.{◌≡◌, ℕ, List, [], ◌∷◌, ◌++◌, refl, true, false, map}
use Rattle.prop_core.specs.declared.lit.Lit.{Lit}
use Rattle.prop_core.specs.Clauses.{Clause}
use Rattle.proof_ledger.specs.Book.{axiomatic, learnt, final, mark, IsValidBook}
use Rattle.proof_ledger.specs.Checking.{check_proof}
use Rattle.proof_ledger.specs.declared.checker.ProofStep.{ProofStep}
use Rattle.proof_ledger.specs.declared.checker.ProofStep.TheVariants.{Add, Delete}
use Rattle.proof_ledger.specs.declared.checker.Checked.TheVariants.{Verified, Rejected}

abbrev yes : ℕ → Lit
yes var = record { var = var; positive = true }

abbrev no : ℕ → Lit
no var = record { var = var; positive = false }

-- all four clauses of the variables 1 and 2
abbrev all_four : List Clause
all_four = (yes 1 ∷ yes 2 ∷ []) ∷ (no 1 ∷ yes 2 ∷ []) ∷ (yes 1 ∷ no 2 ∷ []) ∷ (no 1 ∷ no 2 ∷ []) ∷ []

abbrev second : ℕ → ProofStep
second line = Add line 5 (yes 2 ∷ []) (1 ∷ 2 ∷ [])

abbrev empty : ℕ → ProofStep
empty line = Add line 6 [] (5 ∷ 3 ∷ 4 ∷ [])

refuted : IsValidBook (map axiomatic all_four ++ learnt (yes 2 ∷ []) (1 ∷ 2 ∷ []) ∷ mark 7 ∷ final [] (5 ∷ 3 ∷ 4 ∷ []) ∷ [])
refuted = (tt, (tt, (tt, (tt, (refl, (tt, (refl, tt)))))))

verified : check_proof all_four (second 1 ∷ empty 2 ∷ []) ≡ Verified
verified = refl

deleted : check_proof all_four (second 1 ∷ Delete (5 ∷ []) ∷ empty 3 ∷ []) ≡ Rejected 3 1
deleted = refl

unfinished : check_proof all_four (second 1 ∷ []) ≡ Rejected 0 4
unfinished = refl

rest_is_not_looked_at : check_proof all_four (second 1 ∷ empty 2 ∷ Add 3 7 [] (9 ∷ []) ∷ []) ≡ Verified
rest_is_not_looked_at = refl
