-- The numbers of clauses in a proof.
use Rattle.std.specs.Prelude.{⊤, ℕ, ◌<◌, List, [], ◌∷◌, All}
use Rattle.proof_ledger.specs.declared.checker.ProofStep.{ProofStep}
use Rattle.proof_ledger.specs.declared.checker.ProofStep.TheVariants.{Add, Delete}

-- The numbers of the additions ascend, and the first is greater than this one.
abbrev pub NumbersAscend : ℕ → List ProofStep → Type 0
NumbersAscend last [] = ⊤
NumbersAscend last (Add line id clause hints ∷ steps) = (last < id) × NumbersAscend id steps
NumbersAscend last (Delete ids ∷ steps) = NumbersAscend last steps

-- No number of a clause is 0.
abbrev pub HasNoZero : ProofStep → Type 0
HasNoZero (Add line id clause hints) = (0 < id) × All (λ n. 0 < n) hints
HasNoZero (Delete ids) = All (λ n. 0 < n) ids
