-- The parts of a line of a proof, token by token.
use Rattle.std.proofs.Common.{◌≡◌, ℕ, Bool, List, ◌++◌}
use Rattle.std.specs.Prelude.{option_map}
use Rattle.proof_text.specs.LineReading.{section}

-- some more in front of what is read
abbrev pub behind : {X : Type 0} → List X → List X × List (List ℕ) → List X × List (List ℕ)
behind xs read = (xs ++ read.0, read.1)

-- some are read already, and the others are to come
abbrev pub Remains : {X : Type 0} → (List ℕ → Bool) → (List ℕ → X) → List (List ℕ) → List X → List (List ℕ) → Type 0
Remains test value whole xs rest = section test value whole ≡ option_map (behind xs) (section test value rest)
