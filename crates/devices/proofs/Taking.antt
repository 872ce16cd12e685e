-- A writer that takes a piece bit by bit.
use Rattle.std.proofs.Common.{◌≡◌, ◌∙◌, ◌+◌, ℕ, List, ◌++◌, Option, Some, None, IfSome, take, drop, sym, ap, append_assoc}
use Rattle.std.proofs.Math.Seq.{take-add}
use Rattle.std.specs.Io.KnownBytes.{Appends}

-- what it held before is followed by these bytes
abbrev pub IsFollowed : Option (List ℕ) → Option (List ℕ) → List ℕ → Type 0
IsFollowed held now bytes = IfSome held (λ b. now ≡ Some (b ++ bytes))

-- some more is taken
pub more_taken : (held before now : Option (List ℕ)) (piece : List ℕ) (done count : ℕ) → IsFollowed held before (take done piece) → Appends before now (take count (drop done piece)) → IsFollowed held now (take (done + count) piece)
more_taken None before now piece done count taken more = tt
more_taken (Some b) None now piece done count taken more = cc
more_taken (Some b) (Some xs) None piece done count taken more = absurd more
more_taken (Some b) (Some xs) (Some ys) piece done count taken more =
    let front : xs ≡ b ++ take done piece = cc in
    ap Some (more ∙ ap (λ (f : List ℕ). f ++ take count (drop done piece)) front ∙ append_assoc b (take done piece) (take count (drop done piece)) ∙ ap (λ (f : List ℕ). b ++ f) (sym (take-add done count piece)))
