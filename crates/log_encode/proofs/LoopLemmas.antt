-- What loops write, one more turn.
use Rattle.std.proofs.Common.{◌≡◌, ℕ, ◌+◌, ◌∙◌, ◌++◌, ◌∷◌, [], List, ap, sym, map, append_assoc}
use Rattle.std.specs.Prelude.{flat_map}
use Rattle.des_base.proofs.NumbersBelow.{map_numbers_more, flat_numbers_more}
use Rattle.des_base.specs.Lists.{numbers_below}

-- the same behind what was there before
pub map_more_on : {X : Type 0} (f : ℕ → X) (k : ℕ) (old : List X) → (old ++ map f (numbers_below k)) ++ f k ∷ [] ≡ old ++ map f (numbers_below (k + 1))
map_more_on f k old = append_assoc old (map f (numbers_below k)) (f k ∷ []) ∙ ap (λ xs. old ++ xs) (sym (map_numbers_more f k))

pub flat_more_on : {X : Type 0} (f : ℕ → List X) (k : ℕ) (old : List X) → (old ++ flat_map f (numbers_below k)) ++ f k ≡ old ++ flat_map f (numbers_below (k + 1))
flat_more_on f k old = append_assoc old (flat_map f (numbers_below k)) (f k) ∙ ap (λ xs. old ++ xs) (sym (flat_numbers_more f k))

pub flat_more_after : {X : Type 0} (f : ℕ → List X) (k : ℕ) (old begun : List X) → (old ++ (begun ++ flat_map f (numbers_below k))) ++ f k ≡ old ++ (begun ++ flat_map f (numbers_below (k + 1)))
flat_more_after f k old begun = append_assoc old (begun ++ flat_map f (numbers_below k)) (f k) ∙ ap (λ xs. old ++ xs) (flat_more_on f k begun)
