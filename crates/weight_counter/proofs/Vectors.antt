-- Two inputs, computed.
use Rattle.std.proofs.Common.{◌≡◌, [], ◌∷◌, refl}
use Rattle.weight_counter.specs.declared.scale.Scale.{Scale}
use Rattle.weight_counter.specs.declared.weighted.Weighted.{Weighted}
use Rattle.weight_counter.specs.Scales.{place_variable, scale_clauses}
use Rattle.card_counter.specs.CounterState.{positive, negative}

two : Scale
two = record { first = 10; inputs = 2; amounts = 3 }

light : Weighted
light = record { input = positive 0; weight = 1 }

heavy : Weighted
heavy = record { input = negative 1; weight = 2 }

-- the light input reaches 1, the heavy one keeps what the light one reaches, reaches 1 and 2 by itself, and raises 1 to 3
weighs-two : scale_clauses (place_variable two) 3 (light ∷ heavy ∷ []) ≡
    (negative 0 ∷ positive 10 ∷ [])
    ∷ (negative 10 ∷ positive 13 ∷ []) ∷ (negative 11 ∷ positive 14 ∷ []) ∷ (negative 12 ∷ positive 15 ∷ [])
    ∷ (positive 1 ∷ positive 13 ∷ []) ∷ (positive 1 ∷ positive 14 ∷ [])
    ∷ (negative 10 ∷ positive 1 ∷ positive 15 ∷ []) ∷ []
unfolding two light heavy
weighs-two = refl
