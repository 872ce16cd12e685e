-- Following hints from a place on.
use Rattle.std.proofs.Common.{◌≡◌, ◌∙◌, ℕ, ◌+◌, ◌<◌, ◌≤◌, List, [], ◌∷◌, refl, ap, drop, length, get_or, arith, add-one, Option}
use Rattle.std.proofs.Math.Seq.{drop-cons}
use Rattle.std.proofs.lemmas.Grind.{common_steps}
use Rattle.prop_core.proofs.Following.{follow_ended, follow_goes_on}
use Rattle.prop_core.specs.declared.lit.Lit.{Lit}
use Rattle.prop_core.specs.Clauses.{Clause}
use Rattle.prop_core.specs.Derivation.{follow, after_hint, Derivation, fails, hints_end, ended, goes_on}

rest_more : (hints : List ℕ) (i : ℕ) → i < length hints → drop i hints ≡ get_or hints i 0 ∷ drop (i + 1) hints
rest_more hints i h = rw (add-one, drop-cons hints i 0 h) refl

-- the hint at the place ends the derivation
pub follow-ended : (held : ℕ → Option Clause) (taken : List Lit) (i : ℕ) (hints : List ℕ) (result : Derivation) → i < length hints → after_hint taken i (held (get_or hints i 0)) ≡ ended result → follow held taken i (drop i hints) ≡ result
follow-ended held taken i hints result h e = ap (follow held taken i) (rest_more hints i h) ∙ follow_ended held taken i (get_or hints i 0) (drop (i + 1) hints) result e

-- or it goes on
pub follow-goes_on : (held : ℕ → Option Clause) (taken : List Lit) (i : ℕ) (hints : List ℕ) (more : List Lit) → i < length hints → after_hint taken i (held (get_or hints i 0)) ≡ goes_on more → follow held taken i (drop i hints) ≡ follow held more (i + 1) (drop (i + 1) hints)
follow-goes_on held taken i hints more h e = ap (follow held taken i) (rest_more hints i h) ∙ follow_goes_on held taken i (get_or hints i 0) (drop (i + 1) hints) more e

-- or there is none
pub follow-end : (held : ℕ → Option Clause) (taken : List Lit) (i : ℕ) (hints : List ℕ) → length hints ≤ i → follow held taken i (drop i hints) ≡ fails i hints_end
follow-end held taken i hints h = let e : drop i hints ≡ [] = grind (arith, common_steps) in ap (follow held taken i) e

pub ruleset hints_from = (follow-ended, follow-goes_on, follow-end)
