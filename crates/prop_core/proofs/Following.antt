-- One step of a derivation, by how the hint's clause stands.
use Rattle.std.proofs.Common.{◌≡◌, ◌∙◌, ℕ, ◌+◌, ◌++◌, ◌∷◌, [], List, refl, ap, Option, Some}
use Rattle.prop_core.specs.declared.lit.Lit.{Lit}
use Rattle.prop_core.specs.Clauses.{Clause}
use Rattle.prop_core.specs.Derivation.{Standing, falsified, satisfied, unit, standing, after_standing, after_hint, follow, Derivation, derives, ended, goes_on}

pub follow_ended : (held : ℕ → Option Clause) (taken : List Lit) (at hint : ℕ) (hints : List ℕ) (result : Derivation) → after_hint taken at (held hint) ≡ ended result → follow held taken at (hint ∷ hints) ≡ result
follow_ended held taken at hint hints result e = rw (e, follow) refl

pub follow_goes_on : (held : ℕ → Option Clause) (taken : List Lit) (at hint : ℕ) (hints : List ℕ) (more : List Lit) → after_hint taken at (held hint) ≡ goes_on more → follow held taken at (hint ∷ hints) ≡ follow held more (at + 1) hints
follow_goes_on held taken at hint hints more e = rw (e, follow) refl

hinted : (held : ℕ → Option Clause) (taken : List Lit) (at hint : ℕ) (clause : Clause) (s : Standing) → held hint ≡ Some clause → standing taken clause ≡ s → after_hint taken at (held hint) ≡ after_standing taken at s
hinted held taken at hint clause s e f = ap (after_hint taken at) e ∙ ap (after_standing taken at) f

pub follow-falsified : (held : ℕ → Option Clause) (taken : List Lit) (at hint : ℕ) (hints : List ℕ) (clause : Clause) → held hint ≡ Some clause → standing taken clause ≡ falsified → follow held taken at (hint ∷ hints) ≡ derives
follow-falsified held taken at hint hints clause e f = follow_ended held taken at hint hints derives (hinted held taken at hint clause falsified e f)

pub follow-satisfied : (held : ℕ → Option Clause) (taken : List Lit) (at hint : ℕ) (hints : List ℕ) (clause : Clause) → held hint ≡ Some clause → standing taken clause ≡ satisfied → follow held taken at (hint ∷ hints) ≡ follow held taken (at + 1) hints
follow-satisfied held taken at hint hints clause e f = follow_goes_on held taken at hint hints taken (hinted held taken at hint clause satisfied e f)

pub follow-unit : (held : ℕ → Option Clause) (taken : List Lit) (at hint : ℕ) (hints : List ℕ) (clause : Clause) (l : Lit) → held hint ≡ Some clause → standing taken clause ≡ unit l →
    follow held taken at (hint ∷ hints) ≡ follow held (taken ++ l ∷ []) (at + 1) hints
follow-unit held taken at hint hints clause l e f = follow_goes_on held taken at hint hints (taken ++ l ∷ []) (hinted held taken at hint clause (unit l) e f)
