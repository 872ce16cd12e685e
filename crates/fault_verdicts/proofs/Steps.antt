-- Whether steps have an event.
use Rattle.std.proofs.Common.{◌≡◌, ◌∙◌, ◌⊎◌, inl, inr, ℕ, zero, suc, ◌+◌, ◌<◌, ◌==◌, Bool, true, false, ◌||◌, List, [], ◌∷◌, length, take, sym, ap, subst, arith, Contains, get_or}
use Rattle.std.proofs.lemmas.Bool.{eq-eqb, eqb-true}
use Rattle.std.specs.List.{list_any}
use Rattle.des_base.proofs.BoolLemmas.{neither, or_right, clash}
use Rattle.des_base.proofs.Elements.{cons_cases, here_first, here_later, none_in_nil}
use Rattle.fault_verdicts.specs.Judging.{has_this}
use Rattle.replay.specs.Traced.{event_of, word_of}
use Rattle.replay.specs.declared.run.RunStep.{RunStep}
use Rattle.replay.specs.declared.run.RunStep.TheVariants.{Happens, Dropped}

-- the event of a step is one of the word
pub has_at : (steps : List RunStep) (i : ℕ) (other : RunStep) (e : ℕ) → i < length steps → has_this e (event_of (get_or steps i other)) ≡ true → Contains (word_of steps) e
has_at [] i other e less h = absurd (omega (arith, less))
has_at (Happens f alarm ∷ steps) zero other e less h = here_first f (word_of steps) e (eqb-true f e h)
has_at (Dropped alarm ∷ steps) zero other e less h = cc
has_at (Happens f alarm ∷ steps) (suc i) other e less h = here_later f (word_of steps) e (has_at steps i other e (omega (arith, less)) h)
has_at (Dropped alarm ∷ steps) (suc i) other e less h = has_at steps i other e (omega (arith, less)) h

-- ---- of the first steps

-- some of the steps has the event
abbrev pub any_has : ℕ → List RunStep → Bool
any_has e steps = list_any (λ (step : RunStep). has_this e (event_of step)) steps

any_next : (steps : List RunStep) (i : ℕ) (other : RunStep) (e : ℕ) → i < length steps → any_has e (take i steps) ≡ false → has_this e (event_of (get_or steps i other)) ≡ false → any_has e (take (suc i) steps) ≡ false
any_next [] i other e less none h = absurd (omega (arith, less))
any_next (x ∷ steps) zero other e less none h = ap (λ b. b || false) h
any_next (x ∷ steps) (suc i) other e less none h =
    let parts = neither (has_this e (event_of x)) (any_has e (take i steps)) none in
    let later = any_next steps i other e (omega (arith, less)) parts.1 h in
    ap (λ b. b || any_has e (take (suc i) steps)) parts.0 ∙ later

-- none of one more step
pub none_next : (steps : List RunStep) (i : ℕ) (step : RunStep) (e : ℕ) → i < length steps → step ≡ get_or steps i step → any_has e (take i steps) ≡ false → has_this e (event_of step) ≡ false → any_has e (take (i + 1) steps) ≡ false
none_next steps i step e less is none h =
    let next : suc i ≡ i + 1 = omega arith in
    subst (λ k. any_has e (take k steps) ≡ false) next (any_next steps i step e less none (ap (λ (s : RunStep). has_this e (event_of s)) (sym is) ∙ h))

-- an event of the word is that of some step
any_there : (steps : List RunStep) (e : ℕ) → Contains (word_of steps) e → any_has e steps ≡ true
any_there [] e in' = absurd (none_in_nil e in')
any_there (Happens f alarm ∷ steps) e in' = by (cons_cases f (word_of steps) e in') (any_there steps e)
  where
    by : (f ≡ e) ⊎ Contains (word_of steps) e → (Contains (word_of steps) e → any_has e steps ≡ true) → (f == e) || any_has e steps ≡ true
    by (inl same) later = ap (λ b. b || any_has e steps) (eq-eqb f e same)
    by (inr rest) later = or_right (f == e) (any_has e steps) (later rest)
any_there (Dropped alarm ∷ steps) e in' = any_there steps e in'

pub none_there : (steps : List RunStep) (e : ℕ) → any_has e steps ≡ false → Contains (word_of steps) e → ⊥
none_there steps e none in' = clash (any_has e steps) (any_there steps e in') none
