-- How many puts have failed.
use Rattle.std.proofs.Common.{◌≡◌, ◌∙◌, ℕ, Option, Result, Ok, Err, IsErrAnd, IsErrOf, option_map, ap}
use Rattle.des_base.specs.Outside.{raised}
use Rattle.telling.specs.Telling.{RisesExactlyIf}
use Rattle.telling.specs.declared.each.Broken.{Broken}
use Rattle.telling.specs.declared.each.Broken.TheVariants.{Put}

-- none failed
pub none_failed : (P : Type 0) (before now : Option ℕ) → (P → ⊥) → now ≡ before → RisesExactlyIf P before now
none_failed P before now never same = record { rises = λ p. absurd (never p); stays = λ other. same }

-- said in other words
pub fails_alike : (P Q : Type 0) (before now : Option ℕ) → (P → Q) → (Q → P) → RisesExactlyIf P before now → RisesExactlyIf Q before now
fails_alike P Q before now there back h = record { rises = λ q. h.rises (back q); stays = λ other. h.stays (λ p. other (there p)) }

-- none failed, and then one perhaps, for which it ended
pub fails_behind : (before mid now : Option ℕ) (e : Broken) (r : Result (Unit {0}) Broken) → IsErrAnd r (λ x. x ≡ e) → mid ≡ before → RisesExactlyIf (IsErrOf {T = Unit {0}} (Err e) Put) mid now → RisesExactlyIf (IsErrOf r Put) before now
fails_behind before mid now e (Ok done) is same h = absurd is
fails_behind before mid now e (Err x) is same h =
    let alike : x ≡ e = is in
    record { rises = λ put. (h.rises cc) ∙ ap (option_map raised) same; stays = λ other. (h.stays (λ put. other cc)) ∙ same }
