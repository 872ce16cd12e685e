-- How many puts have failed, where what was told is said in other words.
use Rattle.std.proofs.Common.{◌≡◌, ◌∙◌, ℕ, Bool, Option, Result, Ok, Err, IsErrOf, option_map, ap}
use Rattle.des_base.specs.Outside.{raised}
use Rattle.telling.proofs.Failing.{fails_alike, none_failed}
use Rattle.telling.specs.Telling.{RisesExactlyIf}
use Rattle.telling.specs.declared.each.Broken.{Broken}
use Rattle.telling.specs.declared.each.Broken.TheVariants.{Put}
use Rattle.verdict_telling.specs.Stages.{HasTold}
use Rattle.verdict_telling.specs.Whole.{HasJudged}
use Rattle.verdict_telling.specs.declared.whole.Told.{Told}
use Rattle.verdict_telling.specs.declared.whole.Told.TheVariants.{Judged}

-- whether some event was left open
pub told_fails : (told : Result (Unit {0}) Broken) (open_left : Bool) (result : Result Bool Broken) (before now : Option ℕ) → HasTold told open_left result → RisesExactlyIf (IsErrOf told Put) before now → RisesExactlyIf (IsErrOf result Put) before now
told_fails (Ok done) open_left result before now is h = let alike : result ≡ Ok open_left = is in fails_alike (IsErrOf {T = Unit {0}} (Ok done) Put) (IsErrOf result Put) before now (λ put. cc) (λ put. cc) h
told_fails (Err e) open_left result before now is h = let alike : result ≡ Err e = is in fails_alike (IsErrOf {T = Unit {0}} (Err e) Put) (IsErrOf result Put) before now (λ put. cc) (λ put. cc) h

-- the verdicts, behind a reply that was put
pub judged_fails : (told : Result Bool Broken) (result : Result Told Broken) (before mid now : Option ℕ) → HasJudged told result → mid ≡ before → RisesExactlyIf (IsErrOf told Put) mid now → RisesExactlyIf (IsErrOf result Put) before now
judged_fails (Ok open_left) result before mid now is same h =
    let alike : result ≡ Ok (Judged open_left) = is in
    record { rises = λ put. cc; stays = λ other. (h.stays (λ put. cc)) ∙ same }
judged_fails (Err e) result before mid now is same h =
    let alike : result ≡ Err e = is in
    record { rises = λ put. (h.rises cc) ∙ ap (option_map raised) same; stays = λ other. (h.stays (λ put. other cc)) ∙ same }

-- all was said, and none failed before
pub all_said : {A B : Type 0} (found : A) (told : B) (before now : Option ℕ) → RisesExactlyIf (IsErrOf {T = A} (Ok found) Put) before now → RisesExactlyIf (IsErrOf {T = B} (Ok told) Put) before now
all_said {A = A} {B = B} found told before now h = none_failed (IsErrOf {T = B} (Ok told) Put) before now (λ put. cc) (h.stays (λ put. cc))

-- it ended in the same way
pub ends_alike : {A B : Type 0} (e : Broken) (before now : Option ℕ) → RisesExactlyIf (IsErrOf {T = A} (Err e) Put) before now → RisesExactlyIf (IsErrOf {T = B} (Err e) Put) before now
ends_alike {A = A} {B = B} e before now h = fails_alike (IsErrOf {T = A} (Err e) Put) (IsErrOf {T = B} (Err e) Put) before now (λ put. cc) (λ put. cc) h
