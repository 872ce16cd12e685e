-- How the refusals of a log and of a size become those of a session.
use Rattle.std.proofs.Common.{◌≡◌, ◌∙◌, ℕ, ◌<◌, ◌≤◌, Bool, true, false, cond, Option, None, Some, Err, refl, ap, arith}
use Rattle.std.specs.Prelude.{nat_lt}
use Rattle.std.proofs.lemmas.Bool.Decides.{nat_tests}
use Rattle.alarm_session.specs.Refusals.{refusal_of, large_refusal, refusal_with}
use Rattle.alarm_session.specs.declared.refusal.SessionRefusal.TheVariants.{Memory, TooLarge}
use Rattle.des_base.specs.Refusing.{SucceedsUnless}
use Rattle.least_faults.specs.declared.TheConstants.{MOST_SIZE}
use Rattle.log_order.specs.declared.refusal.LogRefusal.{LogRefusal}
use Rattle.log_order.specs.declared.refusal.LogRefusal.TheVariants as of_log

-- by the log
pub refused_by_log : (X Y : Type 0) (r : LogRefusal) (o : Option LogRefusal) (size : ℕ) → SucceedsUnless {X = X} o of_log.Memory (Err r) → SucceedsUnless {X = Y} (refusal_with o size) Memory (Err (refusal_of r))
refused_by_log X Y r o size is n = ap (λ p. refusal_with p size) (is (λ h. n (ap refusal_of h)))

-- by the size
larger : (size : ℕ) (b : Bool) → nat_lt MOST_SIZE size ≡ b → MOST_SIZE < size → large_refusal size ≡ Some (TooLarge size)
larger size true is above = ap (λ t. cond t (Some (TooLarge size)) None) is
larger size false is above = absurd (let k = not_above size is in omega (arith, k, above))
  where
    not_above : (s : ℕ) → nat_lt MOST_SIZE s ≡ false → s ≤ MOST_SIZE
    not_above s h = grind (arith, nat_tests)

pub refused_by_size : (o : Option LogRefusal) (size there : ℕ) → o ≡ None → MOST_SIZE < size → there ≡ size → refusal_with o there ≡ Some (TooLarge size)
refused_by_size o size there none above is = ap (λ p. refusal_with p there) none ∙ ap large_refusal is ∙ larger size (nat_lt MOST_SIZE size) refl above

within : (size : ℕ) (b : Bool) → nat_lt MOST_SIZE size ≡ b → size ≤ MOST_SIZE → large_refusal size ≡ None
within size false is below = ap (λ t. cond t (Some (TooLarge size)) None) is
within size true is below = absurd (let k = above_is size is in omega (arith, k, below))
  where
    above_is : (s : ℕ) → nat_lt MOST_SIZE s ≡ true → MOST_SIZE < s
    above_is s h = grind (arith, nat_tests)

pub accepted : (o : Option LogRefusal) (size : ℕ) → o ≡ None → size ≤ MOST_SIZE → refusal_with o size ≡ None
accepted o size none below = ap (λ p. refusal_with p size) none ∙ within size (nat_lt MOST_SIZE size) refl below
