-- Pairs, labels and orders of worked logs.
use Rattle.std.proofs.Common.{◌≡◌, ℕ, true, false, List, [], ◌∷◌, None, Some, refl}
use Rattle.log_order.specs.Log.{no_log, reaches, closes_cycle}
use Rattle.log_order.specs.Adding.{with_texts, with_pair, before_refusal, alarm_refusal}
use Rattle.log_order.specs.Order.{least_order}
use Rattle.log_order.specs.declared.refusal.LogRefusal.TheVariants.{Unknown, Cycle, NoLabels}

-- the diamond, given from its end
abbrev pub diamond : List (ℕ × ℕ)
diamond = (2, 3) ∷ (1, 3) ∷ (0, 2) ∷ (0, 1) ∷ []

pub diamond-order : least_order 4 diamond ≡ 0 ∷ 1 ∷ 2 ∷ 3 ∷ []
diamond-order = refl

pub later_first : least_order 4 ((3, 0) ∷ (2, 1) ∷ []) ≡ 2 ∷ 1 ∷ 3 ∷ 0 ∷ []
later_first = refl

pub diamond-reached : reaches diamond 0 3 ≡ true
diamond-reached = refl

pub diamond-apart : reaches diamond 1 2 ≡ false
diamond-apart = refl

pub cycle-one : closes_cycle [] 1 1 ≡ true
cycle-one = refl

pub cycle-three : closes_cycle ((0, 1) ∷ (1, 2) ∷ []) 2 0 ≡ true
cycle-three = refl

pub no_cycle : closes_cycle ((0, 1) ∷ (1, 2) ∷ []) 0 2 ≡ false
no_cycle = refl

pub pair-known : with_pair diamond 1 3 ≡ diamond
pair-known = refl

pub refusal-unknown : before_refusal 2 [] 2 2 ≡ Some Unknown
unfolding before_refusal
refusal-unknown = refl

pub refusal-cycle : before_refusal 2 ((0, 1) ∷ []) 1 0 ≡ Some Cycle
unfolding before_refusal
refusal-cycle = refl

pub refusal-none : before_refusal 2 ((0, 1) ∷ []) 0 1 ≡ None
unfolding before_refusal
refusal-none = refl

pub labels-once : with_texts [] ((76 ∷ []) ∷ (75 ∷ []) ∷ (76 ∷ []) ∷ []) ≡ (76 ∷ []) ∷ (75 ∷ []) ∷ []
labels-once = refl

pub labels-needed : alarm_refusal no_log (97 ∷ []) [] ≡ Some NoLabels
unfolding alarm_refusal
labels-needed = refl
