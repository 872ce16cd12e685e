-- Sizes on both sides of the limit.
use Rattle.std.proofs.Common.{◌≡◌, ◌∙◌, ◌≤◌, ◌<◌, ℕ, Option, Some, None, Result, Ok, Err, IsOkAnd, MatchOption, ap, sym, subst, Bool, refl, if◌then◌else◌, option_map}
use Rattle.des_base.proofs.BoolLemmas.{is_less, not_less}
use Rattle.least_faults.specs.declared.TheConstants.{MOST_SIZE}
use Rattle.endings.specs.declared.stop.Stop.{Stop}
use Rattle.endings.specs.declared.stop.Stop.TheVariants.{Large}
use Rattle.diagnose_cli.specs.Due.{EndsBySize, above_limit}

within_limit : (size : ℕ) → size ≤ MOST_SIZE → above_limit size ≡ None
within_limit size h = subst (λ (b : Bool). ◌≡◌ {A = Option ℕ} (if b then Some size else None) None) (sym (not_less MOST_SIZE size h)) refl

past_limit : (size : ℕ) → MOST_SIZE < size → above_limit size ≡ Some size
past_limit size h = subst (λ (b : Bool). ◌≡◌ {A = Option ℕ} (if b then Some size else None) (Some size)) (sym (is_less MOST_SIZE size h)) refl

-- ---- how a question of this size ends

module _ {T : Type 0} where
  ends_by : (size : ℕ) (o : Option ℕ) (says : T → Type 0) (e : Result T Stop) → above_limit size ≡ o → MatchOption (option_map (λ n. Large n) o) (IsOkAnd e says) (λ stop. e ≡ Err stop) → EndsBySize size says e
  ends_by size o says e is h = subst (λ (p : Option ℕ). MatchOption (option_map (λ n. Large n) p) (IsOkAnd e says) (λ stop. e ≡ Err stop)) (sym is) h

  pub ends_large : (size k : ℕ) (says : T → Type 0) → k ≡ size → MOST_SIZE < k → EndsBySize size says (Err (Large k))
  ends_large size k says is above = ends_by size (Some k) says (Err (Large k)) (ap above_limit (sym is) ∙ past_limit k above) refl

  pub ends_within : (size k : ℕ) (says : T → Type 0) (x : T) → k ≡ size → k ≤ MOST_SIZE → says x → EndsBySize size says (Ok x)
  ends_within size k says x is small h = ends_by size None says (Ok x) (within_limit size (subst (λ (j : ℕ). j ≤ MOST_SIZE) is small)) h

  -- so C is
  module _ (size : ℕ) (says : T → Type 0) (C : Result T Stop → Type 0) (ends : (r : Result T Stop) → EndsBySize size says r → C r) (k : ℕ) (is : k ≡ size) where
    pub by_large : MOST_SIZE < k → C (Err (Large k))
    by_large above = ends (Err (Large k)) (ends_large size k says is above)

    pub by_within : k ≤ MOST_SIZE → (x : T) → says x → C (Ok x)
    by_within small x h = ends (Ok x) (ends_within size k says x is small h)

  -- what may be said in its place
  pub stop_weaker : (o : Option Stop) (P Q : T → Type 0) (e : Result T Stop) → ((x : T) → P x → Q x) → MatchOption o (IsOkAnd e P) (λ stop. e ≡ Err stop) → MatchOption o (IsOkAnd e Q) (λ stop. e ≡ Err stop)
  stop_weaker None P Q (Ok x) f h = f x h
  stop_weaker None P Q (Err stop) f h = absurd h
  stop_weaker (Some stop) P Q e f h = h

  pub ends_weaker : (size : ℕ) (P Q : T → Type 0) (e : Result T Stop) → ((x : T) → P x → Q x) → EndsBySize size P e → EndsBySize size Q e
  ends_weaker size P Q e f h = stop_weaker (option_map (λ n. Large n) (above_limit size)) P Q e f h
