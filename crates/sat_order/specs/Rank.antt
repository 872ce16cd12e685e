-- What ranks variables: something that is asked for the rank of each once, and whose answers are stored.
use Rattle.std.specs.Prelude.{◌≡◌, ℕ, ◌<◌, ◌≤◌, Bool, true, List, length}
use Rattle.des_base.specs.declared.TheConstants.{VAR_LIMIT}
use Rattle.sat_order.specs.declared.TheConstants.{MAX_RANK}
use Rattle.sat_order.specs.Waiting.{rank_of, waits, ComesFirst}

-- it may be asked for the rank of each variable, the rank is bounded, and there is one answer for each
pub record IsRank {R : Type 0} (may : R → ℕ → Type 0) (gives : R → ℕ → ℕ → Type 0) (rank : R) : Type 0 where
  pub callable : (var : ℕ) → var < VAR_LIMIT → may rank var
  pub bounded : (var answer : ℕ) → var < VAR_LIMIT → gives rank var answer → answer ≤ MAX_RANK
  pub single : (var one other : ℕ) → var < VAR_LIMIT → gives rank var one → gives rank var other → one ≡ other

-- what ranks, and of the variables so far the ranks, and whether each waits
pub record OrderState (R : Type 0) : Type 0 where
  pub rank : R
  pub ranks : List ℕ
  pub waiting : List Bool

-- The ranks are what was answered. It says nothing of which variables wait, so it stays true as they are taken and put back.
pub record IsRanked {R : Type 0} (may : R → ℕ → Type 0) (gives : R → ℕ → ℕ → Type 0) (order : OrderState R) : Type 0 where
  pub rank : IsRank may gives order.rank
  pub each : (var : ℕ) → var < length order.ranks → gives order.rank var (rank_of order.ranks var)

-- others may wait, and all else is as before
pub record KeepsRanks {R : Type 0} (old new : OrderState R) : Type 0 where
  pub rank : new.rank ≡ old.rank
  pub ranks : new.ranks ≡ old.ranks
  pub variables : length new.waiting ≡ length old.waiting

-- the variable waits, and by whatever is answered it comes first of all that wait
pub record IsNextByRank {R : Type 0} (gives : R → ℕ → ℕ → Type 0) (order : OrderState R) (var : ℕ) : Type 0 where
  pub known : var < length order.waiting
  pub waiting_now : waits order.waiting var ≡ true
  pub first : (rank other other_rank : ℕ) → waits order.waiting other ≡ true → gives order.rank var rank → gives order.rank other other_rank → ComesFirst var rank other other_rank
