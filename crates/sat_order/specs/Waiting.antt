-- Variables from 0 up, each with a rank, of which some wait to be taken.
use Rattle.std.specs.Prelude.{◌≡◌, ℕ, ◌<◌, ◌≤◌, ◌⊎◌, Bool, false, true, List, length, slice_index, slice_index_or}
use Rattle.des_base.specs.declared.TheConstants.{VAR_LIMIT}

-- the rank of a variable, as it is stored
abbrev pub rank_of : List ℕ → ℕ → ℕ
rank_of ranks var = slice_index ranks var

-- the variable waits; one that is not known does not
abbrev pub waits : List Bool → ℕ → Bool
waits waiting var = slice_index_or waiting var false

-- a greater rank comes first, and of equal ranks the smaller number
abbrev pub ComesFirst : ℕ → ℕ → ℕ → ℕ → Type 0
ComesFirst var rank other other_rank = (other_rank < rank) ⊎ ((other_rank ≡ rank) × (var ≤ other))

-- the variable waits, and it comes first of all that wait
pub record IsNext (ranks : List ℕ) (waiting : List Bool) (var : ℕ) : Type 0 where
  pub known : var < length waiting
  pub waiting_now : waits waiting var ≡ true
  pub first : (other : ℕ) → waits waiting other ≡ true → ComesFirst var (rank_of ranks var) other (rank_of ranks other)

-- no variable waits
abbrev pub NoneWaits : List Bool → Type 0
NoneWaits waiting = (var : ℕ) → waits waiting var ≡ false

-- each variable waits or not, and no more of them are known than there may be
pub record IsWaitingList (ranks : List ℕ) (waiting : List Bool) : Type 0 where
  pub same : length waiting ≡ length ranks
  pub limit : length ranks ≤ VAR_LIMIT
