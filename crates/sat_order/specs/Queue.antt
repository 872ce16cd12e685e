-- Variables in runs of equal rank, one run after another, each with a place before which none of its variables waits.
use Rattle.std.specs.Prelude.{◌≡◌, ℕ, zero, suc, ◌+◌, ◌<◌, ◌≤◌, ◌⊎◌, Bool, false, true, List, [], ◌∷◌, Option, Some, None, length, slice_set}
use Rattle.sat_order.specs.declared.queue.RankRun.{RankRun}
use Rattle.sat_order.specs.Waiting.{rank_of, waits, ComesFirst}

-- the ranks of the variables so far, whether each waits, and for how many more there is room
pub record QueueState : Type 0 where
  pub ranks : List ℕ
  pub waiting : List Bool
  pub spare : ℕ

-- the variables from the first up to the end of a run have its rank, and none of them waits before the next
pub record IsRankRun (ranks : List ℕ) (waiting : List Bool) (first : ℕ) (run : RankRun) : Type 0 where
  pub from : first ≤ run.next
  pub upto : run.next ≤ run.end
  pub ranked : (var : ℕ) → first ≤ var → var < run.end → rank_of ranks var ≡ run.rank
  pub passed : (var : ℕ) → first ≤ var → var < run.next → waits waiting var ≡ false

-- runs, one after another, have the variables from the first on up to the last
abbrev pub AreRuns : List ℕ → List Bool → ℕ → ℕ → List RankRun → Type 0
AreRuns ranks waiting first last [] = first ≡ last
AreRuns ranks waiting first last (run ∷ runs) = IsRankRun ranks waiting first run × AreRuns ranks waiting run.end last runs

-- runs have all variables
pub record IsQueue (ranks : List ℕ) (waiting : List Bool) (runs : List RankRun) : Type 0 where
  pub same : length waiting ≡ length ranks
  pub all : AreRuns ranks waiting 0 (length ranks) runs

-- wherever the runs before have the variables up to this one, which has this rank, the runs after have it too
abbrev pub Lengthens : ℕ → ℕ → List RankRun → List RankRun → Type 0
Lengthens rank var before after = (ranks : List ℕ) (waiting : List Bool) → rank_of ranks var ≡ rank → AreRuns ranks waiting 0 var before → AreRuns ranks waiting 0 (var + 1) after

-- some run ends behind the variable
abbrev pub EndsBehind : ℕ → List RankRun → Type 0
EndsBehind var [] = ⊥
EndsBehind var (run ∷ runs) = (var < run.end) ⊎ EndsBehind var runs

-- the place of the first run that ends behind the variable
abbrev pub IsPlaceOf : ℕ → List RankRun → ℕ → Type 0
IsPlaceOf var [] place = ⊥
IsPlaceOf var (run ∷ runs) zero = var < run.end
IsPlaceOf var (run ∷ runs) (suc place) = (run.end ≤ var) × IsPlaceOf var runs place

-- wherever the runs before have their variables, the runs after have them while this one waits besides
abbrev pub LetsWait : ℕ → List RankRun → List RankRun → Type 0
LetsWait var before after = (ranks : List ℕ) (waiting : List Bool) (last : ℕ) → var < last → AreRuns ranks waiting 0 last before → AreRuns ranks (slice_set waiting var true) 0 last after

-- the first variable from `next` on that waits, or the end where none before it does
pub record IsFirstToWait (waiting : List Bool) (next end var : ℕ) : Type 0 where
  pub from : next ≤ var
  pub upto : next ≤ end → var ≤ end
  pub passed : (other : ℕ) → next ≤ other → other < var → waits waiting other ≡ false
  pub waits_now : var < end → waits waiting var ≡ true

-- the same variables, from the first of them on that waits
pub record IsMovedOn (waiting : List Bool) (run moved : RankRun) : Type 0 where
  pub rank : moved.rank ≡ run.rank
  pub end : moved.end ≡ run.end
  pub next : IsFirstToWait waiting run.next run.end moved.next

-- the next variable of a run waits, unless the run is passed whole
abbrev pub WaitsNext : List Bool → RankRun → Type 0
WaitsNext waiting run = run.next < run.end → waits waiting run.next ≡ true

-- the next variable of the run comes first of those before the last that wait; without a run none of them waits
abbrev pub GivesNext : List ℕ → List Bool → ℕ → Option RankRun → Type 0
GivesNext ranks waiting last None = (other : ℕ) → other < last → waits waiting other ≡ false
GivesNext ranks waiting last (Some run) = (run.next < last) × (waits waiting run.next ≡ true) × (rank_of ranks run.next ≡ run.rank) ×
    ((other : ℕ) → other < last → waits waiting other ≡ true → ComesFirst run.next run.rank other (rank_of ranks other))
