-- What is seen of a run of the program from outside.
use Rattle.std.specs.Prelude.{◌≡◌, ◌≢◌, ℕ, List, [], ◌∷◌, Result, Ok, Err}
use Rattle.des_base.specs.Outside.{Output, Took}
use Rattle.proof_ledger.specs.Book.{BookEntry}
use Rattle.endings.specs.declared.ending.Kind.{Kind}
use Rattle.endings.specs.Endings.{status_of_kind}
use Rattle.endings.specs.Files.{Loads}
use Rattle.telling.specs.declared.each.Broken.{Broken}
use Rattle.telling.specs.declared.each.Broken.TheVariants.{Memory, Put}

-- the words, what the shelf holds and its counts of faults, what the sink told before and tells now, the book that is left, and the status
pub record Outcome : Type 0 where
  pub loads : Loads
  pub words : List (List ℕ)
  pub before : Output
  pub now : Output
  pub book : List BookEntry
  pub status : ℕ

-- an outcome of these parts, in the order of its fields
abbrev pub outcome : Loads → List (List ℕ) → Output → Output → List BookEntry → ℕ → Outcome
outcome loads words before now book status = record { loads = loads; words = words; before = before; now = now; book = book; status = status }

-- memory didn't run out, and the output could be written
pub record IsPut (status : ℕ) : Type 0 where
  pub written : status ≢ 4
  pub memory : status ≢ 9

-- nor is there a file that can't be loaded
pub record IsUnbroken (status : ℕ) : Type 0 where
  pub loaded : status ≢ 3
  pub put : IsPut status

-- status and text are those of a reply of which P holds, and it was put by one put
pub record ShowsReply (o : Outcome) (P : (Kind × List ℕ) → Type 0) : Type 0 where
  pub reply : Kind × List ℕ
  pub says : P reply
  pub shown : o.status ≡ status_of_kind reply.0
  pub put : Took o.before o.now (reply.1 ∷ [])

-- the status of a command with several replies, by how telling them ends; what is told in all has this kind
abbrev pub status_of_telling : {T : Type 0} → (T → Kind) → Result T Broken → ℕ
status_of_telling kind (Ok told) = status_of_kind (kind told)
status_of_telling kind (Err Memory) = 9
status_of_telling kind (Err Put) = 4
