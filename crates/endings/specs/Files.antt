-- What a command may do where it needs a file.
use Rattle.std.specs.Prelude.{◌≡◌, ◌⊎◌, ℕ, ◌<◌, ◌≤◌, ⊤, List, length, Option, Some, None, IfSome, Result, Ok, Err, IsErrAnd, Vec}
use Rattle.std.specs.declared.alloc.Global.{Global}
use Rattle.des_base.specs.Outside.{Rose}
use Rattle.endings.specs.declared.stop.Stop.{Stop}
use Rattle.endings.specs.declared.stop.Stop.TheVariants.{Usage, Load, Faulty, Long, NoFault, Large, Memory}
use Rattle.endings.specs.declared.stop.FaultyText.{FaultyText}
use Rattle.endings.specs.Transcripts.{Ending}

-- what a shelf holds by name, and its counts of faults by name at two moments
pub record Loads : Type 0 where
  pub held : List ℕ → Option (List ℕ)
  pub before : List ℕ → ℕ
  pub after : List ℕ → ℕ

-- what a shelf holds in its old state, and its counts of faults in the old and the new one, by the functions that give these
abbrev pub loads : {S : Type 0} → (S → List ℕ → Option (List ℕ)) → (S → List ℕ → ℕ) → S → S → Loads
loads held faults old new = record { held = held old; before = faults old; after = faults new }

-- these are the bytes of the file, if those are known, and no more than the limit
pub record Holds (held : List ℕ → Option (List ℕ)) (name : List ℕ) (limit : ℕ) (bytes : List ℕ) : Type 0 where
  pub fits : length bytes ≤ limit
  pub told : IfSome (held name) (λ there. there ≡ bytes)

-- why a command may stop before it has the bytes of file i
abbrev pub StopsAt : Loads → ℕ → List ℕ → ℕ → Stop → Type 0
StopsAt l i name limit (Load j) = (j ≡ i) × Rose (l.before name) (l.after name)
StopsAt l i name limit (Long j) = (j ≡ i) × IfSome (l.held name) (λ held. limit < length held)
StopsAt l i name limit Memory = ⊤
StopsAt l i name limit Usage = ⊥
StopsAt l i name limit (Faulty text) = ⊥
StopsAt l i name limit NoFault = ⊥
StopsAt l i name limit (Large size) = ⊥

-- the bytes of file i, or why it stops there
abbrev pub Fetches : Loads → ℕ → List ℕ → ℕ → Result (Vec ℕ Global) Stop → Type 0
Fetches l i name limit (Ok bytes) = Holds l.held name limit bytes.items
Fetches l i name limit (Err stop) = StopsAt l i name limit stop

-- the bytes of a file whose text has no fault
pub record IsText (held : List ℕ → Option (List ℕ)) (name : List ℕ) (limit : ℕ) (fault : List ℕ → Option FaultyText) (bytes : List ℕ) : Type 0 where
  pub holds : Holds held name limit bytes
  pub well : fault bytes ≡ None

-- such bytes of a file, of which P holds
abbrev pub IsReadAs : (List ℕ → Option (List ℕ)) → List ℕ → ℕ → (List ℕ → Option FaultyText) → (List ℕ → Type 0) → Type 0
IsReadAs held name limit fault P = (text : List ℕ) × IsText held name limit fault text × P text

-- the stop has the fault of the bytes of a file
pub record IsFileFault (held : List ℕ → Option (List ℕ)) (name : List ℕ) (limit : ℕ) (fault : List ℕ → Option FaultyText) (stop : Stop) : Type 0 where
  pub bytes : List ℕ
  pub holds : Holds held name limit bytes
  pub text : FaultyText
  pub faulty : fault bytes ≡ Some text
  pub told : stop ≡ Faulty text

-- why a command may stop at file i: before it has the bytes, or by a fault of its text
abbrev pub StopsIn : Loads → ℕ → List ℕ → ℕ → (List ℕ → Option FaultyText) → Stop → Type 0
StopsIn l i name limit fault stop = StopsAt l i name limit stop ⊎ IsFileFault l.held name limit fault stop

-- the command stops at file i, or goes on with its bytes
abbrev pub WithFile : Loads → ℕ → List ℕ → ℕ → (List ℕ → Ending → Type 0) → Ending → Type 0
WithFile l i name limit next e =
    IsErrAnd e (StopsAt l i name limit) ⊎ ((bytes : List ℕ) × Holds l.held name limit bytes × next bytes e)
