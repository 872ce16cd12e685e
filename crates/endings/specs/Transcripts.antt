-- What a command says, in one form for all: texts that are put one after the other, and how it ends.
use Rattle.std.specs.Prelude.{◌≡◌, ◌≢◌, ⊤, ℕ, List, [], ◌∷◌, Result, Ok, Err}
use Rattle.endings.specs.declared.ending.Kind.{Kind}
use Rattle.endings.specs.declared.stop.Stop.{Stop}
use Rattle.endings.specs.declared.stop.Stop.TheVariants.{Memory}

-- how a command ends that says something: with a last text of this kind, with a last text that can't be put whole, or out of memory behind its texts
pub data End : Type 0 where
  said : Kind → End
  cut : End
  broken : End

-- texts that are put one after the other, and how it ends; where it is cut the last text is the one that can't be put whole
pub record Transcript : Type 0 where
  pub texts : List (List ℕ)
  pub end : End

-- a command says something, or stops before it can
abbrev pub Ending : Type 0
Ending = Result Transcript Stop

-- a command with one reply ends with one of this kind, or with one that can't be put whole
abbrev pub EndsOne : Kind → End → Type 0
EndsOne kind (said other) = other ≡ kind
EndsOne kind cut = ⊤
EndsOne kind broken = ⊥

-- one reply of which P holds
pub record IsOne (P : (Kind × List ℕ) → Type 0) (told : Transcript) : Type 0 where
  pub reply : Kind × List ℕ
  pub says : P reply
  pub alone : told.texts ≡ reply.1 ∷ []
  pub ends : EndsOne reply.0 told.end

-- the transcript of one reply that is put whole
abbrev pub whole : (Kind × List ℕ) → Transcript
whole reply = record { texts = reply.1 ∷ []; end = said reply.0 }

-- the transcript of one reply that can't be put whole
abbrev pub cut_short : (Kind × List ℕ) → Transcript
cut_short reply = record { texts = reply.1 ∷ []; end = cut }

-- the ending of a command that has one reply: this reply, or why there is none
abbrev pub once : Result (Kind × List ℕ) Stop → Ending
once (Ok reply) = Ok (whole reply)
once (Err stop) = Err stop

-- P, unless memory ran out
abbrev pub UnlessMemory : {T : Type 0} → Result T Stop → Type 0 → Type 0
UnlessMemory e P = e ≢ Err Memory → P

-- an ending that may be said, or out of memory, where Q holds
pub record OrMemory (may : Ending → Type 0) (Q : Type 0) (e : Ending) : Type 0 where
  pub says : UnlessMemory e (may e)
  pub wanting : e ≡ Err Memory → Q
