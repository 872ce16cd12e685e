-- The result of tracing a run: that the network can perform it, or the first event that it can't.
use Rattle.std.specs.Prelude.{◌≡◌, Bool, false, ℕ, ◌-◌, ◌≤◌, List, filter_map, length, take, Option, Some, None}
use Rattle.std.specs.Option.{option_map_or}
use Rattle.des_net.specs.Network.{Net, is_fault}
use Rattle.des_net.specs.Run.{IsRun, fault_count}
use Rattle.replay.specs.declared.run.RunStep.{RunStep}
use Rattle.replay.specs.declared.run.RunStep.TheVariants.{Happens, Dropped}
use Rattle.replay.specs.declared.tracing.Traced.{Traced}
use Rattle.replay.specs.declared.tracing.Traced.TheVariants.{Ran, Stuck}

-- the event of a step; a false alarm has none
abbrev pub event_of : RunStep → Option ℕ
event_of (Happens event alarm) = Some event
event_of (Dropped alarm) = None

-- the events of a run
abbrev pub word_of : List RunStep → List ℕ
word_of steps = filter_map event_of steps

-- the step has a fault event
abbrev pub step_faults : Net → RunStep → Bool
step_faults net step = option_map_or (is_fault net) (event_of step) false

-- The events before this place of the steps, which is counted from 1, are a run, and with the event there they aren't.
pub record IsStuckAt (net : Net) (steps : List RunStep) (at : ℕ) : Type 0 where
  pub first : 1 ≤ at
  pub within : at ≤ length steps
  pub before : IsRun net (word_of (take (at - 1) steps))
  pub stuck : IsRun net (word_of (take at steps)) → ⊥

-- what each answer of a trace means: the events are a run with this many faults, or the place is the first at which they aren't one
abbrev pub IsTraced : Net → List RunStep → Traced → Type 0
IsTraced net steps (Ran faults) = IsRun net (word_of steps) × (faults ≡ fault_count net (word_of steps))
IsTraced net steps (Stuck at) = IsStuckAt net steps at

-- steps have one trace at most
abbrev pub TracesAreUnique : Type 0
TracesAreUnique = (net : Net) (steps : List RunStep) (a b : Traced) → IsTraced net steps a → IsTraced net steps b → a ≡ b
