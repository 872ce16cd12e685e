-- What the code says of a clause and of a hint, in the words of derivation.
use Rattle.std.specs.Prelude.{◌≡◌, ℕ, ◌≤◌, List, ⊤}
use Rattle.prop_core.specs.declared.lit.Lit.{Lit}
use Rattle.prop_core.specs.Derivation.{Standing, falsified, satisfied, unit, wide, Derivation, derives, fails, Progress, ended, goes_on}
use Rattle.proof_ledger.specs.declared.truths.HintStands.{HintStands}
use Rattle.proof_ledger.specs.declared.truths.HintStands.TheVariants.{Falsified, Satisfied, Unit as OneOpen, Wide}
use Rattle.proof_ledger.specs.declared.truths.HintStep.{HintStep}
use Rattle.proof_ledger.specs.declared.truths.HintStep.TheVariants as steps
use Rattle.proof_ledger.specs.declared.entry.DeriveFault.{DeriveFault}
use Rattle.proof_ledger.specs.declared.entry.DeriveFault.TheVariants.{Hint, Memory}
use Rattle.proof_ledger.specs.declared.follow.Outcome.{Outcome}
use Rattle.proof_ledger.specs.declared.follow.Outcome.TheVariants as outcomes

-- how a clause stands, by what the code says of it
abbrev pub standing_of : HintStands → Standing
standing_of Falsified = falsified
standing_of Satisfied = satisfied
standing_of (OneOpen l) = unit l
standing_of Wide = wide

-- what the hint at a place leads to, by what the code says, and with the literals that are taken as true from then on
abbrev pub progress_of : ℕ → List Lit → HintStep → Progress
progress_of at taken steps.Derives = ended derives
progress_of at taken (steps.Fails kind) = ended (fails at kind)
progress_of at taken steps.GoesOn = goes_on taken

-- what all hints of a step come to, by what the code says
abbrev pub derivation_of : Outcome → Derivation
derivation_of outcomes.Derives = derives
derivation_of (outcomes.Fails at kind) = fails at kind

-- a step fails at one of `count` hints, or behind them
abbrev pub IsPlaceWithin : ℕ → Outcome → Type 0
IsPlaceWithin count outcomes.Derives = ⊤
IsPlaceWithin count (outcomes.Fails at kind) = at ≤ count

-- a derivation that fails has this fault, at this place and of this kind; `Memory` says nothing
abbrev pub IsFaultOf : Derivation → DeriveFault → Type 0
IsFaultOf derivation (Hint at kind) = derivation ≡ fails at kind
IsFaultOf derivation Memory = ⊤
