-- What a word of a command line may spell.
use Rattle.std.specs.Prelude.{ℕ, ◌-◌, ◌^◌, List, codes, nat_le, Option, Some, None, if◌then◌else◌, bytes_eq, option_map, option_and_then}
use Rattle.des_base.specs.Numbers.{number_up_to}
use Rattle.des_base.specs.declared.TheConstants.{MOST_STEPS}
use Rattle.gen_plant.specs.Plant.{most_units}
use Rattle.replay.specs.declared.TheConstants.{MOST_FAULTS}
use Rattle.diagnose_cli.specs.declared.command.Limits.{Limits}

-- a budget, or the start of a plant, is any number of 64 bits
abbrev pub most_number : ℕ
most_number = 2 ^ 64 - 1

-- how many steps and which budget two words set
abbrev pub limits_of : List ℕ → List ℕ → Option Limits
limits_of steps budget = option_and_then (λ n. option_map (λ b. record { steps = n; budget = b }) (number_up_to most_number budget)) (number_up_to MOST_STEPS steps)

-- the bound on the faults that a word sets: `any` sets none
abbrev pub bound_of : List ℕ → Option (Option ℕ)
bound_of text = if bytes_eq text (codes "any") then Some None else option_map (λ k. Some k) (number_up_to MOST_FAULTS text)

-- how many units a word asks for, at least one
abbrev pub units_of : List ℕ → Option ℕ
units_of text = option_and_then (λ z. if nat_le 1 z then Some z else None) (number_up_to most_units text)
