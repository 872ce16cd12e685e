-- What the entries of a run cost, one by one.
use Rattle.std.specs.Prelude.{ℕ}
use Rattle.des_net.specs.Network.{Net}
use Rattle.replay.specs.declared.run.RunStep.{RunStep}
use Rattle.replay.specs.declared.run.RunStep.TheVariants.{Happens, Dropped}
use Rattle.cost_least.specs.Costs.{event_cost}

-- an event costs what a fault event costs, and nothing where it isn't one; a false alarm costs 1
abbrev pub entry_cost : Net → (ℕ → ℕ) → RunStep → ℕ
entry_cost net cost (Happens e alarm) = event_cost net cost e
entry_cost net cost (Dropped alarm) = 1
