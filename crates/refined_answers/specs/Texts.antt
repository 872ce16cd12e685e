-- Two networks for which a text of a run or of costs says the same: what was printed for the one is read and answered for the other.
use Rattle.std.specs.Prelude.{◌≡◌, ◌↔◌, ℕ, List}
use Rattle.des_net.specs.Network.{Net}
use Rattle.log_order.specs.Log.{Log}
use Rattle.replay.specs.declared.replaying.Replayed.{Replayed}
use Rattle.replay.specs.declared.run.RunStep.{RunStep}
use Rattle.replay.specs.declared.tracing.Traced.{Traced}
use Rattle.replay.specs.Replayed.{IsReplayed}
use Rattle.replay.specs.RunText.{first_run_fault, run_of}
use Rattle.replay.specs.Traced.{IsTraced}
use Rattle.event_costs.specs.CostText.{first_cost_fault, cost_of}

-- a text of a run has the same first fault or none, and is the same run; and a run has the same trace, and the same answer when it is replayed
pub record HaveSameReplays (net other : Net) : Type 0 where
  pub run_faults : (bytes : List ℕ) → first_run_fault other bytes ≡ first_run_fault net bytes
  pub runs : (bytes : List ℕ) → run_of other bytes ≡ run_of net bytes
  pub traced : (run : List RunStep) (answer : Traced) → IsTraced other run answer ↔ IsTraced net run answer
  pub replayed : (log : Log) (run : List RunStep) (n : ℕ) (answer : Replayed) → IsReplayed other log run n answer ↔ IsReplayed net log run n answer

-- a text of costs has the same first fault or none, and gives each event the same cost
pub record HaveSamePrices (net other : Net) : Type 0 where
  pub cost_faults : (bytes : List ℕ) → first_cost_fault other bytes ≡ first_cost_fault net bytes
  pub costs : (bytes : List ℕ) (e : ℕ) → cost_of other bytes e ≡ cost_of net bytes e
