use Rattle.std.proofs.Common.{◌<◌, ℕ, length}
use Rattle.des_net.specs.Network.{event_at}
use Rattle.refinement.specs.Comparing.{AgreeBelow}
use Rattle.refinement.specs.Refinement.{HasFurtherParts}
use Rattle.refinement.proofs.comparing.has_events.Given as goal

abbrev pub invariant-loop-event : goal.invariant-loop-event
invariant-loop-event l = record {
  names : AgreeBelow l.event l.fine.event_names l.net.event_names;
  each : (e : ℕ) → e < l.event → HasFurtherParts (length l.net.components) (event_at l.net e) (event_at l.fine e);
}
