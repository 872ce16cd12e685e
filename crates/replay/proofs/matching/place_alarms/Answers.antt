-- Each step's event is the network's.
use Rattle.std.proofs.Common.{arith}
use Rattle.replay.proofs.RunLemmas.{event_known}
use Rattle.replay.proofs.matching.place_alarms.Goals as goal

pub place_step-requires-clause-event : goal.place_step-requires-clause-event
place_step-requires-clause-event c = event_known c.args.steps.now _ _ _ (omega arith) c.index-steps-i.is c.requires.known
