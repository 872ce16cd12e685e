use Rattle.std.proofs.Common.{arith}
use Rattle.replay.proofs.RunLemmas.{event_known}
use Rattle.least_faults.proofs.asking.count_faults.Goals as goal

pub is_fault_entry-requires : goal.is_fault_entry-requires
is_fault_entry-requires c = event_known c.args.entries.now _ _ _ (omega arith) c.entry-item.is c.requires.known
