use Rattle.des_net.specs.Network.{is_fault}
use Rattle.fault_verdicts.proofs.FaultLists.{list_more}
use Rattle.fault_verdicts.proofs.listing.fault_list.Goals as goal

pub loop-number-preserved : goal.loop-number-preserved
loop-number-preserved c = list_more (is_fault c.args.net.now) c.loop-number.number _ _ c.loop-number.invariant c.in_ok-push_fault.ensures
