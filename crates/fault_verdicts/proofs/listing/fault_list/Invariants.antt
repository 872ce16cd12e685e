-- the fault events so far
use Rattle.std.proofs.Common.{◌≡◌}
use Rattle.std.specs.Prelude.{filter}
use Rattle.des_base.specs.Lists.{numbers_below}
use Rattle.des_net.specs.Network.{is_fault}
use Rattle.fault_verdicts.proofs.listing.fault_list.Given as goal

abbrev pub invariant-loop-number : goal.invariant-loop-number
invariant-loop-number l = l.list.items ≡ filter (is_fault l.net) (numbers_below l.number)
