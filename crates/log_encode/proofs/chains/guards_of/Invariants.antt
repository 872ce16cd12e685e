use Rattle.std.proofs.Common.{◌≡◌, take}
use Rattle.log_encode.specs.Written.{guards_of}
use Rattle.log_encode.proofs.chains.guards_of.Given as goal

abbrev pub invariant-loop-end : goal.invariant-loop-end
invariant-loop-end l = l.guards.items ≡ guards_of l.fn.asked (take l.end-index l.ends)
