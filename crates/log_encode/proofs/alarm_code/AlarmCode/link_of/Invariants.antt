use Rattle.std.proofs.Common.{◌≡◌, drop}
use Rattle.log_encode.specs.Written.{link_from}
use Rattle.log_encode.proofs.alarm_code.AlarmCode.link_of.Given as goal

-- none so far
abbrev pub invariant-loop-link : goal.invariant-loop-link
invariant-loop-link l = link_from l.link (drop l.link l.self.takes) l.fn.event ≡ link_from 0 l.self.takes l.fn.event
