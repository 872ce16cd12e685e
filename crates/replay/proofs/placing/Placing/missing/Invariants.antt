-- each alarm so far has a place
use Rattle.std.proofs.Common.{◌≡◌, None}
use Rattle.replay.specs.Matching.{missing_alarm}
use Rattle.replay.proofs.placing.Placing.missing.Given as goal

abbrev pub invariant-loop-alarm : goal.invariant-loop-alarm
invariant-loop-alarm l = missing_alarm l.alarm l.self.order ≡ None
