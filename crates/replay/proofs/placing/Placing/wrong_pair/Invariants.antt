-- the wrong pair is one of the rest
use Rattle.std.proofs.Common.{◌≡◌, drop}
use Rattle.replay.specs.Matching.{wrong_pair}
use Rattle.replay.proofs.placing.Placing.wrong_pair.Given as goal

abbrev pub invariant-loop-pair : goal.invariant-loop-pair
invariant-loop-pair l = wrong_pair l.self.order (drop l.pair-index l.pairs) ≡ wrong_pair l.self.order l.pairs
