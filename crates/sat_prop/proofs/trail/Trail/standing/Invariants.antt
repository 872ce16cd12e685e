use Rattle.std.specs.Prelude.{take}
use Rattle.sat_prop.specs.Kept.{IsSeenUpTo}
use Rattle.sat_prop.proofs.trail.Trail.standing.Given as goal

abbrev pub invariant-loop-lit : goal.invariant-loop-lit
invariant-loop-lit l = IsSeenUpTo l.self.literals (take l.lit-index l.clause) l.candidate
