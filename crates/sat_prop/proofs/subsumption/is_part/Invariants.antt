use Rattle.std.specs.Prelude.{◌≡◌, true, take}
use Rattle.sat_prop.specs.Watching.{is_part_of}
use Rattle.sat_prop.proofs.subsumption.is_part.Given as goal

abbrev pub invariant-loop-lit : goal.invariant-loop-lit
invariant-loop-lit l = is_part_of (take l.lit-index l.inner) l.outer ≡ true
