use Rattle.std.specs.Prelude.{take}
use Rattle.sat_prop.specs.Recent.{IsSignature}
use Rattle.sat_prop.proofs.recent.signature.Given as goal

abbrev pub invariant-loop-lit : goal.invariant-loop-lit
invariant-loop-lit l = IsSignature (take l.lit-index l.clause) l.bits
