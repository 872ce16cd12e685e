use Rattle.std.proofs.Common.{subst}
use Rattle.std.proofs.lemmas.List.{take_all}
use Rattle.prop_core.specs.Clauses.{Clause}
use Rattle.sat_prop.specs.Recent.{IsSignature}
use Rattle.sat_prop.proofs.recent.signature.Goals as goal

pub returns : goal.returns
returns c = subst (λ (x : Clause). IsSignature x c.loop-lit.bits) (take_all c.loop-lit.lit-index c.args.clause.now c.loop-lit-test.false) c.loop-lit.invariant
