use Rattle.std.proofs.Common.{ap, ◌++◌, ◌∙◌, List}
use Rattle.log_encode.proofs.Guards.{guards_listed}
use Rattle.prop_core.specs.declared.lit.Lit.{Lit}
use Rattle.cost_least.specs.Pricing.{cost_limit}
use Rattle.cost_least.proofs.asking.assumptions.Goals as goal

pub returns : goal.returns
returns c =
    let code = c.args.code.now.coded in
    c.in_ok-push_limit.ensures ∙ ap (λ (xs : List Lit). xs ++ cost_limit c.args.question.scale c.args.within) (c.in_ok-extend_from_slice.ensures.items ∙ ap (λ (xs : List Lit). xs ++ c.guards-guards.result.now) c.new-assumed.ensures.items ∙ guards_listed code c.guards-guards.result.now c.guards-guards.ensures.whole c.guards-guards.ensures.listed)
