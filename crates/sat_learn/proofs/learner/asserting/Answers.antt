use Rattle.std.proofs.Common.{◌≡◌, ◌∙◌, ◌<◌, List, length, get_or, ap, arith}
use Rattle.std.proofs.lemmas.List.{get_or_default}
use Rattle.prop_core.specs.declared.lit.Lit.{Lit}
use Rattle.prop_core.specs.Clauses.{negation}
use Rattle.prop_core.specs.Trail.{no_literal}
use Rattle.sat_learn.proofs.Finishing.{put_together}
use Rattle.sat_learn.proofs.learner.asserting.Goals as goal

pub returns : goal.returns
returns c =
    let at : get_or c.literals-literals.result.now c.args.place no_literal ≡ get_or c.args.on.now.trail.now.literals c.args.place no_literal = ap (λ (ls : List Lit). get_or ls c.args.place no_literal) c.literals-literals.ensures in
    let within : c.args.place < length c.literals-literals.result.now = let n = ap length c.literals-literals.ensures in let p = c.requires.place in omega arith in
    let item : c.index-literals-place.result ≡ get_or c.literals-literals.result.now c.args.place no_literal = c.index-literals-place.is ∙ get_or_default c.literals-literals.result.now c.args.place c.index-literals-place.result no_literal within in
    put_together c.new-clause.result c.push.new.self _ c.args.on.now.trail.now.literals c.literals-literals.result.now c.args.seen.now c.negated.result _ c.args.on.now.start c.new-clause.ensures c.in_ok-push.ensures.ok c.in_ok-add_negated.ensures c.literals-literals.ensures
    (c.negated.ensures ∙ ap negation (item ∙ at))
