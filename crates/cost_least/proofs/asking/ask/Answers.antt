use Rattle.std.proofs.Common.{arith}
use Rattle.cost_least.proofs.Answering.{shown_explained, shown_refuted, shown_run, shown_spent}
use Rattle.cost_least.proofs.Finding.{model_alone}
use Rattle.cost_least.proofs.Weighed.{belongs_still}
use Rattle.des_base.proofs.Results.{on_err}
use Rattle.cost_least.proofs.asking.ask.Goals as goal

pub returns-in-Unsat-clause-asked : goal.returns-in-Unsat-clause-asked
returns-in-Unsat-clause-asked g c = λ cost answered weighed.
    shown_refuted _ _ cost c.solve.new.parts c.args.question.scale _ _ c.args.within _ _ _ _ _ (c.solve.ensures.goes_on.still cost weighed) (belongs_still _ _ c.args.parts.now c.solve.new.parts c.solve.ensures.goes_on.kept c.requires.belong)
    c.is_built.ensures.network c.is_whole.ensures.whole.valid c.has_guards.ensures.guards c.requires.bound c.in_ok-answer.ensures.solved c.in-Unsat.field-0 c.in-Unsat.is c.is_valid.ensures

pub returns-in-Spent-clause-asked : goal.returns-in-Spent-clause-asked
returns-in-Spent-clause-asked g c = λ cost answered weighed.
    shown_spent _ _ cost c.solve.new.parts c.args.question.scale _ _ c.args.within _ _ _ _ _ (c.solve.ensures.goes_on.still cost weighed) (belongs_still _ _ c.args.parts.now c.solve.new.parts c.solve.ensures.goes_on.kept c.requires.belong)
    c.is_built.ensures.network c.is_whole.ensures.whole.valid c.has_guards.ensures.guards c.requires.bound c.in_ok-answer.ensures.solved c.in-Spent.is

pub found_run-requires-clause-values : goal.found_run-requires-clause-values
found_run-requires-clause-values g c =
    let weighed = c.solve.ensures.goes_on.still c.requires.asked.cost c.requires.asked.weighed in
    let above = weighed.coded.coded.above in
    let all = weighed.coded.vars_are in
    let enough = weighed.enough in
    omega (arith, above, all, enough)

pub found_run-requires-clause-true_there : goal.found_run-requires-clause-true_there
found_run-requires-clause-true_there g c =
    shown_run _ _ c.requires.asked.cost c.solve.new.parts c.args.question.scale _ _ c.args.within _ _ _ _ _ (c.solve.ensures.goes_on.still c.requires.asked.cost c.requires.asked.weighed) (belongs_still _ _ c.args.parts.now c.solve.new.parts c.solve.ensures.goes_on.kept c.requires.belong)
    c.is_built.ensures.network c.is_whole.ensures.whole.valid c.has_guards.ensures.guards c.requires.bound c.in_ok-answer.ensures.solved c.in-Sat.is

pub returns-in_ok-found_run-in-Sat-clause-asked : goal.returns-in_ok-found_run-in-Sat-clause-asked
returns-in_ok-found_run-in-Sat-clause-asked g c = λ cost answered weighed.
    shown_explained _ _ cost c.solve.new.parts c.args.question.scale _ _ c.args.within _ _ _ _ _ (c.solve.ensures.goes_on.still cost weighed) (belongs_still _ _ c.args.parts.now c.solve.new.parts c.solve.ensures.goes_on.kept c.requires.belong)
    c.is_built.ensures.network c.is_whole.ensures.whole.valid c.has_guards.ensures.guards c.requires.bound c.in_ok-answer.ensures.solved c.in_ok-found_run-in-Sat.field-0 c.in-Sat.is
    (c.in_ok-found_run-in-Sat.ensures.given cost answered) (c.in_ok-found_run-in-Sat.ensures.total cost answered)

pub returns-in_err-found_run-in-Sat-clause-quit : goal.returns-in_err-found_run-in-Sat-clause-quit
returns-in_err-found_run-in-Sat-clause-quit g c = on_err _ _ (model_alone _ _ _ _ _ _ _ c.in_ok-answer.ensures.solved c.in-Sat.is)
