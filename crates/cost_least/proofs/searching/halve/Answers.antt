use Rattle.std.proofs.Common.{arith}
use Rattle.des_base.proofs.Results.{on_err}
use Rattle.cost_least.proofs.Rounds.{come_further, come_lower, come_to_none, come_to_spent, come_with_better, ends_cheapest, ends_dear, ends_undecided, quits_at}
use Rattle.cost_least.proofs.Weighed.{goes_both}
use Rattle.cost_least.proofs.searching.halve.Goals as goal

pub loop-lo-init : goal.loop-lo-init
loop-lo-init g c = come_to_none _ _ _ c.args.costs.now.cost _ _ c.args.parts.now c.args.question.scale c.args.book.now.entries c.args.budget.now c.args.known c.requires.known c.requires.counted

pub ask-requires-clause-asked : goal.ask-requires-clause-asked
ask-requires-clause-asked g c = let own = c.requires.asked in record { cost = own.cost; answered = own.answered; others = own.others; weighed = c.loop-lo.invariant.goes.still own.cost own.weighed }

pub ask-requires-clause-bound : goal.ask-requires-clause-bound
ask-requires-clause-bound g c =
    let own = c.requires.asked in
    let test = c.loop-lo-test.true in
    let most = c.ceiling.ensures in
    let few = c.middle-b.ensures.few in
    let amounts = own.weighed.coded.amounts in
    record { some = (c.loop-lo.invariant.come own.cost own.answered own.weighed).counted (omega (arith, test, most)); few = omega (arith, few, amounts) }

pub loop-lo-preserved-in-Explained : goal.loop-lo-preserved-in-Explained
loop-lo-preserved-in-Explained g c = come_with_better _ _ _ c.args.costs.now.cost _ _ c.args.parts.now c.args.question.scale c.args.book.now.entries c.args.budget.now c.loop-lo.parts c.ask.new.parts _ _ _ _ _ _ _ _ c.loop-lo.invariant c.ask.ensures.goes_on c.in_ok-asked.ensures.asked c.in-Explained.better c.in-Explained.is

pub loop-lo-preserved : goal.loop-lo-preserved
loop-lo-preserved g c = come_further _ _ _ c.args.costs.now.cost _ _ c.args.parts.now c.args.question.scale c.args.book.now.entries c.args.budget.now c.loop-lo.parts c.ask.new.parts _ _ _ _ _ _ _ _ c.loop-lo.invariant c.ask.ensures.goes_on c.in_ok-asked.ensures.asked c.middle-b.ensures c.in-Refuted.is

pub loop-lo-smaller-in-Explained : goal.loop-lo-smaller-in-Explained
loop-lo-smaller-in-Explained g c =
    let less = come_lower _ _ _ c.args.costs.now.cost _ _ c.args.parts.now c.args.question.scale c.args.book.now.entries c.args.budget.now c.loop-lo.parts c.ask.new.parts _ _ _ _ _ _ _ _ c.loop-lo.invariant c.ask.ensures.goes_on c.in_ok-asked.ensures.asked c.requires.asked c.in-Explained.better c.in-Explained.is in
    let low = c.middle-b.ensures.low in
    let high = c.middle-b.ensures.high in
    let few = c.middle-b.ensures.few in
    omega (arith, less, low, high, few)

pub returns-in_err-asked-clause-goes_on : goal.returns-in_err-asked-clause-goes_on
returns-in_err-asked-clause-goes_on g c = goes_both _ _ _ _ _ _ _ _ _ _ _ _ c.loop-lo.invariant.goes c.ask.ensures.goes_on

pub returns-in-Spent-clause-goes_on : goal.returns-in-Spent-clause-goes_on
returns-in-Spent-clause-goes_on g c = (come_to_spent _ _ _ c.args.costs.now.cost _ _ c.args.parts.now c.args.question.scale c.args.book.now.entries c.args.budget.now c.loop-lo.parts c.ask.new.parts _ _ _ _ _ _ _ _ c.loop-lo.invariant c.ask.ensures.goes_on c.in_ok-asked.ensures.asked c.in-Spent.is).goes

pub returns-in-Spent-clause-found : goal.returns-in-Spent-clause-found
returns-in-Spent-clause-found g c =
    let test = c.loop-lo-test.true in
    let most = c.ceiling.ensures in
    ends_undecided _ _ _ c.args.costs.now.cost _ _ c.args.parts.now c.args.question.scale c.args.book.now.entries c.args.budget.now c.requires.belong c.is_built.ensures.network c.is_whole.ensures.whole.valid c.has_guards.ensures.guards
    c.loop-lo.parts c.ask.new.parts _ _ _ _ _ _ _ _ c.loop-lo.invariant c.ask.ensures.goes_on c.in_ok-asked.ensures.asked c.in-Spent.is c.is_valid.ensures (omega (arith, test, most)) c.middle-b.ensures

pub returns-then-best-gt-MOST_COST-clause-found : goal.returns-then-best-gt-MOST_COST-clause-found
returns-then-best-gt-MOST_COST-clause-found g c =
    let end = c.loop-lo-test.false in
    let most = c.ceiling.ensures in
    let side = c.if-best-gt-MOST_COST.true in
    λ cost answered weighed. ends_dear _ _ _ c.args.costs.now.cost _ _ c.args.parts.now c.args.question.scale c.args.book.now.entries c.args.budget.now c.requires.belong c.is_built.ensures.network c.is_whole.ensures.whole.valid c.has_guards.ensures.guards
    c.loop-lo.parts _ _ _ _ c.loop-lo.invariant (omega (arith, end, most)) cost answered weighed (omega (arith, side))

pub returns-else-best-gt-MOST_COST-clause-found : goal.returns-else-best-gt-MOST_COST-clause-found
returns-else-best-gt-MOST_COST-clause-found g c =
    let end = c.loop-lo-test.false in
    let most = c.ceiling.ensures in
    let side = c.if-best-gt-MOST_COST.false in
    λ cost answered weighed. ends_cheapest _ _ _ c.args.costs.now.cost _ _ c.args.parts.now c.args.question.scale c.args.book.now.entries c.args.budget.now c.requires.belong c.is_built.ensures.network c.is_whole.ensures.whole.valid c.has_guards.ensures.guards
    c.loop-lo.parts _ _ _ _ c.loop-lo.invariant (omega (arith, end, most)) cost answered weighed (omega (arith, side))

pub returns-in_err-asked-clause-quit : goal.returns-in_err-asked-clause-quit
returns-in_err-asked-clause-quit g c =
    on_err _ _ (quits_at _ _ (goal.C-post g) c.args.costs.now.cost _ _ c.args.parts.now c.args.question.scale c.args.book.now.entries c.args.budget.now c.requires.belong c.is_built.ensures.network c.is_whole.ensures.whole.valid c.has_guards.ensures.guards
    c.loop-lo.parts c.ask.new.parts _ _ _ _ _ _ c.loop-lo.invariant c.ask.ensures.goes_on c.in_err-asked.ensures.quit)
