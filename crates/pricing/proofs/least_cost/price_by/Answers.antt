-- What comes of it by the stored costs comes of it by those of the table.
use Rattle.cost_least.specs.Searching.{HasAnsweredCosts}
use Rattle.pricing.specs.LeastCost.{IsPricedBy, fault_costs}
use Rattle.pricing.proofs.Weighing.{leaves, priced_by}
use Rattle.pricing.proofs.least_cost.price_by.Goals as goal
use Rattle.std.proofs.lemmas.Result.{IfOk-weaker as ok_weaker}

pub returns-clause-priced : goal.returns-clause-priced
returns-clause-priced g c = λ table same.
    let net = c.args.case.now.net in
    let log = c.args.case.now.log in
    let parts = c.args.parts.now in
    let later = c.cheapest-cheap.new.parts in
    let stored = c.args.costs.now.cost in
    let old = c.args.book.now.entries in
    let book = c.cheapest-cheap.new.book.entries in
    ok_weaker c.cheapest-cheap.result (HasAnsweredCosts (goal.C-post g) stored net log later c.args.budget old book) (IsPricedBy net (fault_costs net table) log parts.step.steps c.args.budget book)
    (λ cheap found.
    priced_by (goal.R-pre g) (goal.R-post g) (goal.C-post g) stored net log parts later c.args.budget old book table c.requires.begun c.cheapest-cheap.ensures.kept same cheap found c.is_valid.ensures) c.cheapest-cheap.ensures.answered

pub returns-clause-left : goal.returns-clause-left
returns-clause-left g c = λ table same.
    leaves (goal.R-pre g) (goal.R-post g) (goal.C-post g) c.args.costs.now.cost c.args.case.now.net c.args.case.now.log c.args.parts.now c.cheapest-cheap.new.parts c.args.budget c.args.book.now.entries c.cheapest-cheap.new.book.entries table c.requires.begun c.cheapest-cheap.ensures.kept same
    c.cheapest-cheap.result c.cheapest-cheap.ensures.answered c.cheapest-cheap.ensures.unanswered c.is_valid.ensures
