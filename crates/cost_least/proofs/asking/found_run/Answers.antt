use Rattle.std.proofs.Common.{◌∙◌, ◌<◌, All, Bool, List, ap, length, subst, sym, sum_by}
use Rattle.least_faults.proofs.KnownEvents.{run_known}
use Rattle.log_order.specs.Order.{least_order}
use Rattle.prop_core.specs.Clauses.{value_in}
use Rattle.replay.specs.declared.run.RunStep.{RunStep}
use Rattle.replay.specs.Traced.{word_of}
use Rattle.run_decode.specs.Decoding.{decoded_run}
use Rattle.run_decode.specs.RunNaming.{truth_of}
use Rattle.cost_least.specs.Entries.{entry_cost}
use Rattle.cost_least.proofs.FoundCosts.{costs_counted, found_total}
use Rattle.cost_least.proofs.asking.found_run.Goals as goal

pub run_cost-cost-requires-clause-known : goal.run_cost-cost-requires-clause-known
run_cost-cost-requires-clause-known g c =
    subst (All (λ e. e < length c.args.question.net.now.events)) (sym (ap word_of c.steps.ensures.steps)) (run_known c.args.question.net.now (word_of c.in_ok-run.run') c.in_ok-run.ensures.explains.run)

pub returns-clause-given : goal.returns-clause-given
returns-clause-given g c = λ cost answered. record {
  matched = c.in_ok-run.ensures.matched;
  explains = c.in_ok-run.ensures.explains;
  total_is = sym (c.run_cost-cost.ensures cost answered ∙ ap (λ (xs : List RunStep). sum_by (entry_cost c.args.question.net.now cost) xs) c.steps.ensures.steps ∙ costs_counted c.args.question.net.now cost c.args.question.log.now c.in_ok-run.run' c.in_ok-run.ensures.matched);
}

pub returns-clause-total : goal.returns-clause-total
returns-clause-total g c = λ cost answered inputs weighted.
    let net = c.args.question.net.now in
    let log = c.args.question.log.now in
    let parts = c.args.parts.now in
    let whole = c.is_whole.ensures.whole in
    c.run_cost-cost.ensures cost answered ∙ ap (λ (xs : List RunStep). sum_by (entry_cost net cost) xs) c.steps.ensures.steps ∙ costs_counted net cost log c.in_ok-run.run' c.in_ok-run.ensures.matched
    ∙ found_total net cost log parts.step parts.code.coded (value_in parts.solver.assignment) c.in_ok-run.run' inputs c.is_built.ensures.network whole.valid whole.names.distinct c.requires.belong c.requires.true_there
    (c.in_ok-run.ensures.run ∙ ap (λ (values : List Bool). decoded_run net log (truth_of parts.step parts.code.coded (value_in values)) (least_order (length log.alarms) log.pairs) parts.step.steps) c.assignment.ensures.value) weighted
