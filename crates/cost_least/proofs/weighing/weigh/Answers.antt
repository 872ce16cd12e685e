use Rattle.std.proofs.Common.{◌<◌, ◌≤◌, ◌+◌, ◌*◌, ℕ, List, length, sym, subst}
use Rattle.std.proofs.lemmas.Result.{IfOk-weaker as ok_weaker}
use Rattle.std.specs.List.{AllByRecursion}
use Rattle.des_base.specs.declared.TheConstants.{VAR_LIMIT}
use Rattle.proof_ledger.specs.Book.{axioms_of}
use Rattle.weight_counter.specs.declared.weighted.Weighted.{Weighted}
use Rattle.cost_least.proofs.Fitting.{scale_fits, weighted_below}
use Rattle.cost_least.specs.Searching.{AreAsked}
use Rattle.cost_least.specs.Weighed.{AreWeighed, AreWeightedInputs}
use Rattle.cost_least.proofs.weighing.weigh.Goals as goal

pub write_scale-requires-clause-room : goal.write_scale-requires-clause-room
write_scale-requires-clause-room g c =
    let old = c.args.parts.now in
    let inputs = c.in_ok-inputs.ensures in
    subst (λ (xs : List Weighted). old.vars + length xs * 1001 ≤ VAR_LIMIT) (sym c.as_slice.ensures.value)
    (scale_fits c.args.net.now c.args.log.now inputs.cost old.step old.code.coded old.counter old.vars (axioms_of c.args.book.now.entries) c.in_ok-inputs.inputs.items c.is_built.ensures.whole c.is_whole.ensures.whole.few_alarms
    c.requires.belong c.requires.steps c.requires.size c.requires.ready.coded inputs.weighted)

pub write_scale-requires-clause-below : goal.write_scale-requires-clause-below
write_scale-requires-clause-below g c =
    let old = c.args.parts.now in
    let inputs = c.in_ok-inputs.ensures in
    subst (AllByRecursion (λ (x : Weighted). x.input.var < old.vars)) (sym c.as_slice.ensures.value)
    (weighted_below inputs.cost old.step old.code.coded old.counter old.vars (axioms_of c.args.book.now.entries) c.in_ok-inputs.inputs.items c.requires.ready.coded inputs.weighted)

pub returns-clause-weighed : goal.returns-clause-weighed
returns-clause-weighed g c =
    let old = c.args.parts.now in
    let inputs = c.in_ok-inputs.ensures in
    ok_weaker c.write_scale.result
    (λ scale. (cost : ℕ → ℕ) → AreWeightedInputs old.step old.code.coded cost c.as_slice.result.now → AreWeighed (goal.R-pre g) (goal.R-post g) cost c.write_scale.new.parts scale c.write_scale.new.book.entries)
    (λ scale. AreAsked (goal.R-pre g) (goal.R-post g) (goal.C-post g) c.args.costs.now.cost c.args.net.now c.write_scale.new.parts scale c.write_scale.new.book.entries)
    (λ scale weighed. record {
      cost = inputs.cost;
      answered = inputs.answered;
      others = inputs.others;
      weighed = weighed inputs.cost (subst (AreWeightedInputs old.step old.code.coded inputs.cost) (sym c.as_slice.ensures.value) inputs.weighted);
    }) c.write_scale.ensures.weighed
