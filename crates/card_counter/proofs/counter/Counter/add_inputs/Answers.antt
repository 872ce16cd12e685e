use Rattle.std.proofs.Common.{◌≡◌, ◌∙◌, get_or}
use Rattle.std.proofs.lemmas.List.{get_or_default}
use Rattle.prop_core.specs.Trail.{no_literal}
use Rattle.card_counter.proofs.Adding.{next_added}
use Rattle.card_counter.proofs.Exact.{counter_is_exact}
use Rattle.card_counter.proofs.counter.Counter.add_inputs.Goals as goal

pub loop-input-preserved : goal.loop-input-preserved
loop-input-preserved c =
    let item : c.input-item.result ≡ get_or c.args.inputs.now c.loop-input.input-index no_literal = c.input-item.is ∙ get_or_default c.args.inputs.now c.loop-input.input-index c.input-item.result no_literal c.loop-input-test.true in
    next_added _ _ _ _ _ _ _ _ c.loop-input.invariant c.loop-input-test.true _ _ _ _ (rw item at c.add_input.ensures.input) c.add_input.ensures.counter

pub returns-clause-exact : goal.returns-clause-exact
returns-clause-exact c = counter_is_exact _ c.loop-input.invariant.counter
