use Rattle.model_text.specs.PrintedModel.{lines_of_component}
use Rattle.des_net.specs.Network.{no_component}
use Rattle.std.proofs.Common.{[], arith}
use Rattle.model_text.proofs.PrintLemmas.{at_place, named-on}
use Rattle.model_text.proofs.print.print_components.Goals as goal

pub loop-comp-preserved : goal.loop-comp-preserved
loop-comp-preserved c =
    let named = c.components-comp-end.ensures.whole.named in
    let below = c.loop-comp-test.true in
    let count = c.components-comp-end.ensures.count in
    named-on lines_of_component _ _ _ _ _ _ _ _
    (at_place c.args.net.now.component_names c.loop-comp.comp [] (omega arith)) (at_place c.args.net.now.components c.loop-comp.comp no_component (omega arith))
    c.loop-comp.invariant c.in_ok-print_component.ensures
