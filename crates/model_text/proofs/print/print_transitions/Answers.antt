use Rattle.std.proofs.Common.{length, refl}
use Rattle.std.proofs.lemmas.Option.{slice_get_read}
use Rattle.des_net.specs.Network.{component_at}
use Rattle.model_text.specs.PrintedModel.{line_of_transition, line_text}
use Rattle.model_text.proofs.PrintLemmas.{mapped-on, transition-more}
use Rattle.model_text.proofs.print.print_transitions.Goals as goal

pub loop-trans-preserved : goal.loop-trans-preserved
loop-trans-preserved c =
    let at = component_at c.args.net.now c.args.comp in
    let items = c.trans-trans-items.result.now in
    let here = slice_get_read items (length items) c.loop-trans.trans-index c.trans-item.result refl c.loop-trans-test.true c.trans-item.is in
    mapped-on line_text (line_of_transition at) c.args.text.now.items _ _ items c.loop-trans.trans-index c.trans-item.result here c.loop-trans.invariant
    (transition-more c.args.text.now.items _ _ at c.trans-item.result _ _ _ c.state_name.ensures c.action_name.ensures c.state_name-in-loop-trans.ensures c.in_ok-print_transition.ensures)
