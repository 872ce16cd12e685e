use Rattle.std.proofs.Common.{◌+◌, ◌∙◌, ap, subst, sym}
use Rattle.des_net.specs.Network.{Net}
use Rattle.gen_plant.specs.Stages.{AwaitsUnit, with_unit_events}
use Rattle.gen_plant.proofs.EventLemmas.{awaits_unit, events_more}
use Rattle.gen_plant.proofs.events.add_events.Goals as goal

pub add_unit_events-requires : goal.add_unit_events-requires
add_unit_events-requires c = subst (λ (net : Net). AwaitsUnit net (c.loop-done.done + 1)) (sym c.loop-done.invariant) (awaits_unit c.args.units c.loop-done.done c.requires.few c.loop-done-test.true)

pub loop-done-preserved : goal.loop-done-preserved
loop-done-preserved c = c.in_ok-add_unit_events.ensures ∙ ap (λ (net : Net). with_unit_events net (c.loop-done.done + 1)) c.loop-done.invariant ∙ events_more c.args.units c.loop-done.done
