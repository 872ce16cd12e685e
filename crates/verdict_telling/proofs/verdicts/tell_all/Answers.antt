-- By the list of the fault events.
use Rattle.std.proofs.Common.{◌∙◌, ap, refl, sym}
use Rattle.des_net.specs.Network.{Net}
use Rattle.step_encode.specs.FaultInputs.{fault_events}
use Rattle.telling.proofs.Taking.{nothing_taken}
use Rattle.verdict_telling.proofs.Ends.{list_told, none_told}
use Rattle.verdict_telling.proofs.Growing.{list_grows, list_stays}
use Rattle.verdict_telling.proofs.verdicts.tell_all.Goals as goal

pub returns-in-Ok-clause-tells : goal.returns-in-Ok-clause-tells
returns-in-Ok-clause-tells g c =
    list_told c.args.teller.now c.put_each.new.teller c.requires.none_left _ _ _ c.as_slice.result.now c.put_each.result (c.as_slice.ensures.value ∙ c.in-Ok.ensures ∙ ap (λ (net : Net). fault_events net) (sym c.requires.net)) c.put_each.ensures.goes

pub returns-in-Err-clause-tells : goal.returns-in-Err-clause-tells
returns-in-Err-clause-tells g c = none_told c.args.teller.now c.args.teller.now c.requires.none_left _ _ _ refl (nothing_taken _)

pub returns-in-Ok-clause-grown : goal.returns-in-Ok-clause-grown
returns-in-Ok-clause-grown g c =
    list_grows c.args.teller.now c.put_each.new.teller c.args.net.now c.as_slice.result.now _ _ _ c.put_each.result (c.as_slice.ensures.value ∙ c.in-Ok.ensures) c.put_each.ensures.goes

pub returns-in-Ok-clause-stays : goal.returns-in-Ok-clause-stays
returns-in-Ok-clause-stays g c = list_stays c.args.teller.now c.put_each.new.teller c.as_slice.result.now _ _ _ c.put_each.result c.put_each.ensures.goes
