-- One more event begins a piece or goes into the present one.
use Rattle.std.proofs.Common.{◌≡◌, ◌∙◌, ◌<◌, ap, sym, subst, arith, rules, length, replicate}
use Rattle.des_net.specs.Network.{Event, parts_of}
use Rattle.std.proofs.lemmas.List.Elements.{All-get_or}
use Rattle.replay.proofs.PieceLemmas.{Standing-start, Standing-step}
use Rattle.replay.proofs.width.pieces_of.Goals as goal

pub loop-number-init : goal.loop-number-init
loop-number-init c =
    let zeros : c.in_ok-last.last.items ≡ replicate c.components.result 0 = search rules in
    Standing-start c.args.net.now c.args.events.now c.in_ok-last.last.items c.components.result c.components.ensures.whole c.requires.known c.components.ensures.count zeros

pub event-event-requires : goal.event-event-requires
event-event-requires c = subst (λ e. e < length c.args.net.now.events) (sym c.number-item.is) (All-get_or (λ e. e < length c.args.net.now.events) c.args.events.now _ _ (omega arith) c.requires.known)

-- the parts are those of the network's event
parts_are : (c : goal.After-take_event-pieces) → c.as_slice.result.now ≡ parts_of c.args.net.now c.number-item.result
parts_are c = c.as_slice.ensures ∙ ap (λ (e : Event). e.parts) (c.event.view_is ∙ c.event-event.ensures)

pub loop-number-preserved : goal.loop-number-preserved
loop-number-preserved c = Standing-step c.args.net.now c.args.events.now c.loop-number.last.items c.take_event-pieces.new.last.items c.loop-number.pieces c.take_event-pieces.result c.loop-number.number-index c.number-item.result c.as_slice.result.now
    c.loop-number.invariant (omega arith) c.number-item.is (parts_are c)
    c.take_event-pieces.ensures.piece c.take_event-pieces.ensures.touched c.take_event-pieces.ensures.long
