use Rattle.refinement.proofs.TouchLemmas.{moves_are_alike}
use Rattle.refinement.proofs.following.moves_alike.Goals as goal

pub returns : goal.returns
returns c = λ e. moves_are_alike c.args.compared.net.now c.args.compared.fine.now c.args.follower.comp c.args.follower.state c.args.added c.args.compared.touches.now c.args.compared.further.now
    c.in_ok-old.old.items c.in_ok-new.new.items _ _ _ _ c.is_built.ensures.network c.requires.compared c.requires.old c.requires.new c.in_ok-old.ensures c.in_ok-new.ensures
    c.as_slice.ensures.value c.as_slice-2.ensures.value c.touches_at.ensures c.touches_at-2.ensures (c.touch_alike.ensures e)
