use Rattle.std.proofs.Common.{length, subst}
use Rattle.sat_prop.specs.Watches.{WatchState, IsFirstWaiting}
use Rattle.sat_prop.proofs.Keeping.{few_links}
use Rattle.sat_prop.proofs.Walking.{is_next}
use Rattle.sat_prop.proofs.WatchLists.{next_is}
use Rattle.sat_prop.proofs.watch_lists.WatchLists.next.Goals as goal

pub returns-clause-some : goal.returns-clause-some
returns-clause-some c =
    let few = few_links c.self.inside c.self.invariant in
    let x = is_next _ _ _ few c.self.invariant.walk c.if-self.false in
    subst (λ (s : WatchState). IsFirstWaiting s c.self.inside.walk.next) c.self.view_is (next_is _ _ _ c.self.invariant.lists few c.self.inside.walk x (length c.self.inside.lists.items) c.self.inside.spare)
