-- By what was told of the item, and what became of its text.
use Rattle.telling.proofs.Joining.{put_cut, put_lost, put_whole}
use Rattle.telling.proofs.each.put_one.Goals as goal

pub returns-in-Ok-clause-goes : goal.returns-in-Ok-clause-goes
returns-in-Ok-clause-goes g c =
    put_whole g.T.Teller.goes g.T.Teller.undone c.args.teller.now c.args.item.now c.tell.new.self _ _ _ _ (rw c.in-Ok-Some.field-0-is at c.in-Ok-Some.ensures.told) (rw c.as_slice.ensures.value at c.in-Ok.ensures.ok)

pub returns-in-Ok-Some-clause-goes : goal.returns-in-Ok-Some-clause-goes
returns-in-Ok-Some-clause-goes g c =
    put_cut g.T.Teller.goes g.T.Teller.undone c.args.teller.now c.args.item.now c.tell.new.self _ _ _ _ (rw c.in-Ok-Some.field-0-is at c.in-Ok-Some.ensures.told) (rw c.as_slice.ensures.value at c.in-Err-put.ensures.front) c.in-Err-put.ensures.failed

pub returns-clause-goes : goal.returns-clause-goes
returns-clause-goes g c = put_lost g.T.Teller.goes g.T.Teller.undone c.args.teller.now c.args.item.now c.tell.new.self _ _ c.in-Err.ensures.undone
