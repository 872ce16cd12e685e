use Rattle.std.proofs.Common.{◌≡◌, ◌≤◌, Ok, take}
use Rattle.des_base.specs.Outside.{Rose}
use Rattle.telling.specs.Telling.{EachGoes}
use Rattle.telling.proofs.each.put_each.Given as goal

-- the items so far were told, and their texts were taken
abbrev pub invariant-loop-item : goal.invariant-loop-item
invariant-loop-item g l = record {
  ready : g.T.Teller.ready l.teller;
  rises : g.S.Sink.faults l.fn.out ≤ g.S.Sink.faults l.out;
  none_failed : g.S.Sink.failures l.out ≡ g.S.Sink.failures l.fn.out;
  so_far : EachGoes g.T.Teller.goes g.T.Teller.undone l.fn.teller (take l.item-index l.items) l.teller (g.S.Sink.taken l.fn.out) (g.S.Sink.taken l.out) (Rose (g.S.Sink.faults l.fn.out) (g.S.Sink.faults l.out)) (Ok tt);
}
