use Rattle.std.proofs.Common.{◌+◌, take, sym, subst}
use Rattle.inquiries.specs.Refuted.{IsLastFinal}
use Rattle.inquiries.proofs.LastFinals.{last_here, last_stays}
use Rattle.inquiries.proofs.refuting.last_final.Goals as goal
use Rattle.inquiries.proofs.refuting.last_final.Goals.{in-Final, in_default}

pub loop-place-preserved : goal.loop-place-preserved
loop-place-preserved c = elim c.match-entry.branch [
  | in-Final w ↦ λ some. subst (IsLastFinal (take (c.loop-place.place + 1) c.args.book.now.entries)) (sym w.last-is) (last_here c.args.book.now.entries c.loop-place.place w.in-Final.id c.entry.result c.entry.ensures w.in-Final.is)
  | in_default w ↦ λ some. subst (IsLastFinal (take (c.loop-place.place + 1) c.args.book.now.entries)) (sym w.last-is)
      (last_stays c.args.book.now.entries c.loop-place.place c.loop-place.last c.entry.result c.entry.ensures w.in_default.not-Final c.loop-place.invariant some)
]
