use Rattle.std.proofs.Common.{List, subst, sym}
use Rattle.des_base.specs.CountedLines.{NumberedLine, numbered}
use Rattle.event_costs.proofs.ReadLemmas.{IsReadTo, read_more, read_fault}
use Rattle.event_costs.proofs.reader.read_prices.Goals as goal

pub loop-line-preserved : goal.loop-line-preserved
loop-line-preserved c =
    let net = c.args.net.now in
    let line = numbered c.in-Some.line.number c.in-Some.line.text.now in
    subst (IsReadTo net c.args.lines c.next_line.new.self) (sym c.put.ensures)
    (read_more net c.args.lines c.next_line.new.self line c.loop-line.table (subst (λ (ls : List NumberedLine). IsReadTo net c.args.lines ls c.loop-line.table) c.in-Some.ensures.line c.loop-line.invariant)
    c.in-Ok.price c.in-Ok.ensures.price)

pub returns-in-Err : goal.returns-in-Err
returns-in-Err c =
    let net = c.args.net.now in
    let line = numbered c.in-Some.line.number c.in-Some.line.text.now in
    read_fault net c.args.lines c.next_line.new.self line c.loop-line.table (subst (λ (ls : List NumberedLine). IsReadTo net c.args.lines ls c.loop-line.table) c.in-Some.ensures.line c.loop-line.invariant)
    c.in-Err.fault c.in-Err.ensures.price
