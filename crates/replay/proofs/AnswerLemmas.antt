-- How the answers to a log hang together.
use Rattle.std.proofs.Common.{arith}
use Rattle.replay.specs.Explanation.{LeastIsOne, AbsentExcludes, ManyIsAbove}

pub least_is_one : LeastIsOne
least_is_one net log n k j a b =
    let forth = a.least b.reached.word b.reached.order b.reached.explains in
    let back = b.least a.reached.word a.reached.order a.reached.explains in
    omega (arith, forth, back, a.reached.faults, b.reached.faults)

pub absent_excludes : AbsentExcludes
absent_excludes net log n none = record {
  not_least = λ k least. none least.reached.word least.reached.order least.reached.explains;
  not_many = λ many. none many.explained.word many.explained.order many.explained.explains;
}

pub many_is_above : ManyIsAbove
many_is_above net log n k least many =
    let above = many.above least.reached.word least.reached.order least.reached.explains in
    omega (arith, above, least.reached.faults)
