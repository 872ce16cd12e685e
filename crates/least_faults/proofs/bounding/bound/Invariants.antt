use Rattle.std.proofs.Common.{◌≡◌, ◌+◌, ◌≤◌, length, max}
use Rattle.least_faults.proofs.bounding.bound.Given as goal
use Rattle.least_faults.specs.Growing.{KeepsQuestion}
use Rattle.least_faults.specs.Parts.{AreReadyBeside}
use Rattle.sat_solve.specs.Leaving.{AddsAxioms}

abbrev pub invariant-loop : goal.invariant-loop
invariant-loop g l = record {
  ready : AreReadyBeside (goal.R-pre g) (goal.R-post g) l.parts l.book.entries;
  kept : KeepsQuestion l.fn.parts l.parts l.fn.book.entries l.book.entries;
  axioms : AddsAxioms l.fn.book.entries l.book.entries;
  columns : length l.parts.counter.columns ≡ max (length l.fn.parts.counter.columns) l.counter;
  upto : l.counter ≤ max (length l.fn.parts.counter.columns) (l.k + 1);
}
