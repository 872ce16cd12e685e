use Rattle.sat_solve.specs.Searching.{HasLearnt, IsSearched}
use Rattle.sat_solve.specs.Solving.{IsUnderWay, KeepsVariables, to_do}
use Rattle.sat_solve.proofs.search.Search.run.Given as goal

abbrev pub invariant-more : goal.invariant-more
invariant-more g l = record {
  under_way : IsUnderWay l.assumptions l.self l.book.entries;
  kept : KeepsVariables l.fn.self l.self;
  searched : IsSearched l.fn.book.entries l.book.entries l.fn.budget l.budget;
  learnt : HasLearnt l.fn.book.entries l.book.entries;
}

abbrev pub decreases-more : goal.decreases-more
decreases-more g l = to_do l.budget l.self.propagator
