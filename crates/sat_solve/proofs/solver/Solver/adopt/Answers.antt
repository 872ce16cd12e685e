use Rattle.proof_ledger.specs.Book.{clauses_of}
use Rattle.sat_solve.proofs.Adopting.{all_wider, known_viewed}
use Rattle.sat_solve.proofs.solver.Solver.adopt.Goals as goal

pub attach_from-requires-clause-known : goal.attach_from-requires-clause-known
attach_from-requires-clause-known g c =
    let serving = c.self.invariant.rest.serving in
    all_wider c.self.inside.search.vars c.self.inside.search.propagator.vars c.clauses-clauses.result.now.clauses serving.enough (known_viewed c.args.self.now _ (clauses_of c.args.book.now.entries) c.clauses-clauses.result.now.clauses c.self.view_is c.requires.grown serving.below c.requires.known c.clauses-clauses.ensures.clauses)
