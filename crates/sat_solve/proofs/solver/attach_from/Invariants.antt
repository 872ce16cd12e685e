use Rattle.sat_solve.proofs.Adopting.{IsAdopting}
use Rattle.sat_solve.proofs.solver.attach_from.Given as goal

abbrev pub invariant-loop-before : goal.invariant-loop-before
invariant-loop-before l = IsAdopting l.fn.propagator l.propagator l.db.clauses l.before
