use Rattle.des_base.proofs.Results.{on_err}
use Rattle.std.proofs.lemmas.Result.{on_err_weaker}
use Rattle.least_faults.proofs.Asked.{goes_by_search}
use Rattle.least_faults.proofs.Solved.{can_search}
use Rattle.least_faults.proofs.asking.solve.Goals as goal
use Rattle.sat_solve.proofs.Leaving.{axioms_no_final, searching_axioms, axioms_and_learnt}

pub returns-in_err-assumed-clause-goes_on : goal.returns-in_err-assumed-clause-goes_on
returns-in_err-assumed-clause-goes_on g c = record {
  ready = c.assumptions.ensures.ready;
  kept = c.assumptions.ensures.kept;
  searching = searching_axioms c.args.book.now.entries c.assumptions.new.book.entries c.args.budget.now c.assumptions.ensures.axioms;
}

pub solve-requires : goal.solve-requires
solve-requires g c =
    let can = can_search _ _ c.args.parts.now c.assumptions.new.parts _ c.assumptions.new.book.entries _ _ c.args.within _ _ c.assumptions.ensures.ready c.assumptions.ensures.kept c.requires.belong c.is_built.ensures.network c.is_whole.ensures.whole.valid c.in_ok-assumed.ensures.assumed c.as_slice.ensures.value in
    record { adopted = c.assumptions.ensures.ready.adopted_all; known = can.known; compatible = can.compatible }

pub returns-clause-goes_on : goal.returns-clause-goes_on
returns-clause-goes_on g c =
    goes_by_search _ _ c.args.parts.now c.assumptions.new.parts c.solve.new.self _ _ c.args.book.now.entries c.assumptions.new.book.entries _ c.assumptions.ensures.ready c.assumptions.ensures.kept c.assumptions.ensures.axioms c.solve.ensures.searched c.solve.ensures.adopted c.solve.ensures.kept

pub returns-in_err-assumed-clause-quit : goal.returns-in_err-assumed-clause-quit
returns-in_err-assumed-clause-quit g c = on_err _ _ (axioms_no_final c.args.book.now.entries c.assumptions.new.book.entries c.assumptions.ensures.axioms)

pub returns-clause-quit : goal.returns-clause-quit
returns-clause-quit g c = on_err_weaker c.solve.result (axioms_and_learnt c.args.book.now.entries c.assumptions.new.book.entries c.solve.new.book.entries c.assumptions.ensures.axioms) c.solve.ensures.quit
