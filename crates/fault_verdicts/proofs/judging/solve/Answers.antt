use Rattle.des_base.proofs.Results.{on_err}
use Rattle.std.proofs.Common.{arith}
use Rattle.fault_verdicts.proofs.Answered.{solved}
use Rattle.fault_verdicts.proofs.Asking.{can_search}
use Rattle.fault_verdicts.proofs.Going.{belong_on, goes_both, goes_by_solver, ready_after_search}
use Rattle.fault_verdicts.proofs.judging.solve.Goals as goal
use Rattle.std.proofs.lemmas.Result.{on_err_weaker}
use Rattle.sat_solve.proofs.Leaving.{axioms_no_final, searching_axioms, searching_both, axioms_and_learnt}

pub solve-requires : goal.solve-requires
solve-requires g c =
    let can = can_search _ _ c.assume.new.parts c.assume.new.book.entries _ _ c.args.k c.args.event c.args.there _ _ c.in_ok-assumed.ensures.assumed (belong_on _ _ 1 c.args.parts.now c.assume.new.parts c.assume.ensures.goes_on c.requires.belong) c.is_built.ensures.network
    c.is_whole.ensures.whole.valid c.requires.known c.as_slice.ensures.value in
    record { adopted = c.in_ok-assumed.ensures.assumed.ready.beside.adopted_all; known = can.known; compatible = can.compatible }

pub returns-in_err-assumed-clause-searching : goal.returns-in_err-assumed-clause-searching
returns-in_err-assumed-clause-searching g c = searching_axioms c.args.book.now.entries c.assume.new.book.entries c.args.left.now c.assume.ensures.axioms

pub returns-clause-ready : goal.returns-clause-ready
returns-clause-ready g c =
    let ready = c.assume.ensures.ready in
    (ready.0, ready_after_search _ _ c.assume.new.parts c.solve.new.self c.args.left.now c.solve.new.budget c.assume.new.book.entries c.solve.new.book.entries ready.0 ready.1 c.solve.ensures.searched c.solve.ensures.adopted c.solve.ensures.kept.vars c.solve.ensures.kept.order)

pub returns-clause-goes_on : goal.returns-clause-goes_on
returns-clause-goes_on g c =
    goes_both 1 0 1 c.args.parts.now c.assume.new.parts (record c.assume.new.parts { solver = c.solve.new.self }) (omega arith) c.assume.ensures.goes_on (goes_by_solver 0 c.assume.new.parts c.solve.new.self c.solve.ensures.kept.order.rank)

pub returns-clause-unmade : goal.returns-clause-unmade
returns-clause-unmade g c there =
    goes_both 0 0 0 c.args.parts.now c.assume.new.parts (record c.assume.new.parts { solver = c.solve.new.self }) (omega arith) (c.assume.ensures.unmade there) (goes_by_solver 0 c.assume.new.parts c.solve.new.self c.solve.ensures.kept.order.rank)

pub returns-clause-searching : goal.returns-clause-searching
returns-clause-searching g c = searching_both c.args.book.now.entries c.assume.new.book.entries c.solve.new.book.entries c.args.left.now c.solve.new.budget c.assume.ensures.axioms c.solve.ensures.searched c.assume.ensures.ready.1.beside.known

pub returns-clause-solved : goal.returns-clause-solved
returns-clause-solved g c =
    solved _ _ c.assume.new.parts c.solve.new.self c.args.k c.args.event c.args.there _ c.as_slice.result.now c.args.book.now.entries c.assume.new.book.entries c.solve.new.book.entries c.args.left.now c.solve.new.budget c.solve.result c.in_ok-assumed.ensures.assumed
    c.as_slice.ensures.value c.assume.ensures.axioms c.solve.ensures.searched c.solve.ensures.adopted c.solve.ensures.kept c.solve.ensures.put c.solve.ensures.answer

pub returns-in_err-assumed-clause-quit : goal.returns-in_err-assumed-clause-quit
returns-in_err-assumed-clause-quit g c = on_err _ _ (axioms_no_final c.args.book.now.entries c.assume.new.book.entries c.assume.ensures.axioms)

pub returns-clause-quit : goal.returns-clause-quit
returns-clause-quit g c = on_err_weaker c.solve.result (axioms_and_learnt c.args.book.now.entries c.assume.new.book.entries c.solve.new.book.entries c.assume.ensures.axioms) c.solve.ensures.quit
