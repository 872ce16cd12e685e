use Rattle.des_base.proofs.Results.{on_err}
use Rattle.least_faults.proofs.Solved.{shown_explained, shown_none, shown_refuted, shown_run, shown_spent}
use Rattle.least_faults.proofs.asking.ask.Goals as goal

pub returns-in-Unsat-clause-asked : goal.returns-in-Unsat-clause-asked
returns-in-Unsat-clause-asked g c = shown_refuted _ _ c.args.parts.now c.solve.new.parts _ _ c.args.within c.args.book.now.entries c.solve.new.book.entries _ _ _ c.solve.ensures.goes_on.ready c.solve.ensures.goes_on.kept c.requires.belong c.is_built.ensures.network c.is_whole.ensures.whole.valid c.in_ok-answer.ensures.solved c.in-Unsat.field-0 c.in-Unsat.is c.is_valid.ensures

pub returns-in-Spent-clause-asked : goal.returns-in-Spent-clause-asked
returns-in-Spent-clause-asked g c = shown_spent _ _ c.args.parts.now c.solve.new.parts _ _ c.args.within c.args.book.now.entries c.solve.new.book.entries _ _ _ c.solve.ensures.goes_on.ready c.solve.ensures.goes_on.kept c.requires.belong c.is_built.ensures.network c.is_whole.ensures.whole.valid c.in_ok-answer.ensures.solved c.in-Spent.is

pub found_run-requires-clause-true_there : goal.found_run-requires-clause-true_there
found_run-requires-clause-true_there g c = shown_run _ _ c.args.parts.now c.solve.new.parts _ _ c.args.within c.args.book.now.entries c.solve.new.book.entries _ _ _ c.solve.ensures.goes_on.ready c.solve.ensures.goes_on.kept c.requires.belong c.is_built.ensures.network c.is_whole.ensures.whole.valid c.in_ok-answer.ensures.solved c.in-Sat.is

pub returns-in_ok-found_run-in-Sat-clause-asked : goal.returns-in_ok-found_run-in-Sat-clause-asked
returns-in_ok-found_run-in-Sat-clause-asked g c = shown_explained _ _ c.args.parts.now c.solve.new.parts _ _ c.args.within c.args.book.now.entries c.solve.new.book.entries _ _ _ c.solve.ensures.goes_on.ready c.solve.ensures.goes_on.kept c.requires.belong c.is_built.ensures.network c.is_whole.ensures.whole.valid c.in_ok-answer.ensures.solved c.in_ok-found_run-in-Sat.field-0 c.in-Sat.is
    c.in_ok-found_run-in-Sat.ensures.given c.in_ok-found_run-in-Sat.ensures.faults

pub returns-in_err-found_run-in-Sat-clause-quit : goal.returns-in_err-found_run-in-Sat-clause-quit
returns-in_err-found_run-in-Sat-clause-quit g c = on_err _ _ (shown_none _ _ c.args.parts.now c.solve.new.parts _ _ c.args.within c.args.book.now.entries c.solve.new.book.entries _ _ _ c.solve.ensures.goes_on.ready c.solve.ensures.goes_on.kept c.requires.belong c.is_built.ensures.network c.is_whole.ensures.whole.valid c.in_ok-answer.ensures.solved c.in-Sat.is
    )
