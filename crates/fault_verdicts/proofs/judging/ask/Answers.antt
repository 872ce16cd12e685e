use Rattle.des_base.proofs.Results.{on_err}
use Rattle.std.proofs.Common.{subst, sym}
use Rattle.fault_verdicts.proofs.Answered.{shown_open, shown_possible, shown_refuted, shown_true_run, shown_unanswered}
use Rattle.fault_verdicts.proofs.judging.ask.Goals as goal
use Rattle.fault_verdicts.specs.Judging.{IsVerdictShown}
use Rattle.sat_solve.proofs.Leaving.{finals_none}

pub returns-in-Unsat-clause-asked : goal.returns-in-Unsat-clause-asked
returns-in-Unsat-clause-asked g c =
    subst (IsVerdictShown _ _ c.solve.new.parts.step.steps c.args.k c.args.event c.args.first.now c.args.left.now c.args.book.now.entries c.solve.new.book.entries) (sym c.refuted.ensures)
    (shown_refuted _ _ c.args.parts.now c.solve.new.parts _ _ c.args.k c.args.event c.args.first.now c.has_event-there.result c.args.book.now.entries c.solve.new.book.entries c.args.left.now c.solve.new.left c.in_ok-answer.answer
    c.solve.ensures.goes_on c.requires.belong c.requires.best c.has_event-there.ensures c.is_built.ensures.network c.is_whole.ensures.whole.valid c.requires.known c.in_ok-answer.ensures.solved c.in-Unsat.field-0 c.in-Unsat.is c.is_valid.ensures)

pub returns-in-Spent-clause-asked : goal.returns-in-Spent-clause-asked
returns-in-Spent-clause-asked g c =
    shown_open _ _ c.args.parts.now c.solve.new.parts _ _ c.args.k c.args.event c.args.first.now c.has_event-there.result c.args.book.now.entries c.solve.new.book.entries c.args.left.now c.solve.new.left c.in_ok-answer.answer
    c.solve.ensures.goes_on c.requires.belong c.requires.best c.has_event-there.ensures c.is_built.ensures.network c.is_whole.ensures.whole.valid c.requires.known c.in_ok-answer.ensures.solved c.in-Spent.is

pub decode-requires-clause-true_there : goal.decode-requires-clause-true_there
decode-requires-clause-true_there g c =
    shown_true_run _ _ c.args.parts.now c.solve.new.parts _ _ c.args.k c.args.event c.args.first.now c.has_event-there.result c.args.book.now.entries c.solve.new.book.entries c.args.left.now c.solve.new.left c.in_ok-answer.answer
    c.solve.ensures.goes_on c.requires.belong c.requires.best c.has_event-there.ensures c.is_built.ensures.network c.is_whole.ensures.whole.valid c.requires.known c.in_ok-answer.ensures.solved c.assignment.result.now c.assignment.ensures.value c.in-Sat.is

pub returns-in_ok-decode-in-Sat-clause-asked : goal.returns-in_ok-decode-in-Sat-clause-asked
returns-in_ok-decode-in-Sat-clause-asked g c =
    let decoded = c.in_ok-decode-in-Sat.ensures in
    shown_possible _ _ c.args.parts.now c.solve.new.parts _ _ c.args.k c.args.event c.args.first.now c.has_event-there.result c.args.book.now.entries c.solve.new.book.entries c.args.left.now c.solve.new.left c.in_ok-answer.answer
    c.solve.ensures.goes_on c.requires.belong c.requires.best c.has_event-there.ensures c.is_built.ensures.network c.is_whole.ensures.whole.valid c.requires.known c.in_ok-answer.ensures.solved c.assignment.result.now c.assignment.ensures.value c.in-Sat.is
    c.in_ok-decode-in-Sat.field-0 decoded.matched decoded.explains decoded.faults decoded.run

pub returns-in_err-answer-clause-quit : goal.returns-in_err-answer-clause-quit
returns-in_err-answer-clause-quit g c = on_err _ _ (finals_none _ 1 _ _ c.in_err-answer.ensures.quit)

pub returns-in_err-decode-in-Sat-clause-quit : goal.returns-in_err-decode-in-Sat-clause-quit
returns-in_err-decode-in-Sat-clause-quit g c =
    on_err _ _ (shown_unanswered _ _ c.args.parts.now c.solve.new.parts _ _ c.args.k c.args.event c.args.first.now c.has_event-there.result c.args.book.now.entries c.solve.new.book.entries c.args.left.now c.solve.new.left c.in_ok-answer.answer
    c.solve.ensures.goes_on c.requires.belong c.requires.best c.has_event-there.ensures c.is_built.ensures.network c.is_whole.ensures.whole.valid c.requires.known c.in_ok-answer.ensures.solved
    )

pub returns-in_err-answer-clause-unmade : goal.returns-in_err-answer-clause-unmade
returns-in_err-answer-clause-unmade g c has = c.solve.ensures.unmade (c.has_event-there.ensures.1 has)

pub returns-in_err-decode-in-Sat-clause-unmade : goal.returns-in_err-decode-in-Sat-clause-unmade
returns-in_err-decode-in-Sat-clause-unmade g c has = c.solve.ensures.unmade (c.has_event-there.ensures.1 has)

pub returns-in-Unsat-clause-unmade : goal.returns-in-Unsat-clause-unmade
returns-in-Unsat-clause-unmade g c has = c.solve.ensures.unmade (c.has_event-there.ensures.1 has)

pub returns-in-Spent-clause-unmade : goal.returns-in-Spent-clause-unmade
returns-in-Spent-clause-unmade g c has = c.solve.ensures.unmade (c.has_event-there.ensures.1 has)

pub returns-in_ok-decode-in-Sat-clause-unmade : goal.returns-in_ok-decode-in-Sat-clause-unmade
returns-in_ok-decode-in-Sat-clause-unmade g c has = c.solve.ensures.unmade (c.has_event-there.ensures.1 has)
