-- By its files, whichever these are, and then as it answers.
use Rattle.endings.specs.Files.{loads}
use Rattle.diagnose_cli.proofs.Dues.{answer_due, answer_left, known, no_kinds, nothing_left, stop_due, unasked}
use Rattle.diagnose_cli.proofs.answering.answer_over.Goals as goal

pub returns-in_err-files-clause-due : goal.returns-in_err-files-clause-due
returns-in_err-files-clause-due g c =
    stop_due g.C.Answering.named c.args.words.now (g.C.Answering.listed c.args.words.now) (g.C.Answering.word c.args.command.now) c.requires.called g.C.Files.Reading.kinds g.met.C.Answering.has_files
    (loads g.F.Shelf.held g.F.Shelf.faults c.args.shelf.now c.fetch.new.shelf) c.args.book.now.entries _ _ c.from_residual.ensures.1 c.in_err-files.ensures.stop

pub returns-clause-due : goal.returns-clause-due
returns-clause-due g c =
    let read = c.in_ok-files.ensures.read in
    answer_due g.C.Answering.named c.args.words.now (g.C.Answering.listed c.args.words.now) (g.C.Answering.word c.args.command.now) c.requires.called g.C.Files.Reading.kinds g.met.C.Answering.has_files
    (loads g.F.Shelf.held g.F.Shelf.faults c.args.shelf.now c.fetch.new.shelf) c.answer-answer.new.book.entries read.texts read.bytes c.answer-answer.result (c.answer-answer.ensures.closes read.texts read.are)

pub returns-in_err-files-clause-left : goal.returns-in_err-files-clause-left
returns-in_err-files-clause-left g c =
    nothing_left (g.F.Shelf.held c.args.shelf.now) c.args.words.now _ c.args.book.now.entries (known g.C.Answering.named c.args.words.now (g.C.Answering.listed c.args.words.now) (g.C.Answering.word c.args.command.now) c.requires.called g.C.Files.Reading.kinds g.met.C.Answering.has_files) c.requires.empty

pub returns-clause-left : goal.returns-clause-left
returns-clause-left g c =
    let read = c.in_ok-files.ensures.read in
    answer_left g.C.Answering.named c.args.words.now (g.C.Answering.listed c.args.words.now) (g.C.Answering.word c.args.command.now) c.requires.called g.C.Files.Reading.kinds g.met.C.Answering.has_files (g.F.Shelf.held c.args.shelf.now) c.answer-answer.new.book.entries read.texts read.bytes (c.answer-answer.ensures.left read.texts read.are)

pub returns-in_err-files-clause-no_load : goal.returns-in_err-files-clause-no_load
returns-in_err-files-clause-no_load g c none = c.fetch.ensures.unread (no_kinds g.C.Answering.named c.args.words.now (g.C.Answering.listed c.args.words.now) (g.C.Answering.word c.args.command.now) c.requires.called g.C.Files.Reading.kinds g.met.C.Answering.has_files none)

pub returns-clause-no_load : goal.returns-clause-no_load
returns-clause-no_load g c none = c.fetch.ensures.unread (no_kinds g.C.Answering.named c.args.words.now (g.C.Answering.listed c.args.words.now) (g.C.Answering.word c.args.command.now) c.requires.called g.C.Files.Reading.kinds g.met.C.Answering.has_files none)

pub returns-clause-no_question : goal.returns-clause-no_question
returns-clause-no_question g c none = c.answer-answer.ensures.unasked (unasked g.C.Answering.named c.args.words.now (g.C.Answering.listed c.args.words.now) (g.C.Answering.word c.args.command.now) c.requires.called g.C.Files.Reading.kinds g.met.C.Answering.has_files none)
