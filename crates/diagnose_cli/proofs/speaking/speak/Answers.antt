-- By its files, whichever these are, and then as it tells.
use Rattle.std.proofs.Common.{◌≡◌, ◌∙◌, [], List, true, false, subst, sym}
use Rattle.endings.specs.Files.{loads}
use Rattle.endings.specs.Texts.{FileKind}
use Rattle.diagnose_cli.specs.FilesRead.{AreBytes}
use Rattle.diagnose_cli.specs.Tasks.{speaking}
use Rattle.diagnose_cli.proofs.Called.{called_so, of_called}
use Rattle.diagnose_cli.proofs.Dues.{left_over, nothing_left}
use Rattle.diagnose_cli.proofs.Speeches.{files_speak, files_stop}
use Rattle.diagnose_cli.proofs.speaking.speak.Goals as goal

pub returns-in-Ok-clause-speaks : goal.returns-in-Ok-clause-speaks
returns-in-Ok-clause-speaks g c =
    let read = c.in-Ok.ensures.read in
    files_speak (loads g.F.Shelf.held g.F.Shelf.faults c.args.shelf.now c.fetch.new.shelf) c.args.words.now (speaking g.C.Speaking.kinds (g.C.Speaking.speech c.args.limits)) c.speak_over.new.book.entries
    (called_so _ c.args.words.now (g.C.Speaking.listed c.args.words.now) c.args.limits c.requires.called) g.C.Files.Reading.kinds g.met.C.Speaking.has_files read.texts read.bytes _ _ _ _ (c.speak_over.ensures.speaks c.args.words.now read.texts read.are)

pub returns-in-Err-clause-speaks : goal.returns-in-Err-clause-speaks
returns-in-Err-clause-speaks g c =
    files_stop (loads g.F.Shelf.held g.F.Shelf.faults c.args.shelf.now c.fetch.new.shelf) c.args.words.now (speaking g.C.Speaking.kinds (g.C.Speaking.speech c.args.limits)) c.args.book.now.entries
    (called_so _ c.args.words.now (g.C.Speaking.listed c.args.words.now) c.args.limits c.requires.called) g.C.Files.Reading.kinds g.met.C.Speaking.has_files c.in-Err.stop
    (subst (g.C.Speaking.speech c.args.limits).lost (sym c.requires.empty) (g.met.C.Speaking.begun c.args.limits)) c.requires.empty c.in-Err.ensures.stop _ _ _ _ c.put_once.ensures.puts

pub returns-in-Ok-clause-no_load : goal.returns-in-Ok-clause-no_load
returns-in-Ok-clause-no_load g c none = c.fetch.ensures.unread (sym g.met.C.Speaking.has_files ∙ of_called c.args.words.now _ _ (called_so _ c.args.words.now (g.C.Speaking.listed c.args.words.now) c.args.limits c.requires.called) none)

pub returns-in-Err-clause-no_load : goal.returns-in-Err-clause-no_load
returns-in-Err-clause-no_load g c none = c.fetch.ensures.unread (sym g.met.C.Speaking.has_files ∙ of_called c.args.words.now _ _ (called_so _ c.args.words.now (g.C.Speaking.listed c.args.words.now) c.args.limits c.requires.called) none)

pub returns-in-Ok-clause-no_question : goal.returns-in-Ok-clause-no_question
returns-in-Ok-clause-no_question g c none = let never : true ≡ false = of_called c.args.words.now _ _ (called_so _ c.args.words.now (g.C.Speaking.listed c.args.words.now) c.args.limits c.requires.called) none in cc

pub returns-in-Ok-clause-left : goal.returns-in-Ok-clause-left
returns-in-Ok-clause-left g c =
    let read = c.in-Ok.ensures.read in
    left_over (g.F.Shelf.held c.args.shelf.now) c.args.words.now (speaking g.C.Speaking.kinds (g.C.Speaking.speech c.args.limits)) c.speak_over.new.book.entries
    (called_so _ c.args.words.now (g.C.Speaking.listed c.args.words.now) c.args.limits c.requires.called) read.texts
    (subst (λ (ks : List FileKind). AreBytes (g.F.Shelf.held c.args.shelf.now) c.args.words.now 1 ks [] read.texts) (sym g.met.C.Speaking.has_files) read.bytes) (c.speak_over.ensures.left c.args.words.now read.texts read.are)

pub returns-in-Err-clause-left : goal.returns-in-Err-clause-left
returns-in-Err-clause-left g c =
    nothing_left (g.F.Shelf.held c.args.shelf.now) c.args.words.now (speaking g.C.Speaking.kinds (g.C.Speaking.speech c.args.limits)) c.args.book.now.entries
    (called_so _ c.args.words.now (g.C.Speaking.listed c.args.words.now) c.args.limits c.requires.called) c.requires.empty
