-- By what the words spell.
use Rattle.std.proofs.Common.{◌∙◌, ap, sym}
use Rattle.endings.specs.Files.{loads}
use Rattle.diagnose_cli.specs.Commands.{told_often}
use Rattle.diagnose_cli.specs.Tasks.{calls_by}
use Rattle.diagnose_cli.proofs.Called.{called_by_name, for_called}
use Rattle.diagnose_cli.proofs.Once.{done}
use Rattle.diagnose_cli.proofs.run.put_replies.Goals as goal

pub returns-in-Some : goal.returns-in-Some
returns-in-Some g c =
    let words = c.args.words.now in
    let told = c.speak in
    record {
      does = done (loads g.F.Shelf.held g.F.Shelf.faults c.args.shelf.now told.new.shelf) words (g.S.Sink.taken c.args.out.now) (g.S.Sink.taken told.new.out) told.new.book.entries told.result _ told.ensures.speaks;
      left_alone = record { no_load = told.ensures.no_load; no_question = told.ensures.no_question; stopped = told.ensures.stopped };
      left = told.ensures.left;
      failures = told.ensures.failures;
    }

pub put_usage-requires-clause-none : goal.put_usage-requires-clause-none
put_usage-requires-clause-none g c =
    let command = told_often g.C.Speaking.name g.C.Speaking.kinds g.C.Speaking.speech in
    let words = c.args.words.now in
    for_called words _ _ (called_by_name command words (g.C.Speaking.listed words) c.requires.name ∙ ap (calls_by command) (sym c.read_limits.ensures.spelled ∙ c.in-None.is)) tt
