-- That they call no command is due.
use Rattle.std.proofs.Common.{refl}
use Rattle.endings.specs.Files.{loads}
use Rattle.endings.specs.declared.stop.Stop.TheVariants.{Usage}
use Rattle.diagnose_cli.specs.Due.{Due, HasNotBegun}
use Rattle.diagnose_cli.proofs.Called.{for_called}
use Rattle.diagnose_cli.proofs.Dues.{nothing_called}
use Rattle.diagnose_cli.proofs.Once.{done}
use Rattle.diagnose_cli.proofs.Speeches.{stop_speaks}
use Rattle.diagnose_cli.proofs.run.put_usage.Goals as goal

pub returns : goal.returns
returns g c =
    let l = loads g.F.Shelf.held g.F.Shelf.faults c.args._shelf.now c.args._shelf.now in
    let words = c.args._words.now in
    let book = c.args._book.now.entries in
    let none = nothing_called words c.requires.none in
    record {
      does = done l words (g.S.Sink.taken c.args.out.now) (g.S.Sink.taken c.put_once.new.out) book c.put_once.result _ (stop_speaks (Due l words book) (HasNotBegun words book) book Usage (for_called words _ _ none tt) c.requires.empty (λ never. for_called words _ _ none refl) _ _ _ _ c.put_once.ensures.puts);
      left_alone = record { no_load = λ none. refl; no_question = λ none. refl; stopped = λ stop. refl };
      left = for_called words _ _ none tt;
      failures = c.put_once.ensures.failures;
    }
