-- The one reply is put that was due.
use Rattle.std.proofs.Common.{◌∙◌, ap}
use Rattle.std.proofs.lemmas.Result.{IfOk-weaker}
use Rattle.endings.specs.Files.{loads}
use Rattle.endings.proofs.Once.{speaks_once}
use Rattle.diagnose_cli.specs.Due.{Due, HasNotBegun, StopsEmpty}
use Rattle.diagnose_cli.proofs.Once.{done, once_empty, stop_left}
use Rattle.diagnose_cli.proofs.run.put_answer.Goals as goal

pub returns : goal.returns
returns g c =
    let l = loads g.F.Shelf.held g.F.Shelf.faults c.args.shelf.now c.answer_over-ending.new.shelf in
    let words = c.args.words.now in
    let book = c.answer_over-ending.new.book.entries in
    let answered = c.answer_over-ending.ensures in
    let due = answered.due in
    let r = c.answer_over-ending.result in
    let puts = c.put_once.ensures.puts in
    record {
      does = done l words (g.S.Sink.taken c.args.out.now) (g.S.Sink.taken c.put_once.new.out) book c.put_once.result _
          (speaks_once (StopsEmpty (Due l words book) book) (HasNotBegun words book) due.begun r _ _ _ _ (λ never. once_empty (Due l words book) book r _ never answered.stopped (λ same. ap (λ b. b.entries) same ∙ c.requires.empty) (due.due never)) puts
          (IfOk-weaker r _ _ (λ reply cut. record { comes = cut; empty = tt }) due.cut));
      left_alone = record { no_load = answered.no_load; no_question = answered.no_question; stopped = stop_left r _ _ _ _ _ puts answered.stopped };
      left = answered.left;
      failures = c.put_once.ensures.failures;
    }
