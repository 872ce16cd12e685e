use Rattle.endings.specs.Files.{loads}
use Rattle.endings.proofs.Once.{speaks_once}
use Rattle.refine_cli.specs.Due.{MayEnd}
use Rattle.refine_cli.specs.Rows.{outcome}
use Rattle.refine_cli.proofs.DueLemmas.{due_cut, due_whole}
use Rattle.refine_cli.proofs.RowLemmas.{load_row, refined_row, stop_rows}
use Rattle.refine_cli.proofs.run.run.Goals as goal

pub returns-clause-speaks : goal.returns-clause-speaks
returns-clause-speaks g c =
    let l = loads g.F.Shelf.held g.F.Shelf.faults c.args.shelf.now c.answer-ending.new.shelf in
    let r = c.answer-ending.result in
    let due = c.answer-ending.ensures.due in
    speaks_once (MayEnd l c.args.words.now) (Unit {0}) tt r _ _ _ _ (λ never. due_whole l c.args.words.now r due) c.put_once.ensures.puts (due_cut l c.args.words.now r due)

pub returns-clause-refined : goal.returns-clause-refined
returns-clause-refined g c =
    refined_row (outcome (loads g.F.Shelf.held g.F.Shelf.faults c.args.shelf.now c.answer-ending.new.shelf) c.args.words.now (g.S.Sink.taken c.args.out.now) (g.S.Sink.taken c.put_once.new.out) c.put_once.result) (returns-clause-speaks g c).ends

pub returns-clause-stops : goal.returns-clause-stops
returns-clause-stops g c =
    stop_rows (outcome (loads g.F.Shelf.held g.F.Shelf.faults c.args.shelf.now c.answer-ending.new.shelf) c.args.words.now (g.S.Sink.taken c.args.out.now) (g.S.Sink.taken c.put_once.new.out) c.put_once.result) (returns-clause-speaks g c).ends

pub returns-clause-load_failed : goal.returns-clause-load_failed
returns-clause-load_failed g c =
    load_row (outcome (loads g.F.Shelf.held g.F.Shelf.faults c.args.shelf.now c.answer-ending.new.shelf) c.args.words.now (g.S.Sink.taken c.args.out.now) (g.S.Sink.taken c.put_once.new.out) c.put_once.result) (returns-clause-speaks g c).ends
