-- The others, and then the last one.
use Rattle.std.proofs.Common.{◌++◌, ◌∷◌, []}
use Rattle.endings.specs.Files.{loads}
use Rattle.diagnose_cli.specs.FilesRead.{StopsAmong}
use Rattle.diagnose_cli.proofs.FilesInOrder.{stop_handed, stops_before, then_read, then_stops}
use Rattle.diagnose_cli.proofs.reading.ThenReading.fetch.Goals as goal

pub returns-in_err-before-clause-stop : goal.returns-in_err-before-clause-stop
returns-in_err-before-clause-stop g c =
    let l = loads g.F.Shelf.held g.F.Shelf.faults c.args.shelf.now c.fetch.new.shelf in
    let kinds = g.A.Reading.kinds in
    stop_handed _ _ (StopsAmong l c.args.words.now 1 (kinds ++ g.B.Behind.kind ∷ []) []) c.from_residual.ensures.1 (λ never.
    stops_before c.args.words.now g.B.Behind.kind l 1 kinds [] _ (c.in_err-before.ensures.stop never))

pub returns-in_err-last-clause-stop : goal.returns-in_err-last-clause-stop
returns-in_err-last-clause-stop g c =
    let shelf = g.F.Shelf in
    let kinds = g.A.Reading.kinds in
    stop_handed _ _ (StopsAmong (loads shelf.held shelf.faults c.args.shelf.now c.fetch_behind.new.shelf) c.args.words.now 1 (kinds ++ g.B.Behind.kind ∷ []) []) c.from_residual-in_err-last.ensures.1 (λ never.
    then_stops c.args.words.now g.B.Behind.kind (shelf.held c.args.shelf.now) (shelf.held c.fetch.new.shelf) (shelf.faults c.args.shelf.now) (shelf.faults c.fetch.new.shelf) (shelf.faults c.fetch_behind.new.shelf)
    c.fetch.ensures.kept c.fetch.ensures.never_falls kinds g.A.Reading.reads g.B.Behind.tells g.B.Behind.fault g.met.B.Behind.faulty c.in_ok-before.before c.in_ok-before.ensures.read _ (c.in_err-last.ensures.stop never))

pub returns-clause-read : goal.returns-clause-read
returns-clause-read g c =
    let shelf = g.F.Shelf in
    then_read c.args.words.now g.B.Behind.kind (shelf.held c.args.shelf.now) (shelf.held c.fetch.new.shelf) (shelf.faults c.args.shelf.now) (shelf.faults c.fetch.new.shelf) (shelf.faults c.fetch_behind.new.shelf)
    c.fetch.ensures.kept c.fetch.ensures.never_falls g.A.Reading.kinds g.A.Reading.reads g.B.Behind.tells g.B.Behind.fault g.met.B.Behind.faulty c.in_ok-before.before c.in_ok-before.ensures.read c.in_ok-last.last c.in_ok-last.ensures.read
