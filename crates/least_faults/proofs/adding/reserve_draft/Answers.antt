use Rattle.std.proofs.Common.{◌*◌, ◌∙◌, length, ap, arith}
use Rattle.least_faults.proofs.Drafts.{variables_fit}
use Rattle.least_faults.proofs.Reserving.{is_reserved}
use Rattle.least_faults.proofs.adding.reserve_draft.Goals as goal
use Rattle.least_faults.specs.Adding.{input_count}
use Rattle.proof_ledger.specs.Book.{axioms_of}

pub reserve_room-requires-clause-few : goal.reserve_room-requires-clause-few
reserve_room-requires-clause-few g c =
    let old = c.args.parts.now in
    let fits = variables_fit old.step old.code.coded old.counter old.vars (axioms_of c.args.book.now.entries) c.requires.ready.coded c.args.draft c.requires.drafted c.requires.fits in
    let count = ap (λ b. input_count b * length old.counter.columns) c.requires.doubted in
    let cells = c.cells_for-cells.ensures.is in
    omega (arith, fits, count, cells)

pub returns-clause-reserved : goal.returns-clause-reserved
returns-clause-reserved g c =
    is_reserved c.args.parts.now c.reserve_room.new.parts c.args.book.now.entries c.reserve_room.new.book c.args.draft c.args.doubtful c.in_ok-clauses.clauses c.cells_for-cells.result c.requires.drafted c.requires.doubted
    c.requires.fits c.cells_for-cells.ensures.is (c.in_ok-clauses.ensures.copied ∙ c.clauses.ensures) c.in_ok-clauses.ensures.room c.reserve_room.ensures.kept c.in_ok-reserve_room.ensures.room
