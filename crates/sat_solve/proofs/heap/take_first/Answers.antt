use Rattle.std.proofs.Common.{◌∙◌, ◌<◌, refl, length, get_or, arith}
use Rattle.std.proofs.lemmas.Grind.{common_steps}
use Rattle.sat_solve.proofs.Places.{place_lost}
use Rattle.sat_solve.proofs.Taking.{last_waits, first_waits, last_first, first_taken}
use Rattle.sat_solve.proofs.heap.take_first.Goals as goal

pub returns-then-is_empty-clause-taken : goal.returns-then-is_empty-clause-taken
returns-then-is_empty-clause-taken c = (place_lost c.args.places.now c.args.last, last_waits c.args.vars.now c.args.places.now c.args.last c.requires.placed)

pub sink-requires-clause-placed : goal.sink-requires-clause-placed
sink-requires-clause-placed c =
    let more : 0 < length c.args.vars.now = let b = c.is_empty.ensures in let f = c.if-is_empty.false in grind (arith, common_steps) in
    last_first c.args.vars.now c.args.places.now c.args.last c.requires.placed (get_or c.args.vars.now 0 0) more refl

pub returns-clause-taken : goal.returns-clause-taken
returns-clause-taken c =
    let vars = c.args.vars.now in
    let places = c.args.places.now in
    let more : 0 < length vars = let b = c.is_empty.ensures in let f = c.if-is_empty.false in grind (arith, common_steps) in (
      c.sink.ensures.waiting ∙ first_taken vars places c.args.last c.requires.placed (get_or vars 0 0) more refl,
      first_waits vars places c.args.last c.requires.placed (get_or vars 0 0) more refl,
    )
