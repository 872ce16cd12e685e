use Rattle.std.proofs.Common.{◌+◌, refl, arith}
use Rattle.sat_solve.proofs.Adopting.{adopting_more}
use Rattle.sat_solve.proofs.solver.attach_from.Goals as goal

pub loop-before-preserved : goal.loop-before-preserved
loop-before-preserved c =
    let i = c.loop-before.invariant in
    let spare = i.spare in
    let room = c.requires.room in
    let end = c.len-before-end.ensures in
    let test = c.loop-before-test.true in
    adopting_more c.args.propagator.now c.loop-before.propagator c.attach.new.self c.args.db.now.clauses c.loop-before.before (c.loop-before.before + 1) (c.loop-before.before + 1) i refl refl (omega arith) c.attach.ensures
