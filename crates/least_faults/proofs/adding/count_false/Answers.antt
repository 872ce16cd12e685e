use Rattle.std.proofs.Common.{arith}
use Rattle.card_counter.specs.Growing.{MayCount}
use Rattle.least_faults.proofs.Drafts.{one_of}
use Rattle.least_faults.proofs.adding.count_false.Goals as goal

pub new-dropped-requires : goal.new-dropped-requires
new-dropped-requires c =
    let may = one_of (MayCount c.args.vars.now c.args.counter.now) c.args.doubtful c.args.code.now.coded.vars c.if-doubtful.true c.requires.inputs in
    omega (arith, may.known, c.requires.within, c.vars.ensures)
