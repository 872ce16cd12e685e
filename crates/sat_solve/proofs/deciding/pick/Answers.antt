use Rattle.std.proofs.Common.{sym, arith}
use Rattle.sat_solve.proofs.Trying.{tried}
use Rattle.sat_solve.proofs.deciding.pick.Goals as goal

pub returns-in-Some-clause-some : goal.returns-in-Some-clause-some
returns-in-Some-clause-some g c =
    let it = tried c.args.advice.now c.args.trail.now.literals c.vars.result c.in-Some.lit (sym c.in-Some.ensures.found) in
    record { known = omega (arith, it.known, c.vars.ensures); undecided = it.undecided; others = λ other below apart open_now. c.requires.waiting other below open_now }
