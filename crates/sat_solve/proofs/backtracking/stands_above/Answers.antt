use Rattle.std.proofs.Common.{◌≡◌, ◌-◌, ◌+◌, ◌≤◌, nat_lt, false, arith}
use Rattle.std.proofs.lemmas.Bool.Decides.{nat_tests}
use Rattle.sat_prop.proofs.Leveling.{level_front}
use Rattle.sat_solve.proofs.WaitingVariables.{read_var, read_stands}
use Rattle.sat_solve.proofs.backtracking.stands_above.Goals as goal

pub level_of-requires : goal.level_of-requires
level_of-requires c = rw c.var.ensures (read_var c.args.trail.now.literals (c.args.count - 1) c.literal-lit.result c.literal-lit.ensures)

pub returns-clause-none : goal.returns-clause-none
returns-clause-none c = λ e place b.
    let n = (rw c.var.ensures at c.level_of.ensures) (c.args.count - 1) (read_stands c.args.trail.now.literals (c.args.count - 1) c.literal-lit.result c.literal-lit.ensures) in
    let f = level_front c.args.trail.now.reasons (place + 1) (c.args.count - 1 + 1) (omega arith) in
    let q : nat_lt c.args.level c.level_of.result ≡ false = e in
    let v : c.level_of.result ≤ c.args.level = grind (arith, nat_tests) in
    omega arith
