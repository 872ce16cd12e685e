use Rattle.std.proofs.Common.{◌≡◌, ◌-◌, ◌++◌, length, replicate, arith, None}
use Rattle.std.proofs.lemmas.Grind.{common_steps}
use Rattle.sat_prop.proofs.Values.{values_wider}
use Rattle.sat_prop.proofs.trail.widen.Goals as goal

pub returns-clause-kept : goal.returns-clause-kept
returns-clause-kept c vars literals known a =
    let e : c.resize.new.self.items ≡ c.args.values.now.items ++ replicate (c.max-room.result - length c.args.values.now.items) None = let q = c.in_ok-resize.ensures.items in let n = c.len.ensures in let m = c.max-room.ensures in grind (arith, common_steps) in
    rw e (values_wider vars _ literals c.args.values.now.items known a)
