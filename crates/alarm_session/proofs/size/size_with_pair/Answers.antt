use Rattle.std.proofs.Common.{arith}
use Rattle.alarm_session.proofs.Sizes.{size_with_pair}
use Rattle.alarm_session.proofs.size.size_with_pair.Goals as goal

pub returns : goal.returns
returns c = λ net log i j is. omega (arith, size_with_pair net log c.args.n i j, is, c.from.ensures)
