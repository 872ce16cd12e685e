use Rattle.std.proofs.Common.{arith}
use Rattle.fault_verdicts.proofs.Going.{goes_more}
use Rattle.fault_verdicts.proofs.judging.assume.Goals as goal

pub returns-then-there-clause-goes_on : goal.returns-then-there-clause-goes_on
returns-then-there-clause-goes_on g c = goes_more 0 1 c.args.parts.now c.assume_none.new.parts (omega arith) c.assume_none.ensures.goes_on
