-- Where the second number reaches the first, no order keeps the pairs; else one does.
use Rattle.std.proofs.Common.{◌≡◌, true, arith}
use Rattle.std.proofs.lemmas.Grind.{common_steps}
use Rattle.log_order.specs.Log.{reaches}
use Rattle.log_order.proofs.KeptLemmas.{AreOrdered-with, AreOrdered-cycle}
use Rattle.log_order.proofs.precedence.Precedence.test.Goals as goal

pub returns-clause-ordered : goal.returns-clause-ordered
returns-clause-ordered c = let e = c.in_ok-_marks.ensures in AreOrdered-with _ _ _ _ e.ordered e.first e.second e.apart

pub returns-in_err-_marks-clause-cycle : goal.returns-in_err-_marks-clause-cycle
returns-in_err-_marks-clause-cycle c = λ is.
    let back : reaches c.args.self.now.pairs c.args.second c.args.first ≡ true = grind (arith, common_steps) in
    AreOrdered-cycle c.args.self.now.count c.args.self.now.pairs c.args.first c.args.second back
