-- By the size of its question, and then as it tells.
use Rattle.std.proofs.Common.{subst, sym, arith}
use Rattle.diagnose_cli.proofs.Speeches.{large_speaks}
use Rattle.diagnose_cli.proofs.speaking.speak_over.Goals as goal

pub returns-then-size-gt-MOST_SIZE-clause-speaks : goal.returns-then-size-gt-MOST_SIZE-clause-speaks
returns-then-size-gt-MOST_SIZE-clause-speaks g c words texts read =
    large_speaks g.C.Speaking.kinds (g.C.Speaking.speech c.args.limits) words c.args.book.now.entries texts c.size-size.result (c.size-size.ensures.asked texts read) (omega (arith, c.if-size-gt-MOST_SIZE.true))
    (subst (g.C.Speaking.speech c.args.limits).lost (sym c.requires.empty) (g.met.C.Speaking.begun c.args.limits)) c.requires.empty _ _ _ _ c.put_once.ensures.puts
