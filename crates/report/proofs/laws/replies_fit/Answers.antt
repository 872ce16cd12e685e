use Rattle.report.proofs.PrintedLengths as lemma
use Rattle.report.proofs.laws.replies_fit.Goals as goal

pub returns : goal.returns
returns c = lemma.replies_fit
