use Rattle.report.proofs.PrintedLengths as lemma
use Rattle.report.proofs.laws.runs_fit.Goals as goal

pub returns : goal.returns
returns c = lemma.runs_fit
