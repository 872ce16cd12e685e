use Rattle.report.proofs.ReadsBack as lemma
use Rattle.report.proofs.laws.runs_read_back.Goals as goal

pub returns : goal.returns
returns c = lemma.printed_runs_read_back
