use Rattle.report.proofs.ReadsBack as lemma
use Rattle.report.proofs.laws.replies_read_back.Goals as goal

pub returns : goal.returns
returns c = lemma.replies_read_back
