use Rattle.replay.proofs.AcceptLemmas as lemma
use Rattle.replay.proofs.laws.accepted_explains.Goals as goal

pub returns : goal.returns
returns c = lemma.accepted_explains
