use Rattle.replay.proofs.DecideLemmas as lemma
use Rattle.replay.proofs.laws.explains_decides.Goals as goal

pub returns : goal.returns
returns c = lemma.explains_decides
