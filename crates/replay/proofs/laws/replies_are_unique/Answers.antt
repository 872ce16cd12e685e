use Rattle.replay.proofs.AcceptLemmas as lemma
use Rattle.replay.proofs.laws.replies_are_unique.Goals as goal

pub returns : goal.returns
returns c = lemma.replies_are_unique
