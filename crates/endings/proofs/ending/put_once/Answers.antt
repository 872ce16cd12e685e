-- Where the put of its text fails.
use Rattle.endings.proofs.Putting.{cut_alone}
use Rattle.endings.specs.Transcripts.{once}
use Rattle.endings.proofs.ending.put_once.Goals as goal

pub returns-in-Ok-clause-puts : goal.returns-in-Ok-clause-puts
returns-in-Ok-clause-puts g c =
    cut_alone (once c.args.ending) _ _ _ _ c.in-Ok.ensures.memory (rw c.in-Ok.text-is at c.in-Ok.ensures.text) (rw c.as_slice.ensures.value at c.in-Err-put.ensures.front) c.in-Err-put.ensures.failed
