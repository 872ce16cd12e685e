-- By how many words there are, and what they spell.
use Rattle.std.proofs.Common.{◌∙◌, sym}
use Rattle.diagnose_cli.specs.Tasks.{one}
use Rattle.diagnose_cli.proofs.Called.{not_spelled, too_many}
use Rattle.diagnose_cli.proofs.answering.read_command.Goals as goal

pub returns-then-len-count-clause-none : goal.returns-then-len-count-clause-none
returns-then-len-count-clause-none g c =
    not_spelled (one g.C.Answering.named) c.args.words.now (g.C.Answering.listed c.args.words.now) c.requires.name g.C.Answering.word (sym c.len-len.ensures ∙ c.if-len-count.true ∙ c.word_count-count.ensures) c.read.result c.read.ensures.read

pub returns-else-len-count-clause-none : goal.returns-else-len-count-clause-none
returns-else-len-count-clause-none g c none =
    too_many (one g.C.Answering.named) c.args.words.now (g.C.Answering.listed c.args.words.now) c.requires.name (λ many. c.if-len-count.false (c.len-len.ensures ∙ many ∙ sym c.word_count-count.ensures))
