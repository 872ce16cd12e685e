use Rattle.model_text.proofs.ReadBackLemmas.{lines_were_read}
use Rattle.model_text.proofs.reader.read_model.Goals as goal

pub returns-in-Ok-clause-as_read : goal.returns-in-Ok-clause-as_read
returns-in-Ok-clause-as_read c = lines_were_read c.next_line.new.self c.in_ok-builder.builder c.in-Ok.net c.in_ok-builder.ensures.0 c.in_ok-builder.ensures.1 c.in-Ok.ensures.ok
