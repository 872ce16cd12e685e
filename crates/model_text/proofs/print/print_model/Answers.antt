use Rattle.model_text.proofs.ReadBackLemmas.{reads_back}
use Rattle.model_text.proofs.print.print_model.Goals as goal

pub returns-clause-reads_back : goal.returns-clause-reads_back
returns-clause-reads_back c = reads_back c.args.net.now c.is_built.ensures.whole c.is_built.ensures.network c.is_built.ensures.started
