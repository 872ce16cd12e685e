use Rattle.log_csv.proofs.ReadBackLemmas.{printed-reads_back}
use Rattle.log_csv.proofs.print.print_log.Goals as goal

pub returns-clause-well : goal.returns-clause-well
returns-clause-well c = (printed-reads_back c.args.log.now c.is_whole.ensures.whole c.is_whole.ensures.once).well

pub returns-clause-read_back : goal.returns-clause-read_back
returns-clause-read_back c = (printed-reads_back c.args.log.now c.is_whole.ensures.whole c.is_whole.ensures.once).same
