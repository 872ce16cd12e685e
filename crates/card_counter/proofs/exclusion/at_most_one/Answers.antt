use Rattle.card_counter.proofs.Chains.{exclusion_is_exact}
use Rattle.card_counter.proofs.exclusion.at_most_one.Goals as goal

pub returns-then-inputs-le-MOST_PAIRED-clause-exact : goal.returns-then-inputs-le-MOST_PAIRED-clause-exact
returns-then-inputs-le-MOST_PAIRED-clause-exact c = exclusion_is_exact c.args.inputs.now c.args.vars.now

pub returns-else-inputs-le-MOST_PAIRED-clause-exact : goal.returns-else-inputs-le-MOST_PAIRED-clause-exact
returns-else-inputs-le-MOST_PAIRED-clause-exact c = exclusion_is_exact c.args.inputs.now c.args.vars.now
