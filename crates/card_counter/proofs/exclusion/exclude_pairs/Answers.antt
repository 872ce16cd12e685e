use Rattle.std.proofs.Common.{arith}
use Rattle.card_counter.proofs.PairLemmas.{pairs_count}
use Rattle.card_counter.proofs.exclusion.exclude_pairs.Goals as goal

pub push_pairs-requires-clause-clauses : goal.push_pairs-requires-clause-clauses
push_pairs-requires-clause-clauses c = grind (arith, pairs_count c.args.inputs.now)

pub push_pairs-requires-clause-literals : goal.push_pairs-requires-clause-literals
push_pairs-requires-clause-literals c = grind (arith, pairs_count c.args.inputs.now)
