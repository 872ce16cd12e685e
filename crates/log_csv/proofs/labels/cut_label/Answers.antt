use Rattle.std.proofs.Common.{arith}
use Rattle.log_csv.proofs.LabelLemmas.{split-bar, split-no_bar}
use Rattle.log_csv.proofs.labels.cut_label.Goals as goal

pub returns-in-empty-clause-pieces : goal.returns-in-empty-clause-pieces
returns-in-empty-clause-pieces c = split-no_bar c.args.text.now c.split_at.result.0.now c.split_at.result.1.now c.bar_place.result c.split_at.ensures.front c.split_at.ensures.back c.bar_place.ensures.place (omega (arith, c.in-empty.len_below))

pub returns-in-len1-up-clause-pieces : goal.returns-in-len1-up-clause-pieces
returns-in-len1-up-clause-pieces c = split-bar c.args.text.now c.split_at.result.0.now c.split_at.result.1.now c.bar_place.result c.split_at.ensures.front c.split_at.ensures.back c.bar_place.ensures.place c.in-len1-up.len_at_least
