-- Events that can be seen by one of some labels.
use Rattle.std.specs.Prelude.{ℕ, List, length, count_by}
use Rattle.des_base.specs.Lists.{numbers_below}
use Rattle.des_net.specs.Network.{Net}
use Rattle.replay.specs.Explanation.{has_any_label}

-- how many events of the network can be seen by one of these labels
abbrev pub labelled_count : Net → List (List ℕ) → ℕ
labelled_count net labels = count_by (has_any_label net labels) (numbers_below (length net.events))
