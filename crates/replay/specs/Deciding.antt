-- Whether a word and an order explain a log, as a test that computes.
use Rattle.std.specs.Prelude.{ℕ, ◌↔◌, Bool, true, false, ◌&&◌, not, List, [], ◌∷◌, length, nat_le, nat_lt, is_none, IsTrue}
use Rattle.std.specs.List.{list_all}
use Rattle.des_net.specs.Network.{Net}
use Rattle.des_net.specs.LocalRuns.{can_run}
use Rattle.des_net.specs.Width.{need}
use Rattle.log_order.specs.Log.{Log}
use Rattle.log_order.specs.Precedence.{is_in}
use Rattle.replay.specs.Explanation.{Entry, alarms_of, real_alarms, may_stand, Explains, observables, is_matching}
use Rattle.replay.specs.Matching.{missing_alarm, wrong_pair}

-- no number stands twice
abbrev pub is_distinct : List ℕ → Bool
is_distinct [] = true
is_distinct (x ∷ xs) = not (is_in xs x) && is_distinct xs

-- the numbers below m, each once
abbrev pub lists_once : ℕ → List ℕ → Bool
lists_once m order = list_all (λ i. nat_lt i m) order && is_none (missing_alarm m order) && is_distinct order

-- each event shows the alarm at its place
abbrev pub all_show : Net → Log → List ℕ → List ℕ → Bool
all_show net log [] [] = true
all_show net log [] (alarm ∷ order) = false
all_show net log (e ∷ events) [] = false
all_show net log (e ∷ events) (alarm ∷ order) = is_matching net log e alarm && all_show net log events order

-- the order linearises the log along the word, by a test: each clause of Linearises has its part
abbrev pub linearises : Net → Log → List ℕ → List Entry → Bool
linearises net log word order =
    lists_once (length log.alarms) (alarms_of order) && list_all (may_stand log) order && all_show net log (observables net word) (real_alarms order) && is_none (wrong_pair (alarms_of order) log.pairs)

-- the word and the order explain the log within n pieces, by a test
abbrev pub explains : Net → Log → ℕ → List ℕ → List Entry → Bool
explains net log n word order = can_run net word && nat_le (need net word) n && linearises net log word order

-- the test is right: it passes exactly what explains
abbrev pub ExplainsDecides : Type 0
ExplainsDecides = (net : Net) (log : Log) (n : ℕ) (word : List ℕ) (order : List Entry) → IsTrue (explains net log n word order) ↔ Explains net log n word order
