-- The truth of the meanings of a log that an explanation gives.
use Rattle.std.specs.Prelude.{ℕ, zero, suc, Bool, true, false, not, ◌&&◌, ◌||◌, List, [], ◌∷◌, length, map, flat_map, take, nat_eq, ◌==◌, slice_index_or}
use Rattle.std.specs.List.{list_any}
use Rattle.des_net.specs.Network.{Net}
use Rattle.des_net.specs.Width.{joined}
use Rattle.log_order.specs.Log.{Log}
use Rattle.question_clauses.specs.LogClauses.{chain, matching_events}
use Rattle.prop_core.specs.VariableNames.{Meaning, in_state, happens, asked, matches, done, unmatched, closed, dropped, reaches, some_of_first, of_states, of_events, of_matches}
use Rattle.replay.specs.Explanation.{observables, Entry, alarms_of, real_alarms}

-- e and i stand at one place of two lists
abbrev pub is_paired : ℕ → ℕ → List ℕ → List ℕ → Bool
is_paired e i [] is = false
is_paired e i (x ∷ xs) [] = false
is_paired e i (x ∷ xs) (j ∷ js) = ((x == e) && (j == i)) || is_paired e i xs js

-- Each block but the first has the alarms of its piece, the true ones in the order of the events that can be seen: alarm i stands for e in step t, counted from 1.
abbrev pub alarm_stands_for : Net → List (List ℕ) → List (List Entry) → ℕ → ℕ → ℕ → Bool
alarm_stands_for net pieces blocks i e zero = false
alarm_stands_for net pieces blocks i e (suc t) = is_paired e i (observables net (slice_index_or pieces t [])) (real_alarms (slice_index_or blocks (suc t) []))

-- one of the entries says that alarm i is false
abbrev pub is_dropped : List Entry → ℕ → Bool
is_dropped order i = list_any (λ entry. entry.alarm == i && not entry.real) order

-- The truth by which the true alarms of each block stand for the events of its piece, and the false ones are done with it: those of the first block from the start.
abbrev pub coded_truth : Net → Log → List (List ℕ) → List (List Entry) → (Meaning → Bool) → Meaning → Bool
coded_truth net log pieces blocks value (in_state c q t) = value (in_state c q t)
coded_truth net log pieces blocks value (happens e t) = value (happens e t)
coded_truth net log pieces blocks value asked = true
coded_truth net log pieces blocks value (matches i e t) = alarm_stands_for net pieces blocks i e t
coded_truth net log pieces blocks value (done i t) = list_any (nat_eq i) (joined (take (suc t) (map alarms_of blocks)))
coded_truth net log pieces blocks value (unmatched e k t) =
    value (happens e t) && not (list_any (λ i. alarm_stands_for net pieces blocks i e t) (take k (chain net log e)))
coded_truth net log pieces blocks value (closed e k) = k == length (chain net log e)
coded_truth net log pieces blocks value (dropped i) = is_dropped (flat_map (λ block. block) blocks) i
coded_truth net log pieces blocks value (reaches i j) = value (reaches i j)
coded_truth net log pieces blocks value (some_of_first (of_states c t) k) = value (some_of_first (of_states c t) k)
coded_truth net log pieces blocks value (some_of_first (of_events t g) k) = value (some_of_first (of_events t g) k)
coded_truth net log pieces blocks value (some_of_first (of_matches i t) k) = list_any (λ e. alarm_stands_for net pieces blocks i e t) (take k (matching_events net log i))
