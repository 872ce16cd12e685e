-- The test for explanations is right.
use Rattle.std.proofs.Common.{◌≡◌, ℕ, true, false, ◌&&◌, List, [], ◌∷◌, length, Option, None, Some, refl, ap, Contains, nat_le}
use Rattle.std.specs.Prelude.{is_none, IsSomeAnd}
use Rattle.std.specs.List.{AllByRecursion, AllZip, list_all}
use Rattle.std.specs.Option.{option_map_or}
use Rattle.des_base.proofs.BoolLemmas.{both, join, is_most, most_is}
use Rattle.des_net.specs.Network.{Net, label_of}
use Rattle.des_net.specs.LocalRuns.{can_run}
use Rattle.des_net.specs.Width.{need}
use Rattle.des_net.proofs.Local.{runs_are_local}
use Rattle.des_net.proofs.WidthLemmas.{need_is_least}
use Rattle.log_order.specs.Log.{Log, labels_of}
use Rattle.replay.specs.Explanation.{Entry, alarms_of, real_alarms, may_stand, observables, Shows, Linearises, has_label}
use Rattle.replay.specs.Matching.{wrong_pair}
use Rattle.replay.specs.Deciding.{all_show, lists_once, linearises, ExplainsDecides}
use Rattle.replay.proofs.ListTests.{text_in, in_text, none_is, listed_from, listed_test, kept_from, none_wrong}

label_in : (log : Log) (i : ℕ) (o : Option (List ℕ)) → option_map_or (has_label log i) o false ≡ true → IsSomeAnd o (Contains (labels_of log i))
label_in log i None h = cc
label_in log i (Some label) h = text_in label (labels_of log i) h

in_label : (log : Log) (i : ℕ) (o : Option (List ℕ)) → IsSomeAnd o (Contains (labels_of log i)) → option_map_or (has_label log i) o false ≡ true
in_label log i None h = absurd h
in_label log i (Some label) h = in_text label (labels_of log i) h

shown_from : (net : Net) (log : Log) (events order : List ℕ) → all_show net log events order ≡ true → AllZip (Shows net log) events order
shown_from net log [] [] h = tt
shown_from net log [] (i ∷ order) h = cc
shown_from net log (e ∷ events) [] h = cc
shown_from net log (e ∷ events) (i ∷ order) h =
    let two = both (option_map_or (has_label log i) (label_of net e) false) (all_show net log events order) h in
    (label_in log i (label_of net e) two.0, shown_from net log events order two.1)

shown_test : (net : Net) (log : Log) (events order : List ℕ) → AllZip (Shows net log) events order → all_show net log events order ≡ true
shown_test net log [] [] h = refl
shown_test net log [] (i ∷ order) h = absurd h
shown_test net log (e ∷ events) [] h = absurd h
shown_test net log (e ∷ events) (i ∷ order) h =
    join (option_map_or (has_label log i) (label_of net e) false) (all_show net log events order) (in_label log i (label_of net e) h.0) (shown_test net log events order h.1)

standing_from : (log : Log) (order : List Entry) → list_all (may_stand log) order ≡ true → AllByRecursion (λ entry. may_stand log entry ≡ true) order
standing_from log [] h = tt
standing_from log (entry ∷ order) h = let two = both (may_stand log entry) (list_all (may_stand log) order) h in (two.0, standing_from log order two.1)

standing_test : (log : Log) (order : List Entry) → AllByRecursion (λ entry. may_stand log entry ≡ true) order → list_all (may_stand log) order ≡ true
standing_test log [] h = refl
standing_test log (entry ∷ order) h = join (may_stand log entry) (list_all (may_stand log) order) h.0 (standing_test log order h.1)

linear_from : (net : Net) (log : Log) (word : List ℕ) (order : List Entry) → linearises net log word order ≡ true → Linearises net log word order
linear_from net log word order h =
    let three = both (lists_once (length log.alarms) (alarms_of order) && list_all (may_stand log) order && all_show net log (observables net word) (real_alarms order)) (is_none (wrong_pair (alarms_of order) log.pairs)) h in
    let two = both (lists_once (length log.alarms) (alarms_of order) && list_all (may_stand log) order) (all_show net log (observables net word) (real_alarms order)) three.0 in
    let parts = both (lists_once (length log.alarms) (alarms_of order)) (list_all (may_stand log) order) two.0 in record {
      complete = listed_from (length log.alarms) (alarms_of order) parts.0;
      doubted = standing_from log order parts.1;
      shown = shown_from net log (observables net word) (real_alarms order) two.1;
      kept = kept_from (alarms_of order) log.pairs (none_is _ three.1);
    }

linear_test : (net : Net) (log : Log) (word : List ℕ) (order : List Entry) → Linearises net log word order → linearises net log word order ≡ true
linear_test net log word order h =
    join (lists_once (length log.alarms) (alarms_of order) && list_all (may_stand log) order && all_show net log (observables net word) (real_alarms order)) (is_none (wrong_pair (alarms_of order) log.pairs))
    (join (lists_once (length log.alarms) (alarms_of order) && list_all (may_stand log) order) (all_show net log (observables net word) (real_alarms order))
    (join (lists_once (length log.alarms) (alarms_of order)) (list_all (may_stand log) order) (listed_test (length log.alarms) (alarms_of order) h.complete) (standing_test log order h.doubted))
    (shown_test net log (observables net word) (real_alarms order) h.shown))
    (ap is_none (none_wrong (alarms_of order) log.pairs h.kept))

pub explains_decides : ExplainsDecides
explains_decides net log n word order = (
  λ h.
      let two = both (can_run net word && nat_le (need net word) n) (linearises net log word order) h in
      let parts = both (can_run net word) (nat_le (need net word) n) two.0 in
      record { run = (runs_are_local net word).0 parts.0; fits = (need_is_least net word n).1 (most_is (need net word) n parts.1); linear = linear_from net log word order two.1 },
  λ h. join (can_run net word && nat_le (need net word) n) (linearises net log word order)
      (join (can_run net word) (nat_le (need net word) n) ((runs_are_local net word).1 h.run) (is_most (need net word) n ((need_is_least net word n).0 h.fits)))
      (linear_test net log word order h.linear),
)
