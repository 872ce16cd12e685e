-- What explains a log, whatever the ids of its alarms.
use Rattle.std.proofs.Common.{◌≡◌, ◌↔◌, ◌||◌, ℕ, zero, suc, Bool, false, List, [], ◌∷◌, length, map, refl, sym, ap, subst, Contains, slice_get, option_map, unwrap_or}
use Rattle.std.specs.List.{AllZip, AllByRecursion}
use Rattle.std.specs.Prelude.{IsSomeAnd, IsTrue}
use Rattle.des_net.specs.Network.{Net, label_of}
use Rattle.log_order.specs.Log.{Log, Alarm, an_alarm, ListsOnce, labels_of, is_doubtful}
use Rattle.log_encode.proofs.TakenLemmas.{map_count}
use Rattle.log_encode.specs.Nameless.{NamesDontMatter, without_names}
use Rattle.replay.specs.Explanation.{Entry, alarms_of, real_alarms, Shows, Linearises, observables}

labels_same : (log : Log) (i : ℕ) → labels_of (without_names log) i ≡ labels_of log i
labels_same log i = by log.alarms i
  where
    by : (alarms : List Alarm) (k : ℕ) → unwrap_or (option_map (λ (a : Alarm). a.labels) (slice_get (map (λ (a : Alarm). an_alarm [] a.labels a.doubtful) alarms) k)) [] ≡ unwrap_or (option_map (λ (a : Alarm). a.labels) (slice_get alarms k)) []
    by [] k = refl
    by (x ∷ alarms) zero = refl
    by (x ∷ alarms) (suc k) = by alarms k

doubt_same : (log : Log) (i : ℕ) → is_doubtful (without_names log) i ≡ is_doubtful log i
doubt_same log i = by log.alarms i
  where
    by : (alarms : List Alarm) (k : ℕ) → unwrap_or (option_map (λ (a : Alarm). a.doubtful) (slice_get (map (λ (a : Alarm). an_alarm [] a.labels a.doubtful) alarms) k)) false ≡ unwrap_or (option_map (λ (a : Alarm). a.doubtful) (slice_get alarms k)) false
    by [] k = refl
    by (x ∷ alarms) zero = refl
    by (x ∷ alarms) (suc k) = by alarms k

shows_same : (net : Net) (log : Log) (e i : ℕ) → Shows net log e i ≡ Shows net (without_names log) e i
shows_same net log e i = ap (λ ls. IsSomeAnd (label_of net e) (Contains ls)) (sym (labels_same log i))

zip_same : (net : Net) (log : Log) (es is : List ℕ) → AllZip (Shows net log) es is ↔ AllZip (Shows net (without_names log)) es is
zip_same net log [] [] = (λ h. h, λ h. h)
zip_same net log [] (i ∷ is) = (λ h. h, λ h. h)
zip_same net log (e ∷ es) [] = (λ h. h, λ h. h)
zip_same net log (e ∷ es) (i ∷ is) =
    let rest = zip_same net log es is in
    (λ h. (subst (λ P. P) (shows_same net log e i) h.0, rest.0 h.1), λ h. (subst (λ P. P) (sym (shows_same net log e i)) h.0, rest.1 h.1))

count_same : (log : Log) → length (without_names log).alarms ≡ length log.alarms
count_same log = map_count (λ (a : Alarm). an_alarm [] a.labels a.doubtful) log.alarms

stand_same : {p q : Entry → Bool} (order : List Entry) → ((entry : Entry) → IsTrue (p entry) → IsTrue (q entry)) → AllByRecursion (λ entry. IsTrue (p entry)) order → AllByRecursion (λ entry. IsTrue (q entry)) order
stand_same [] same all = tt
stand_same (entry ∷ order) same all = (same entry all.0, stand_same order same all.1)

linear_same : (net : Net) (log : Log) (word : List ℕ) (order : List Entry) → Linearises net log word order ↔ Linearises net (without_names log) word order
linear_same net log word order = (
  λ h. record {
    complete = subst (λ k. ListsOnce k (alarms_of order)) (sym (count_same log)) h.complete;
    doubted = stand_same order (λ entry. subst (λ b. IsTrue (entry.real || b)) (sym (doubt_same log entry.alarm))) h.doubted;
    shown = (zip_same net log (observables net word) (real_alarms order)).0 h.shown;
    kept = h.kept;
  },
  λ h. record {
    complete = subst (λ k. ListsOnce k (alarms_of order)) (count_same log) h.complete;
    doubted = stand_same order (λ entry. subst (λ b. IsTrue (entry.real || b)) (doubt_same log entry.alarm)) h.doubted;
    shown = (zip_same net log (observables net word) (real_alarms order)).1 h.shown;
    kept = h.kept;
  },
)

pub names_dont_matter : NamesDontMatter
names_dont_matter net log n word order = (
  λ h. record { run = h.run; fits = h.fits; linear = (linear_same net log word order).0 h.linear },
  λ h. record { run = h.run; fits = h.fits; linear = (linear_same net log word order).1 h.linear },
)
