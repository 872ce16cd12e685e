-- Labels that are each there once.
use Rattle.std.proofs.Common.{◌≡◌, ℕ, suc, ◌+◌, ◌<◌, ◌≤◌, Bool, true, false, cond, ◌||◌, List, [], ◌∷◌, ◌++◌, length, Option, None, Some, refl, arith, ap, length-append}
use Rattle.std.specs.Prelude.{bytes_eq, option_map, nat_le, nat_lt, is_some}
use Rattle.std.specs.List.{list_any}
use Rattle.des_base.proofs.BoolLemmas.{neither, most_not, less_not}
use Rattle.des_base.specs.Names.{place_of, AreNames, IsName}
use Rattle.des_base.proofs.TableLemmas.{AreNames-push}
use Rattle.log_order.specs.Log.{Log, Alarm, an_alarm}
use Rattle.log_order.specs.Adding.{with_text, with_texts, names_of, alarm_refusal, IsAlarm}
use Rattle.log_order.specs.declared.TheConstants.{MOST_LABELS, MOST_ALARMS}
use Rattle.log_order.specs.declared.refusal.LogRefusal.TheVariants.{Double, NoLabels, Limit}

none_step : (b r : Bool) (q : Option ℕ) → (b || r) ≡ false → (r ≡ false → q ≡ None) → cond b (Some 0) (option_map suc q) ≡ None
none_step true r q h f = cc
none_step false r q h f = ap (option_map suc) (f h)

-- a text that isn't among the others has no place
pub place_of-absent : (text : List ℕ) (texts : List (List ℕ)) → list_any (bytes_eq text) texts ≡ false → place_of text texts ≡ None
place_of-absent text [] h = refl
place_of-absent text (x ∷ xs) h = none_step (bytes_eq text x) (list_any (bytes_eq text) xs) (place_of text xs) h (place_of-absent text xs)

pub with_text-there : (old : List (List ℕ)) (text : List ℕ) → list_any (bytes_eq text) old ≡ true → with_text old text ≡ old
with_text-there old text h = ap (λ b. cond b old (old ++ text ∷ [])) h

pub with_text-new : (old : List (List ℕ)) (text : List ℕ) → list_any (bytes_eq text) old ≡ false → with_text old text ≡ old ++ text ∷ []
with_text-new old text h = ap (λ b. cond b old (old ++ text ∷ [])) h

pub names_more : (old : List (List ℕ)) (text : List ℕ) → IsName text → length old < MOST_LABELS → list_any (bytes_eq text) old ≡ false → AreNames old → AreNames (old ++ text ∷ [])
names_more old text name few none names = AreNames-push old text names name (place_of-absent text old none) (omega arith)

pub ruleset with_text_is = (with_text-there, with_text-new, names_more)

grown_step : (b : Bool) (old : List (List ℕ)) (text : List ℕ) → length (cond b old (old ++ text ∷ [])) ≤ length old + 1
grown_step true old text = omega arith
grown_step false old text = omega (arith, length-append old (text ∷ []))

longer_step : (b : Bool) (old : List (List ℕ)) (text : List ℕ) → length old ≤ length (cond b old (old ++ text ∷ []))
longer_step true old text = omega arith
longer_step false old text = omega (arith, length-append old (text ∷ []))

pub length-with_text : (old : List (List ℕ)) (text : List ℕ) → length (with_text old text) ≤ length old + 1
length-with_text old text = grown_step (list_any (bytes_eq text) old) old text

pub with_texts-few : (old others : List (List ℕ)) → length (with_texts old others) ≤ length old + length others
with_texts-few old [] = omega arith
with_texts-few old (x ∷ xs) = let rest = with_texts-few (with_text old x) xs in let step = length-with_text old x in omega arith

pub with_texts-longer : (old others : List (List ℕ)) → length old ≤ length (with_texts old others)
with_texts-longer old [] = omega arith
with_texts-longer old (x ∷ xs) = let rest = with_texts-longer (with_text old x) xs in let step = longer_step (list_any (bytes_eq x) old) old x in omega arith

some : (labels : List (List ℕ)) → 1 ≤ length labels → 1 ≤ length (with_texts [] labels)
some [] h = absurd (omega arith)
some (x ∷ xs) h = with_texts-longer (x ∷ []) xs

-- an alarm from the labels that are given
pub IsAlarm-from : (name : List ℕ) (labels : List (List ℕ)) (doubtful : Bool) → AreNames (with_texts [] labels) → 1 ≤ length labels → length labels ≤ MOST_LABELS → IsAlarm (an_alarm name (with_texts [] labels) doubtful)
IsAlarm-from name labels doubtful names h few = record { labels = names; some = some labels h; few = let less = with_texts-few [] labels in omega arith }

-- ---- an alarm that isn't refused

pub record IsNewAlarm (log : Log) (name : List ℕ) (labels : List (List ℕ)) : Type 0 where
  pub new : place_of name (names_of log.alarms) ≡ None
  pub some : 1 ≤ length labels
  pub few : length labels ≤ MOST_LABELS
  pub room : length log.alarms < MOST_ALARMS

new_step : (o : Option ℕ) (l m : ℕ) → cond (is_some o) (Some Double) (cond (nat_le l 0) (Some NoLabels) (cond (nat_le MOST_ALARMS m || nat_lt MOST_LABELS l) (Some Limit) None)) ≡ None
    → (o ≡ None) × (nat_le l 0 ≡ false) × ((nat_le MOST_ALARMS m || nat_lt MOST_LABELS l) ≡ false)
new_step (Some x) l m h = cc
new_step None l m h = new_rest (nat_le l 0) (nat_le MOST_ALARMS m || nat_lt MOST_LABELS l) h
  where
    new_rest : (a b : Bool) → cond a (Some NoLabels) (cond b (Some Limit) None) ≡ None → (let o : Option ℕ = None in o ≡ None) × (a ≡ false) × (b ≡ false)
    new_rest true b h = cc
    new_rest false true h = cc
    new_rest false false h = (refl, refl, refl)

pub IsNewAlarm-from : (log : Log) (name : List ℕ) (labels : List (List ℕ)) → alarm_refusal log name labels ≡ None → IsNewAlarm log name labels
unfolding alarm_refusal
IsNewAlarm-from log name labels h =
    let parts = new_step (place_of name (names_of log.alarms)) (length labels) (length log.alarms) h in
    let limits = neither _ _ parts.2 in
    record { new = parts.0; some = (let k = most_not _ _ parts.1 in omega arith); few = less_not _ _ limits.1; room = most_not _ _ limits.0 }

pub names_of-push : (alarms : List Alarm) (alarm : Alarm) → names_of (alarms ++ alarm ∷ []) ≡ names_of alarms ++ alarm.name ∷ []
names_of-push [] alarm = refl
names_of-push (x ∷ xs) alarm = ap (λ l. x.name ∷ l) (names_of-push xs alarm)

pub length-names_of : (alarms : List Alarm) → length (names_of alarms) ≡ length alarms
length-names_of [] = refl
length-names_of (x ∷ xs) = ap suc (length-names_of xs)

pub few_ids : (ids : List (List ℕ)) (alarms : List Alarm) → ids ≡ names_of alarms → length alarms < MOST_ALARMS → length ids < MOST_ALARMS
few_ids ids alarms e l = omega (arith, ap length e, length-names_of alarms)
