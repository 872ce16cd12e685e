-- A run is accepted exactly if it is well matched and explains, and has one answer at most.
use Rattle.std.proofs.Common.{◌≡◌, ◌≢◌, ℕ, ◌+◌, ◌<◌, Bool, true, false, cond, not, ◌&&◌, List, [], ◌∷◌, ◌++◌, length, Option, None, Some, refl, arith, ap, sym, ◌∙◌, subst, Contains, ◌⊎◌, inl, inr}
use Rattle.std.specs.Prelude.{is_some, IsSome, IsSomeAnd, nat_le, option_map, count_by}
use Rattle.std.specs.List.{AllByRecursion, AllZip, cons_option}
use Rattle.std.specs.Option.{option_map_or, option_to_list}
use Rattle.std.proofs.lemmas.List.{append-nil}
use Rattle.std.proofs.lemmas.List.Sums.{sum_by-cons}
use Rattle.des_base.specs.Lists.{EachPair}
use Rattle.des_base.specs.Names.{place_of}
use Rattle.des_base.proofs.BoolLemmas.{both, join, not_false, not_true, is_most, not_most}
use Rattle.des_base.proofs.TableLemmas.{place_of-within}
use Rattle.des_net.specs.Network.{Net, label_of}
use Rattle.des_net.specs.Run.{IsRun, fault_count}
use Rattle.des_net.specs.Width.{need}
use Rattle.des_net.proofs.WidthLemmas.{need_is_least}
use Rattle.log_order.specs.Log.{Log, Alarm, Keeps, labels_of, is_doubtful}
use Rattle.log_order.specs.Adding.{names_of}
use Rattle.log_order.specs.Precedence.{is_in}
use Rattle.std.proofs.lemmas.List.{length-map}
use Rattle.replay.specs.declared.run.RunStep.{RunStep}
use Rattle.replay.specs.declared.run.RunStep.TheVariants.{Happens, Dropped}
use Rattle.replay.specs.declared.replaying.Replayed.{Replayed}
use Rattle.replay.specs.declared.replaying.Replayed.TheVariants.{Accepted, Stuck, BadAlarm, Missing, Order, TooWide}
use Rattle.replay.specs.declared.tracing.Traced.TheVariants.{Ran, Stuck as Halted}
use Rattle.replay.specs.Traced.{word_of, IsStuckAt}
use Rattle.replay.specs.Explanation.{Entry, alarms_of, real_alarms, false_count, may_stand, faults_of, observables, Shows, has_label}
use Rattle.replay.specs.Matching.{alarm_of, alarms_on, is_real, entry_of, order_of, IsWellMatched, suits, suits_label, with_step, bad_alarm, bad_alarm_from, missing_alarm, wrong_pair}
use Rattle.replay.specs.Replayed.{IsReplayed, IsAccepted, RepliesAreUnique, AcceptedExplains}
use Rattle.replay.proofs.ListTests.{text_in, in_text, each_from, none_missing, kept_from, none_wrong, fresh_split, fresh_both, fresh_none}
use Rattle.replay.proofs.TraceLemmas.{traces_are_unique}

-- ---- a step

-- the number of the alarm of this name
abbrev place : Log → List ℕ → Option ℕ
place log name = place_of name (names_of log.alarms)

abbrev entry : Bool → ℕ → Entry
entry real i = record { alarm = i; real = real }

entry_real : (log : Log) (e : ℕ) (name : List ℕ) (o : Option ℕ) → place log name ≡ o → entry_of log (Happens e (Some name)) ≡ option_map (entry true) o
entry_real log e name o g = ap (option_map (entry true)) g

entry_false : (log : Log) (name : List ℕ) (o : Option ℕ) → place log name ≡ o → entry_of log (Dropped name) ≡ option_map (entry false) o
entry_false log name o g = ap (option_map (entry false)) g

alarm_below : (log : Log) (name : List ℕ) (i : ℕ) → place log name ≡ Some i → i < length log.alarms
alarm_below log name i g = subst (λ n. i < n) (length-map log.alarms (λ (a : Alarm). a.name)) (place_of-within name (names_of log.alarms) i (sym g))

label_shown : (net : Net) (log : Log) (e i : ℕ) (label : List ℕ) → label_of net e ≡ Some label → has_label log i label ≡ true → Shows net log e i
label_shown net log e i label is h = subst (λ (o : Option (List ℕ)). IsSomeAnd o (Contains (labels_of log i))) (sym is) (text_in label (labels_of log i) h)

shown_label : (net : Net) (log : Log) (e i : ℕ) (label : List ℕ) → label_of net e ≡ Some label → Shows net log e i → has_label log i label ≡ true
shown_label net log e i label is h = in_text label (labels_of log i) (subst (λ (o : Option (List ℕ)). IsSomeAnd o (Contains (labels_of log i))) is h)

-- ---- the events that can be seen, and the alarms

record Parts (net : Net) (log : Log) (earlier events : List ℕ) (order : List Entry) : Type 0 where
  shown : AllZip (Shows net log) events (real_alarms order)
  doubted : AllByRecursion (λ entry. may_stand log entry ≡ true) order
  below : AllByRecursion (λ i. i < length log.alarms) (alarms_of order)
  fresh : AllByRecursion (λ i. is_in earlier i ≡ false) (alarms_of order)
  once : EachPair (λ i j. i ≢ j) (alarms_of order)

Parts-real : (net : Net) (log : Log) (earlier events : List ℕ) (order : List Entry) (e i : ℕ) → Shows net log e i → i < length log.alarms → is_in earlier i ≡ false → Parts net log (earlier ++ i ∷ []) events order
    → Parts net log earlier (e ∷ events) (entry true i ∷ order)
Parts-real net log earlier events order e i shows below fresh rest =
    let two = fresh_split earlier i (alarms_of order) rest.fresh in
    record { shown = (shows, rest.shown); doubted = (refl, rest.doubted); below = (below, rest.below); fresh = (fresh, two.0); once = (two.1, rest.once) }

Parts-false : (net : Net) (log : Log) (earlier events : List ℕ) (order : List Entry) (i : ℕ) → is_doubtful log i ≡ true → i < length log.alarms → is_in earlier i ≡ false → Parts net log (earlier ++ i ∷ []) events order
    → Parts net log earlier events (entry false i ∷ order)
Parts-false net log earlier events order i doubtful below fresh rest =
    let two = fresh_split earlier i (alarms_of order) rest.fresh in
    record { shown = rest.shown; doubted = (doubtful, rest.doubted); below = (below, rest.below); fresh = (fresh, two.0); once = (two.1, rest.once) }

Parts-after_real : (net : Net) (log : Log) (earlier events : List ℕ) (order : List Entry) (e i : ℕ) → Parts net log earlier (e ∷ events) (entry true i ∷ order) → Parts net log (earlier ++ i ∷ []) events order
Parts-after_real net log earlier events order e i h = record { shown = h.shown.1; doubted = h.doubted.1; below = h.below.1; fresh = fresh_both earlier i (alarms_of order) h.fresh.1 h.once.0; once = h.once.1 }

Parts-after_false : (net : Net) (log : Log) (earlier events : List ℕ) (order : List Entry) (i : ℕ) → Parts net log earlier events (entry false i ∷ order) → Parts net log (earlier ++ i ∷ []) events order
Parts-after_false net log earlier events order i h = record { shown = h.shown; doubted = h.doubted.1; below = h.below.1; fresh = fresh_both earlier i (alarms_of order) h.fresh.1 h.once.0; once = h.once.1 }

-- with an event and an alarm in front, where they are there
abbrev Front : Net → Log → List ℕ → List RunStep → ℕ → Bool → Option Entry → Type 0
Front net log earlier run event seen first = Parts net log earlier (cond seen (event ∷ observables net (word_of run)) (observables net (word_of run))) (cons_option first (order_of log run))

front_is : (net : Net) (log : Log) (earlier : List ℕ) (run : List RunStep) (event : ℕ) (b c : Bool) (o p : Option Entry) → b ≡ c → o ≡ p → Front net log earlier run event b o ≡ Front net log earlier run event c p
front_is net log earlier run event b c o p e f = λ i. Front net log earlier run event (e i) (f i)

-- the run from here on, after these alarms
record Suited (net : Net) (log : Log) (earlier : List ℕ) (run : List RunStep) : Type 0 where
  matched : IsWellMatched net log run
  parts : Parts net log earlier (observables net (word_of run)) (order_of log run)

-- the same after a step
abbrev After : Net → Log → List ℕ → Option ℕ → List RunStep → Type 0
After net log earlier first run = Suited net log (earlier ++ option_to_list first) run

after_none : (net : Net) (log : Log) (earlier : List ℕ) (run : List RunStep) → After net log earlier None run → Suited net log earlier run
after_none net log earlier run h = subst (λ xs. Suited net log xs run) (append-nil earlier) h

none_after : (net : Net) (log : Log) (earlier : List ℕ) (run : List RunStep) → Suited net log earlier run → After net log earlier None run
none_after net log earlier run h = subst (λ xs. Suited net log xs run) (sym (append-nil earlier)) h

known_some : (log : Log) (name : List ℕ) (i : ℕ) → place log name ≡ Some i → IsSome (place log name)
known_some log name i g = ap is_some g

-- ---- a step that suits

event_suits : (net : Net) (log : Log) (earlier : List ℕ) (run : List RunStep) (e : ℕ) (label : Option (List ℕ)) (alarm : Option (List ℕ)) → label_of net e ≡ label → suits_label log earlier label alarm ≡ true
    → After net log earlier (alarm_of log (Happens e alarm)) run → Suited net log earlier (Happens e alarm ∷ run)
event_suits net log earlier run e None None is good rest = record {
  matched = (record { named = sym (ap is_some is); known = tt }, rest.matched);
  parts = subst (λ (T : Type 0). T) (sym (front_is net log earlier run e (is_some (label_of net e)) false None None (ap is_some is) refl)) (after_none net log earlier run rest).parts;
}
event_suits net log earlier run e None (Some name) is good rest = cc
event_suits net log earlier run e (Some label) None is good rest = cc
event_suits net log earlier run e (Some label) (Some name) is good rest = by (place log name) refl good
  where
    by : (o : Option ℕ) → place log name ≡ o → option_map_or (λ i. has_label log i label && not (is_in earlier i)) o false ≡ true → Suited net log earlier (Happens e (Some name) ∷ run)
    by None g h = cc
    by (Some i) g h =
        let two = both (has_label log i label) (not (is_in earlier i)) h in
        let rest' = subst (λ first. After net log earlier first run) g rest in record {
          matched = (record { named = sym (ap is_some is); known = known_some log name i g }, rest.matched);
          parts = subst (λ (T : Type 0). T) (sym (front_is net log earlier run e (is_some (label_of net e)) true (entry_of log (Happens e (Some name))) (Some (entry true i)) (ap is_some is) (entry_real log e name (Some i) g)))
              (Parts-real net log earlier (observables net (word_of run)) (order_of log run) e i (label_shown net log e i label is two.0) (alarm_below log name i g) (not_true _ two.1) rest'.parts);
        }

step_suits : (net : Net) (log : Log) (earlier : List ℕ) (run : List RunStep) (step : RunStep) → suits net log earlier step ≡ true → Suited net log (with_step log earlier step) run → Suited net log earlier (step ∷ run)
step_suits net log earlier run (Happens e alarm) good rest = event_suits net log earlier run e (label_of net e) alarm refl good rest
step_suits net log earlier run (Dropped name) good rest = by (place log name) refl good
  where
    by : (o : Option ℕ) → place log name ≡ o → option_map_or (λ i. is_doubtful log i && not (is_in earlier i)) o false ≡ true → Suited net log earlier (Dropped name ∷ run)
    by None g h = cc
    by (Some i) g h =
        let two = both (is_doubtful log i) (not (is_in earlier i)) h in
        let rest' = subst (λ first. After net log earlier first run) g rest in record {
          matched = (record { named = tt; known = known_some log name i g }, rest.matched);
          parts = subst (λ first. Parts net log earlier (observables net (word_of run)) (cons_option first (order_of log run))) (sym (entry_false log name (Some i) g))
              (Parts-false net log earlier (observables net (word_of run)) (order_of log run) i two.0 (alarm_below log name i g) (not_true _ two.1) rest'.parts);
        }

suited_from : (net : Net) (log : Log) (earlier : List ℕ) (at : ℕ) (run : List RunStep) → bad_alarm_from net log earlier at run ≡ None → Suited net log earlier run
suited_from net log earlier at [] none = record { matched = tt; parts = record { shown = tt; doubted = tt; below = tt; fresh = tt; once = tt } }
suited_from net log earlier at (step ∷ run) none = by (suits net log earlier step) refl none (suited_from net log (with_step log earlier step) (at + 1) run)
  where
    by : (b : Bool) → suits net log earlier step ≡ b → cond b (bad_alarm_from net log (with_step log earlier step) (at + 1) run) (Some at) ≡ None
        → (bad_alarm_from net log (with_step log earlier step) (at + 1) run ≡ None → Suited net log (with_step log earlier step) run) → Suited net log earlier (step ∷ run)
    by true e h rest = step_suits net log earlier run step e (rest h)
    by false e h rest = cc

-- ---- and the other way round: the first step suits, and the rest go on from it

record Splits (net : Net) (log : Log) (earlier : List ℕ) (step : RunStep) (run : List RunStep) : Type 0 where
  good : suits net log earlier step ≡ true
  rest : Suited net log (with_step log earlier step) run

event_splits : (net : Net) (log : Log) (earlier : List ℕ) (run : List RunStep) (e : ℕ) (label : Option (List ℕ)) (alarm : Option (List ℕ)) → label_of net e ≡ label → Suited net log earlier (Happens e alarm ∷ run)
    → Splits net log earlier (Happens e alarm) run
event_splits net log earlier run e None None is h = record {
  good = ap (λ o. suits_label log earlier o None) is;
  rest = none_after net log earlier run (record { matched = h.matched.1; parts = subst (λ (T : Type 0). T) (front_is net log earlier run e (is_some (label_of net e)) false None None (ap is_some is) refl) h.parts });
}
event_splits net log earlier run e None (Some name) is h = let clash : true ≡ false = h.matched.0.named ∙ ap is_some is in cc
event_splits net log earlier run e (Some label) None is h = let clash : false ≡ true = h.matched.0.named ∙ ap is_some is in cc
event_splits net log earlier run e (Some label) (Some name) is h = by (place log name) refl h.matched.0.known
  where
    by : (o : Option ℕ) → place log name ≡ o → IsSome o → Splits net log earlier (Happens e (Some name)) run
    by None g some = cc
    by (Some i) g some =
        let parts : Parts net log earlier (e ∷ observables net (word_of run)) (entry true i ∷ order_of log run) =
        subst (λ (T : Type 0). T) (front_is net log earlier run e (is_some (label_of net e)) true (entry_of log (Happens e (Some name))) (Some (entry true i)) (ap is_some is) (entry_real log e name (Some i) g)) h.parts in record {
          good = ap (λ o. suits_label log earlier o (Some name)) is ∙ ap (λ o. option_map_or (λ j. has_label log j label && not (is_in earlier j)) o false) g
              ∙ join (has_label log i label) (not (is_in earlier i)) (shown_label net log e i label is parts.shown.0) (not_false _ parts.fresh.0);
          rest = subst (λ first. After net log earlier first run) (sym g)
              (record { matched = h.matched.1; parts = Parts-after_real net log earlier (observables net (word_of run)) (order_of log run) e i parts });
        }

step_splits : (net : Net) (log : Log) (earlier : List ℕ) (run : List RunStep) (step : RunStep) → Suited net log earlier (step ∷ run) → Splits net log earlier step run
step_splits net log earlier run (Happens e alarm) h = event_splits net log earlier run e (label_of net e) alarm refl h
step_splits net log earlier run (Dropped name) h = by (place log name) refl h.matched.0.known
  where
    by : (o : Option ℕ) → place log name ≡ o → IsSome o → Splits net log earlier (Dropped name) run
    by None g some = cc
    by (Some i) g some =
        let parts : Parts net log earlier (observables net (word_of run)) (entry false i ∷ order_of log run) =
        subst (λ first. Parts net log earlier (observables net (word_of run)) (cons_option first (order_of log run))) (entry_false log name (Some i) g) h.parts in record {
          good = ap (λ o. option_map_or (λ j. is_doubtful log j && not (is_in earlier j)) o false) g ∙ join (is_doubtful log i) (not (is_in earlier i)) parts.doubted.0 (not_false _ parts.fresh.0);
          rest = subst (λ first. After net log earlier first run) (sym g)
              (record { matched = h.matched.1; parts = Parts-after_false net log earlier (observables net (word_of run)) (order_of log run) i parts });
        }

none_bad : (net : Net) (log : Log) (earlier : List ℕ) (at : ℕ) (run : List RunStep) → Suited net log earlier run → bad_alarm_from net log earlier at run ≡ None
none_bad net log earlier at [] h = refl
none_bad net log earlier at (step ∷ run) h =
    let splits = step_splits net log earlier run step h in
    ap (λ b. cond b (bad_alarm_from net log (with_step log earlier step) (at + 1) run) (Some at)) splits.good ∙ none_bad net log (with_step log earlier step) (at + 1) run splits.rest

-- ---- accepted runs

-- the alarms of the order that a run gives
step_alarms : (o : Option ℕ) (real : Bool) (rest : List Entry) (alarms : List ℕ) → alarms_of rest ≡ alarms → alarms_of (cons_option (option_map (entry real) o) rest) ≡ cons_option o alarms
step_alarms None real rest alarms h = h
step_alarms (Some i) real rest alarms h = ap (λ is. i ∷ is) h

pub order_alarms : (log : Log) (run : List RunStep) → alarms_of (order_of log run) ≡ alarms_on log run
order_alarms log [] = refl
order_alarms log (step ∷ run) = step_alarms (alarm_of log step) (is_real step) (order_of log run) (alarms_on log run) (order_alarms log run)

-- Where nothing is wrong with the alarms, the false ones are the steps that have none with an event.
step_count : (o : Option ℕ) (real : Bool) (rest : List Entry) → is_some o ≡ true → false_count (cons_option (option_map (entry real) o) rest) ≡ cond (not real) 1 0 + false_count rest
step_count None real rest h = cc
step_count (Some i) real rest h = sum_by-cons (λ (e : Entry). cond (not e.real) 1 0) (entry real i) rest

pub false_steps : (net : Net) (log : Log) (run : List RunStep) → IsWellMatched net log run → false_count (order_of log run) ≡ count_by (λ step. not (is_real step)) run
false_steps net log [] matched = refl
false_steps net log (Happens e None ∷ run) matched =
    let rest = false_steps net log run matched.1 in
    let right = sum_by-cons (λ (step : RunStep). cond (not (is_real step)) 1 0) (Happens e None) run in
    omega (arith, rest, right)
false_steps net log (Happens e (Some name) ∷ run) matched =
    let rest = false_steps net log run matched.1 in
    let here = step_count (place log name) true (order_of log run) matched.0.known in
    let right = sum_by-cons (λ (step : RunStep). cond (not (is_real step)) 1 0) (Happens e (Some name)) run in
    omega (arith, rest, here, right)
false_steps net log (Dropped name ∷ run) matched =
    let rest = false_steps net log run matched.1 in
    let here = step_count (place log name) false (order_of log run) matched.0.known in
    let right = sum_by-cons (λ (step : RunStep). cond (not (is_real step)) 1 0) (Dropped name) run in
    omega (arith, rest, here, right)

pub suited_faults : (net : Net) (log : Log) (run : List RunStep) (faults dropped : ℕ) → bad_alarm net log run ≡ None → faults ≡ fault_count net (word_of run) → dropped ≡ count_by (λ step. not (is_real step)) run →
    faults + dropped ≡ faults_of net (word_of run) (order_of log run)
suited_faults net log run faults dropped none events alarms =
    let same = false_steps net log run (suited_from net log [] 1 run none).matched in omega (arith, events, alarms, same)

pub accepted_explains : AcceptedExplains
accepted_explains net log run n faults = (
  λ h.
      let suited = suited_from net log [] 1 run h.1.suit in
      let same = sym (order_alarms log run) in record {
        matched = suited.matched;
        explains = record {
          run = h.0;
          fits = (need_is_least net (word_of run) n).1 h.2;
          linear = record {
            complete = record { below = suited.parts.below; each = subst (λ is. (i : ℕ) → i < length log.alarms → Contains is i) same (each_from (length log.alarms) (alarms_on log run) h.1.complete); once = suited.parts.once };
            doubted = suited.parts.doubted;
            shown = suited.parts.shown;
            kept = subst (λ is. Keeps is log.pairs) same (kept_from (alarms_on log run) log.pairs h.1.kept);
          };
        };
        faults_are = h.3;
      },
  λ h.
      let linear = h.explains.linear in
      let same = order_alarms log run in (
        h.explains.run,
        record {
          suit = none_bad net log [] 1 run (record { matched = h.matched; parts = record { shown = linear.shown; doubted = linear.doubted; below = linear.complete.below; fresh = fresh_none (alarms_of (order_of log run)); once = linear.complete.once } });
          complete = none_missing (length log.alarms) (alarms_on log run) (subst (λ is. (i : ℕ) → i < length log.alarms → Contains is i) same linear.complete.each);
          kept = none_wrong (alarms_on log run) log.pairs (subst (λ is. Keeps is log.pairs) same linear.kept);
        },
        (need_is_least net (word_of run) n).0 h.explains.fits,
        h.faults_are,
      ),
)

-- ---- one answer

-- what the answer to a run that can be performed is
abbrev answer : Option ℕ → Option ℕ → Option (ℕ × ℕ) → ℕ → ℕ → ℕ → Replayed
answer (Some at) missing wrong pieces n faults = BadAlarm at
answer None (Some alarm) wrong pieces n faults = Missing alarm
answer None None (Some pair) pieces n faults = Order pair.0 pair.1
answer None None None pieces n faults = cond (nat_le pieces n) (Accepted faults) (TooWide pieces)

abbrev the_answer : Net → Log → List RunStep → ℕ → Replayed
the_answer net log run n =
    answer (bad_alarm net log run) (missing_alarm (length log.alarms) (alarms_on log run)) (wrong_pair (alarms_on log run) log.pairs) (need net (word_of run)) n (faults_of net (word_of run) (order_of log run))

answer_is : (a b : Option ℕ) (m : Option ℕ) (w : Option (ℕ × ℕ)) (m' : Option ℕ) (w' : Option (ℕ × ℕ)) (pieces n faults : ℕ) → b ≡ a → m ≡ m' → w ≡ w' → answer a m' w' pieces n faults ≡ answer b m w pieces n faults
answer_is a b m w m' w' pieces n faults e f g = λ i. answer (sym e i) (sym f i) (sym g i) pieces n faults

abbrev Told : Net → Log → List RunStep → ℕ → Replayed → Type 0
Told net log run n a = ((at : ℕ) × (a ≡ Stuck at) × IsStuckAt net run at) ⊎ (IsRun net (word_of run) × (a ≡ the_answer net log run n))

told : (net : Net) (log : Log) (run : List RunStep) (n : ℕ) (a : Replayed) → IsReplayed net log run n a → Told net log run n a
told net log run n (Stuck at) h = inl (at, refl, h)
told net log run n (BadAlarm at) h = inr (h.0, ap (λ o. answer o (missing_alarm (length log.alarms) (alarms_on log run)) (wrong_pair (alarms_on log run) log.pairs) (need net (word_of run)) n (faults_of net (word_of run) (order_of log run))) (sym h.1))
told net log run n (Missing alarm) h = inr (h.0, answer_is None _ _ _ (Some alarm) (wrong_pair (alarms_on log run) log.pairs) (need net (word_of run)) n (faults_of net (word_of run) (order_of log run)) h.1 h.2 refl)
told net log run n (Order first second) h = inr (h.0, answer_is None _ _ _ None (Some (first, second)) (need net (word_of run)) n (faults_of net (word_of run) (order_of log run)) h.1 h.2 h.3)
told net log run n (TooWide pieces) h = inr (
  h.0,
  ap TooWide h.2 ∙ ap (λ b. cond b (Accepted (faults_of net (word_of run) (order_of log run))) (TooWide (need net (word_of run)))) (sym (not_most (need net (word_of run)) n (subst (λ k. n < k) h.2 h.3)))
      ∙ answer_is None _ _ _ None None (need net (word_of run)) n (faults_of net (word_of run) (order_of log run)) h.1.suit h.1.complete h.1.kept,
)
told net log run n (Accepted faults) h = inr (
  h.0,
  ap Accepted h.3 ∙ ap (λ b. cond b (Accepted (faults_of net (word_of run) (order_of log run))) (TooWide (need net (word_of run)))) (sym (is_most (need net (word_of run)) n h.2))
      ∙ answer_is None _ _ _ None None (need net (word_of run)) n (faults_of net (word_of run) (order_of log run)) h.1.suit h.1.complete h.1.kept,
)

not_both : (net : Net) (steps : List RunStep) (at : ℕ) → IsRun net (word_of steps) → IsStuckAt net steps at → ⊥
not_both net steps at run stuck = let e = traces_are_unique net steps (Ran (fault_count net (word_of steps))) (Halted at) (run, refl) stuck in cc

same_place : (net : Net) (steps : List RunStep) (i j : ℕ) → IsStuckAt net steps i → IsStuckAt net steps j → i ≡ j
same_place net steps i j a b = let e = traces_are_unique net steps (Halted i) (Halted j) a b in cc

pub replies_are_unique : RepliesAreUnique
replies_are_unique net log run n a b p q = elim (told net log run n a p) [
  | inl (i, is, stuck) ↦ elim (told net log run n b q) [
    | inl (j, js, stuck') ↦ is ∙ ap Stuck (same_place net run i j stuck stuck') ∙ sym js
    | inr (runs, bs) ↦ absurd (not_both net run i runs stuck)
  ]
  | inr (runs, as') ↦ elim (told net log run n b q) [
    | inl (j, js, stuck) ↦ absurd (not_both net run j runs stuck)
    | inr (runs', bs) ↦ as' ∙ sym bs
  ]
]

-- a run's answer says that it is accepted exactly if it is
pub accepted_where : (net : Net) (log : Log) (run : List RunStep) (n : ℕ) (replayed : Replayed) → IsReplayed net log run n replayed → (faults : ℕ) → ((replayed ≡ Accepted faults → IsAccepted net log run n faults) × (IsAccepted net log run n faults → replayed ≡ Accepted faults))
accepted_where net log run n replayed h faults = (
  λ e. (accepted_explains net log run n faults).0 (subst (IsReplayed net log run n) e h),
  λ accepted. replies_are_unique net log run n replayed (Accepted faults) h ((accepted_explains net log run n faults).1 accepted),
)
