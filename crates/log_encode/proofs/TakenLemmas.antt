-- The events that a new alarm may stand for, found among the ends of chains.
use Rattle.std.proofs.Common.{◌≡◌, ℕ, suc, ◌+◌, ◌*◌, ◌≤◌, ◌∙◌, Bool, true, false, List, [], ◌∷◌, ◌++◌, length, map, filter, Option, Some, None, refl, sym, ap, arith, slice_get, option_map, unwrap_or, length-append}
use Rattle.std.specs.Prelude.{is_some, bytes_eq}
use Rattle.std.specs.List.{list_any}
use Rattle.std.specs.Option.{option_map_or}
use Rattle.des_base.proofs.Elements.{filter_alike}
use Rattle.des_base.specs.ChainCount.{chain_count}
use Rattle.des_base.specs.Lists.{numbers_below}
use Rattle.des_net.specs.Network.{Net, label_of, observable_events}
use Rattle.question_clauses.proofs.Numbered.{link_size}
use Rattle.log_order.specs.Log.{Log, Alarm}
use Rattle.question_clauses.specs.Additions.{alarm_added, with_addition}
use Rattle.question_clauses.specs.Drafts.{taken_events}
use Rattle.question_clauses.specs.LogClauses.{chain}
use Rattle.question_clauses.specs.LogNames.{added_meanings, alarm_meanings, match_chains, false_meanings, link_meanings}
use Rattle.question_clauses.proofs.Drafts.{flat_length}
use Rattle.log_encode.specs.AlarmVariables.{alarm_variable_count, false_width}
use Rattle.log_encode.specs.declared.taken.ChainEnd.{ChainEnd}
use Rattle.log_encode.specs.declared.taken.Taken.{Taken}
use Rattle.log_encode.specs.Written.{taken_from}
use Rattle.replay.specs.Explanation.{is_matching, has_any_label}
use Rattle.question_clauses.specs.LaidOut.{chain_meanings}
use Rattle.std.specs.Prelude.{flat_map}
use Rattle.std.proofs.lemmas.List.FromFn.{length-range_with_len}
use Rattle.prop_core.specs.VariableNames.{done, some_of_first, of_matches}

get_last : (xs : List Alarm) (new : Alarm) → slice_get (xs ++ new ∷ []) (length xs) ≡ Some new
get_last [] new = refl
get_last (x ∷ xs) new = get_last xs new

-- an event suits the new alarm where it has one of its labels
pub suits_new : (net : Net) (log : Log) (new : Alarm) (e : ℕ) → is_matching net (with_addition log (alarm_added new)) e (length log.alarms) ≡ has_any_label net new.labels e
suits_new net log new e = ap (λ o. option_map_or (λ label. list_any (bytes_eq label) (unwrap_or (option_map (λ (alarm : Alarm). alarm.labels) o) [])) (label_of net e) false) (get_last log.alarms new)

-- what passes the narrower test is sought among what passes the wider
filter_within : (p q : ℕ → Bool) (xs : List ℕ) → ((x : ℕ) → p x ≡ true → q x ≡ true) → filter p (filter q xs) ≡ filter p xs
filter_within p q [] wider = refl
filter_within p q (x ∷ xs) wider = by (q x) refl (p x) refl (filter_within p q xs wider)
  where
    by : (b : Bool) → q x ≡ b → (a : Bool) → p x ≡ a → filter p (filter q xs) ≡ filter p xs → filter p (filter q (x ∷ xs)) ≡ filter p (x ∷ xs)
    by true e true f later = rw (e, f) (ap (λ rest. x ∷ rest) later)
    by true e false f later = rw (e, f) later
    by false e true f later = let both : q x ≡ true = wider x f in cc
    by false e false f later = rw (e, f) later

labelled_is_seen : (net : Net) (labels : List (List ℕ)) (e : ℕ) → has_any_label net labels e ≡ true → is_some (label_of net e) ≡ true
labelled_is_seen net labels e h = by (label_of net e) refl h
  where
    by : (o : Option (List ℕ)) → label_of net e ≡ o → option_map_or (λ label. list_any (bytes_eq label) labels) o false ≡ true → is_some (label_of net e) ≡ true
    by None is k = cc
    by (Some label) is k = rw is refl

pub taken_is_filter : (net : Net) (labels : List (List ℕ)) (ends : List ChainEnd) → map (λ (taken : Taken). taken.event) (taken_from net labels ends) ≡ filter (has_any_label net labels) (map (λ (end : ChainEnd). end.event) ends)
taken_is_filter net labels [] = refl
taken_is_filter net labels (end ∷ ends) = by (has_any_label net labels end.event) refl (taken_is_filter net labels ends)
  where
    by : (b : Bool) → has_any_label net labels end.event ≡ b → map (λ (taken : Taken). taken.event) (taken_from net labels ends) ≡ filter (has_any_label net labels) (map (λ (end : ChainEnd). end.event) ends) →
        map (λ (taken : Taken). taken.event) (taken_from net labels (end ∷ ends)) ≡ filter (has_any_label net labels) (map (λ (end : ChainEnd). end.event) (end ∷ ends))
    by true e later = rw e (ap (λ rest. end.event ∷ rest) later)
    by false e later = rw e later

pub taken_are_events : (net : Net) (log : Log) (new : Alarm) (ends : List ChainEnd) → map (λ (end : ChainEnd). end.event) ends ≡ observable_events net →
    map (λ (taken : Taken). taken.event) (taken_from net new.labels ends) ≡ taken_events net log new
taken_are_events net log new ends is =
    taken_is_filter net new.labels ends ∙ ap (filter (has_any_label net new.labels)) is
    ∙ filter_within (has_any_label net new.labels) (λ e. is_some (label_of net e)) (numbers_below (length net.events)) (labelled_is_seen net new.labels)
    ∙ sym (filter_alike (λ e. is_matching net (with_addition log (alarm_added new)) e (length log.alarms)) (has_any_label net new.labels) (numbers_below (length net.events)) (suits_new net log new))

pub map_count : {X Y : Type 0} (f : X → Y) (xs : List X) → length (map f xs) ≡ length xs
map_count f [] = refl
map_count f (x ∷ xs) = ap suc (map_count f xs)

numbers_count : (k : ℕ) → length (numbers_below k) ≡ k
numbers_count k = length-range_with_len 0 k

false_count : (b : Bool) (i : ℕ) → length (false_meanings b i) ≡ false_width b
false_count true i = refl
false_count false i = refl

pub false_is_small : (b : Bool) → false_width b ≤ 1
false_is_small true = omega arith
false_is_small false = omega arith

-- events before anything is linked to them
abbrev pub unlinked : ℕ → Taken
unlinked e = record { event = e; last = None }

pub events_again : (events : List ℕ) → map (λ (taken : Taken). taken.event) (map unlinked events) ≡ events
events_again [] = refl
events_again (e ∷ events) = ap (λ rest. e ∷ rest) (events_again events)

-- how many variables a new alarm takes
pub width_is : (net : Net) (log : Log) (n : ℕ) (new : Alarm) (takes : List Taken) → map (λ (taken : Taken). taken.event) takes ≡ taken_events net log new →
    length (added_meanings net log n (alarm_added new)) ≡ alarm_variable_count (length takes) n + false_width new.doubtful
width_is net log n new takes is =
    let links = flat_length (λ e. link_meanings n (length log.alarms) e (length (chain net log e))) (taken_events net log new) (1 + n * 2) (λ e. link_size n (length log.alarms) e (length (chain net log e))) in
    let count : length (taken_events net log new) ≡ length takes = ap length (sym is) ∙ map_count (λ (taken : Taken). taken.event) takes in
    let dones : length (map (λ t. done (length log.alarms) t) (numbers_below (suc n))) ≡ suc n = map_count (λ t. done (length log.alarms) t) (numbers_below (suc n)) ∙ numbers_count (suc n) in
    let whole = length-append (alarm_meanings net log n new) (match_chains n (length log.alarms) (length (taken_events net log new)) ++ false_meanings new.doubtful (length log.alarms)) in
    let both = length-append (match_chains n (length log.alarms) (length (taken_events net log new))) (false_meanings new.doubtful (length log.alarms)) in
    let two = length-append (flat_map (λ e. link_meanings n (length log.alarms) e (length (chain net log e))) (taken_events net log new)) (map (λ t. done (length log.alarms) t) (numbers_below (suc n))) in
    let chains = flat_length (λ t. chain_meanings (of_matches (length log.alarms) (suc t)) (length (taken_events net log new))) (numbers_below n) (chain_count (length (taken_events net log new)))
    (λ t. map_count (λ k. some_of_first (of_matches (length log.alarms) (suc t)) (suc k)) (numbers_below (chain_count (length (taken_events net log new)))) ∙ numbers_count (chain_count (length (taken_events net log new)))) in
    let row = ap (λ k. k * chain_count (length (taken_events net log new))) (numbers_count n) ∙ ap (λ m. n * chain_count m) count in
    let front = ap (λ k. k * (1 + n * 2)) count in
    omega (arith, whole, both, two, links, dones, chains, row, front, false_count new.doubtful (length log.alarms))
