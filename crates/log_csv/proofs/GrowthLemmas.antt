-- What one more record makes of the log of the records before it.
use Rattle.std.proofs.Common.{◌≡◌, ℕ, suc, Bool, true, false, cond, List, [], ◌∷◌, ◌++◌, Option, Some, None, refl, ap, sym, ◌∙◌, subst}
use Rattle.std.specs.Prelude.{filter_map, is_some, option_map, option_and_then, bytes_eq}
use Rattle.std.specs.List.{AllByRecursion, cons_option}
use Rattle.std.specs.Option.{option_to_list}
use Rattle.std.proofs.lemmas.List.{append-nil}
use Rattle.des_base.specs.Names.{place_of}
use Rattle.log_order.specs.Log.{Alarm, Log, a_log, an_alarm}
use Rattle.log_order.specs.Adding.{names_of, with_alarm, with_pair, with_texts}
use Rattle.log_csv.specs.Records.{Record, alarm, before, ask, nothing, malformed}
use Rattle.log_csv.specs.LogText.{recorded_alarm, recorded_alarms, ids_of, recorded_pair, pairs_of, with_pairs, written_pairs}
use Rattle.log_csv.specs.Reading.{IsKnown, IsLogOf}

-- ---- lists

push_case : {X : Type 0} (o : Option X) (xs ys : List X) → cons_option o (xs ++ ys) ≡ cons_option o xs ++ ys
push_case None xs ys = refl
push_case (Some x) xs ys = refl

one_more : {X : Type 0} (o : Option X) → cons_option o [] ≡ option_to_list o
one_more None = refl
one_more (Some x) = refl

filter_map-push : {X Y : Type 0} (f : X → Option Y) (xs : List X) (x : X) → filter_map f (xs ++ x ∷ []) ≡ filter_map f xs ++ option_to_list (f x)
filter_map-push f [] x = one_more (f x)
filter_map-push f (y ∷ ys) x = ap (cons_option (f y)) (filter_map-push f ys x) ∙ push_case (f y) (filter_map f ys) (option_to_list (f x))

names_of-append : (alarms others : List Alarm) → names_of (alarms ++ others) ≡ names_of alarms ++ names_of others
names_of-append [] others = refl
names_of-append (a ∷ as') others = ap (λ l. a.name ∷ l) (names_of-append as' others)

with_pairs-append : (pairs others more : List (ℕ × ℕ)) → with_pairs pairs (others ++ more) ≡ with_pairs (with_pairs pairs others) more
with_pairs-append pairs [] more = refl
with_pairs-append pairs (other ∷ others) more = with_pairs-append (with_pair pairs other.0 other.1) others more

-- ---- ids that are known

stays_step : (b : Bool) (o p : Option ℕ) → is_some (cond b (Some 0) (option_map suc o)) ≡ true → (is_some o ≡ true → p ≡ o) → cond b (Some 0) (option_map suc p) ≡ cond b (Some 0) (option_map suc o)
stays_step true o p h f = refl
stays_step false (Some i) p h f = ap (option_map suc) (f refl)
stays_step false None p h f = cc

pub place-stays : (text : List ℕ) (ids more : List (List ℕ)) → is_some (place_of text ids) ≡ true → place_of text (ids ++ more) ≡ place_of text ids
place-stays text [] more h = cc
place-stays text (id ∷ ids) more h = stays_step (bytes_eq text id) (place_of text ids) (place_of text (ids ++ more)) h (place-stays text ids more)

pair-stays : (ids more : List (List ℕ)) (said : Record) → IsKnown ids said → recorded_pair (ids ++ more) said ≡ recorded_pair ids said
pair-stays ids more (alarm maybe id labels) h = refl
pair-stays ids more (before first second) h =
    ap (λ o. option_and_then (λ i. option_map (λ j. (i, j)) (place_of second (ids ++ more))) o) (place-stays first ids more h.0)
    ∙ ap (λ o. option_and_then (λ i. option_map (λ j. (i, j)) o) (place_of first ids)) (place-stays second ids more h.1)
pair-stays ids more ask h = refl
pair-stays ids more nothing h = refl
pair-stays ids more malformed h = refl

known-stays : (ids more : List (List ℕ)) (said : Record) → IsKnown ids said → IsKnown (ids ++ more) said
known-stays ids more (alarm maybe id labels) h = tt
known-stays ids more (before first second) h = (ap is_some (place-stays first ids more h.0) ∙ h.0, ap is_some (place-stays second ids more h.1) ∙ h.1)
known-stays ids more ask h = tt
known-stays ids more nothing h = tt
known-stays ids more malformed h = tt

pairs-stay : (ids more : List (List ℕ)) (earlier : List Record) → AllByRecursion (IsKnown ids) earlier → filter_map (recorded_pair (ids ++ more)) earlier ≡ filter_map (recorded_pair ids) earlier
pairs-stay ids more [] h = refl
pairs-stay ids more (said ∷ others) h =
    ap (λ o. cons_option o (filter_map (recorded_pair (ids ++ more)) others)) (pair-stays ids more said h.0)
    ∙ ap (cons_option (recorded_pair ids said)) (pairs-stay ids more others h.1)

all-known : (ids more : List (List ℕ)) (earlier : List Record) (said : Record) → AllByRecursion (IsKnown ids) earlier → IsKnown (ids ++ more) said → AllByRecursion (IsKnown (ids ++ more)) (earlier ++ said ∷ [])
all-known ids more [] said h k = (k, tt)
all-known ids more (other ∷ others) said h k = (known-stays ids more other h.0, all-known ids more others said h.1 k)

-- ---- one more record

-- the ids that a record adds
abbrev new_ids : Record → List (List ℕ)
new_ids said = names_of (option_to_list (recorded_alarm said))

ids_of-push : (earlier : List Record) (said : Record) → ids_of (earlier ++ said ∷ []) ≡ ids_of earlier ++ new_ids said
ids_of-push earlier said = ap names_of (filter_map-push recorded_alarm earlier said) ∙ names_of-append (recorded_alarms earlier) (option_to_list (recorded_alarm said))

pairs_of-push : (earlier : List Record) (said : Record) → AllByRecursion (IsKnown (ids_of earlier)) earlier
    → pairs_of (earlier ++ said ∷ []) ≡ with_pairs (pairs_of earlier) (option_to_list (recorded_pair (ids_of earlier ++ new_ids said) said))
pairs_of-push earlier said known =
    let ids = ids_of earlier in
    let more = new_ids said in
    ap (λ names. with_pairs [] (filter_map (recorded_pair names) (earlier ++ said ∷ []))) (ids_of-push earlier said)
    ∙ ap (with_pairs []) (filter_map-push (recorded_pair (ids ++ more)) earlier said ∙ ap (λ ps. ps ++ option_to_list (recorded_pair (ids ++ more) said)) (pairs-stay ids more earlier known))
    ∙ with_pairs-append [] (written_pairs earlier) (option_to_list (recorded_pair (ids ++ more) said))

log-push : (earlier : List Record) (said : Record) (log : Log) → AllByRecursion (IsKnown (ids_of earlier)) earlier → IsKnown (ids_of earlier ++ new_ids said) said
    → log.alarms ≡ recorded_alarms earlier ++ option_to_list (recorded_alarm said) → log.pairs ≡ with_pairs (pairs_of earlier) (option_to_list (recorded_pair (ids_of earlier ++ new_ids said) said))
    → IsLogOf (earlier ++ said ∷ []) log
log-push earlier said log known is alarms pairs = record {
  is = ap (λ as'. let l : Log = (a_log as' log.pairs) in l) (alarms ∙ sym (filter_map-push recorded_alarm earlier said))
      ∙ ap (λ ps. let l : Log = (a_log (recorded_alarms (earlier ++ said ∷ [])) ps) in l) (pairs ∙ sym (pairs_of-push earlier said known));
  known = subst (λ ids. AllByRecursion (IsKnown ids) (earlier ++ said ∷ [])) (sym (ids_of-push earlier said)) (all-known (ids_of earlier) (new_ids said) earlier said known is);
}

pub log-alarm : (earlier : List Record) (maybe : Bool) (id : List ℕ) (labels : List (List ℕ)) (log new : Log) → IsLogOf earlier log → new ≡ with_alarm log id labels maybe → IsLogOf (earlier ++ alarm maybe id labels ∷ []) new
log-alarm earlier maybe id labels log new h e =
    log-push earlier (alarm maybe id labels) new h.known tt
    (ap (λ l. l.alarms) e ∙ ap (λ l. l.alarms ++ (an_alarm id (with_texts [] labels) maybe) ∷ []) h.is)
    (ap (λ l. l.pairs) e ∙ ap (λ l. l.pairs) h.is)

pub log-nothing : (earlier : List Record) (log : Log) → IsLogOf earlier log → IsLogOf (earlier ++ nothing ∷ []) log
log-nothing earlier log h = log-push earlier nothing log h.known tt (ap (λ l. l.alarms) h.is ∙ sym (append-nil (recorded_alarms earlier))) (ap (λ l. l.pairs) h.is)

pair_is : (ids : List (List ℕ)) (first second : List ℕ) (i j : ℕ) → place_of first ids ≡ Some i → place_of second ids ≡ Some j → recorded_pair ids (before first second) ≡ Some (i, j)
pair_is ids first second i j h k =
    ap (λ o. option_and_then (λ i. option_map (λ j. (i, j)) (place_of second ids)) o) h
    ∙ ap (λ o. option_map (λ j. (i, j)) o) k

pub log-pair : (earlier : List Record) (first second : List ℕ) (i j : ℕ) (log new : Log) → IsLogOf earlier log → place_of first (ids_of earlier) ≡ Some i → place_of second (ids_of earlier) ≡ Some j
    → new ≡ record log { pairs = with_pair log.pairs i j } → IsLogOf (earlier ++ before first second ∷ []) new
log-pair earlier first second i j log new h a b e =
    let ids = ids_of earlier in
    log-push earlier (before first second) new h.known
    (ap is_some (ap (place_of first) (append-nil ids) ∙ a), ap is_some (ap (place_of second) (append-nil ids) ∙ b))
    (ap (λ l. l.alarms) e ∙ ap (λ l. l.alarms) h.is ∙ sym (append-nil (recorded_alarms earlier)))
    (ap (λ l. l.pairs) e ∙ ap (λ l. with_pair l.pairs i j) h.is
    ∙ ap (λ o. with_pairs (pairs_of earlier) (option_to_list o)) (sym (ap (λ names. recorded_pair names (before first second)) (append-nil ids) ∙ pair_is ids first second i j a b)))
