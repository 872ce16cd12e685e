-- Watches and links stand together in nodes: what both lists are where a node is added or changed.
use Rattle.std.proofs.Common.{◌≡◌, ◌∙◌, ℕ, zero, suc, ◌+◌, ◌-◌, ◌%◌, ◌<◌, ◌≤◌, ◌++◌, ◌∷◌, [], List, refl, ap, sym, length, get_or, arith, add-zero, eqb, ⊎_elim, Option, Some, None}
use Rattle.std.specs.Prelude.{slice_set}
use Rattle.std.proofs.Math.Nat.{add-mod, add-mod_right}
use Rattle.std.proofs.lemmas.Grind.{common_steps}
use Rattle.std.proofs.lemmas.Bool.{cases_Bool, eqb-false}
use Rattle.std.proofs.lemmas.List.{map-append, map-set, length-map, get_or-map}
use Rattle.prop_core.specs.declared.lit.Lit.{Lit}
use Rattle.sat_prop.specs.declared.watch_lists.Watch.{Watch}
use Rattle.sat_prop.specs.declared.watch_lists.Node.{Node}
use Rattle.sat_prop.specs.declared.watch_lists.Lists.{Lists}
use Rattle.sat_prop.specs.declared.watch_lists.TheConstants.{NO_WATCH, NO_CLAUSE}
use Rattle.prop_core.proofs.LiteralNumbers.{literal_back}
use Rattle.sat_prop.specs.Watches.{AreWatchLists, alone, appended, as_link, cleared, dropped, ends_of, watched_literal, nexts_of, no_node, no_watch, node_at, twin_number, watch_at, watch_of, watches_from, watches_of, watching, with_dropped, with_ends, with_next_watch}
use Rattle.sat_prop.proofs.Links.{ends, linked_to, relinked, relinked_length}
use Rattle.sat_prop.proofs.Linking.{last_link}
use Rattle.sat_prop.proofs.WatchLists.{lists_pushed, lists_dropped}

-- ---- numbers of watches

-- of a pair each has the number of the other
pub twin_even : (number : ℕ) → number % 2 ≡ 0 → twin_number number ≡ suc number
twin_even number h = let e : number + 1 ≡ suc number = omega arith in rw h e

pub twin_odd : (number : ℕ) → number % 2 ≡ 0 → twin_number (number + 1) ≡ number
twin_odd number h =
    let one : (number + 1) % 2 ≡ 1 = add-mod number 1 2 ∙ ap (λ (k : ℕ). (k + 1) % 2) h in
    let e : number + 1 - 1 ≡ number = omega arith in
    rw one e

pub pair_more : (number : ℕ) → number % 2 ≡ 0 → (number + 1 + 1) % 2 ≡ 0
pair_more number h = let e : number + 1 + 1 ≡ number + 2 = omega arith in ap (λ (k : ℕ). k % 2) e ∙ add-mod_right number 2 ∙ h

-- ---- watches and links of nodes

count_from : (first : ℕ) (nodes : List Node) → length (watches_from first nodes) ≡ length nodes
count_from first [] = refl
count_from first (n ∷ ns) = ap suc (count_from (suc first) ns)

pub count_watches : (nodes : List Node) → length (watches_of nodes) ≡ length nodes
count_watches nodes = count_from 0 nodes

pub count_nexts : (nodes : List Node) → length (nexts_of nodes) ≡ length nodes
count_nexts nodes = length-map nodes (λ (n : Node). as_link n.next)

watch_from : (first : ℕ) (nodes : List Node) (i : ℕ) (d : Node) → i < length nodes → watch_at (watches_from first nodes) i ≡ watch_of (first + i) (get_or nodes i d)
watch_from first [] i d h = absurd (omega (arith, h))
watch_from first (n ∷ ns) zero d h = ap (λ (k : ℕ). watch_of k n) (sym (add-zero first))
watch_from first (n ∷ ns) (suc i) d h = let e : suc first + i ≡ first + suc i = omega arith in watch_from (suc first) ns i d (omega arith) ∙ ap (λ (k : ℕ). watch_of k (get_or ns i d)) e

pub watch_of_node : (nodes : List Node) (i : ℕ) (d : Node) → i < length nodes → watch_at (watches_of nodes) i ≡ watch_of i (get_or nodes i d)
watch_of_node nodes i d h = let e : 0 + i ≡ i = omega arith in watch_from 0 nodes i d h ∙ ap (λ (k : ℕ). watch_of k (get_or nodes i d)) e

pub next_of_node : (nodes : List Node) (i : ℕ) (d : Node) → i < length nodes → get_or (nexts_of nodes) i None ≡ as_link (get_or nodes i d).next
next_of_node nodes i d h = get_or-map (λ (n : Node). as_link n.next) nodes i d None h

pushed_from : (first : ℕ) (nodes : List Node) (n : Node) → watches_from first (nodes ++ n ∷ []) ≡ watches_from first nodes ++ watch_of (first + length nodes) n ∷ []
pushed_from first [] n = ap (λ (k : ℕ). watch_of k n ∷ []) (sym (add-zero first))
pushed_from first (m ∷ ns) n =
    let e : suc first + length ns ≡ first + suc (length ns) = omega arith in
    ap (λ ws. watch_of first m ∷ ws) (pushed_from (suc first) ns n ∙ ap (λ (k : ℕ). watches_from (suc first) ns ++ watch_of k n ∷ []) e)

pub watches_pushed : (nodes : List Node) (n : Node) → watches_of (nodes ++ n ∷ []) ≡ watches_of nodes ++ watch_of (length nodes) n ∷ []
watches_pushed nodes n = let e : 0 + length nodes ≡ length nodes = omega arith in pushed_from 0 nodes n ∙ ap (λ (k : ℕ). watches_of nodes ++ watch_of k n ∷ []) e

pub nexts_pushed : (nodes : List Node) (n : Node) → nexts_of (nodes ++ n ∷ []) ≡ nexts_of nodes ++ as_link n.next ∷ []
nexts_pushed nodes n = map-append (λ (m : Node). as_link m.next) nodes (n ∷ [])

set_from : (first : ℕ) (nodes : List Node) (i : ℕ) (n : Node) → watches_from first (slice_set nodes i n) ≡ slice_set (watches_from first nodes) i (watch_of (first + i) n)
set_from first [] i n = refl
set_from first (m ∷ ns) zero n = ap (λ (k : ℕ). watch_of k n ∷ watches_from (suc first) ns) (sym (add-zero first))
set_from first (m ∷ ns) (suc i) n =
    let e : suc first + i ≡ first + suc i = omega arith in
    ap (λ ws. watch_of first m ∷ ws) (set_from (suc first) ns i n ∙ ap (λ (k : ℕ). slice_set (watches_from (suc first) ns) i (watch_of k n)) e)

pub watches_set : (nodes : List Node) (i : ℕ) (n : Node) → watches_of (slice_set nodes i n) ≡ slice_set (watches_of nodes) i (watch_of i n)
watches_set nodes i n = let e : 0 + i ≡ i = omega arith in set_from 0 nodes i n ∙ ap (λ (k : ℕ). slice_set (watches_of nodes) i (watch_of k n)) e

pub nexts_set : (nodes : List Node) (i : ℕ) (n : Node) → nexts_of (slice_set nodes i n) ≡ slice_set (nexts_of nodes) i (as_link n.next)
nexts_set nodes i n = map-set (λ (m : Node). as_link m.next) nodes i n

-- ---- nodes in lists

pub more_by_one : (nodes : List Node) (n : Node) → length (nodes ++ n ∷ []) ≡ length nodes + 1
more_by_one nodes n = grind (arith, common_steps)

-- the next one of the last node is none
pub alone_keeps : (number clause : ℕ) (l : Lit) → watch_of number (alone clause l) ≡ record { clause = clause; lit = l; twin = twin_number number }
alone_keeps number clause l = ap (λ (x : Lit). with_literal x) (literal_back l)
  where
    with_literal : Lit → Watch
    with_literal x = record { clause = clause; lit = x; twin = twin_number number }

set_same : {X : Type 0} (xs : List X) (i : ℕ) (d : X) → i < length xs → slice_set xs i (get_or xs i d) ≡ xs
set_same xs i d h = grind (arith, common_steps)

-- a node comes after another one
pub nexts_linked : (nodes : List Node) (before after : ℕ) → nexts_of (with_next_watch nodes before after) ≡ relinked (nexts_of nodes) before (as_link after)
nexts_linked nodes before after = ⊎_elim
    (λ q. rw q refl)
    (λ q. rw q (nexts_set nodes before (record (node_at nodes before) { next = after })))
    (cases_Bool (eqb before NO_WATCH))

pub watches_linked : (nodes : List Node) (before after : ℕ) → ((before ≡ NO_WATCH → ⊥) → before < length nodes) → watches_of (with_next_watch nodes before after) ≡ watches_of nodes
watches_linked nodes before after within = ⊎_elim
    (λ q. rw q refl)
    (λ q. let b = within (eqb-false before NO_WATCH q) in
    let n = count_watches nodes in
    rw q (watches_set nodes before (record (node_at nodes before) { next = after })
    ∙ ap (λ (w : Watch). slice_set (watches_of nodes) before w) (sym (watch_of_node nodes before no_node b))
    ∙ set_same (watches_of nodes) before no_watch (omega arith)))
    (cases_Bool (eqb before NO_WATCH))

pub linked_length : (nodes : List Node) (before after : ℕ) → length (with_next_watch nodes before after) ≡ length nodes
linked_length nodes before after = sym (count_nexts (with_next_watch nodes before after)) ∙ ap length (nexts_linked nodes before after) ∙ relinked_length (nexts_of nodes) before (as_link after) ∙ count_nexts nodes

-- a node watches another literal, and comes before none
pub nexts_turned : (nodes : List Node) (number clause : ℕ) (l : Lit) → nexts_of (slice_set nodes number (alone clause l)) ≡ slice_set (nexts_of nodes) number None
nexts_turned nodes number clause l = nexts_set nodes number (alone clause l) ∙ ap (λ (o : Option ℕ). slice_set (nexts_of nodes) number o) (ends NO_WATCH refl)

pub watches_turned : (nodes : List Node) (number : ℕ) (l : Lit) → number < length nodes → watches_of (slice_set nodes number (alone (node_at nodes number).clause l)) ≡ slice_set (watches_of nodes) number (watching (watch_at (watches_of nodes) number) l)
watches_turned nodes number l h =
    let w : watch_of number (alone (node_at nodes number).clause l) ≡ watching (watch_at (watches_of nodes) number) l =
    alone_keeps number (node_at nodes number).clause l ∙ sym (ap (λ (x : Watch). watching x l) (watch_of_node nodes number no_node h)) in
    watches_set nodes number (alone (node_at nodes number).clause l) ∙ ap (λ (x : Watch). slice_set (watches_of nodes) number x) w

-- the last of a list is a node, or none
pub ends_within : (nodes : List Node) (lists : List Lists) (l : Lit) → length nodes ≤ NO_WATCH → AreWatchLists (watches_of nodes) (nexts_of nodes) lists → l.var < length lists → ((ends_of lists l).last ≡ NO_WATCH → ⊥) → (ends_of lists l).last < length nodes
ends_within nodes lists l few a known d =
    let n = count_nexts nodes in
    let b = last_link (watched_literal (watches_of nodes)) (nexts_of nodes) lists a.numbers (omega arith) a.linked l known d in
    omega arith

-- a node is added: its watch
pub node_watches : (nodes new : List Node) (lists : List Lists) (clause : ℕ) (l : Lit) → AreWatchLists (watches_of nodes) (nexts_of nodes) lists → l.var < length lists → length nodes < NO_WATCH → new ≡ with_next_watch (nodes ++ alone clause l ∷ []) (ends_of lists l).last (length nodes)
    → watches_of new ≡ watches_of nodes ++ record { clause = clause; lit = l; twin = twin_number (length nodes) } ∷ []
node_watches nodes new lists clause l a known few e =
    let more : length (nodes ++ alone clause l ∷ []) ≡ length nodes + 1 = grind (arith, common_steps) in
    ap watches_of e
    ∙ watches_linked (nodes ++ alone clause l ∷ []) (ends_of lists l).last (length nodes) (λ d. let b = ends_within nodes lists l (omega arith) a known d in omega arith)
    ∙ watches_pushed nodes (alone clause l)
    ∙ ap (λ (w : Watch). watches_of nodes ++ w ∷ []) (alone_keeps (length nodes) clause l)

-- a node is added, and comes after the last one of its list
pub node_pushed : (nodes new : List Node) (lists : List Lists) (clause : ℕ) (l : Lit) → AreWatchLists (watches_of nodes) (nexts_of nodes) lists → l.var < length lists → length nodes < NO_WATCH → new ≡ with_next_watch (nodes ++ alone clause l ∷ []) (ends_of lists l).last (length nodes)
    → AreWatchLists (watches_of new) (nexts_of new) (with_ends lists l (appended (ends_of lists l) (length nodes)))
node_pushed nodes new lists clause l a known few e =
    let n = count_watches nodes in
    let m = count_nexts nodes in
    let w : Watch = record { clause = clause; lit = l; twin = twin_number (length (watches_of nodes)) } in
    let p = lists_pushed (watches_of nodes) (nexts_of nodes) lists a (omega arith) w known in
    let ws : watches_of new ≡ watches_of nodes ++ w ∷ [] = node_watches nodes new lists clause l a known few e ∙ ap (λ (k : ℕ). watches_of nodes ++ record { clause = clause; lit = l; twin = twin_number k } ∷ []) (sym n) in
    let ns : nexts_of new ≡ relinked (nexts_of nodes ++ None ∷ []) (ends_of lists l).last (Some (length (watches_of nodes))) =
    ap nexts_of e ∙ nexts_linked (nodes ++ alone clause l ∷ []) (ends_of lists l).last (length nodes)
    ∙ ap (λ (xs : List (Option ℕ)). relinked xs (ends_of lists l).last (as_link (length nodes))) (nexts_pushed nodes (alone clause l) ∙ ap (λ (o : Option ℕ). nexts_of nodes ++ o ∷ []) (ends NO_WATCH refl))
    ∙ ap (λ (o : Option ℕ). relinked (nexts_of nodes ++ None ∷ []) (ends_of lists l).last o) (linked_to (length nodes) few ∙ ap (λ (k : ℕ). Some k) (sym n)) in
    rw (ws, ns, ← n) p

-- a node whose watch is dropped
abbrev cleared_node : List Node → ℕ → Node
cleared_node nodes number = record (node_at nodes number) { clause = NO_CLAUSE }

pub watches_cleared : (nodes : List Node) (number : ℕ) → number < length nodes → watches_of (cleared nodes number) ≡ with_dropped (watches_of nodes) number
watches_cleared nodes number within = watches_set nodes number (cleared_node nodes number) ∙ ap (λ (w : Watch). slice_set (watches_of nodes) number (dropped w)) (sym (watch_of_node nodes number no_node within))

pub nexts_cleared : (nodes : List Node) (number : ℕ) → number < length nodes → nexts_of (cleared nodes number) ≡ nexts_of nodes
nexts_cleared nodes number within =
    nexts_set nodes number (cleared_node nodes number) ∙ ap (λ (o : Option ℕ). slice_set (nexts_of nodes) number o) (sym (next_of_node nodes number no_node within)) ∙ set_same (nexts_of nodes) number None (let e = count_nexts nodes in omega arith)

-- so it watches no clause, in the list where it stands
pub node_cleared : (nodes : List Node) (lists : List Lists) (number : ℕ) → number < length nodes → AreWatchLists (watches_of nodes) (nexts_of nodes) lists
    → AreWatchLists (watches_of (cleared nodes number)) (nexts_of (cleared nodes number)) lists
node_cleared nodes lists number within a =
    rw (watches_cleared nodes number within, nexts_cleared nodes number within) (lists_dropped (watches_of nodes) (nexts_of nodes) lists number (let e = count_watches nodes in omega arith) a)

-- both watches of a clause are added
pub pair_pushed : (nodes one two : List Watch) (clause : ℕ) (first second : Lit) → length nodes % 2 ≡ 0 → one ≡ nodes ++ record { clause = clause; lit = first; twin = twin_number (length nodes) } ∷ [] → two ≡ one ++ record { clause = clause; lit = second; twin = twin_number (length one) } ∷ []
    → two ≡ (nodes ++ record { clause = clause; lit = first; twin = suc (length nodes) } ∷ []) ++ record { clause = clause; lit = second; twin = length nodes } ∷ []
pair_pushed nodes one two clause first second even a b =
    let size : length one ≡ length nodes + 1 = rw a (grind (arith, common_steps)) in
    let t1 : twin_number (length nodes) ≡ suc (length nodes) = twin_even (length nodes) even in
    let t2 : twin_number (length one) ≡ length nodes = ap twin_number size ∙ twin_odd (length nodes) even in
    let w1 : one ≡ nodes ++ record { clause = clause; lit = first; twin = suc (length nodes) } ∷ [] = a ∙ ap (λ (k : ℕ). nodes ++ record { clause = clause; lit = first; twin = k } ∷ []) t1 in
    b ∙ ap (λ (k : ℕ). one ++ record { clause = clause; lit = second; twin = k } ∷ []) t2 ∙ ap (λ (ws : List Watch). ws ++ record { clause = clause; lit = second; twin = length nodes } ∷ []) w1
