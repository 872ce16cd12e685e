-- The two watches of a clause are added, or dropped.
use Rattle.std.proofs.Common.{◌≡◌, ◌≢◌, ◌∙◌, ℕ, ◌+◌, ◌-◌, ◌%◌, ◌<◌, ◌≤◌, ◌++◌, ◌∷◌, [], List, Vec, Global, Option, refl, ap, sym, subst, length, arith}
use Rattle.std.specs.Prelude.{vec_len, vec_capacity}
use Rattle.std.proofs.lemmas.List.{length-set}
use Rattle.prop_core.specs.declared.lit.Lit.{Lit}
use Rattle.sat_prop.specs.declared.watch_lists.Node.{Node}
use Rattle.sat_prop.specs.declared.watch_lists.Lists.{Lists}
use Rattle.sat_prop.specs.declared.watch_lists.Watch.{Watch}
use Rattle.sat_prop.specs.declared.watch_lists.WatchLists.TheInside.{Inside}
use Rattle.sat_prop.specs.declared.watch_lists.TheConstants.{NO_WATCH}
use Rattle.sat_prop.specs.Watches.{AreWatchLists, IsWalk, WatchState, alone, appended, cleared, ends_of, nexts_of, no_node, twin_number, watch_at, watches_of, with_dropped, with_ends, with_next_watch, with_watched_clause, without_clause}
use Rattle.sat_prop.specs.View.{AreKeptLists, lists_view}
use Rattle.sat_prop.proofs.Keeping.{Becomes, few_nodes, kept_still}
use Rattle.sat_prop.proofs.Linking.{ends_length}
use Rattle.sat_prop.proofs.Walking.{IsWalkOf, walk_none}
use Rattle.sat_prop.proofs.Nodes.{count_watches, ends_within, linked_length, more_by_one, nexts_cleared, node_cleared, node_pushed, node_watches, pair_more, pair_pushed, watch_of_node, watches_cleared}

-- ---- they are dropped

-- the number of a watch and that of the other one of its pair
pub record IsPairOf (a : Inside) (n : ℕ) : Type 0 where
  pub few : n < NO_WATCH
  pub number : n < length a.nodes.items
  pub twin : twin_number n < length a.nodes.items
  pub twin_is : twin_number n ≡ (watch_at (watches_of a.nodes.items) n).twin

pub pair_of : (a : Inside) (s : WatchState) → lists_view a ≡ s → AreKeptLists a → (n : ℕ) → n < length s.watches → (watch_at s.watches n).twin < length s.watches → IsPairOf a n
pair_of a s view k n number twin =
    let h = subst (λ (t : WatchState). n < length t.watches) (sym view) number in
    let t = subst (λ (t : WatchState). (watch_at t.watches n).twin < length t.watches) (sym view) twin in
    let count = count_watches a.nodes.items in
    let few = few_nodes a k in
    let within : n < length a.nodes.items = omega arith in
    let twin_is : twin_number n ≡ (watch_at (watches_of a.nodes.items) n).twin = sym (ap (λ (x : Watch). x.twin) (watch_of_node a.nodes.items n no_node within)) in
    record { few = omega arith; number = within; twin = omega arith; twin_is = twin_is }

pub pair_dropped : (a : Inside) (s : WatchState) → lists_view a ≡ s → AreKeptLists a → (n : ℕ) → IsPairOf a n → (nodes : Vec Node Global) → nodes.items ≡ cleared (cleared a.nodes.items n) (twin_number n) → vec_capacity nodes ≡ vec_capacity a.nodes
    → Becomes (record a { nodes = nodes }) (λ t. t ≡ record s { watches = without_clause s.watches n })
pair_dropped a s view k n p nodes e room =
    let long : length (cleared a.nodes.items n) ≡ length a.nodes.items = length-set a.nodes.items n _ in
    let twin : twin_number n < length (cleared a.nodes.items n) = let t = p.twin in omega arith in
    let links : nexts_of nodes.items ≡ nexts_of a.nodes.items = ap nexts_of e ∙ nexts_cleared (cleared a.nodes.items n) (twin_number n) twin ∙ nexts_cleared a.nodes.items n p.number in
    let both : watches_of nodes.items ≡ without_clause (watches_of a.nodes.items) n =
    ap watches_of e ∙ watches_cleared (cleared a.nodes.items n) (twin_number n) twin ∙ ap (with_dropped (watches_of (cleared a.nodes.items n))) p.twin_is
    ∙ ap (λ (ws : List Watch). with_dropped ws (watch_at (watches_of a.nodes.items) n).twin) (watches_cleared a.nodes.items n p.number) in
    record {
      kept = kept_still a (record a { nodes = nodes }) k (ap length e ∙ length-set (cleared a.nodes.items n) (twin_number n) _ ∙ long) room refl refl
          (rw e (node_cleared (cleared a.nodes.items n) a.lists.items (twin_number n) twin (node_cleared a.nodes.items a.lists.items n p.number k.lists)))
          (subst (λ (ns : List (Option ℕ)). IsWalk ns a.lists.items a.walk) (sym links) k.walk);
      state = subst (λ (t : WatchState). lists_view (record a { nodes = nodes }) ≡ record t { watches = without_clause t.watches n }) view
          (rw links (ap (λ (ws : List Watch). record (lists_view a) { watches = ws }) both));
    }

-- ---- they are added

module _ (a : Inside) (s : WatchState) (view : lists_view a ≡ s) (k : AreKeptLists a) (clause : ℕ) (first second : Lit) (spare : 1 ≤ s.spare) (below : first.var < s.vars) (below_too : second.var < s.vars) where
  room_left : 1 ≤ a.spare
  room_left = subst (λ (t : WatchState). 1 ≤ t.spare) (sym view) spare

  first_known : first.var < length a.lists.items
  first_known = subst (λ (t : WatchState). first.var < t.vars) (sym view) below

  second_known : second.var < length a.lists.items
  second_known = subst (λ (t : WatchState). second.var < t.vars) (sym view) below_too

  few : length a.nodes.items + 2 ≤ NO_WATCH
  few = let l = a.nodes.ok.0 in let f = k.few in let r = room_left in omega arith

  pub first_end : (ends_of a.lists.items first).last ≢ NO_WATCH → (ends_of a.lists.items first).last < length a.nodes.items
  first_end = ends_within a.nodes.items a.lists.items first (few_nodes a k) k.lists first_known

  module _ (one : List Node) (one_lists : List Lists) (e : one ≡ with_next_watch (a.nodes.items ++ alone clause first ∷ []) (ends_of a.lists.items first).last (length a.nodes.items))
      (g : one_lists ≡ with_ends a.lists.items first (appended (ends_of a.lists.items first) (length a.nodes.items))) where
    one_length : length one ≡ length a.nodes.items + 1
    one_length = ap length e ∙ linked_length _ _ _ ∙ more_by_one a.nodes.items _

    one_many : length one_lists ≡ length a.lists.items
    one_many = ap length g ∙ ends_length a.lists.items first _

    one_few : length one < NO_WATCH
    one_few = let l = one_length in let f = few in omega arith

    one_known : second.var < length one_lists
    one_known = let m = one_many in let n = second_known in omega arith

    one_stand : AreWatchLists (watches_of one) (nexts_of one) one_lists
    one_stand = subst (λ (ls : List Lists). AreWatchLists (watches_of one) (nexts_of one) ls) (sym g) (node_pushed a.nodes.items one a.lists.items clause first k.lists first_known (let f = few in omega arith) e)

    pub second_end : (ends_of one_lists second).last ≢ NO_WATCH → (ends_of one_lists second).last < length one
    second_end = ends_within one one_lists second (let f = one_few in omega arith) one_stand one_known

    module _ (two : Vec Node Global) (two_lists : Vec Lists Global) (h : two.items ≡ with_next_watch (one ++ alone clause second ∷ []) (ends_of one_lists second).last (length one))
        (i : two_lists.items ≡ with_ends one_lists second (appended (ends_of one_lists second) (length one))) (room : vec_capacity a.nodes ≤ vec_capacity two) where
      abbrev pub after_add : Inside
      after_add = record a { nodes = two; lists = two_lists; walk = record a.walk { next = NO_WATCH }; spare = a.spare - 1 }

      two_many : length two_lists.items ≡ length a.lists.items
      two_many = ap length i ∙ ends_length one_lists second _ ∙ one_many

      two_count : vec_len two ≡ vec_len a.nodes + 1 + 1
      two_count =
          let l : length two.items ≡ length one + 1 = ap length h ∙ linked_length _ _ _ ∙ more_by_one one _ in
          let m = one_length in
          let was = a.nodes.ok.0 in
          let now = two.ok.0 in
          omega arith

      two_watches : watches_of two.items ≡ (with_watched_clause (lists_view a) clause first second).watches
      two_watches =
          let was = count_watches a.nodes.items in
          let now = count_watches one in
          let even : length (watches_of a.nodes.items) % 2 ≡ 0 = ap (λ (n : ℕ). n % 2) (was ∙ sym a.nodes.ok.0) ∙ k.pairs in
          pair_pushed (watches_of a.nodes.items) (watches_of one) (watches_of two.items) clause first second even
          (rw was (node_watches a.nodes.items one a.lists.items clause first k.lists first_known (let f = few in omega arith) e))
          (rw now (node_watches one two.items one_lists clause second one_stand one_known one_few h))

      none_waits : IsWalkOf (nexts_of two.items) two_lists.items (record a.walk { next = NO_WATCH }) []
      none_waits = walk_none (nexts_of two.items) two_lists.items (record a.walk { next = NO_WATCH }) refl

      pub pair_added : Becomes after_add (λ t. t ≡ with_watched_clause s clause first second)
      pair_added = record {
        kept = record {
          lists = subst (λ (ls : List Lists). AreWatchLists (watches_of two.items) (nexts_of two.items) ls) (sym i) (node_pushed one two.items one_lists clause second one_stand one_known one_few h);
          walk = none_waits.walks;
          limit = let l = k.limit in let m = two_many in omega arith;
          pairs = ap (λ (n : ℕ). n % 2) two_count ∙ pair_more (vec_len a.nodes) k.pairs;
          few = let f = k.few in let c = two_count in let r = room_left in omega arith;
          room = let f = k.room in let c = two_count in let r = room_left in let q = room in omega arith;
        };
        state = subst (λ (t : WatchState). lists_view after_add ≡ with_watched_clause t clause first second) view (rw (two_watches, two_many, none_waits.waits) refl);
      }
