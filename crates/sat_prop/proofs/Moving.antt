-- What comes of the calls of a walk, as nodes keep watches and links.
use Rattle.std.proofs.Common.{◌≡◌, ◌≢◌, ◌∙◌, ℕ, ◌<◌, ◌≤◌, true, ◌∷◌, List, Vec, Global, refl, ap, sym, subst, length, get_or, arith, Option, Some, None}
use Rattle.std.specs.Prelude.{slice_set, vec_capacity}
use Rattle.std.proofs.lemmas.List.{length-set}
use Rattle.prop_core.specs.declared.lit.Lit.{Lit}
use Rattle.sat_prop.specs.declared.watch_lists.Node.{Node}
use Rattle.sat_prop.specs.declared.watch_lists.Lists.{Lists}
use Rattle.sat_prop.specs.declared.watch_lists.Watch.{Watch}
use Rattle.sat_prop.specs.declared.watch_lists.WatchLists.TheInside.{Inside}
use Rattle.sat_prop.specs.declared.watch_lists.TheConstants.{NO_WATCH}
use Rattle.sat_prop.specs.Watches.{IsFirstDropped, IsFirstWaiting, IsOpened, MovesWatch, PassesWatch, WatchState, alone, appended, as_link, ends_of, first_or_end, is_among, last_of, watched_literal, nexts_of, no_node, node_at, passed, unlinked, watch_at, watches_of, watching, with_ends, with_next_watch}
use Rattle.sat_prop.specs.View.{AreKeptLists, lists_view}
use Rattle.sat_prop.proofs.Keeping.{Becomes, few_links, kept_still}
use Rattle.sat_prop.proofs.Links.{linked_to, relinked}
use Rattle.sat_prop.proofs.Linking.{ends_length}
use Rattle.sat_prop.proofs.Walking.{IsNext, IsWalkOf, after_is, some_next, walk_begins, walk_stays}
use Rattle.sat_prop.proofs.WatchLists.{before_within, last_within, lists_forgotten, lists_moved, next_is, next_within, walk_left, walk_moved}
use Rattle.sat_prop.proofs.Nodes.{count_nexts, count_watches, linked_length, next_of_node, nexts_linked, nexts_turned, watches_linked, watches_turned}

-- the first that waits waits no more
passes : (s : WatchState) (n : ℕ) (others left : List ℕ) → s.waiting ≡ n ∷ others → left ≡ others → PassesWatch s (record s { waiting = left })
passes s n others left e f xs m g = ap (λ (ws : List ℕ). with_waiting ws) (f ∙ same n m others xs (sym e ∙ g))
  where
    with_waiting : List ℕ → WatchState
    with_waiting ws = record s { waiting = ws }

    same : (a b : ℕ) (xs ys : List ℕ) → (a ∷ xs) ≡ (b ∷ ys) → xs ≡ ys
    same a b xs ys q = cc

-- where two stand first it is the same
pub first_same : (m n : ℕ) (xs ys : List ℕ) → (m ∷ xs) ≡ (n ∷ ys) → m ≡ n
first_same m n xs ys q = cc

-- ---- all that watch a literal wait

pub opened : (a : Inside) (s : WatchState) → lists_view a ≡ s → AreKeptLists a → (l : Lit) → l.var < s.vars → (first : ℕ) → first ≡ (ends_of a.lists.items l).first
    → Becomes (record a { walk = record { lit = l; before = NO_WATCH; next = first } }) (λ t. IsOpened s t l)
opened a s view k l below first e =
    let known : l.var < length a.lists.items = subst (λ (t : WatchState). l.var < t.vars) (sym view) below in
    let stand = k.lists in
    let begun = walk_begins (nexts_of a.nodes.items) a.lists.items l (stand.numbers l) (few_links a k) known (stand.linked.each l known) in
    let walk : IsWalkOf (nexts_of a.nodes.items) a.lists.items (record { lit = l; before = NO_WATCH; next = first }) (stand.numbers l) = rw e begun in
    record {
      kept = kept_still a (record a { walk = record { lit = l; before = NO_WATCH; next = first } }) k refl refl refl refl stand walk.walks;
      state = subst (λ (t : WatchState). IsOpened t (record (lists_view a) { waiting = passed (nexts_of a.nodes.items) first }) l) view (record {
        watches = refl;
        vars = refl;
        spare = refl;
        waits = λ n h live q. subst (λ (xs : List ℕ). is_among n xs ≡ true) (sym walk.waits) (subst (λ (m : Lit). is_among n (stand.numbers m) ≡ true) q (stand.placed n h live));
        only = λ n t. stand.linked.own l n known (subst (λ (xs : List ℕ). is_among n xs ≡ true) walk.waits t);
      });
    }

-- ---- one waits

-- it is next in the walk, and where the nodes stand that a step reaches
pub record IsWalking (a : Inside) (s : WatchState) : Type 0 where
  pub view : lists_view a ≡ s
  pub kept : AreKeptLists a
  pub next : IsNext (nexts_of a.nodes.items) a.lists.items a.walk
  pub number : a.walk.next < length a.nodes.items
  pub before : a.walk.before ≢ NO_WATCH → a.walk.before < length a.nodes.items

pub walking : (a : Inside) (s : WatchState) → lists_view a ≡ s → AreKeptLists a → 0 < length s.waiting → IsWalking a s
walking a s view k waits =
    let few = few_links a k in
    let x = some_next (nexts_of a.nodes.items) a.lists.items a.walk few k.walk (subst (λ (t : WatchState). 0 < length t.waiting) (sym view) waits) in
    let n = count_watches a.nodes.items in
    record {
      view = view;
      kept = k;
      next = x;
      number = let b = next_within (watches_of a.nodes.items) (nexts_of a.nodes.items) a.lists.items k.lists few a.walk x in omega arith;
      before = λ d. let b = before_within (watches_of a.nodes.items) (nexts_of a.nodes.items) a.lists.items k.lists few a.walk x d in omega arith;
    }

-- it stays
pub stayed : (a : Inside) (s : WatchState) → IsWalking a s → (node : Node) → node ≡ get_or a.nodes.items a.walk.next node
    → Becomes (record a { walk = record { lit = a.walk.lit; before = a.walk.next; next = node.next } }) (PassesWatch s)
stayed a s w node e =
    let x = w.next in
    let after = next_of_node a.nodes.items a.walk.next node w.number ∙ ap (λ (m : Node). as_link m.next) (sym e) in
    let walk = walk_stays (nexts_of a.nodes.items) a.lists.items a.walk node.next (few_links a w.kept) x after in
    record {
      kept = kept_still a (record a { walk = record { lit = a.walk.lit; before = a.walk.next; next = node.next } }) w.kept refl refl refl refl w.kept.lists walk.walks;
      state = subst (λ (t : WatchState). PassesWatch t (record (lists_view a) { waiting = passed (nexts_of a.nodes.items) node.next })) w.view
          (passes (lists_view a) a.walk.next x.others (passed (nexts_of a.nodes.items) node.next) x.waits walk.waits);
    }

-- it is taken out of its list
module _ (a : Inside) (s : WatchState) (w : IsWalking a s) (nodes : Vec Node Global) (lists : Vec Lists Global) (after : ℕ)
    (e : after ≡ (node_at a.nodes.items a.walk.next).next) (f : nodes.items ≡ with_next_watch a.nodes.items a.walk.before after) (g : lists.items ≡ with_ends a.lists.items a.walk.lit (unlinked (ends_of a.lists.items a.walk.lit) a.walk.before after)) where
  few : length (nexts_of a.nodes.items) ≤ NO_WATCH
  few = few_links a w.kept

  first : after ≡ first_or_end w.next.others
  first = after_is (nexts_of a.nodes.items) a.lists.items a.walk after few w.next (next_of_node a.nodes.items a.walk.next no_node w.number ∙ ap as_link (sym e))

  abbrev left_nexts : List (Option ℕ)
  left_nexts = relinked (nexts_of a.nodes.items) (last_of w.next.done) (as_link (first_or_end w.next.others))

  abbrev left_lists : List Lists
  left_lists = with_ends a.lists.items a.walk.lit (unlinked (ends_of a.lists.items a.walk.lit) (last_of w.next.done) (first_or_end w.next.others))

  new_watches : watches_of nodes.items ≡ watches_of a.nodes.items
  new_watches = ap watches_of f ∙ watches_linked a.nodes.items a.walk.before after w.before

  new_nexts : nexts_of nodes.items ≡ left_nexts
  new_nexts = ap nexts_of f ∙ nexts_linked a.nodes.items a.walk.before after ∙ ap (λ (k : ℕ). relinked (nexts_of a.nodes.items) k (as_link after)) w.next.before ∙ ap (λ (k : ℕ). relinked (nexts_of a.nodes.items) (last_of w.next.done) (as_link k)) first

  new_ends : lists.items ≡ left_lists
  new_ends = g ∙ ap (λ (k : ℕ). with_ends a.lists.items a.walk.lit (unlinked (ends_of a.lists.items a.walk.lit) k after)) w.next.before ∙ ap (λ (k : ℕ). with_ends a.lists.items a.walk.lit (unlinked (ends_of a.lists.items a.walk.lit) (last_of w.next.done) k)) first

  new_length : length nodes.items ≡ length a.nodes.items
  new_length = ap length f ∙ linked_length a.nodes.items a.walk.before after

  new_many : length lists.items ≡ length a.lists.items
  new_many = ap length g ∙ ends_length a.lists.items a.walk.lit _

  pub number_left : a.walk.next < length nodes.items
  number_left = let n = new_length in let b = w.number in omega arith

  -- ---- where it was dropped, it stays out

  abbrev pub after_leave : Inside
  after_leave = record a { nodes = nodes; lists = lists; walk = record a.walk { next = after } }

  pub forgotten : IsFirstDropped s → vec_capacity nodes ≡ vec_capacity a.nodes → Becomes after_leave (PassesWatch s)
  forgotten dropped room = record {
    kept = kept_still a after_leave w.kept new_length room new_many refl
        (rw (new_watches, new_nexts, new_ends) (lists_forgotten (watches_of a.nodes.items) (nexts_of a.nodes.items) a.lists.items w.kept.lists few a.walk w.next gone)) goes.walks;
    state = subst (λ (t : WatchState). PassesWatch t (lists_view after_leave)) w.view
        (rw (new_watches, new_many) (passes (lists_view a) a.walk.next w.next.others (passed (nexts_of nodes.items) after) w.next.waits goes.waits));
  }
    where
      goes : IsWalkOf (nexts_of nodes.items) lists.items (record a.walk { next = after }) w.next.others
      goes = rw (new_nexts, new_ends, first) (walk_left (watches_of a.nodes.items) (nexts_of a.nodes.items) a.lists.items w.kept.lists few a.walk w.next)

      gone : (watch_at (watches_of a.nodes.items) a.walk.next).clause ≡ 0
      gone =
          let d = subst (λ (t : WatchState). IsFirstDropped t) (sym w.view) dropped in
          ap (λ (n : ℕ). (watch_at (watches_of a.nodes.items) n).clause) (first_same a.walk.next d.0 w.next.others d.1.others (sym w.next.waits ∙ d.1.first)) ∙ d.2

  -- ---- it watches another literal

  module _ (l : Lit) (below : l.var < s.vars) (apart : (n : ℕ) → IsFirstWaiting s n → watched_literal s.watches n ≢ l) (turned : List Node) (t : turned ≡ slice_set nodes.items a.walk.next (alone (node_at nodes.items a.walk.next).clause l)) where
    known : l.var < length a.lists.items
    known = subst (λ (t : WatchState). l.var < t.vars) (sym w.view) below

    other : watched_literal (watches_of a.nodes.items) a.walk.next ≢ l
    other = subst (λ (t : WatchState). (n : ℕ) → IsFirstWaiting t n → watched_literal t.watches n ≢ l) (sym w.view) apart a.walk.next
        (next_is (watches_of a.nodes.items) (nexts_of a.nodes.items) a.lists.items w.kept.lists few a.walk w.next (length a.lists.items) a.spare)

    turned_length : length turned ≡ length a.nodes.items
    turned_length = ap length t ∙ length-set nodes.items a.walk.next (alone (node_at nodes.items a.walk.next).clause l) ∙ new_length

    pub last_left : (ends_of lists.items l).last ≢ NO_WATCH → (ends_of lists.items l).last < length turned
    last_left d =
        let n = count_watches a.nodes.items in
        let m = turned_length in
        let b = last_within (watches_of a.nodes.items) (nexts_of a.nodes.items) a.lists.items w.kept.lists few a.walk w.next l known (λ z. d (ap (λ (ls : List Lists). (ends_of ls l).last) new_ends ∙ z)) in
        subst (λ (ls : List Lists). (ends_of ls l).last < length turned) (sym new_ends) (omega arith)

    module _ (final : Vec Node Global) (final_lists : Vec Lists Global) (h : final.items ≡ with_next_watch turned (ends_of lists.items l).last a.walk.next) (k : final_lists.items ≡ with_ends lists.items l (appended (ends_of lists.items l) a.walk.next)) where
      abbrev pub after_move : Inside
      after_move = record a { nodes = final; lists = final_lists; walk = record a.walk { next = after } }

      final_length : length final.items ≡ length a.nodes.items
      final_length = ap length h ∙ linked_length turned (ends_of lists.items l).last a.walk.next ∙ turned_length

      final_many : length final_lists.items ≡ length a.lists.items
      final_many = ap length k ∙ ends_length lists.items l _ ∙ new_many

      final_watches : watches_of final.items ≡ slice_set (watches_of a.nodes.items) a.walk.next (watching (watch_at (watches_of a.nodes.items) a.walk.next) l)
      final_watches =
          ap watches_of h ∙ watches_linked turned (ends_of lists.items l).last a.walk.next last_left
          ∙ ap watches_of t ∙ watches_turned nodes.items a.walk.next l number_left
          ∙ ap (λ (ws : List Watch). slice_set ws a.walk.next (watching (watch_at ws a.walk.next) l)) new_watches

      final_nexts : nexts_of final.items ≡ relinked (slice_set left_nexts a.walk.next None) (ends_of left_lists l).last (Some a.walk.next)
      final_nexts =
          let b = w.number in
          let n = count_nexts a.nodes.items in
          let m = few in
          ap nexts_of h ∙ nexts_linked turned (ends_of lists.items l).last a.walk.next
          ∙ ap (λ (xs : List (Option ℕ)). relinked xs (ends_of lists.items l).last (as_link a.walk.next)) (ap nexts_of t ∙ nexts_turned nodes.items a.walk.next (node_at nodes.items a.walk.next).clause l ∙ ap (λ (xs : List (Option ℕ)). slice_set xs a.walk.next None) new_nexts)
          ∙ ap (λ (ls : List Lists). relinked (slice_set left_nexts a.walk.next None) (ends_of ls l).last (as_link a.walk.next)) new_ends
          ∙ ap (λ (o : Option ℕ). relinked (slice_set left_nexts a.walk.next None) (ends_of left_lists l).last o) (linked_to a.walk.next (omega arith))

      final_ends : final_lists.items ≡ with_ends left_lists l (appended (ends_of left_lists l) a.walk.next)
      final_ends = k ∙ ap (λ (ls : List Lists). with_ends ls l (appended (ends_of ls l) a.walk.next)) new_ends

      goes_on : IsWalkOf (nexts_of final.items) final_lists.items (record a.walk { next = after }) w.next.others
      goes_on = rw (final_nexts, final_ends, first) (walk_moved (watches_of a.nodes.items) (nexts_of a.nodes.items) a.lists.items w.kept.lists few a.walk w.next l known other)

      moves : MovesWatch (lists_view a) (lists_view after_move) l
      moves others number q =
          let same = both a.walk.next number w.next.others others (sym w.next.waits ∙ q) in
          ap (λ (n : ℕ). record (lists_view after_move) { vars = n }) final_many
          ∙ ap (λ (ws : List Watch). after_with ws (passed (nexts_of final.items) after)) (final_watches ∙ ap (λ (n : ℕ). slice_set (watches_of a.nodes.items) n (watching (watch_at (watches_of a.nodes.items) n) l)) same.0)
          ∙ ap (λ (xs : List ℕ). after_with (slice_set (watches_of a.nodes.items) number (watching (watch_at (watches_of a.nodes.items) number) l)) xs) (goes_on.waits ∙ same.1)
        where
          after_with : List Watch → List ℕ → WatchState
          after_with ws waiting = record (lists_view a) { watches = ws; waiting = waiting }

          both : (m n : ℕ) (xs ys : List ℕ) → (m ∷ xs) ≡ (n ∷ ys) → (m ≡ n) × (xs ≡ ys)
          both m n xs ys q = (cc, cc)

      pub moved : vec_capacity final ≡ vec_capacity a.nodes → Becomes after_move (λ t. MovesWatch s t l)
      moved room = record {
        kept = kept_still a after_move w.kept final_length room final_many refl
            (rw (final_watches, final_nexts, final_ends) (lists_moved (watches_of a.nodes.items) (nexts_of a.nodes.items) a.lists.items w.kept.lists few a.walk w.next l known other)) goes_on.walks;
        state = subst (λ (t : WatchState). MovesWatch t (lists_view after_move) l) w.view moves;
      }
