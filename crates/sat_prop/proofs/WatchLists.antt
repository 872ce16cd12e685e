-- Each watch stays in the list of its literal, as lists change.
use Rattle.std.proofs.Common.{◌≡◌, ◌∙◌, ℕ, ◌+◌, ◌<◌, ◌≤◌, Bool, true, false, ◌++◌, ◌∷◌, [], List, refl, ap, sym, subst, length, get_or, replicate, arith, ⊎_elim, cond, Option, Some, None}
use Rattle.std.specs.Prelude.{nat_eq, nat_lt, slice_set}
use Rattle.std.proofs.lemmas.Grind.{common_steps}
use Rattle.std.proofs.lemmas.Bool.{cases_Bool, cases_eq, ne_eqb, or_cases}
use Rattle.std.proofs.lemmas.List.{length-set}
use Rattle.prop_core.specs.declared.lit.Lit.{Lit}
use Rattle.prop_core.specs.Clauses.{same_literal}
use Rattle.prop_core.proofs.Literals.{same_is}
use Rattle.sat_prop.specs.declared.watch_lists.Ends.{Ends}
use Rattle.sat_prop.specs.declared.watch_lists.Lists.{Lists}
use Rattle.sat_prop.specs.declared.watch_lists.Walk.{Walk}
use Rattle.sat_prop.specs.declared.watch_lists.Watch.{Watch}
use Rattle.sat_prop.specs.declared.watch_lists.TheConstants.{NO_WATCH}
use Rattle.sat_prop.specs.Watches.{AreLinked, AreWatchLists, IsFirstWaiting, IsList, IsLive, IsWalk, IsWalkInList, Links, appended, as_link, empty, ends_in, ends_of, first_or_end, is_among, last_of, watched_literal, no_watch, passed, unlinked, watch_at, watching, with_dropped, with_ends}
use Rattle.sat_prop.proofs.Links.{among_either, among_itself, among_left, among_neither, among_right, ends, last_is_among, links_once, links_rest, links_split, not_both, relinked, relinked_length}
use Rattle.sat_prop.proofs.Linking.{apart, each_list, ends_length, last_link, linked_appended, linked_below, linked_more, linked_turned, linked_unlinked, list_here, list_there, stays_among, with_list}
use Rattle.sat_prop.proofs.Walking.{IsNext, IsWalkOf, walk_within}
use Rattle.sat_prop.proofs.Dropping.{drop_length, drop_lit, drop_live}

no_number : (n : ℕ) → is_among n [] ≡ true → ⊥
no_number n h = cc

-- with none
pub none_stand : AreWatchLists [] [] []
none_stand = record {
  same = refl;
  numbers = λ l. [];
  linked = record { each = λ l h. absurd (omega (arith, h)); own = λ l n h t. absurd (no_number n t) };
  placed = λ n h live. absurd (omega (arith, h));
  known = λ n h. absurd (omega (arith, h));
}

-- ---- the next one of a walk leaves its list

module _ (watches : List Watch) (nexts : List (Option ℕ)) (lists : List Lists) (a : AreWatchLists watches nexts lists) (few : length nexts ≤ NO_WATCH) (walk : Walk) (x : IsNext nexts lists walk) where
  list_is : a.numbers walk.lit ≡ x.done ++ walk.next ∷ x.others
  list_is = links_once nexts (as_link (ends_of lists walk.lit).first) (a.numbers walk.lit) (x.done ++ walk.next ∷ x.others) (a.linked.each walk.lit x.known).links x.links

  stands : is_among walk.next (a.numbers walk.lit) ≡ true
  stands = subst (λ (xs : List ℕ). is_among walk.next xs ≡ true) (sym list_is) (among_right walk.next x.done (walk.next ∷ x.others) (among_itself walk.next x.others))

  pub next_within : walk.next < length watches
  next_within = let b = linked_below (watched_literal watches) nexts lists a.numbers few a.linked walk.lit walk.next x.known stands in let s = a.same in omega arith

  pub before_within : (walk.before ≡ NO_WATCH → ⊥) → walk.before < length watches
  before_within d =
      let s = a.same in
      let t : is_among walk.before (a.numbers walk.lit) ≡ true = subst (λ (xs : List ℕ). is_among walk.before xs ≡ true) (sym list_is)
      (among_left walk.before x.done (walk.next ∷ x.others) (subst (λ (n : ℕ). is_among n x.done ≡ true) (sym x.before) (last_is_among x.done (λ e. d (x.before ∙ e))))) in
      let b = linked_below (watched_literal watches) nexts lists a.numbers few a.linked walk.lit walk.before x.known t in
      omega arith

  pub next_literal : watched_literal watches walk.next ≡ walk.lit
  next_literal = a.linked.own walk.lit walk.next x.known stands

  not_among_others : is_among walk.next x.others ≡ false
  not_among_others = (links_rest nexts (as_link (ends_of lists walk.lit).first) x.done (walk.next ∷ x.others) few x.links).2

  not_done : is_among walk.next x.done ≡ false
  not_done = ⊎_elim
      (λ t. absurd (not_both _ (among_itself walk.next x.others) (links_split nexts (as_link (ends_of lists walk.lit).first) x.done (walk.next ∷ x.others) walk.next x.links t)))
      (λ t. t)
      (cases_Bool (is_among walk.next x.done))

  -- it is the first of those that wait
  pub next_is : (vars spare : ℕ) → IsFirstWaiting (record { watches = watches; waiting = passed nexts walk.next; vars = vars; spare = spare }) walk.next
  next_is vars spare = record { others = x.others; first = x.waits; once = not_among_others; within = next_within }

  abbrev pub left_nexts : List (Option ℕ)
  left_nexts = relinked nexts (last_of x.done) (as_link (first_or_end x.others))

  abbrev pub left_lists : List Lists
  left_lists = with_ends lists walk.lit (unlinked (ends_of lists walk.lit) (last_of x.done) (first_or_end x.others))

  abbrev pub left_numbers : Lit → List ℕ
  left_numbers = with_list a.numbers walk.lit (x.done ++ x.others)

  linked_left : AreLinked (watched_literal watches) left_nexts left_lists left_numbers
  linked_left = linked_unlinked (watched_literal watches) nexts lists a.numbers few a.linked walk.lit x.known x.done walk.next x.others list_is

  left_length : length left_nexts ≡ length nexts
  left_length = relinked_length nexts (last_of x.done) (as_link (first_or_end x.others))

  left_many : length left_lists ≡ length lists
  left_many = ends_length lists walk.lit (unlinked (ends_of lists walk.lit) (last_of x.done) (first_or_end x.others))

  left_few : length left_nexts ≤ NO_WATCH
  left_few = let e = left_length in omega arith

  was_known : (k : Lit) → k.var < length left_lists → k.var < length lists
  was_known k h = let e = left_many in omega arith

  is_known : (k : Lit) → k.var < length lists → k.var < length left_lists
  is_known k h = let e = left_many in omega arith

  -- it stands in no list
  gone : (k : Lit) → k.var < length left_lists → is_among walk.next (left_numbers k) ≡ false
  gone k h = each_list a.numbers walk.lit (x.done ++ x.others) (λ y xs. is_among walk.next xs ≡ false) k
      (λ e. among_neither walk.next x.done x.others not_done not_among_others)
      (λ d. apart (watched_literal watches) nexts lists a.numbers few a.linked walk.lit x.known k walk.next (was_known k h) d stands)

  -- the others stay
  others_stay : (k : Lit) (m : ℕ) → (m ≡ walk.next → ⊥) → is_among m (a.numbers k) ≡ true → is_among m (left_numbers k) ≡ true
  others_stay k m d = stays_among a.numbers walk.lit (x.done ++ x.others) k m (λ e t. ⊎_elim
      (λ s. among_left m x.done x.others s)
      (λ s. ⊎_elim
      (λ q. absurd (not_both _ q (ne_eqb m walk.next d)))
      (λ q. among_right m x.done x.others q)
      (or_cases (nat_eq m walk.next) (is_among m x.others) s))
      (among_either m x.done (walk.next ∷ x.others) (subst (λ (xs : List ℕ). is_among m xs ≡ true) list_is t)))

  -- those after it wait
  pub walk_left : IsWalkOf left_nexts left_lists (record { lit = walk.lit; before = walk.before; next = first_or_end x.others }) x.others
  walk_left = walk_within left_nexts left_lists walk.lit walk.before (first_or_end x.others) x.done x.others left_few (is_known walk.lit x.known)
      (subst (λ (xs : List ℕ). IsList left_nexts (ends_of left_lists walk.lit) xs) (list_here a.numbers walk.lit (x.done ++ x.others)) (linked_left.each walk.lit (is_known walk.lit x.known)))
      x.before refl

  pub last_within : (l : Lit) → l.var < length lists → ((ends_of left_lists l).last ≡ NO_WATCH → ⊥) → (ends_of left_lists l).last < length watches
  last_within l known d =
      let b = last_link (watched_literal watches) left_nexts left_lists left_numbers left_few linked_left l (is_known l known) d in
      let e = left_length in
      let s = a.same in
      omega arith

  -- ---- where it was dropped

  pub lists_forgotten : (watch_at watches walk.next).clause ≡ 0 → AreWatchLists watches left_nexts left_lists
  lists_forgotten z = record {
    same = left_length ∙ a.same;
    numbers = left_numbers;
    linked = linked_left;
    placed = λ m h live. others_stay (watched_literal watches m) m (not_dropped m live) (a.placed m h live);
    known = λ m h. is_known (watched_literal watches m) (a.known m h);
  }
    where
      not_dropped : (m : ℕ) → IsLive watches m → m ≡ walk.next → ⊥
      not_dropped m live e =
          let c : (watch_at watches m).clause ≡ 0 = ap (λ (k : ℕ). (watch_at watches k).clause) e ∙ z in
          let l : 1 ≤ (watch_at watches m).clause = live in
          omega arith

  -- ---- where it watches another literal

  module _ (l : Lit) (known : l.var < length lists) (other : watched_literal watches walk.next ≡ l → ⊥) where
    abbrev pub moved_watches : List Watch
    moved_watches = slice_set watches walk.next (watching (watch_at watches walk.next) l)

    abbrev pub turned_nexts : List (Option ℕ)
    turned_nexts = slice_set left_nexts walk.next None

    abbrev pub moved_nexts : List (Option ℕ)
    moved_nexts = relinked turned_nexts (ends_of left_lists l).last (Some walk.next)

    abbrev pub moved_lists : List Lists
    moved_lists = with_ends left_lists l (appended (ends_of left_lists l) walk.next)

    abbrev pub moved_numbers : Lit → List ℕ
    moved_numbers = with_list left_numbers l (left_numbers l ++ walk.next ∷ [])

    lit_here : watched_literal moved_watches walk.next ≡ l
    lit_here =
        let b : walk.next < length watches = next_within in
        let g : get_or moved_watches walk.next no_watch ≡ watching (watch_at watches walk.next) l = grind (arith, common_steps) in
        ap (λ (w : Watch). w.lit) g

    same_elsewhere : (m : ℕ) → (m ≡ walk.next → ⊥) → watch_at moved_watches m ≡ watch_at watches m
    same_elsewhere m d = grind (arith, common_steps)

    lit_elsewhere : (m : ℕ) → (m ≡ walk.next → ⊥) → watched_literal moved_watches m ≡ watched_literal watches m
    lit_elsewhere m d = ap (λ (w : Watch). w.lit) (same_elsewhere m d)

    turned_length : length turned_nexts ≡ length nexts
    turned_length = length-set left_nexts walk.next None ∙ left_length

    turned_few : length turned_nexts ≤ NO_WATCH
    turned_few = let e = turned_length in omega arith

    turned_within : walk.next < length turned_nexts
    turned_within = let e = turned_length in let s = a.same in let b = next_within in omega arith

    turned_end : get_or turned_nexts walk.next None ≡ None
    turned_end =
        let e = turned_length in
        let f = left_length in
        let s = a.same in
        let b = next_within in
        let w : walk.next < length left_nexts = omega arith in
        grind (arith, common_steps)

    linked_there : AreLinked (watched_literal moved_watches) turned_nexts left_lists left_numbers
    linked_there = linked_turned (watched_literal watches) left_nexts left_lists left_numbers left_few linked_left (watched_literal moved_watches) walk.next None gone lit_elsewhere

    linked_moved : AreLinked (watched_literal moved_watches) moved_nexts moved_lists moved_numbers
    linked_moved = linked_appended (watched_literal moved_watches) turned_nexts left_lists left_numbers turned_few linked_there l (is_known l known) walk.next turned_within turned_end (gone l (is_known l known)) lit_here

    moved_length : length moved_nexts ≡ length nexts
    moved_length = relinked_length turned_nexts (ends_of left_lists l).last (Some walk.next) ∙ turned_length

    moved_few : length moved_nexts ≤ NO_WATCH
    moved_few = let e = moved_length in omega arith

    moved_many : length moved_lists ≡ length lists
    moved_many = ends_length left_lists l (appended (ends_of left_lists l) walk.next) ∙ left_many

    moved_known : (k : Lit) → k.var < length lists → k.var < length moved_lists
    moved_known k h = let e = moved_many in omega arith

    -- what stood in a list after it left stands there
    stays : (k : Lit) (m : ℕ) → is_among m (left_numbers k) ≡ true → is_among m (moved_numbers k) ≡ true
    stays k m = stays_among left_numbers l (left_numbers l ++ walk.next ∷ []) k m (λ e t. among_left m (left_numbers l) (walk.next ∷ []) t)

    moved_placed : (m : ℕ) → m < length moved_watches → IsLive moved_watches m → is_among m (moved_numbers (watched_literal moved_watches m)) ≡ true
    moved_placed m h live = ⊎_elim
        (λ e. subst (λ (i : ℕ). is_among i (moved_numbers (watched_literal moved_watches i)) ≡ true) (sym e)
        (subst (λ (y : Lit). is_among walk.next (moved_numbers y) ≡ true) (sym lit_here)
        (subst (λ (xs : List ℕ). is_among walk.next xs ≡ true) (sym (list_here left_numbers l (left_numbers l ++ walk.next ∷ []))) (among_right walk.next (left_numbers l) (walk.next ∷ []) (among_itself walk.next [])))))
        (λ d. let w : m < length watches = grind (arith, common_steps) in
        subst (λ (y : Lit). is_among m (moved_numbers y) ≡ true) (sym (lit_elsewhere m d))
        (stays (watched_literal watches m) m (others_stay (watched_literal watches m) m d (a.placed m w (subst (λ (y : Watch). 1 ≤ y.clause) (same_elsewhere m d) live)))))
        (cases_eq m walk.next)

    pub lists_moved : AreWatchLists moved_watches moved_nexts moved_lists
    lists_moved = record {
      same = let s = a.same in moved_length ∙ s ∙ grind (arith, common_steps);
      numbers = moved_numbers;
      linked = linked_moved;
      placed = moved_placed;
      known = λ m h. ⊎_elim
          (λ e. subst (λ (i : ℕ). (watched_literal moved_watches i).var < length moved_lists) (sym e) (subst (λ (y : Lit). y.var < length moved_lists) (sym lit_here) (moved_known l known)))
          (λ d. let w : m < length watches = grind (arith, common_steps) in
          subst (λ (y : Lit). y.var < length moved_lists) (sym (lit_elsewhere m d)) (moved_known (watched_literal watches m) (a.known m w)))
          (cases_eq m walk.next);
    }

    lit_apart : same_literal walk.lit l ≡ false
    lit_apart = ⊎_elim (λ t. absurd (other (next_literal ∙ same_is walk.lit l t))) (λ t. t) (cases_Bool (same_literal walk.lit l))

    pub walk_moved : IsWalkOf moved_nexts moved_lists (record { lit = walk.lit; before = walk.before; next = first_or_end x.others }) x.others
    walk_moved = walk_within moved_nexts moved_lists walk.lit walk.before (first_or_end x.others) x.done x.others moved_few (moved_known walk.lit x.known)
        (subst (λ (xs : List ℕ). IsList moved_nexts (ends_of moved_lists walk.lit) xs)
        (list_there left_numbers l walk.lit (left_numbers l ++ walk.next ∷ []) lit_apart ∙ list_here a.numbers walk.lit (x.done ++ x.others))
        (linked_moved.each walk.lit (moved_known walk.lit x.known)))
        x.before refl

-- ---- a watch is dropped

pub lists_dropped : (watches : List Watch) (nexts : List (Option ℕ)) (lists : List Lists) (n : ℕ) → n < length watches → AreWatchLists watches nexts lists → AreWatchLists (with_dropped watches n) nexts lists
lists_dropped watches nexts lists n w a = record {
  same = a.same ∙ sym (drop_length watches n);
  numbers = a.numbers;
  linked = record { each = a.linked.each; own = λ k m h t. drop_lit watches n m w ∙ a.linked.own k m h t };
  placed = λ m h live. subst (λ (x : Lit). is_among m (a.numbers x) ≡ true) (sym (drop_lit watches n m w)) (a.placed m (still m h) (drop_live watches n m w live));
  known = λ m h. subst (λ (x : Lit). x.var < length lists) (sym (drop_lit watches n m w)) (a.known m (still m h));
}
  where
    still : (m : ℕ) → m < length (with_dropped watches n) → m < length watches
    still m h = subst (λ (k : ℕ). m < k) (drop_length watches n) h

-- ---- a new watch

module _ (watches : List Watch) (nexts : List (Option ℕ)) (lists : List Lists) (a : AreWatchLists watches nexts lists) (few : length nexts < NO_WATCH) (w : Watch) (known : w.lit.var < length lists) where
  abbrev pub added : ℕ
  added = length watches

  abbrev pub pushed_watches : List Watch
  pushed_watches = watches ++ w ∷ []

  abbrev pub more_nexts : List (Option ℕ)
  more_nexts = nexts ++ None ∷ []

  abbrev pub pushed_nexts : List (Option ℕ)
  pushed_nexts = relinked more_nexts (ends_of lists w.lit).last (Some added)

  abbrev pub pushed_lists : List Lists
  pushed_lists = with_ends lists w.lit (appended (ends_of lists w.lit) added)

  abbrev pub pushed_numbers : Lit → List ℕ
  pushed_numbers = with_list a.numbers w.lit (a.numbers w.lit ++ added ∷ [])

  still_few : length nexts ≤ NO_WATCH
  still_few = omega arith

  not_listed : (k : Lit) → k.var < length lists → is_among added (a.numbers k) ≡ false
  not_listed k h = ⊎_elim
      (λ t. let b = linked_below (watched_literal watches) nexts lists a.numbers still_few a.linked k added h t in let s = a.same in absurd (omega arith))
      (λ t. t)
      (cases_Bool (is_among added (a.numbers k)))

  same_before : (m : ℕ) → m < added → watch_at pushed_watches m ≡ watch_at watches m
  same_before m h = grind (arith, common_steps)

  lit_before : (m : ℕ) → m < added → watched_literal pushed_watches m ≡ watched_literal watches m
  lit_before m h = ap (λ (x : Watch). x.lit) (same_before m h)

  lit_added : watched_literal pushed_watches added ≡ w.lit
  lit_added = let g : get_or pushed_watches added no_watch ≡ w = grind (arith, common_steps) in ap (λ (x : Watch). x.lit) g

  more_length : length more_nexts ≡ length nexts + 1
  more_length = grind (arith, common_steps)

  linked_with : AreLinked (watched_literal pushed_watches) more_nexts lists a.numbers
  linked_with = linked_more (watched_literal watches) nexts lists a.numbers still_few a.linked (watched_literal pushed_watches) None (λ m h. lit_before m (let s = a.same in omega arith))

  linked_pushed : AreLinked (watched_literal pushed_watches) pushed_nexts pushed_lists pushed_numbers
  linked_pushed =
      let e = more_length in
      let s = a.same in
      let g : get_or more_nexts added None ≡ None = rw (← s) (grind (arith, common_steps)) in
      linked_appended (watched_literal pushed_watches) more_nexts lists a.numbers (omega arith) linked_with w.lit known added (omega arith) g (not_listed w.lit known) lit_added

  pushed_many : length pushed_lists ≡ length lists
  pushed_many = ends_length lists w.lit (appended (ends_of lists w.lit) added)

  -- what stood before, or is new
  each_pushed : (P : ℕ → Type 0) → ((m : ℕ) → m < added → P m) → P added → (m : ℕ) → m < length pushed_watches → P m
  each_pushed P f p m h = ⊎_elim
      (λ e. subst P (sym e) p)
      (λ d. f m (let n : m < added + 1 = grind (arith, common_steps) in omega arith))
      (cases_eq m added)

  pub lists_pushed : AreWatchLists pushed_watches pushed_nexts pushed_lists
  lists_pushed = record {
    same = let s = a.same in relinked_length more_nexts (ends_of lists w.lit).last (Some added) ∙ more_length ∙ ap (λ (k : ℕ). k + 1) s ∙ grind (arith, common_steps);
    numbers = pushed_numbers;
    linked = linked_pushed;
    placed = each_pushed (λ m. IsLive pushed_watches m → is_among m (pushed_numbers (watched_literal pushed_watches m)) ≡ true)
        (λ m h live. subst (λ (x : Lit). is_among m (pushed_numbers x) ≡ true) (sym (lit_before m h))
        (stays_among a.numbers w.lit (a.numbers w.lit ++ added ∷ []) (watched_literal watches m) m (λ e t. among_left m (a.numbers w.lit) (added ∷ []) t) (a.placed m h (subst (λ (x : Watch). 1 ≤ x.clause) (same_before m h) live))))
        (λ live. subst (λ (x : Lit). is_among added (pushed_numbers x) ≡ true) (sym lit_added)
        (subst (λ (xs : List ℕ). is_among added xs ≡ true) (sym (list_here a.numbers w.lit (a.numbers w.lit ++ added ∷ []))) (among_right added (a.numbers w.lit) (added ∷ []) (among_itself added []))));
    known = each_pushed (λ m. (watched_literal pushed_watches m).var < length pushed_lists)
        (λ m h. let k = a.known m h in let e = pushed_many in subst (λ (x : Lit). x.var < length pushed_lists) (sym (lit_before m h)) (omega arith))
        (let e = pushed_many in subst (λ (x : Lit). x.var < length pushed_lists) (sym lit_added) (omega arith));
  }

-- ---- more variables

module _ (lists : List Lists) (more : ℕ) where
  abbrev pub wider_lists : List Lists
  wider_lists = lists ++ replicate more empty

  wider_ends : (l : Lit) → l.var < length lists → ends_of wider_lists l ≡ ends_of lists l
  wider_ends l b = let g : get_or wider_lists l.var empty ≡ get_or lists l.var empty = grind (arith, common_steps) in ap (λ (s : Lists). ends_in s l.positive) g

  empty_ends : (l : Lit) → length lists ≤ l.var → ends_of wider_lists l ≡ record { first = NO_WATCH; last = NO_WATCH }
  empty_ends l b = let g : get_or wider_lists l.var empty ≡ empty = grind (arith, common_steps) in ap (λ (s : Lists). ends_in s l.positive) g ∙ none l.positive
    where
      none : (b : Bool) → ends_in empty b ≡ record { first = NO_WATCH; last = NO_WATCH }
      none true = refl
      none false = refl

  wider_many : length lists ≤ length wider_lists
  wider_many = grind (arith, common_steps)

  pub walk_wider : (nexts : List (Option ℕ)) (walk : Walk) → IsWalk nexts lists walk → IsWalk nexts wider_lists walk
  walk_wider nexts walk walks d =
      let w : IsWalkInList nexts lists walk = walks d in
      record {
        known = let k = w.known in let m = wider_many in omega arith;
        done = w.done;
        rest = w.rest;
        links = subst (λ (e : Ends). Links nexts (as_link e.first) (w.done ++ w.rest)) (sym (wider_ends walk.lit w.known)) w.links;
        before = w.before;
        next = w.next;
      }

  module _ (watches : List Watch) (nexts : List (Option ℕ)) (a : AreWatchLists watches nexts lists) where
    abbrev pub wider_numbers : Lit → List ℕ
    wider_numbers l = cond (nat_lt l.var (length lists)) (a.numbers l) []

    wide_or_not : (P : List ℕ → Type 0) (l : Lit) → (l.var < length lists → P (a.numbers l)) → (length lists ≤ l.var → P []) → P (wider_numbers l)
    wide_or_not P l f g = ⊎_elim
        (λ t. rw t (f (grind (arith, common_steps))))
        (λ t. rw t (g (grind (arith, common_steps))))
        (cases_Bool (nat_lt l.var (length lists)))

    pub lists_wider : AreWatchLists watches nexts wider_lists
    lists_wider = record {
      same = a.same;
      numbers = wider_numbers;
      linked = record {
        each = λ l h. wide_or_not (λ xs. IsList nexts (ends_of wider_lists l) xs) l
            (λ b. subst (λ (e : Ends). IsList nexts e (a.numbers l)) (sym (wider_ends l b)) (a.linked.each l b))
            (λ b. subst (λ (e : Ends). IsList nexts e []) (sym (empty_ends l b)) (record { links = ends NO_WATCH refl; last = refl }));
        own = λ l m h. wide_or_not (λ xs. is_among m xs ≡ true → watched_literal watches m ≡ l) l
            (λ b t. a.linked.own l m b t)
            (λ b t. absurd (no_number m t));
      };
      placed = λ m h live. wide_or_not (λ xs. is_among m xs ≡ true) (watched_literal watches m)
          (λ b. a.placed m h live)
          (λ b. let k = a.known m h in absurd (omega arith));
      known = λ m h. let k = a.known m h in let n = wider_many in omega arith;
    }
