-- What watches are settled by, as literals come and go.
use Rattle.std.proofs.Common.{◌≡◌, ◌∙◌, ℕ, suc, ◌+◌, ◌<◌, ◌≤◌, true, false, refl, ◌||◌, ◌++◌, ◌∷◌, [], List, ap, sym, subst, length, take, get_or, min, arith, inl, inr, ⊎_elim, Option, Some, None}
use Rattle.std.specs.Prelude.{◌⊎◌, Contains, slice_index}
use Rattle.std.specs.List.{list_any, list_all}
use Rattle.std.proofs.lemmas.Grind.{common_steps}
use Rattle.std.proofs.lemmas.Bool.{cases_Bool, cases_eq, and_from, and_parts, or_left, or_right, or_cases}
use Rattle.prop_core.specs.declared.lit.Lit.{Lit}
use Rattle.prop_core.specs.Clauses.{Clause, negation, same_literal, is_true, is_false, AreConsistent}
use Rattle.prop_core.specs.Derivation.{standing, clause_numbered}
use Rattle.prop_core.specs.Trail.{no_literal, is_forced_by, is_quiet}
use Rattle.prop_core.proofs.Literals.{negation_twice, true_at, true_more, true_longer, place_found, all_from, all_at, open_from}
use Rattle.prop_core.proofs.Forcing.{forced_stands, quiet_true, quiet_two}
use Rattle.sat_prop.specs.TrailState.{TrailState, literal_at, reason_at}
use Rattle.sat_prop.specs.Levels.{level_of}
use Rattle.sat_prop.specs.Quiet.{AreQuiet, stands}
use Rattle.sat_prop.specs.Changes.{IsKeptUpTo, with_true_literal}
use Rattle.sat_prop.specs.Kept.{IsTrailState}
use Rattle.sat_prop.specs.declared.watch_lists.Watch.{Watch}
use Rattle.sat_prop.specs.Watches.{IsLive, watch_at, other_literal}
use Rattle.sat_prop.specs.Watching.{WatchedState, AreWatched, AreVisited, IsWatch, IsSettled, IsNarrow, IsLookedAt, IsCovered, MakesUp}
use Rattle.sat_prop.proofs.Fronts.{split_last, held_same, contains_at}
use Rattle.sat_prop.proofs.Links.{not_both}
use Rattle.sat_prop.proofs.Covering.{live_of, twin_live, quiet_part}
use Rattle.sat_prop.proofs.Justifying.{justified_consistent}

-- ---- one more literal

pub makes_up_more : (literals first : List Lit) (clause : Clause) (other l : Lit) → MakesUp literals first clause other → MakesUp (literals ++ l ∷ []) first clause other
makes_up_more literals first clause other l m = record { early = m.early; now = true_more literals l other ∙ or_left _ _ m.now }

-- a watch that was dropped is settled, since it has no clause
pub settled_live : (clauses : List Clause) (literals : List Lit) (seen : ℕ) (watches : List Watch) (n : ℕ) → (IsLive watches n → IsSettled clauses literals seen watches n) → IsSettled clauses literals seen watches n
settled_live clauses literals seen watches n f place clause h e held = f (live_of clauses (watch_at watches n).clause clause held) place clause h e held

pub settled_more : (clauses : List Clause) (literals : List Lit) (seen : ℕ) (watches : List Watch) (n : ℕ) (l : Lit) → seen ≤ length literals → IsSettled clauses literals seen watches n → IsSettled clauses (literals ++ l ∷ []) seen watches n
settled_more clauses literals seen watches n l b s place clause h e held =
    let i : place < length literals = omega arith in
    let g : get_or (literals ++ l ∷ []) place no_literal ≡ get_or literals place no_literal = grind (arith, common_steps) in
    let t : take (place + 1) (literals ++ l ∷ []) ≡ take (place + 1) literals = grind (arith, common_steps) in
    subst (λ (first : List Lit). MakesUp (literals ++ l ∷ []) first clause (other_literal watches n)) (sym t) (makes_up_more literals (take (place + 1) literals) clause (other_literal watches n) l (s place clause h (sym g ∙ e) held))

pub watched_more : (t : TrailState) (w : WatchedState) (l : Lit) (reason : Option ℕ) → AreWatched t w → AreWatched (with_true_literal t l reason) w
watched_more t w l reason a = record {
  front = let f = a.front in grind (arith, common_steps);
  vars = a.vars;
  room_short = a.room_short;
  room_watches = a.room_watches;
  short = a.short;
  narrow = a.narrow;
  all = a.all;
  each = a.each;
  settled = λ n h. settled_more t.clauses t.literals w.seen w.lists.watches n l a.front (a.settled n h);
}

pub visited_more : (t : TrailState) (w : WatchedState) (l : Lit) (reason : Option ℕ) → w.seen < length t.literals → AreVisited t w → AreVisited (with_true_literal t l reason) w
visited_more t w l reason b a n h f = settled_more t.clauses t.literals (w.seen + 1) w.lists.watches n l (omega arith) (a n h f)

-- ---- a watched literal that the next literal makes false

-- what is settled by the literals that have been looked at is so by the next one too
pub settled_next : (clauses : List Clause) (literals : List Lit) (seen : ℕ) (watches : List Watch) (n : ℕ) → IsSettled clauses literals seen watches n
    → ((clause : Clause) → literal_at literals seen ≡ negation (watch_at watches n).lit → clause_numbered clauses (watch_at watches n).clause ≡ Some clause → MakesUp literals (take (seen + 1) literals) clause (other_literal watches n))
    → IsSettled clauses literals (seen + 1) watches n
settled_next clauses literals seen watches n s f place clause h e held = ⊎_elim
    (λ b. s place clause b e held)
    (λ b. subst (λ (p : ℕ). MakesUp literals (take (p + 1) literals) clause (other_literal watches n)) (sym b) (f clause (subst (λ (p : ℕ). literal_at literals p ≡ negation (watch_at watches n).lit) b e) held))
    (split_last place seen h)

pub negation_once : (a b : Lit) → negation a ≡ negation b → a ≡ b
negation_once a b e = sym (negation_twice a) ∙ ap negation e ∙ negation_twice b

-- another literal is made false,
pub settled_apart : (clauses : List Clause) (literals : List Lit) (seen : ℕ) (watches : List Watch) (n : ℕ) (l : Lit) → IsSettled clauses literals seen watches n → literal_at literals seen ≡ negation l → ((watch_at watches n).lit ≡ l → ⊥) → IsSettled clauses literals (seen + 1) watches n
settled_apart clauses literals seen watches n l s falls d = settled_next clauses literals seen watches n s (λ clause e held. absurd (d (negation_once (watch_at watches n).lit l (sym e ∙ falls))))

-- the other literal is among the first,
pub settled_true : (clauses : List Clause) (literals : List Lit) (seen : ℕ) (watches : List Watch) (n : ℕ) → seen < length literals → IsSettled clauses literals seen watches n → is_true (take (seen + 1) literals) (other_literal watches n) ≡ true → IsSettled clauses literals (seen + 1) watches n
settled_true clauses literals seen watches n b s t = settled_next clauses literals seen watches n s (λ clause e held.
    let whole : take (length literals) literals ≡ literals = grind (arith, common_steps) in
    record { early = inl t; now = subst (λ (ls : List Lit). is_true ls (other_literal watches n) ≡ true) whole (true_longer literals (other_literal watches n) (seen + 1) (length literals) (omega arith) t) })

-- or the first make all others false, and the other one is true.
pub settled_forced : (clauses : List Clause) (literals : List Lit) (seen : ℕ) (watches : List Watch) (n : ℕ) (clause : Clause) → IsSettled clauses literals seen watches n → clause_numbered clauses (watch_at watches n).clause ≡ Some clause
    → is_forced_by (take (seen + 1) literals) (other_literal watches n) clause ≡ true → is_true literals (other_literal watches n) ≡ true → IsSettled clauses literals (seen + 1) watches n
settled_forced clauses literals seen watches n clause s held forced t = settled_next clauses literals seen watches n s (λ c e h.
    let q : clause ≡ c = held_same clauses (watch_at watches n).clause clause c held h in
    record { early = inr (subst (λ (x : Clause). is_forced_by (take (seen + 1) literals) (other_literal watches n) x ≡ true) q forced); now = t })

-- ---- what the two literals of a clause show

-- the other watched literal is one of the clause
pub other_among : (t : TrailState) (watches : List Watch) (n : ℕ) (a : IsWatch t.clauses t.attached watches n) → IsWatch t.clauses t.attached watches (watch_at watches n).twin → list_any (same_literal (other_literal watches n)) a.clause ≡ true
other_among t watches n a b =
    let q : b.clause ≡ a.clause = held_same t.clauses (watch_at watches n).clause b.clause a.clause (subst (λ (k : ℕ). clause_numbered t.clauses k ≡ Some b.clause) a.same b.held) a.held in
    subst (λ (x : Clause). list_any (same_literal (other_literal watches n)) x ≡ true) q b.among

pub forced_longer : (literals : List Lit) (clause : Clause) (l : Lit) (a b : ℕ) → a ≤ b → is_forced_by (take a literals) l clause ≡ true → is_forced_by (take b literals) l clause ≡ true
forced_longer literals clause l a b h e =
    let f = and_parts (list_any (same_literal l) clause) (list_all (λ k. same_literal l k || is_false (take a literals) k) clause) e in
    and_from _ _ f.0 (all_from (λ k. same_literal l k || is_false (take b literals) k) clause (λ x among.
    ⊎_elim (λ s. or_left _ _ s) (λ s. or_right (same_literal l x) _ (true_longer literals (negation x) a b h s))
    (or_cases (same_literal l x) (is_false (take a literals) x) (all_at (λ k. same_literal l k || is_false (take a literals) k) clause x f.1 among))))

pub forced_whole : (literals : List Lit) (clause : Clause) (l : Lit) (k : ℕ) → k ≤ length literals → is_forced_by (take k literals) l clause ≡ true → is_forced_by literals l clause ≡ true
forced_whole literals clause l k b e =
    let whole : take (length literals) literals ≡ literals = grind (arith, common_steps) in
    subst (λ (ls : List Lit). is_forced_by ls l clause ≡ true) whole (forced_longer literals clause l k (length literals) b e)

-- where all literals have been looked at, and the short clauses are quiet, all are
module _ (t : TrailState) (w : WatchedState) (consistent : AreConsistent t.literals) (a : AreWatched t w) (all_seen : w.seen ≡ length t.literals) where
  watched_clause_quiet : (n : ℕ) → n < length w.lists.watches → IsLive w.lists.watches n → is_quiet (stands t.literals (clause_numbered t.clauses (watch_at w.lists.watches n).clause)) ≡ true
  watched_clause_quiet n h live =
      let here = a.each n h live in
      let twin = a.each (watch_at w.lists.watches n).twin here.twin (other_live here) in
      let among = other_among t w.lists.watches n here twin in
      ap (λ (o : Option Clause). is_quiet (stands t.literals o)) here.held ∙ by here twin among
    where
      other_live : IsWatch t.clauses t.attached w.lists.watches n → IsLive w.lists.watches (watch_at w.lists.watches n).twin
      other_live here = twin_live t.clauses t.attached w.lists.watches n here live

      made_up : (m : ℕ) (i : m < length w.lists.watches) → IsLive w.lists.watches m → is_false t.literals (watch_at w.lists.watches m).lit ≡ true → is_true t.literals (other_literal w.lists.watches m) ≡ true
      made_up m i l f =
          let p = place_found t.literals (negation (watch_at w.lists.watches m).lit) f in
          let within = p.1.within in
          (a.settled m i p.0 (a.each m i l).clause (omega arith) p.1.at (a.each m i l).held).now

      by : (here : IsWatch t.clauses t.attached w.lists.watches n) → IsWatch t.clauses t.attached w.lists.watches (watch_at w.lists.watches n).twin → list_any (same_literal (other_literal w.lists.watches n)) here.clause ≡ true → is_quiet (standing t.literals here.clause) ≡ true
      by here twin among = ⊎_elim
          (λ f. quiet_true t.literals here.clause (other_literal w.lists.watches n) consistent among (made_up n h live f))
          (λ f. ⊎_elim
          (λ g. let m = made_up (watch_at w.lists.watches n).twin here.twin (other_live here) g in
          quiet_true t.literals here.clause (watch_at w.lists.watches n).lit consistent here.among (subst (λ (k : ℕ). is_true t.literals (watch_at w.lists.watches k).lit ≡ true) here.back m))
          (λ g. ⊎_elim
          (λ p. quiet_true t.literals here.clause (watch_at w.lists.watches n).lit consistent here.among p)
          (λ p. ⊎_elim
          (λ q. quiet_true t.literals here.clause (other_literal w.lists.watches n) consistent among q)
          (λ q. quiet_two t.literals here.clause (watch_at w.lists.watches n).lit (other_literal w.lists.watches n) here.among among (open_from t.literals (watch_at w.lists.watches n).lit p f) (open_from t.literals (other_literal w.lists.watches n) q g) here.apart)
          (cases_Bool (is_true t.literals (other_literal w.lists.watches n))))
          (cases_Bool (is_true t.literals (watch_at w.lists.watches n).lit)))
          (cases_Bool (is_false t.literals (other_literal w.lists.watches n))))
          (cases_Bool (is_false t.literals (watch_at w.lists.watches n).lit))

  -- a clause that is looked at is quiet
  looked_quiet : (number : ℕ) → 1 ≤ number → AreQuiet t.clauses w.short t.literals → IsLookedAt w.short w.lists.watches number → is_quiet (stands t.literals (clause_numbered t.clauses number)) ≡ true
  looked_quiet number from_one q looked = ⊎_elim
      (λ s. subst (λ (n : ℕ). is_quiet (stands t.literals (clause_numbered t.clauses n)) ≡ true) (short_at s) (q s.0 s.1))
      (λ s. subst (λ (n : ℕ). is_quiet (stands t.literals (clause_numbered t.clauses n)) ≡ true) s.2 (watched_clause_quiet s.0 s.1 (subst (λ (n : ℕ). 1 ≤ n) (sym s.2) from_one)))
      looked
    where
      short_at : (s : Contains w.short number) → slice_index w.short s.0 ≡ number
      short_at s = let b = s.1 in let e : get_or w.short s.0 0 ≡ get_or w.short s.0 number = grind (arith, common_steps) in e ∙ s.2

  -- so is what it covers
  covered_quiet : (number : ℕ) → AreQuiet t.clauses w.short t.literals → IsCovered t.clauses w.short w.lists.watches number → is_quiet (stands t.literals (clause_numbered t.clauses number)) ≡ true
  covered_quiet number q c =
      let s = c.subsumes in
      let cover = looked_quiet c.cover (live_of t.clauses c.cover s.inner_clause s.inner_held) q c.looked in
      let inner : is_quiet (standing t.literals s.inner_clause) ≡ true = sym (ap (λ (o : Option Clause). is_quiet (stands t.literals o)) s.inner_held) ∙ cover in
      ap (λ (o : Option Clause). is_quiet (stands t.literals o)) s.outer_held ∙ quiet_part t.literals s.inner_clause s.outer_clause consistent s.part inner

  pub watched_quiet : AreQuiet t.clauses w.short t.literals → AreQuiet t.clauses t.attached t.literals
  watched_quiet q place h = covered_quiet (slice_index t.attached place) q (a.all (slice_index t.attached place) (place, h, grind (arith, common_steps)))

-- an attached clause is quiet where all are
pub quiet_at : (cs : List Clause) (att : List ℕ) (taken : List Lit) (number : ℕ) (clause : Clause) → AreQuiet cs att taken → Contains att number → clause_numbered cs number ≡ Some clause → is_quiet (standing taken clause) ≡ true
quiet_at cs att taken number clause q c e =
    let b = c.1 in
    let at : get_or att c.0 0 ≡ number = let f : get_or att c.0 0 ≡ get_or att c.0 number = grind (arith, common_steps) in f ∙ c.2 in
    sym (ap (λ (o : Option Clause). is_quiet (stands taken o)) e) ∙ subst (λ (m : ℕ). is_quiet (stands taken (clause_numbered cs m)) ≡ true) at (q c.0 c.1)

-- what the first literals force is true where a later front is quiet
pub still_true : (literals : List Lit) (clause : Clause) (other : Lit) (a b : ℕ) → a ≤ b → AreConsistent literals → is_forced_by (take a literals) other clause ≡ true → is_quiet (standing (take b literals) clause) ≡ true → is_true (take b literals) other ≡ true
still_true literals clause other a b h n f q =
    let g = forced_longer literals clause other a b h f in
    ⊎_elim
    (λ e. absurd (let z = sym (ap is_quiet e) ∙ q in cc))
    (λ e. ⊎_elim (λ d. d.1) (λ d. absurd (let z = sym (ap is_quiet d.0) ∙ q in cc)) e)
    (forced_stands (take b literals) clause other (consistent_take literals b n) g)
  where
    consistent_take : (literals : List Lit) (k : ℕ) → AreConsistent literals → AreConsistent (take k literals)
    consistent_take literals k n l e = ⊎_elim
        (λ f. let p = shorter literals k l e in let q = shorter literals k (negation l) f in let z = n l p in absurd (not_both _ q z))
        (λ f. f)
        (cases_Bool (is_false (take k literals) l))
      where
        shorter : (literals : List Lit) (k : ℕ) (x : Lit) → is_true (take k literals) x ≡ true → is_true literals x ≡ true
        shorter literals k x e =
            let p = place_found (take k literals) x e in
            let i = p.1.within in
            let g : get_or (take k literals) p.0 no_literal ≡ get_or literals p.0 no_literal = grind (arith, common_steps) in
            let w : p.0 < length literals = grind (arith, common_steps) in
            true_at literals x p.0 w (sym g ∙ p.1.at)

-- where something was decided, short clauses are true, since they were quiet just before it
decision_at : (reasons : List (Option ℕ)) → 0 < level_of reasons → (place : ℕ) × (place < length reasons) × (reason_at reasons place ≡ None)
decision_at [] h = absurd (omega arith)
decision_at (None ∷ reasons) h = (0, omega arith, refl)
decision_at (Some number ∷ reasons) h = let d = decision_at reasons h in (suc d.0, omega (arith, d.1), d.2)

narrow_forced : (first : List Lit) (clause : Clause) (l : Lit) → list_any (same_literal l) clause ≡ true → list_all (same_literal l) clause ≡ true → is_forced_by first l clause ≡ true
narrow_forced first clause l among all = and_from _ _ among (all_from (λ k. same_literal l k || is_false first k) clause (λ x h. or_left _ _ (all_at (same_literal l) clause x all h)))

narrow_true : (literals : List Lit) (clause : Clause) (k : ℕ) → k ≤ length literals → AreConsistent literals → IsNarrow clause → is_quiet (standing (take k literals) clause) ≡ true → is_quiet (standing literals clause) ≡ true
narrow_true literals clause k b consistent narrow quiet = ⊎_elim
    (λ none. let f : is_quiet (standing (take k literals) clause) ≡ false = rw none refl in absurd (not_both _ quiet f))
    (λ some.
    let whole : take (length literals) literals ≡ literals = grind (arith, common_steps) in
    let t = still_true literals clause some.0 k k (omega arith) consistent (narrow_forced (take k literals) clause some.0 some.1 some.2) quiet in
    quiet_true literals clause some.0 consistent some.1 (subst (λ (ls : List Lit). is_true ls some.0 ≡ true) whole (true_longer literals some.0 k (length literals) b t)))
    narrow

pub short_quiet : (t : TrailState) (w : WatchedState) → IsTrailState t → AreWatched t w → 0 < level_of t.reasons → AreQuiet t.clauses w.short t.literals
short_quiet t w s a above place h =
    let d = decision_at t.reasons above in
    let same = s.justified.same in
    let within : d.0 < length t.literals = let b = d.1 in omega arith in
    let number = slice_index w.short place in
    let member = contains_at w.short place h in
    let here = a.narrow number member in
    let quiet = quiet_at t.clauses t.attached (take d.0 t.literals) number here.clause (s.quiet d.0 within d.2) (a.short number member) here.held in
    ap (λ (o : Option Clause). is_quiet (stands t.literals o)) here.held
    ∙ narrow_true t.literals here.clause d.0 (omega arith) (justified_consistent _ _ _ _ _ s.justified) here.narrow quiet

-- ---- literals that go

pub watched_back : (t new : TrailState) (w : WatchedState) (level : ℕ) → IsTrailState t → AreWatched t w → IsKeptUpTo t new level → AreWatched new (record w { seen = min w.seen (length new.literals) })
watched_back t new w level s a k = record {
  front = grind (arith, common_steps);
  vars = rw k.vars a.vars;
  room_short = rw k.spare a.room_short;
  room_watches = rw k.spare a.room_watches;
  short = λ n c. rw k.attached (a.short n c);
  narrow = λ n c. rw k.clauses (a.narrow n c);
  all = λ n c. rw k.clauses (a.all n (rw (← k.attached) c));
  each = λ n h live. rw (k.clauses, k.attached) (a.each n h live);
  settled = λ n h place clause b e held.
      let within : k.kept ≤ length t.literals = let c = k.cut.within in let j = s.justified.same in omega arith in
      let l = k.literals in
      let len : length new.literals ≡ k.kept = rw l (grind (arith, common_steps)) in
      let i : place < w.seen = grind (arith, common_steps) in
      let j : place < k.kept = grind (arith, common_steps) in
      let g : get_or new.literals place no_literal ≡ get_or t.literals place no_literal = rw l (grind (arith, common_steps)) in
      let first : take (place + 1) new.literals ≡ take (place + 1) t.literals = rw l (grind (arith, common_steps)) in
      let held_before : clause_numbered t.clauses (watch_at w.lists.watches n).clause ≡ Some clause = subst (λ (cs : List Clause). clause_numbered cs (watch_at w.lists.watches n).clause ≡ Some clause) k.clauses held in
      let here = a.each n h (live_of t.clauses (watch_at w.lists.watches n).clause clause held_before) in
      let m = a.settled n h place clause i (sym g ∙ e) held_before in
      let now : is_true new.literals (other_literal w.lists.watches n) ≡ true = ⊎_elim
      (λ q. rw l (true_longer t.literals (other_literal w.lists.watches n) (place + 1) k.kept (omega arith) q))
      (λ q. ⊎_elim
      (λ less. rw l (still_true t.literals clause (other_literal w.lists.watches n) (place + 1) k.kept (omega arith) (justified_consistent _ _ _ _ _ s.justified) q
      (let quiet = s.quiet k.kept less (k.cut.next (let c = s.justified.same in omega arith)) in quiet_at t.clauses t.attached (take k.kept t.literals) (watch_at w.lists.watches n).clause clause quiet here.joined held_before)))
      (λ all. let whole : take k.kept t.literals ≡ t.literals = rw all (grind (arith, common_steps)) in rw (l, whole) m.now)
      (less_or_all k.kept (length t.literals) within))
      m.early in
      record { early = subst (λ (ls : List Lit). (is_true ls (other_literal w.lists.watches n) ≡ true) ⊎ (is_forced_by ls (other_literal w.lists.watches n) clause ≡ true)) (sym first) m.early; now = now };
}
  where
    less_or_all : (k n : ℕ) → k ≤ n → (k < n) ⊎ (k ≡ n)
    less_or_all k n h = ⊎_elim (λ e. inr e) (λ e. inl (omega arith)) (cases_eq k n)
