-- A visit looks at the watches that wait, one after the other: what it begins with, and what each look leaves.
use Rattle.std.proofs.Common.{◌≡◌, ◌∙◌, ℕ, suc, ◌+◌, ◌<◌, ◌≤◌, true, List, refl, ap, sym, subst, length, take, get_or, arith}
use Rattle.std.specs.Prelude.{slice_set}
use Rattle.std.proofs.lemmas.Grind.{common_steps}
use Rattle.prop_core.specs.declared.lit.Lit.{Lit}
use Rattle.prop_core.specs.Clauses.{Clause, negation, is_false}
use Rattle.prop_core.specs.Trail.{no_literal}
use Rattle.prop_core.proofs.Literals.{true_at}
use Rattle.sat_prop.specs.TrailState.{TrailState, literal_at}
use Rattle.sat_prop.specs.Kept.{IsTrailState}
use Rattle.sat_prop.specs.Changes.{IsFront, Propagates}
use Rattle.sat_prop.specs.declared.watched.Inspected.TheVariants.{Stays, Moves}
use Rattle.sat_prop.specs.Watches.{WatchState, IsFirstWaiting, MovesWatch, PassesWatch, watch_at, watching, other_literal}
use Rattle.sat_prop.specs.Watching.{WatchedState, AreWatched, AreVisited, IsVisiting, Visits, IsSettled, IsInspectedWatch, IsReplacement}
use Rattle.sat_prop.proofs.Fronts.{front_length, front_at}
use Rattle.sat_prop.proofs.Links.{not_both}
use Rattle.sat_prop.proofs.Justifying.{justified_consistent}
use Rattle.sat_prop.proofs.Moving.{first_same}
use Rattle.sat_prop.proofs.Settling.{settled_live}
use Rattle.sat_prop.proofs.Inspecting.{among_known}
use Rattle.sat_prop.proofs.Turning.{visited_moves, watched_moves}
use Rattle.sat_prop.proofs.Waiting.{visited_stays, watched_waits}

-- a visit goes on where literals were forced
pub visiting_still : (t after : TrailState) (w now : WatchedState) (clauses : List Clause) (l : Lit) → IsVisiting t w clauses l → Visits t w after now → IsVisiting after now clauses l
visiting_still t after w now clauses l v s =
    let longer = front_length t.literals after.literals s.grown.literals in
    let seen = s.seen in
    let within = v.within in
    record {
      watched = s.watched;
      grown = subst (λ (cs : List Clause). IsFront cs clauses) (sym s.grown.clauses) v.grown;
      within = omega arith;
      falls = ap (literal_at after.literals) s.seen ∙ front_at t.literals after.literals w.seen no_literal s.grown.literals v.within ∙ v.falls;
    }

-- the same list, where none was added
pub same_front : {X : Type 0} (old new : List X) → take (length old) new ≡ old → length new ≡ length old → new ≡ old
same_front old new e n = let a : take (length old) new ≡ new = rw (← n) (grind (arith, common_steps)) in sym a ∙ e

-- ---- a look at the next watch that waits

-- the trail may have grown before the watch is moved or passed
pub record IsLooking (old t : TrailState) (before w : WatchedState) (n : ℕ) : Type 0 where
  pub same : w ≡ before
  pub grown : Propagates old t
  pub watched : AreWatched t w
  pub visited : AreVisited t w
  pub next : IsFirstWaiting w.lists n
  pub within : w.seen < length t.literals

pub looking : (old t : TrailState) (before w : WatchedState) (n : ℕ) → w ≡ before → Propagates old t → AreWatched t before → AreVisited t before → IsFirstWaiting before.lists n → before.seen < length old.literals → IsLooking old t before w n
looking old t before w n e p a v x b =
    let longer = front_length old.literals t.literals p.literals in
    let within : before.seen < length t.literals = omega arith in
    record {
      same = e;
      grown = p;
      watched = subst (λ (s : WatchedState). AreWatched t s) (sym e) a;
      visited = subst (λ (s : WatchedState). AreVisited t s) (sym e) v;
      next = subst (λ (s : WatchedState). IsFirstWaiting s.lists n) (sym e) x;
      within = subst (λ (s : WatchedState). s.seen < length t.literals) (sym e) within;
    }

-- what it leaves, with one less that waits
pub record IsLooked (old t : TrailState) (before now : WatchedState) : Type 0 where
  pub visits : Visits old before t now
  pub visited : AreVisited t now
  pub fewer : length now.lists.waiting + 1 ≡ length before.lists.waiting

-- another literal replaces its own, since that one is false
moves_apart : (t : TrailState) (w : WatchedState) (n : ℕ) (clause : Clause) (l : Lit) → w.seen < length t.literals → literal_at t.literals w.seen ≡ negation (watch_at w.lists.watches n).lit → IsReplacement t.literals clause (other_literal w.lists.watches n) w.seen l
    → (m : ℕ) → IsFirstWaiting w.lists n → IsFirstWaiting w.lists m → (watch_at w.lists.watches m).lit ≡ l → ⊥
moves_apart t w n clause l b falls r m x y e =
    let j : w.seen < length (take (w.seen + 1) t.literals) = grind (arith, common_steps) in
    let g : get_or (take (w.seen + 1) t.literals) w.seen no_literal ≡ get_or t.literals w.seen no_literal = grind (arith, common_steps) in
    let f : is_false (take (w.seen + 1) t.literals) (watch_at w.lists.watches n).lit ≡ true = true_at (take (w.seen + 1) t.literals) (negation (watch_at w.lists.watches n).lit) w.seen j (g ∙ falls) in
    let same : n ≡ m = first_same n m x.others y.others (sym x.first ∙ y.first) in
    not_both _ (subst (λ (k : Lit). is_false (take (w.seen + 1) t.literals) k ≡ true) (ap (λ (k : ℕ). (watch_at w.lists.watches k).lit) same ∙ e) f) r.not_false

module _ (old t : TrailState) (before w : WatchedState) (n : ℕ) (k : IsLooking old t before w n) where
  looked : (lists : WatchState) → lists.waiting ≡ k.next.others → AreWatched t (record w { lists = lists }) → AreVisited t (record w { lists = lists }) → IsLooked old t before (record w { lists = lists })
  looked lists e a v =
      let one : length k.next.others + 1 ≡ suc (length k.next.others) = omega arith in
      record {
        visits = record { watched = a; grown = k.grown; short = ap (λ (s : WatchedState). s.short) k.same; seen = ap (λ (s : WatchedState). s.seen) k.same };
        visited = v;
        fewer = ap (λ (ns : List ℕ). length ns + 1) e ∙ one ∙ sym (ap length k.next.first) ∙ ap (λ (s : WatchedState). length s.lists.waiting) k.same;
      }

  passed : (lists : WatchState) → PassesWatch w.lists lists → IsSettled t.clauses t.literals (w.seen + 1) w.lists.watches n → IsLooked old t before (record w { lists = lists })
  passed lists p s = subst (λ (ls : WatchState). IsLooked old t before (record w { lists = ls })) (sym (p k.next.others n k.next.first))
      (looked (record w.lists { waiting = k.next.others }) refl (watched_waits t w (record w.lists { waiting = k.next.others }) k.watched refl refl refl) (visited_stays t w k.next.others n k.next.first k.visited s))

  pub looked_stays : (lists : WatchState) → PassesWatch w.lists lists → IsInspectedWatch t before n Stays → IsLooked old t before (record w { lists = lists })
  looked_stays lists p inspected = passed lists p (subst (λ (s : WatchedState). IsInspectedWatch t s n Stays) (sym k.same) inspected)

  -- one that was dropped
  pub looked_dropped : (lists : WatchState) → PassesWatch w.lists lists → (watch_at w.lists.watches n).clause ≡ 0 → IsLooked old t before (record w { lists = lists })
  looked_dropped lists p gone =
      passed lists p (settled_live t.clauses t.literals (w.seen + 1) w.lists.watches n (λ live. let l : 1 ≤ (watch_at w.lists.watches n).clause = live in absurd (omega arith)))

  -- one that moves
  module _ (state : IsTrailState t) (l : Lit) (inspected : IsInspectedWatch t before n (Moves l)) where
    here : IsInspectedWatch t w n (Moves l)
    here = subst (λ (s : WatchedState). IsInspectedWatch t s n (Moves l)) (sym k.same) inspected

    pub literal_known : l.var < w.lists.vars
    literal_known = among_known t w n here.1.0 l state k.watched k.next.within here.1.1 here.1.2.among

    pub literal_apart : (m : ℕ) → IsFirstWaiting w.lists m → (watch_at w.lists.watches m).lit ≡ l → ⊥
    literal_apart m = moves_apart t w n here.1.0 l k.within here.0 here.1.2 m k.next

    pub looked_moves : (lists : WatchState) → MovesWatch w.lists lists l → IsLooked old t before (record w { lists = lists })
    looked_moves lists p =
        let consistent = justified_consistent t.clauses t.attached t.literals t.reasons t.vars state.justified in
        subst (λ (ls : WatchState). IsLooked old t before (record w { lists = ls })) (sym (p k.next.others n k.next.first))
        (looked (record w.lists { watches = slice_set w.lists.watches n (watching (watch_at w.lists.watches n) l); waiting = k.next.others }) refl
        (watched_moves t w n here.1.0 l consistent k.watched k.next.within k.within here.1.1 here.0 here.1.2 k.next.others)
        (visited_moves t w n here.1.0 l consistent k.watched k.next.within k.within here.1.1 here.0 here.1.2 k.next.others k.next.first k.visited))
