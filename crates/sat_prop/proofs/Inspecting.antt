-- The clause of a watch that is looked at: what is known of it, and what becomes of the watch.
use Rattle.std.proofs.Common.{◌≡◌, ◌∙◌, ℕ, ◌+◌, ◌<◌, ◌≤◌, true, false, ◌||◌, ◌++◌, ◌∷◌, [], Bool, List, refl, ap, sym, subst, length, take, get_or, arith, ⊎_elim, Some, Option}
use Rattle.std.specs.Prelude.{◌⊎◌, Contains, IfSome}
use Rattle.std.specs.List.{list_any, list_all}
use Rattle.std.proofs.lemmas.Bool.{and_from, or_left, or_right, or_cases}
use Rattle.std.proofs.lemmas.Grind.{common_steps}
use Rattle.prop_core.specs.declared.lit.Lit.{Lit}
use Rattle.prop_core.specs.Clauses.{Clause, HasValues, negation, same_literal, is_true, is_false, AreConsistent}
use Rattle.prop_core.specs.Derivation.{standing, falsified, clause_numbered}
use Rattle.prop_core.specs.Trail.{no_literal, is_forced_by}
use Rattle.prop_core.proofs.Literals.{true_at, below_at, open_parts, same_is}
use Rattle.prop_core.proofs.Forcing.{forced_stands}
use Rattle.sat_prop.specs.TrailState.{TrailState, literal_at, IsKnownClause}
use Rattle.sat_prop.specs.Changes.{IsFront, with_true_literal}
use Rattle.sat_prop.specs.declared.watch_lists.Watch.{Watch}
use Rattle.sat_prop.specs.declared.watched.Inspected.{Inspected}
use Rattle.sat_prop.specs.declared.watched.Inspected.TheVariants.{Stays, Moves, False}
use Rattle.sat_prop.specs.Watches.{IsLive, watch_at, other_literal}
use Rattle.sat_prop.specs.Watching.{WatchedState, AreTwo, AreWatched, AreVisited, IsSettled, IsInspectedWatch, IsReplaced, IsReplacement}
use Rattle.sat_prop.specs.Kept.{IsTrailState}
use Rattle.sat_prop.proofs.Fronts.{held_same, front_held, front_same, number_of, known_at}
use Rattle.sat_prop.proofs.Links.{not_both}
use Rattle.sat_prop.proofs.Covering.{live_of, twin_live}
use Rattle.sat_prop.proofs.Settling.{other_among, settled_forced, visited_more, watched_more}

-- ---- what is known of a clause

-- of an attached one, in a database that has grown
pub record IsFound (t : TrailState) (all : List Clause) (n : ℕ) : Type 0 where
  pub from_one : 1 ≤ n
  pub in_range : n ≤ length all
  pub known : IsKnownClause t.clauses t.vars n
  pub held : clause_numbered all n ≡ Some known.clause
  pub same : clause_numbered all n ≡ clause_numbered t.clauses n

pub found : (t : TrailState) (all : List Clause) (n : ℕ) → IsTrailState t → IsFront t.clauses all → Contains t.attached n → IsFound t all n
found t all n s f c =
    let k = known_at t.clauses t.attached t.vars n s.known c in
    let h = front_held t.clauses all n k.clause f k.held in
    let i = number_of all n k.clause h in
    record { from_one = i.from_one; in_range = i.in_range; known = k; held = h; same = front_same t.clauses all t.vars n f k }

-- a literal of a watched clause has a list
pub among_known : (t : TrailState) (w : WatchedState) (n : ℕ) (clause : Clause) (l : Lit) → IsTrailState t → AreWatched t w → n < length w.lists.watches → clause_numbered t.clauses (watch_at w.lists.watches n).clause ≡ Some clause → list_any (same_literal l) clause ≡ true → l.var < w.lists.vars
among_known t w n clause l s a h held among =
    let k = known_at t.clauses t.attached t.vars (watch_at w.lists.watches n).clause s.known (a.each n h (live_of t.clauses (watch_at w.lists.watches n).clause clause held)).joined in
    let e = held_same t.clauses (watch_at w.lists.watches n).clause k.clause clause k.held held in
    let b = below_at t.vars clause l (subst (λ (c : Clause). HasValues t.vars c) e k.known) among in
    let v = a.vars in
    omega arith

-- a literal that is true has a variable
pub at_known : (t : TrailState) (place : ℕ) → IsTrailState t → place < length t.literals → (literal_at t.literals place).var < t.vars
at_known t place s h = below_at t.vars t.literals (literal_at t.literals place) s.justified.known (true_at t.literals (literal_at t.literals place) place h refl)

-- a forced literal that is false leaves the clause false
pub forced_false : (literals : List Lit) (clause : Clause) (l : Lit) → AreConsistent literals → is_forced_by literals l clause ≡ true → is_false literals l ≡ true → standing literals clause ≡ falsified
forced_false literals clause l n f e = ⊎_elim
    (λ s. s)
    (λ s. ⊎_elim (λ q. absurd (not_both _ e (n l q.1))) (λ q. absurd (not_both _ e (open_parts literals l q.1).1)) s)
    (forced_stands literals clause l n f)

-- ---- a literal is made true, where it wasn't

abbrev pub IsKeptOr : TrailState → TrailState → Lit → ℕ → Type 0
IsKeptOr old new l id = (new ≡ old) ⊎ (new ≡ with_true_literal old l (Some id))

pub watched_kept : (old new : TrailState) (w : WatchedState) (l : Lit) (id : ℕ) → IsKeptOr old new l id → AreWatched old w → AreWatched new w
watched_kept old new w l id k a = ⊎_elim (λ e. rw e a) (λ e. rw e (watched_more old w l (Some id) a)) k

pub visited_kept : (old new : TrailState) (w : WatchedState) (l : Lit) (id : ℕ) → IsKeptOr old new l id → w.seen < length old.literals → AreVisited old w → AreVisited new w
visited_kept old new w l id k b a = ⊎_elim (λ e. rw e a) (λ e. rw e (visited_more old w l (Some id) b a)) k

-- where all literals of its clause but the other watched one are false by the first ones, a watch is settled once that one is true
inspected_forced : (old new : TrailState) (w : WatchedState) (n : ℕ) (clause : Clause) (l : Lit) (id : ℕ) → IsKeptOr old new l id → w.seen < length old.literals → AreWatched old w → n < length w.lists.watches
    → clause_numbered old.clauses (watch_at w.lists.watches n).clause ≡ Some clause → is_forced_by (take (w.seen + 1) old.literals) (other_literal w.lists.watches n) clause ≡ true
    → is_true new.literals (other_literal w.lists.watches n) ≡ true → IsSettled new.clauses new.literals (w.seen + 1) w.lists.watches n
inspected_forced old new w n clause l id k b a h held forced t = ⊎_elim
    (λ e. let t2 = subst (λ (s : TrailState). is_true s.literals (other_literal w.lists.watches n) ≡ true) e t in
    subst (λ (s : TrailState). IsSettled s.clauses s.literals (w.seen + 1) w.lists.watches n) (sym e) (settled_forced old.clauses old.literals w.seen w.lists.watches n clause (a.settled n h) held forced t2))
    (λ e. let t2 = subst (λ (s : TrailState). is_true s.literals (other_literal w.lists.watches n) ≡ true) e t in
    let more = watched_more old w l (Some id) a in
    let first : take (w.seen + 1) (old.literals ++ l ∷ []) ≡ take (w.seen + 1) old.literals = take_more old.literals l (w.seen + 1) (omega arith) in
    let f2 = subst (λ (ls : List Lit). is_forced_by ls (other_literal w.lists.watches n) clause ≡ true) (sym first) forced in
    subst (λ (s : TrailState). IsSettled s.clauses s.literals (w.seen + 1) w.lists.watches n) (sym e) (settled_forced old.clauses (old.literals ++ l ∷ []) w.seen w.lists.watches n clause (more.settled n h) held f2 t2))
    k
  where
    take_more : (literals : List Lit) (l : Lit) (k : ℕ) → k ≤ length literals → take k (literals ++ l ∷ []) ≡ take k literals
    take_more literals l k h = grind (arith, common_steps)

-- ---- another literal was looked for, or the other one was made true

-- the clause has both literals
pub two_watched : (t : TrailState) (w : WatchedState) (n : ℕ) → AreWatched t w → n < length w.lists.watches → IsLive w.lists.watches n → IfSome (clause_numbered t.clauses (watch_at w.lists.watches n).clause) (λ clause. AreTwo clause (watch_at w.lists.watches n).lit (other_literal w.lists.watches n))
two_watched t w n a h live =
    let here = a.each n h live in
    let there = a.each (watch_at w.lists.watches n).twin here.twin (twin_live t.clauses t.attached w.lists.watches n here live) in
    subst (λ (o : Option Clause). IfSome o (λ clause. AreTwo clause (watch_at w.lists.watches n).lit (other_literal w.lists.watches n))) (sym here.held) (record { first_among = here.among; second_among = other_among t w.lists.watches n here there; apart = here.apart })

-- the first literal that hasn't been looked at makes the negation of it false
pub falls_by : (literals : List Lit) (l : Lit) (seen : ℕ) → seen < length literals → literal_at literals seen ≡ negation l → is_false (take (seen + 1) literals) l ≡ true
falls_by literals l seen within falls =
    let here : get_or (take (seen + 1) literals) seen no_literal ≡ get_or literals seen no_literal = grind (arith, common_steps) in
    let long : seen < length (take (seen + 1) literals) = grind (arith, common_steps) in
    true_at (take (seen + 1) literals) (negation l) seen long (here ∙ falls)

-- a clause of two literals has none besides them: each is the second, or as the first is
pub pair_made : (clause : Clause) (first second : Lit) (f : Lit → Bool) → length clause ≡ 2 → AreTwo clause first second → f first ≡ true → list_all (λ l. same_literal second l || f l) clause ≡ true
pair_made [] first second f long two is = absurd (omega (arith, long))
pair_made (a ∷ []) first second f long two is = absurd (omega (arith, long))
pair_made (a ∷ b ∷ c ∷ rest) first second f long two is = absurd (omega (arith, long))
pair_made (a ∷ b ∷ []) first second f long two is = ⊎_elim
    (λ here. and_from _ _ (or_right (same_literal second a) (f a) (as_first a here)) (and_from _ _ (or_left _ _ (⊎_elim (λ there. absurd (not_same a here there)) (last second b) (or_cases _ _ two.second_among))) refl))
    (λ rest. let here = last first b rest in and_from _ _ (or_left _ _ (⊎_elim (λ there. there) (λ there. absurd (not_same b here (last second b there))) (or_cases _ _ two.second_among))) (and_from _ _ (or_right (same_literal second b) (f b) (as_first b here)) refl))
    (or_cases _ _ two.first_among)
  where
    as_first : (l : Lit) → same_literal first l ≡ true → f l ≡ true
    as_first l here = subst (λ (x : Lit). f x ≡ true) (same_is first l here) is

    not_same : (l : Lit) → same_literal first l ≡ true → same_literal second l ≡ true → ⊥
    not_same l here there = not_both _ (subst (λ (x : Lit). same_literal first x ≡ true) (sym (same_is second l there)) here) two.apart

    last : (l m : Lit) → list_any (same_literal l) (m ∷ []) ≡ true → same_literal l m ≡ true
    last l m any = ⊎_elim (λ here. here) (λ none. absurd (not_both false none refl)) (or_cases (same_literal l m) false any)

inspected_replaced : (old new : TrailState) (w : WatchedState) (n : ℕ) (result : Inspected) → IsKeptOr old new (other_literal w.lists.watches n) (watch_at w.lists.watches n).clause → w.seen < length old.literals → AreWatched old w → n < length w.lists.watches → IsLive w.lists.watches n
    → literal_at old.literals w.seen ≡ negation (watch_at w.lists.watches n).lit → IsReplaced old new (watch_at w.lists.watches n).clause (other_literal w.lists.watches n) w.seen result → IsInspectedWatch new w n result
inspected_replaced old new w n Stays k b a h live falls r =
    let here = a.each n h live in
    let forced = subst (λ (o : Option Clause). IfSome o (λ clause. is_forced_by (take (w.seen + 1) old.literals) (other_literal w.lists.watches n) clause ≡ true)) here.held r.0 in
    inspected_forced old new w n here.clause (other_literal w.lists.watches n) (watch_at w.lists.watches n).clause k b a h here.held forced r.1
inspected_replaced old new w n (Moves l) k b a h live falls r =
    let here = a.each n h live in
    let found = subst (λ (o : Option Clause). IfSome o (λ clause. IsReplacement old.literals clause (other_literal w.lists.watches n) w.seen l)) here.held r.1 in
    subst (λ (t : TrailState). IsInspectedWatch t w n (Moves l)) (sym r.0) (falls, (here.clause, here.held, found))
inspected_replaced old new w n False k b a h live falls r = r

-- what becomes of a watch, as it and the other literal were read
pub inspected_read : (old new : TrailState) (w : WatchedState) (n : ℕ) (watch : Watch) (other : Lit) (result : Inspected) → watch ≡ watch_at w.lists.watches n → other ≡ other_literal w.lists.watches n → IsKeptOr old new other watch.clause → w.seen < length old.literals → AreWatched old w → n < length w.lists.watches → IsLive w.lists.watches n
    → literal_at old.literals w.seen ≡ negation watch.lit → IsReplaced old new watch.clause other w.seen result → IsInspectedWatch new w n result
inspected_read old new w n watch other result e f k b a h live falls r = inspected_replaced old new w n result
    (subst (λ (l : Lit). IsKeptOr old new l (watch_at w.lists.watches n).clause) f (subst (λ (x : Watch). IsKeptOr old new other x.clause) e k)) b a h live (falls ∙ ap (λ (x : Watch). negation x.lit) e)
    (subst (λ (l : Lit). IsReplaced old new (watch_at w.lists.watches n).clause l w.seen result) f (subst (λ (x : Watch). IsReplaced old new x.clause other w.seen result) e r))
