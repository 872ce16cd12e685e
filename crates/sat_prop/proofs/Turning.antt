-- A watch moves to another literal: each watch is one as before, and as many literals settle it.
use Rattle.std.proofs.Common.{◌≡◌, ◌∙◌, ℕ, ◌+◌, ◌<◌, ◌≤◌, true, false, ◌∷◌, List, refl, ap, sym, subst, length, take, get_or, arith, inl, inr, ⊎_elim, Some}
use Rattle.std.specs.Prelude.{slice_set}
use Rattle.std.proofs.lemmas.Grind.{common_steps}
use Rattle.std.proofs.lemmas.Bool.{cases_eq, ne_eqb}
use Rattle.std.proofs.lemmas.List.{length-set, get_or-set_same, get_or-set_other}
use Rattle.prop_core.specs.declared.lit.Lit.{Lit}
use Rattle.prop_core.specs.Clauses.{Clause, negation, same_literal, is_true, is_false, AreConsistent}
use Rattle.prop_core.specs.Derivation.{clause_numbered}
use Rattle.prop_core.specs.Trail.{no_literal}
use Rattle.prop_core.proofs.Entailed.{same_itself}
use Rattle.prop_core.proofs.Literals.{same_back, true_at}
use Rattle.sat_prop.specs.TrailState.{TrailState, literal_at}
use Rattle.sat_prop.specs.declared.watch_lists.Watch.{Watch}
use Rattle.sat_prop.specs.Watches.{IsLive, watch_at, watching, is_among, other_literal, no_watch}
use Rattle.sat_prop.specs.Watching.{WatchedState, AreWatched, AreVisited, IsWatch, IsSettled, MakesUp, IsReplacement, IsLookedAt}
use Rattle.des_base.proofs.Elements.{take_whole}
use Rattle.sat_prop.proofs.Fronts.{split_last}
use Rattle.sat_prop.proofs.Links.{not_both}
use Rattle.sat_prop.proofs.Covering.{covered_kept, live_of, twin_live}
use Rattle.sat_prop.proofs.Settling.{negation_once}

pub not_among : (m n : ℕ) (others : List ℕ) → (m ≡ n → ⊥) → is_among m others ≡ false → is_among m (n ∷ others) ≡ false
not_among m n others d f = let q = ne_eqb m n d in rw (q, f) refl

module _ (t : TrailState) (w : WatchedState) (n : ℕ) (clause : Clause) (l : Lit) (consistent : AreConsistent t.literals) (a : AreWatched t w) (within : n < length w.lists.watches) (before : w.seen < length t.literals)
    (held : clause_numbered t.clauses (watch_at w.lists.watches n).clause ≡ Some clause) (falls : literal_at t.literals w.seen ≡ negation (watch_at w.lists.watches n).lit) (r : IsReplacement t.literals clause (other_literal w.lists.watches n) w.seen l) where
  here_live : IsLive w.lists.watches n
  here_live = live_of t.clauses (watch_at w.lists.watches n).clause clause held

  here : IsWatch t.clauses t.attached w.lists.watches n
  here = a.each n within here_live

  abbrev pub twin : ℕ
  twin = (watch_at w.lists.watches n).twin

  there : IsWatch t.clauses t.attached w.lists.watches twin
  there = a.each twin here.twin (twin_live t.clauses t.attached w.lists.watches n here here_live)

  abbrev pub moved : List Watch
  moved = slice_set w.lists.watches n (watching (watch_at w.lists.watches n) l)

  moved_here : watch_at moved n ≡ watching (watch_at w.lists.watches n) l
  moved_here = get_or-set_same w.lists.watches n (watching (watch_at w.lists.watches n) l) no_watch within

  moved_apart : (m : ℕ) → (m ≡ n → ⊥) → watch_at moved m ≡ watch_at w.lists.watches m
  moved_apart m d = get_or-set_other w.lists.watches n m (watching (watch_at w.lists.watches n) l) no_watch d

  twin_apart : twin ≡ n → ⊥
  twin_apart e = not_both _ (subst (λ (k : ℕ). same_literal (watch_at w.lists.watches n).lit (watch_at w.lists.watches k).lit ≡ true) (sym e) (same_itself (watch_at w.lists.watches n).lit)) here.apart

  -- of whom the other watch is
  twins_apart : (m : ℕ) → m < length w.lists.watches → IsLive w.lists.watches m → (m ≡ twin → ⊥) → (watch_at w.lists.watches m).twin ≡ n → ⊥
  twins_apart m h live d e = d (sym (a.each m h live).back ∙ ap (λ (k : ℕ). (watch_at w.lists.watches k).twin) e)

  other_here : other_literal moved n ≡ other_literal w.lists.watches n
  other_here = ap (λ (x : Watch). (watch_at moved x.twin).lit) moved_here ∙ ap (λ (x : Watch). x.lit) (moved_apart twin twin_apart)

  other_there : other_literal moved twin ≡ l
  other_there = ap (λ (x : Watch). (watch_at moved x.twin).lit) (moved_apart twin twin_apart) ∙ ap (λ (k : ℕ). (watch_at moved k).lit) here.back ∙ ap (λ (x : Watch). x.lit) moved_here

  other_apart : (m : ℕ) → m < length w.lists.watches → IsLive w.lists.watches m → (m ≡ n → ⊥) → (m ≡ twin → ⊥) → other_literal moved m ≡ other_literal w.lists.watches m
  other_apart m h live d f = ap (λ (x : Watch). (watch_at moved x.twin).lit) (moved_apart m d) ∙ ap (λ (x : Watch). x.lit) (moved_apart (watch_at w.lists.watches m).twin (twins_apart m h live f))

  same_length : length moved ≡ length w.lists.watches
  same_length = length-set w.lists.watches n (watching (watch_at w.lists.watches n) l)

  -- what holds of the one that moves, of its twin and of each other one
  each_moved : (P : ℕ → Type 0) → P n → P twin → ((m : ℕ) → m < length w.lists.watches → (m ≡ n → ⊥) → (m ≡ twin → ⊥) → P m) → (m : ℕ) → m < length w.lists.watches → P m
  each_moved P p q f m h = ⊎_elim (λ e. subst P (sym e) p) (λ d. ⊎_elim (λ e. subst P (sym e) q) (λ g. f m h d g) (cases_eq m twin)) (cases_eq m n)

  watch_moved : (m : ℕ) → m < length w.lists.watches → IsLive moved m → IsWatch t.clauses t.attached moved m
  watch_moved = each_moved (λ m. IsLive moved m → IsWatch t.clauses t.attached moved m)
      (λ live. record {
        joined = rw moved_here here.joined;
        clause = clause;
        held = rw moved_here held;
        among = rw moved_here r.among;
        twin = rw (moved_here, same_length) here.twin;
        back = ap (λ (x : Watch). (watch_at moved x.twin).twin) moved_here ∙ ap (λ (x : Watch). x.twin) (moved_apart twin twin_apart) ∙ here.back;
        same = ap (λ (x : Watch). (watch_at moved x.twin).clause) moved_here ∙ ap (λ (x : Watch). x.clause) (moved_apart twin twin_apart) ∙ here.same ∙ ap (λ (x : Watch). x.clause) (sym moved_here);
        apart = rw (moved_here, other_here) (same_back l (other_literal w.lists.watches n) ∙ r.apart);
      })
      (λ live. record {
        joined = rw (moved_apart twin twin_apart) there.joined;
        clause = there.clause;
        held = rw (moved_apart twin twin_apart) there.held;
        among = rw (moved_apart twin twin_apart) there.among;
        twin = rw (moved_apart twin twin_apart, same_length) there.twin;
        back = ap (λ (x : Watch). (watch_at moved x.twin).twin) (moved_apart twin twin_apart) ∙ ap (λ (k : ℕ). (watch_at moved k).twin) here.back ∙ ap (λ (x : Watch). x.twin) moved_here;
        same = ap (λ (x : Watch). (watch_at moved x.twin).clause) (moved_apart twin twin_apart) ∙ ap (λ (k : ℕ). (watch_at moved k).clause) here.back ∙ ap (λ (x : Watch). x.clause) moved_here ∙ sym here.same ∙ ap (λ (x : Watch). x.clause) (sym (moved_apart twin twin_apart));
        apart = rw (moved_apart twin twin_apart, other_there) r.apart;
      })
      (λ m h d f live.
      let e = moved_apart m d in
      let before : 1 ≤ (watch_at w.lists.watches m).clause = subst (λ (x : Watch). 1 ≤ x.clause) e live in
      let k = a.each m h before in
      let g = moved_apart (watch_at w.lists.watches m).twin (twins_apart m h before f) in
      record {
        joined = rw e k.joined;
        clause = k.clause;
        held = rw e k.held;
        among = rw e k.among;
        twin = rw (e, same_length) k.twin;
        back = ap (λ (x : Watch). (watch_at moved x.twin).twin) e ∙ ap (λ (x : Watch). x.twin) g ∙ k.back;
        same = ap (λ (x : Watch). (watch_at moved x.twin).clause) e ∙ ap (λ (x : Watch). x.clause) g ∙ k.same ∙ ap (λ (x : Watch). x.clause) (sym e);
        apart = rw (e, other_apart m h before d f) k.apart;
      })

  -- the new literal isn't false by those that have been looked at and the next one
  settled_here : (seen : ℕ) → seen ≤ w.seen + 1 → IsSettled t.clauses t.literals seen moved n
  settled_here seen b place c h e k =
      let i : place < w.seen + 1 = omega arith in
      let j : place < length (take (w.seen + 1) t.literals) = grind (arith, common_steps) in
      let g : get_or (take (w.seen + 1) t.literals) place no_literal ≡ get_or t.literals place no_literal = grind (arith, common_steps) in
      let f : is_false (take (w.seen + 1) t.literals) l ≡ true = true_at (take (w.seen + 1) t.literals) (negation l) place j (g ∙ e ∙ ap (λ (x : Watch). negation x.lit) moved_here) in
      absurd (not_both _ f r.not_false)

  -- the literal that moves away is false, so the other one needed none to make up for it
  settled_there : (seen : ℕ) → seen ≤ w.seen + 1 → IsSettled t.clauses t.literals seen moved twin
  settled_there seen b place c h e k =
      let lit_there : literal_at t.literals place ≡ negation (other_literal w.lists.watches n) = e ∙ ap (λ (x : Watch). negation x.lit) (moved_apart twin twin_apart) in
      let gone : is_false t.literals (watch_at w.lists.watches n).lit ≡ true = true_at t.literals (negation (watch_at w.lists.watches n).lit) w.seen before falls in
      ⊎_elim
      (λ i. let held_there : clause_numbered t.clauses (watch_at w.lists.watches twin).clause ≡ Some c = subst (λ (x : Watch). clause_numbered t.clauses x.clause ≡ Some c) (moved_apart twin twin_apart) k in
      let m = a.settled twin here.twin place c i lit_there held_there in
      let now : is_true t.literals (watch_at w.lists.watches n).lit ≡ true = subst (λ (k : ℕ). is_true t.literals (watch_at w.lists.watches k).lit ≡ true) here.back m.now in
      absurd (not_both _ gone (consistent (watch_at w.lists.watches n).lit now)))
      (λ i. let q : (watch_at w.lists.watches n).lit ≡ other_literal w.lists.watches n = negation_once _ _ (sym falls ∙ ap (literal_at t.literals) (sym i) ∙ lit_there) in
      absurd (not_both _ (subst (λ (x : Lit). same_literal (watch_at w.lists.watches n).lit x ≡ true) q (same_itself (watch_at w.lists.watches n).lit)) here.apart))
      (split_last place w.seen (omega arith))

  settled_moved : (seen m : ℕ) → m < length w.lists.watches → (m ≡ n → ⊥) → (m ≡ twin → ⊥) → IsSettled t.clauses t.literals seen w.lists.watches m → IsSettled t.clauses t.literals seen moved m
  settled_moved seen m h d f s place c b e k =
      let g = moved_apart m d in
      let held_before = subst (λ (x : Watch). clause_numbered t.clauses x.clause ≡ Some c) g k in
      subst (λ (x : Lit). MakesUp t.literals (take (place + 1) t.literals) c x) (sym (other_apart m h (live_of t.clauses (watch_at w.lists.watches m).clause c held_before) d f))
      (s place c b (e ∙ ap (λ (x : Watch). negation x.lit) g) held_before)

  -- what was looked at still is
  looked_moved : (number : ℕ) → IsLookedAt w.short w.lists.watches number → IsLookedAt w.short moved number
  looked_moved number looked = ⊎_elim (λ s. inl s) (λ s. inr (
    s.0,
    rw same_length s.1,
    each_moved (λ m. (watch_at w.lists.watches m).clause ≡ number → (watch_at moved m).clause ≡ number)
        (λ e. ap (λ (x : Watch). x.clause) moved_here ∙ e) (λ e. ap (λ (x : Watch). x.clause) (moved_apart twin twin_apart) ∙ e) (λ m h d f e. ap (λ (x : Watch). x.clause) (moved_apart m d) ∙ e) s.0 s.1 s.2,
  )) looked

  pub watched_moves : (others : List ℕ) → AreWatched t (record w { lists = record w.lists { watches = moved; waiting = others } })
  watched_moves others = record {
    front = a.front;
    vars = a.vars;
    room_short = a.room_short;
    room_watches = a.room_watches;
    short = a.short;
    narrow = a.narrow;
    all = λ number c. covered_kept t.clauses t.clauses w.short w.short w.lists.watches moved number (take_whole t.clauses) (λ k looked. looked_moved k looked) (a.all number c);
    each = λ m h live. watch_moved m (rw (← same_length) h) live;
    settled = λ m h. each_moved (λ m. IsSettled t.clauses t.literals w.seen moved m)
        (settled_here w.seen (omega arith)) (settled_there w.seen (omega arith)) (λ m h d f. settled_moved w.seen m h d f (a.settled m h)) m (rw (← same_length) h);
  }

  pub visited_moves : (others : List ℕ) → w.lists.waiting ≡ n ∷ others → AreVisited t w → AreVisited t (record w { lists = record w.lists { watches = moved; waiting = others } })
  visited_moves others e v m h g = each_moved (λ m. is_among m others ≡ false → IsSettled t.clauses t.literals (w.seen + 1) moved m)
      (λ q. settled_here (w.seen + 1) (omega arith))
      (λ q. settled_there (w.seen + 1) (omega arith))
      (λ m h d f q. settled_moved (w.seen + 1) m h d f (v m h (subst (λ (xs : List ℕ). is_among m xs ≡ false) (sym e) (not_among m n others d q))))
      m (rw (← same_length) h) g
