-- A clause is attached, among the short ones or with two watches: the others are watched as before.
use Rattle.std.proofs.Common.{◌≡◌, ◌∙◌, ℕ, suc, ◌+◌, ◌-◌, ◌<◌, ◌≤◌, true, ◌++◌, ◌∷◌, [], List, ap, sym, subst, length, take, get_or, arith, inl, inr, ⊎_elim, Option, Some}
use Rattle.std.specs.Prelude.{◌⊎◌, Contains, IfSome}
use Rattle.std.proofs.lemmas.Grind.{common_steps}
use Rattle.std.proofs.lemmas.Bool.{cases_lt, or_right}
use Rattle.prop_core.specs.declared.lit.Lit.{Lit}
use Rattle.prop_core.specs.Clauses.{Clause, HasValues, AreConsistent, negation, is_true}
use Rattle.prop_core.specs.Derivation.{clause_numbered, standing, unit}
use Rattle.prop_core.specs.Trail.{is_forced_by}
use Rattle.prop_core.proofs.Entailed.{same_itself}
use Rattle.prop_core.proofs.Literals.{below_at, open_parts, same_back, true_at, true_more}
use Rattle.prop_core.proofs.Forcing.{forced_unit}
use Rattle.sat_prop.specs.TrailState.{TrailState, literal_at}
use Rattle.sat_prop.specs.Changes.{IsFront, with_true_literal, with_attached_clause}
use Rattle.sat_prop.specs.declared.watch_lists.Watch.{Watch}
use Rattle.sat_prop.specs.Watches.{IsLive, watch_at, with_watched_clause, other_literal}
use Rattle.sat_prop.specs.Watching.{WatchedState, AreWatched, IsWatch, IsSettled, MakesUp, IsShort, IsLookedAt, IsCovered, IsForcing, AreTwo}
use Rattle.sat_prop.proofs.Fronts.{split_last, held_same, front_held, contains_more}
use Rattle.sat_prop.proofs.Links.{not_both}
use Rattle.sat_prop.proofs.Covering.{covered_itself, covered_kept, live_of}
use Rattle.sat_prop.proofs.Settling.{settled_more, forced_longer, forced_whole}

pub contains_split : (att : List ℕ) (new number : ℕ) → Contains (att ++ new ∷ []) number → (Contains att number) ⊎ (number ≡ new)
contains_split att new number c = let b = c.1 in ⊎_elim
    (λ m. let e : get_or (att ++ new ∷ []) c.0 number ≡ get_or att c.0 number = grind (arith, common_steps) in inl (c.0, m, sym e ∙ c.2))
    (λ m. let e : get_or (att ++ new ∷ []) c.0 number ≡ new = rw m (grind (arith, common_steps)) in inr (sym c.2 ∙ e))
    (split_last c.0 (length att) (let n : c.0 < length att + 1 = grind (arith, common_steps) in n))

pub contains_new : (att : List ℕ) (new : ℕ) → Contains (att ++ new ∷ []) new
contains_new att new = (length att, grind (arith, common_steps), grind (arith, common_steps))

-- over a database that has grown, and fewer literals that have been looked at
settled_front : (t : TrailState) (all : List Clause) (watches : List Watch) (seen fewer n : ℕ) → IsFront t.clauses all → fewer ≤ seen → (IsLive watches n → IsWatch t.clauses t.attached watches n) → IsSettled t.clauses t.literals seen watches n → IsSettled all t.literals fewer watches n
settled_front t all watches seen fewer n f b watch s place clause h e held =
    let here = watch (live_of all (watch_at watches n).clause clause held) in
    let q : here.clause ≡ clause = held_same all (watch_at watches n).clause here.clause clause (front_held t.clauses all (watch_at watches n).clause here.clause f here.held) held in
    subst (λ (c : Clause). MakesUp t.literals (take (place + 1) t.literals) c (other_literal watches n)) q (s place here.clause (omega arith) e here.held)

watch_front : (t : TrailState) (all : List Clause) (new : ℕ) (watches : List Watch) (n : ℕ) → IsFront t.clauses all → IsWatch t.clauses t.attached watches n → IsWatch all (t.attached ++ new ∷ []) watches n
watch_front t all new watches n f k = record {
  joined = contains_more t.attached new (watch_at watches n).clause k.joined;
  clause = k.clause;
  held = front_held t.clauses all (watch_at watches n).clause k.clause f k.held;
  among = k.among;
  twin = k.twin;
  back = k.back;
  same = k.same;
  apart = k.apart;
}

-- a short one stays short as the clauses grow
short_front : (cs all : List Clause) (n : ℕ) → IsFront cs all → IsShort cs n → IsShort all n
short_front cs all n f s = record { clause = s.clause; held = front_held cs all n s.clause f s.held; narrow = s.narrow }

-- one that is short
pub short_attached : (t : TrailState) (w : WatchedState) (all : List Clause) (new : ℕ) → IsFront t.clauses all → 1 ≤ t.spare → AreWatched t w → IsShort all new → AreWatched (with_attached_clause t all new) (record w { short = w.short ++ new ∷ []; spare = w.spare - 1 })
short_attached t w all new f room a narrow = record {
  front = a.front;
  vars = a.vars;
  room_short = let r = a.room_short in omega arith;
  room_watches = let r = a.room_watches in omega arith;
  short = λ number c. ⊎_elim
      (λ s. contains_more t.attached new number (a.short number s))
      (λ s. subst (λ (k : ℕ). Contains (t.attached ++ new ∷ []) k) (sym s) (contains_new t.attached new))
      (contains_split w.short new number c);
  narrow = λ number c. ⊎_elim
      (λ s. short_front t.clauses all number f (a.narrow number s))
      (λ s. subst (λ (k : ℕ). IsShort all k) (sym s) narrow)
      (contains_split w.short new number c);
  all = λ number c. ⊎_elim
      (λ s. covered_kept t.clauses all w.short (w.short ++ new ∷ []) w.lists.watches w.lists.watches number f (λ k looked. ⊎_elim (λ q. inl (contains_more w.short new k q)) (λ q. inr q) looked) (a.all number s))
      (λ s. subst (λ (k : ℕ). IsCovered all (w.short ++ new ∷ []) w.lists.watches k) (sym s) (covered_itself all (w.short ++ new ∷ []) w.lists.watches new narrow.clause narrow.held (inl (contains_new w.short new))))
      (contains_split t.attached new number c);
  each = λ n h live. watch_front t all new w.lists.watches n f (a.each n h live);
  settled = λ n h. settled_front t all w.lists.watches w.seen w.seen n f (omega arith) (λ live. a.each n h live) (a.settled n h);
}

push_here : (watches : List Watch) (x : Watch) → watch_at (watches ++ x ∷ []) (length watches) ≡ x
push_here watches x = grind (arith, common_steps)

push_before : (watches : List Watch) (x : Watch) (m : ℕ) → m < length watches → watch_at (watches ++ x ∷ []) m ≡ watch_at watches m
push_before watches x m h = grind (arith, common_steps)

push_length : (watches : List Watch) (x : Watch) → length (watches ++ x ∷ []) ≡ suc (length watches)
push_length watches x = let e : length (watches ++ x ∷ []) ≡ length watches + 1 = grind (arith, common_steps) in omega (arith, e)

-- one that is watched at two literals, which none of those makes false that are still taken as looked at
module _ (t : TrailState) (w : WatchedState) (all : List Clause) (new : ℕ) (clause : Clause) (first second : Lit) (seen : ℕ) (f : IsFront t.clauses all) (room : 1 ≤ t.spare) (a : AreWatched t w)
    (held : clause_numbered all new ≡ Some clause) (two : AreTwo clause first second) (fewer : seen ≤ w.seen)
    (first_stands : (place : ℕ) → place < seen → literal_at t.literals place ≡ negation first → ⊥)
    (second_stands : (place : ℕ) → place < seen → literal_at t.literals place ≡ negation second → ⊥) where
  abbrev pub count : ℕ
  count = length w.lists.watches

  abbrev pub first_watch : Watch
  first_watch = record { clause = new; lit = first; twin = suc count }

  abbrev pub second_watch : Watch
  second_watch = record { clause = new; lit = second; twin = count }

  abbrev pub paired : List Watch
  paired = (with_watched_clause w.lists new first second).watches

  one : watch_at paired count ≡ first_watch
  one = push_before (w.lists.watches ++ first_watch ∷ []) second_watch count (let e = push_length w.lists.watches first_watch in omega arith) ∙ push_here w.lists.watches first_watch

  next : watch_at paired (suc count) ≡ second_watch
  next = ap (λ (k : ℕ). watch_at paired k) (sym (push_length w.lists.watches first_watch)) ∙ push_here (w.lists.watches ++ first_watch ∷ []) second_watch

  kept : (m : ℕ) → m < count → watch_at paired m ≡ watch_at w.lists.watches m
  kept m h = push_before (w.lists.watches ++ first_watch ∷ []) second_watch m (let e = push_length w.lists.watches first_watch in omega arith) ∙ push_before w.lists.watches first_watch m h

  longer : length paired ≡ count + 2
  longer = let e = push_length w.lists.watches first_watch in let f = push_length (w.lists.watches ++ first_watch ∷ []) second_watch in omega arith

  each_paired : (P : ℕ → Type 0) → ((m : ℕ) → m < count → P m) → P count → P (suc count) → (m : ℕ) → m < length paired → P m
  each_paired P g p q m h = ⊎_elim
      (λ b. ⊎_elim (λ c. g m c) (λ c. subst P (sym c) p) (split_last m count b))
      (λ b. subst P (sym (b ∙ plus_one)) q)
      (split_last m (count + 1) (let l = longer in omega arith))
    where
      plus_one : count + 1 ≡ suc count
      plus_one = omega arith

  other_kept : (m : ℕ) → m < count → IsLive w.lists.watches m → other_literal paired m ≡ other_literal w.lists.watches m
  other_kept m h live = ap (λ (x : Watch). (watch_at paired x.twin).lit) (kept m h) ∙ ap (λ (x : Watch). x.lit) (kept (watch_at w.lists.watches m).twin (a.each m h live).twin)

  watch_paired : (m : ℕ) → m < length paired → IsLive paired m → IsWatch all (t.attached ++ new ∷ []) paired m
  watch_paired = each_paired (λ m. IsLive paired m → IsWatch all (t.attached ++ new ∷ []) paired m)
      (λ m h live.
      let e = kept m h in
      let before : 1 ≤ (watch_at w.lists.watches m).clause = subst (λ (x : Watch). 1 ≤ x.clause) e live in
      let k = watch_front t all new w.lists.watches m f (a.each m h before) in
      let g = kept (watch_at w.lists.watches m).twin (a.each m h before).twin in
      record {
        joined = rw e k.joined;
        clause = k.clause;
        held = rw e k.held;
        among = rw e k.among;
        twin = let l = longer in let b = k.twin in rw e (omega arith);
        back = ap (λ (x : Watch). (watch_at paired x.twin).twin) e ∙ ap (λ (x : Watch). x.twin) g ∙ k.back;
        same = ap (λ (x : Watch). (watch_at paired x.twin).clause) e ∙ ap (λ (x : Watch). x.clause) g ∙ k.same ∙ ap (λ (x : Watch). x.clause) (sym e);
        apart = rw (e, other_kept m h before) k.apart;
      })
      (λ live. record {
        joined = rw one (contains_new t.attached new);
        clause = clause;
        held = rw one held;
        among = rw one two.first_among;
        twin = let l = longer in rw one (omega arith);
        back = ap (λ (x : Watch). (watch_at paired x.twin).twin) one ∙ ap (λ (x : Watch). x.twin) next;
        same = ap (λ (x : Watch). (watch_at paired x.twin).clause) one ∙ ap (λ (x : Watch). x.clause) next ∙ ap (λ (x : Watch). x.clause) (sym one);
        apart = rw (one, other_one) two.apart;
      })
      (λ live. record {
        joined = rw next (contains_new t.attached new);
        clause = clause;
        held = rw next held;
        among = rw next two.second_among;
        twin = let l = longer in rw next (omega arith);
        back = ap (λ (x : Watch). (watch_at paired x.twin).twin) next ∙ ap (λ (x : Watch). x.twin) one;
        same = ap (λ (x : Watch). (watch_at paired x.twin).clause) next ∙ ap (λ (x : Watch). x.clause) one ∙ ap (λ (x : Watch). x.clause) (sym next);
        apart = rw (next, other_next) (same_back second first ∙ two.apart);
      })
    where
      other_one : other_literal paired count ≡ second
      other_one = ap (λ (x : Watch). (watch_at paired x.twin).lit) one ∙ ap (λ (x : Watch). x.lit) next

      other_next : other_literal paired (suc count) ≡ first
      other_next = ap (λ (x : Watch). (watch_at paired x.twin).lit) next ∙ ap (λ (x : Watch). x.lit) one

  settled_paired : (m : ℕ) → m < length paired → IsSettled all t.literals seen paired m
  settled_paired = each_paired (λ m. IsSettled all t.literals seen paired m)
      (λ m h place c b e k.
      let g = kept m h in
      let held_before = subst (λ (x : Watch). clause_numbered all x.clause ≡ Some c) g k in
      subst (λ (x : Lit). MakesUp t.literals (take (place + 1) t.literals) c x) (sym (other_kept m h (live_of all (watch_at w.lists.watches m).clause c held_before)))
      (settled_front t all w.lists.watches w.seen seen m f fewer (λ live. a.each m h live) (a.settled m h) place c b (e ∙ ap (λ (x : Watch). negation x.lit) g) held_before))
      (λ place c b e k. absurd (first_stands place b (e ∙ ap (λ (x : Watch). negation x.lit) one)))
      (λ place c b e k. absurd (second_stands place b (e ∙ ap (λ (x : Watch). negation x.lit) next)))

  -- what was looked at still is, and so is what is new
  looked_paired : (number : ℕ) → IsLookedAt w.short w.lists.watches number → IsLookedAt w.short paired number
  looked_paired number looked = ⊎_elim (λ q. inl q) (λ q. inr (q.0, let b = q.1 in let l = longer in omega arith, ap (λ (x : Watch). x.clause) (kept q.0 q.1) ∙ q.2)) looked

  looked_new : IsLookedAt w.short paired new
  looked_new = inr (count, let l = longer in omega arith, ap (λ (x : Watch). x.clause) one)

  pub watch_attached : AreWatched (with_attached_clause t all new) (record w { lists = with_watched_clause w.lists new first second; seen = seen })
  watch_attached = record {
    front = let b = a.front in omega arith;
    vars = a.vars;
    room_short = let r = a.room_short in omega arith;
    room_watches = let r = a.room_watches in omega arith;
    short = λ number c. contains_more t.attached new number (a.short number c);
    narrow = λ number c. short_front t.clauses all number f (a.narrow number c);
    all = λ number c. ⊎_elim
        (λ s. covered_kept t.clauses all w.short w.short w.lists.watches paired number f (λ k looked. looked_paired k looked) (a.all number s))
        (λ s. subst (λ (k : ℕ). IsCovered all w.short paired k) (sym s) (covered_itself all w.short paired new clause held looked_new))
        (contains_split t.attached new number c);
    each = watch_paired;
    settled = settled_paired;
  }

  -- where those up to the next one make all but the first false, and that one is made true, the literals that have been looked at stay so
  module _ (first_open : (place : ℕ) → place < length t.literals → literal_at t.literals place ≡ negation first → ⊥) (forced : is_forced_by (take (seen + 1) t.literals) first clause ≡ true) where
    abbrev more : List Lit
    more = t.literals ++ first ∷ []

    front_literal : (place : ℕ) → place < w.seen → literal_at more place ≡ literal_at t.literals place
    front_literal place b =
        let n = a.front in
        let i : place < length t.literals = omega arith in
        grind (arith, common_steps)

    settled_before : (m : ℕ) → m < count → IsSettled all t.literals w.seen paired m
    settled_before m h place c b e k =
        let g = kept m h in
        let held_before = subst (λ (x : Watch). clause_numbered all x.clause ≡ Some c) g k in
        subst (λ (x : Lit). MakesUp t.literals (take (place + 1) t.literals) c x) (sym (other_kept m h (live_of all (watch_at w.lists.watches m).clause c held_before)))
        (settled_front t all w.lists.watches w.seen w.seen m f (omega arith) (λ live. a.each m h live) (a.settled m h) place c b (e ∙ ap (λ (x : Watch). negation x.lit) g) held_before)

    made_up : (place : ℕ) (c : Clause) → place < w.seen → seen ≤ place → clause ≡ c → MakesUp more (take (place + 1) more) c first
    made_up place c b after q =
        let n = a.front in
        let i : place < length t.literals = omega arith in
        let front : take (place + 1) more ≡ take (place + 1) t.literals = grind (arith, common_steps) in
        let longer : is_forced_by (take (place + 1) t.literals) first clause ≡ true = forced_longer t.literals clause first (seen + 1) (place + 1) (omega arith) forced in
        record {
          early = inr (subst (λ (x : Clause). is_forced_by (take (place + 1) more) first x ≡ true) q (rw front longer));
          now = true_more t.literals first first ∙ or_right (is_true t.literals first) _ (same_itself first);
        }

    settled_joined : (m : ℕ) → m < length paired → IsSettled all more w.seen paired m
    settled_joined = each_paired (λ m. IsSettled all more w.seen paired m)
        (λ m h. settled_more all t.literals w.seen paired m first a.front (settled_before m h))
        (λ place c b e k. let n = a.front in absurd (first_open place (omega arith) (sym (front_literal place b) ∙ e ∙ ap (λ (x : Watch). negation x.lit) one)))
        (λ place c b e k.
        let there : literal_at t.literals place ≡ negation second = sym (front_literal place b) ∙ e ∙ ap (λ (x : Watch). negation x.lit) next in
        let q : clause ≡ c = held_same all new clause c held (subst (λ (x : Watch). clause_numbered all x.clause ≡ Some c) next k) in
        subst (λ (x : Lit). MakesUp more (take (place + 1) more) c x) (sym (ap (λ (x : Watch). (watch_at paired x.twin).lit) next ∙ ap (λ (x : Watch). x.lit) one))
        (made_up place c b (not_before place there) q))
      where
        not_before : (place : ℕ) → literal_at t.literals place ≡ negation second → seen ≤ place
        not_before place e = ⊎_elim (λ h. absurd (second_stands place h e)) (λ h. h) (cases_lt place seen)

    watch_joined : AreWatched (with_true_literal (with_attached_clause t all new) first (Some new)) (record w { lists = with_watched_clause w.lists new first second })
    watch_joined = let u = watch_attached in record {
      front = let b = a.front in grind (arith, common_steps);
      vars = a.vars;
      room_short = u.room_short;
      room_watches = u.room_watches;
      short = u.short;
      narrow = u.narrow;
      all = u.all;
      each = u.each;
      settled = settled_joined;
    }

-- both literals of a known clause have lists
pub both_known : (t : TrailState) (w : WatchedState) (all : List Clause) (number : ℕ) (clause : Clause) (first second : Lit) → AreWatched t w → IfSome (clause_numbered all number) (HasValues t.vars) → clause_numbered all number ≡ Some clause → AreTwo clause first second
    → (first.var < w.lists.vars) × (second.var < w.lists.vars)
both_known t w all number clause first second a known held two =
    let values = subst (λ (o : Option Clause). IfSome o (HasValues t.vars)) held known in
    let one = below_at t.vars clause first values two.first_among in
    let next = below_at t.vars clause second values two.second_among in
    let enough = a.vars in
    (omega arith, omega arith)

-- one that is watched at two literals, and forces the first by literals that have been looked at
module _ (t : TrailState) (w : WatchedState) (clause : Clause) (first second : Lit) (a : AreWatched t w) (forcing : IsForcing t.literals clause w.seen first second) where
  place_within : forcing.place < length t.literals
  place_within = let h = forcing.within in let b = a.front in omega arith

  -- one that is open is made false nowhere
  open_stands : (place : ℕ) → place < length t.literals → literal_at t.literals place ≡ negation first → ⊥
  open_stands place h e = not_both _ (true_at t.literals (negation first) place h e) (open_parts t.literals first forcing.first_open).1

  pub forces : AreConsistent t.literals → standing t.literals clause ≡ unit first
  forces consistent = forced_unit t.literals clause first consistent forcing.first_open
      (forced_whole t.literals clause first (forcing.place + 1) (let h = place_within in omega arith) forcing.others)

  pub watch_forced : (all : List Clause) (new : ℕ) → IsFront t.clauses all → 1 ≤ t.spare → clause_numbered all new ≡ Some clause → AreWatched (with_true_literal (with_attached_clause t all new) first (Some new)) (record w { lists = with_watched_clause w.lists new first second })
  watch_forced all new f room held =
      let within = place_within in
      let early = forcing.within in
      watch_joined t w all new clause first second forcing.place f room a held forcing.two (omega arith)
      (λ place h e. open_stands place (omega arith) e)
      (λ place h e. forcing.before place h (omega arith) e)
      open_stands forcing.others
