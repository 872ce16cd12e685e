-- A clause is no longer watched that another one subsumes which is: the others are watched as before.
use Rattle.std.proofs.Common.{◌≡◌, ◌≢◌, ◌↔◌, ◌∙◌, Bool, IsTrue, ℕ, ◌+◌, ◌<◌, true, false, List, ap, sym, subst, length, take, inl, inr, ⊎_elim, Some, Option}
use Rattle.std.specs.Prelude.{Contains, IfSome}
use Rattle.std.specs.List.{list_any}
use Rattle.std.proofs.lemmas.Bool.{cases_eq}
use Rattle.prop_core.specs.declared.lit.Lit.{Lit}
use Rattle.prop_core.specs.Clauses.{Clause, negation, same_literal}
use Rattle.prop_core.specs.Derivation.{clause_numbered}
use Rattle.sat_prop.specs.TrailState.{TrailState}
use Rattle.sat_prop.specs.Changes.{IsFront}
use Rattle.sat_prop.specs.declared.watch_lists.Watch.{Watch}
use Rattle.sat_prop.specs.Watches.{IsLive, watch_at, with_dropped, without_clause, other_literal}
use Rattle.sat_prop.specs.Watching.{WatchedState, AreWatched, IsWatch, IsSettled, MakesUp, IsLookedAt, IsCovered, Subsumes, is_part_of, IsSubsumed}
use Rattle.sat_prop.proofs.Fronts.{held_same, front_held}
use Rattle.sat_prop.proofs.Covering.{subsumes_trans}
use Rattle.sat_prop.proofs.Dropping.{drop_apart, drop_length, drop_lit, drop_live, drop_other, drop_twin}
use Rattle.sat_prop.proofs.Settling.{settled_live}

module _ (t : TrailState) (w : WatchedState) (older newer : ℕ) (a : AreWatched t w) (older_within : older < length w.lists.watches) (older_live : IsLive w.lists.watches older) (newer_within : newer < length w.lists.watches)
    (apart : (watch_at w.lists.watches newer).clause ≡ (watch_at w.lists.watches older).clause → ⊥) (s : Subsumes t.clauses (watch_at w.lists.watches newer).clause (watch_at w.lists.watches older).clause) where
  gone : IsWatch t.clauses t.attached w.lists.watches older
  gone = a.each older older_within older_live

  abbrev pub gone_twin : ℕ
  gone_twin = (watch_at w.lists.watches older).twin

  abbrev pub one_left : List Watch
  one_left = with_dropped w.lists.watches older

  abbrev pub left : List Watch
  left = without_clause w.lists.watches older

  twin_within : gone_twin < length one_left
  twin_within = subst (λ (k : ℕ). gone_twin < k) (sym (drop_length w.lists.watches older)) gone.twin

  left_length : length left ≡ length w.lists.watches
  left_length = drop_length one_left gone_twin ∙ drop_length w.lists.watches older

  left_lit : (m : ℕ) → (watch_at left m).lit ≡ (watch_at w.lists.watches m).lit
  left_lit m = drop_lit one_left gone_twin m twin_within ∙ drop_lit w.lists.watches older m older_within

  left_twin : (m : ℕ) → (watch_at left m).twin ≡ (watch_at w.lists.watches m).twin
  left_twin m = drop_twin one_left gone_twin m twin_within ∙ drop_twin w.lists.watches older m older_within

  left_other : (m : ℕ) → other_literal left m ≡ other_literal w.lists.watches m
  left_other m = left_lit (watch_at left m).twin ∙ ap (λ (k : ℕ). (watch_at w.lists.watches k).lit) (left_twin m)

  -- those that are left
  left_apart : (m : ℕ) → IsLive left m → m ≡ older → ⊥
  left_apart m live = drop_other w.lists.watches older m older_within (drop_live one_left gone_twin m twin_within live)

  left_twin_apart : (m : ℕ) → IsLive left m → m ≡ gone_twin → ⊥
  left_twin_apart m live = drop_other one_left gone_twin m twin_within live

  left_clause : (m : ℕ) → (m ≡ older → ⊥) → (m ≡ gone_twin → ⊥) → (watch_at left m).clause ≡ (watch_at w.lists.watches m).clause
  left_clause m d f = ap (λ (x : Watch). x.clause) (drop_apart one_left gone_twin m f ∙ drop_apart w.lists.watches older m d)

  live_before : (m : ℕ) → IsLive left m → IsLive w.lists.watches m
  live_before m live = drop_live w.lists.watches older m older_within (drop_live one_left gone_twin m twin_within live)

  watch_left : (m : ℕ) → m < length w.lists.watches → IsLive left m → IsWatch t.clauses t.attached left m
  watch_left m h live =
      let k = a.each m h (live_before m live) in
      let d = left_apart m live in
      let f = left_twin_apart m live in
      let c = left_clause m d f in
      let d2 : (watch_at w.lists.watches m).twin ≡ older → ⊥ = λ e. f (sym k.back ∙ ap (λ (x : ℕ). (watch_at w.lists.watches x).twin) e) in
      let f2 : (watch_at w.lists.watches m).twin ≡ gone_twin → ⊥ = λ e. d (sym k.back ∙ ap (λ (x : ℕ). (watch_at w.lists.watches x).twin) e ∙ gone.back) in
      record {
        joined = subst (λ (x : ℕ). Contains t.attached x) (sym c) k.joined;
        clause = k.clause;
        held = subst (λ (x : ℕ). clause_numbered t.clauses x ≡ Some k.clause) (sym c) k.held;
        among = subst (λ (x : Lit). list_any (same_literal x) k.clause ≡ true) (sym (left_lit m)) k.among;
        twin = subst (λ (x : ℕ). x < length left) (sym (left_twin m)) (subst (λ (x : ℕ). (watch_at w.lists.watches m).twin < x) (sym left_length) k.twin);
        back = left_twin (watch_at left m).twin ∙ ap (λ (x : ℕ). (watch_at w.lists.watches x).twin) (left_twin m) ∙ k.back;
        same = ap (λ (x : ℕ). (watch_at left x).clause) (left_twin m) ∙ left_clause (watch_at w.lists.watches m).twin d2 f2 ∙ k.same ∙ sym c;
        apart = subst (λ (x : Lit). same_literal x (other_literal left m) ≡ false) (sym (left_lit m)) (subst (λ (x : Lit). same_literal (watch_at w.lists.watches m).lit x ≡ false) (sym (left_other m)) k.apart);
      }

  settled_left : (m : ℕ) → m < length w.lists.watches → IsLive left m → IsSettled t.clauses t.literals w.seen left m
  settled_left m h live place c b e held =
      subst (λ (x : Lit). MakesUp t.literals (take (place + 1) t.literals) c x) (sym (left_other m))
      (a.settled m h place c b (e ∙ ap negation (left_lit m)) (subst (λ (x : ℕ). clause_numbered t.clauses x ≡ Some c) (left_clause m (left_apart m live) (left_twin_apart m live)) held))

  -- the newer clause takes the older one's place
  newer_looked : IsLookedAt w.short left (watch_at w.lists.watches newer).clause
  newer_looked = inr (
    newer,
    subst (λ (k : ℕ). newer < k) (sym left_length) newer_within,
    left_clause newer (λ e. apart (ap (λ (k : ℕ). (watch_at w.lists.watches k).clause) e)) (λ e. apart (ap (λ (k : ℕ). (watch_at w.lists.watches k).clause) e ∙ gone.same)),
  )

  covered_anew : (cover number : ℕ) → Subsumes t.clauses cover number → (watch_at w.lists.watches older).clause ≡ cover → IsCovered t.clauses w.short left number
  covered_anew cover number q e = record {
    cover = (watch_at w.lists.watches newer).clause;
    looked = newer_looked;
    subsumes = subsumes_trans t.clauses (watch_at w.lists.watches newer).clause cover number (subst (λ (k : ℕ). Subsumes t.clauses (watch_at w.lists.watches newer).clause k) e s) q;
  }

  covered_still : (cover number : ℕ) → Subsumes t.clauses cover number → IsLookedAt w.short left cover → IsCovered t.clauses w.short left number
  covered_still cover number q l = record { cover = cover; looked = l; subsumes = q }

  covered_left : (number : ℕ) → IsCovered t.clauses w.short w.lists.watches number → IsCovered t.clauses w.short left number
  covered_left number c = ⊎_elim
      (λ q. covered_still c.cover number c.subsumes (inl q))
      (λ q. ⊎_elim
      (λ e. covered_anew c.cover number c.subsumes (ap (λ (k : ℕ). (watch_at w.lists.watches k).clause) (sym e) ∙ q.2))
      (λ d. ⊎_elim
      (λ e. covered_anew c.cover number c.subsumes (sym gone.same ∙ ap (λ (k : ℕ). (watch_at w.lists.watches k).clause) (sym e) ∙ q.2))
      (λ f. covered_still c.cover number c.subsumes (inr (q.0, subst (λ (k : ℕ). q.0 < k) (sym left_length) q.1, left_clause q.0 d f ∙ q.2)))
      (cases_eq q.0 gone_twin))
      (cases_eq q.0 older))
      c.looked

  pub watched_without : AreWatched t (record w { lists = record w.lists { watches = left } })
  watched_without = record {
    front = a.front;
    vars = a.vars;
    room_short = a.room_short;
    room_watches = a.room_watches;
    short = a.short;
    narrow = a.narrow;
    all = λ number c. covered_left number (a.all number c);
    each = λ m h live. watch_left m (subst (λ (k : ℕ). m < k) left_length h) live;
    settled = λ m h. settled_live t.clauses t.literals w.seen left m (λ live. settled_left m (subst (λ (k : ℕ). m < k) left_length h) live);
  }

-- what the clauses of two numbers say, of which both are held
read_both : (cs : List Clause) (x y : ℕ) (part whole : Clause) (P : Clause → Clause → Type 0) → clause_numbered cs x ≡ Some part → clause_numbered cs y ≡ Some whole →
    IfSome (clause_numbered cs x) (λ p. IfSome (clause_numbered cs y) (λ q. P p q)) → P part whole
read_both cs x y part whole P e f h = subst (λ (o : Option Clause). IfSome o (λ q. P part q)) f (subst (λ (o : Option Clause). IfSome o (λ p. IfSome (clause_numbered cs y) (λ q. P p q))) e h)

-- whether the newer clause subsumes the older one, by what was read of them
pub subsumed_read : (t : TrailState) (w : WatchedState) (all : List Clause) (older newer inner outer : ℕ) (b : Bool) → IsFront t.clauses all → AreWatched t w →
    older < length w.lists.watches → IsLive w.lists.watches older → (watch_at w.lists.watches older).clause ≡ outer →
    newer < length w.lists.watches → IsLive w.lists.watches newer → (watch_at w.lists.watches newer).clause ≡ inner →
    (IsTrue b → inner ≢ outer) → (inner ≢ outer → IfSome (clause_numbered all inner) (λ part. IfSome (clause_numbered all outer) (λ whole. b ≡ is_part_of part whole))) →
    IsTrue b ↔ IsSubsumed t.clauses w.lists.watches older newer
subsumed_read t w all older newer inner outer b f a h l d k m e another part =
    let one = a.each newer k m in
    let two = a.each older h l in
    let held1 : clause_numbered all inner ≡ Some one.clause = subst (λ (n : ℕ). clause_numbered all n ≡ Some one.clause) e (front_held t.clauses all (watch_at w.lists.watches newer).clause one.clause f one.held) in
    let held2 : clause_numbered all outer ≡ Some two.clause = subst (λ (n : ℕ). clause_numbered all n ≡ Some two.clause) d (front_held t.clauses all (watch_at w.lists.watches older).clause two.clause f two.held) in
    let says : inner ≢ outer → b ≡ is_part_of one.clause two.clause = λ n. read_both all inner outer one.clause two.clause (λ p q. b ≡ is_part_of p q) held1 held2 (part n) in (
      (λ yes. record {
        older_within = h;
        newer_within = k;
        older_live = l;
        newer_live = m;
        apart = λ q. another yes (sym e ∙ q ∙ d);
        subsumes = record { inner_clause = one.clause; inner_held = one.held; outer_clause = two.clause; outer_held = two.held; part = sym (says (another yes)) ∙ yes };
      }),
      (λ s.
          let p = held_same t.clauses (watch_at w.lists.watches newer).clause s.subsumes.inner_clause one.clause s.subsumes.inner_held one.held in
          let q = held_same t.clauses (watch_at w.lists.watches older).clause s.subsumes.outer_clause two.clause s.subsumes.outer_held two.held in
          says (λ n. s.apart (e ∙ n ∙ sym d)) ∙ subst (λ (c : Clause). is_part_of one.clause c ≡ true) q (subst (λ (c : Clause). is_part_of c s.subsumes.outer_clause ≡ true) p s.subsumes.part)),
    )
