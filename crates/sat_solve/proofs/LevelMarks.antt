-- The levels of the first literals of a clause, as they are marked.
use Rattle.std.proofs.Common.{◌≡◌, ◌∙◌, ℕ, ◌+◌, ◌*◌, ◌<◌, ◌≤◌, Bool, true, false, not, ◌||◌, ◌++◌, ◌∷◌, [], List, refl, ap, sym, length, max, take, map, get_or, set, eqb, arith, subst, inl, inr, ⊎_elim, replicate}
use Rattle.std.specs.Prelude.{slice_set, cond}
use Rattle.std.proofs.Math.Nat.{max-eq_left, max-eq_right}
use Rattle.std.proofs.lemmas.Grind.{common_steps}
use Rattle.std.proofs.lemmas.Bool.{cases_eq, cases_lt, cases_Bool, eqb-true}
use Rattle.std.proofs.lemmas.List.{get_or-set_same, get_or-set_other, length-set, set-get_or, set_past, get_or-map, length-map}
use Rattle.std.proofs.lemmas.List.Folds.{list_any-append, sum_by-replicate}
use Rattle.prop_core.specs.declared.lit.Lit.{Lit}
use Rattle.prop_core.specs.Trail.{has_var, no_literal}
use Rattle.prop_core.proofs.Literals.{has_at}
use Rattle.sat_prop.specs.TrailState.{TrailState, StandsAt}
use Rattle.sat_prop.specs.Levels.{level_at, IsGreatestLevel}
use Rattle.sat_solve.specs.LevelCount.{IsLevelOf, HasLevel, AreLevelsOf, is_marked_level, marked_of}
use Rattle.sat_solve.proofs.Places.{held_more}
use Rattle.des_base.proofs.BoolLemmas.{or_left}

-- the variables of one more literal
has_next : (clause : List Lit) (i v : ℕ) → i < length clause → has_var v (take (i + 1) clause) ≡ (has_var v (take i clause) || (eqb (get_or clause i no_literal).var v || false))
has_next clause i v h =
    let e : take (i + 1) clause ≡ take i clause ++ get_or clause i no_literal ∷ [] = grind (arith, common_steps) in
    ap (has_var v) e ∙ list_any-append (λ (l : Lit). eqb l.var v) (take i clause) (get_or clause i no_literal ∷ [])

or_either : (a b : Bool) → (a || (b || false)) ≡ true → (a ≡ true → ⊥) → b ≡ true
or_either true b e d = absurd (d refl)
or_either false true e d = refl
or_either false false e d = e

earlier : (clause : List Lit) (i v : ℕ) → i < length clause → has_var v (take i clause) ≡ true → has_var v (take (i + 1) clause) ≡ true
earlier clause i v h e = has_next clause i v h ∙ or_left (has_var v (take i clause)) (eqb (get_or clause i no_literal).var v || false) e

-- a level of these literals is one of the earlier ones, or of the last
last_or : (t : TrailState) (clause : List Lit) (i level : ℕ) → i < length clause → HasLevel t (take (i + 1) clause) level → (HasLevel t (take i clause) level → ⊥) → IsLevelOf t (get_or clause i no_literal).var level
last_or t clause i level h has d =
    let n : has_var has.var (take i clause) ≡ true → ⊥ = λ z. d (record { var = has.var; among = z; level_of = has.level_of }) in
    let e = eqb-true (get_or clause i no_literal).var has.var (or_either (has_var has.var (take i clause)) (eqb (get_or clause i no_literal).var has.var) (sym (has_next clause i has.var h) ∙ has.among) n) in
    subst (λ (v : ℕ). IsLevelOf t v level) (sym e) has.level_of

has_earlier : (t : TrailState) (clause : List Lit) (i level : ℕ) → i < length clause → HasLevel t (take i clause) level → HasLevel t (take (i + 1) clause) level
has_earlier t clause i level h has = record { var = has.var; among = earlier clause i has.var h has.among; level_of = has.level_of }

has_last : (t : TrailState) (clause : List Lit) (i level : ℕ) → i < length clause → IsLevelOf t (get_or clause i no_literal).var level → HasLevel t (take (i + 1) clause) level
has_last t clause i level h l =
    let n : i < length (take (i + 1) clause) = grind (arith, common_steps) in
    let e : get_or (take (i + 1) clause) i no_literal ≡ get_or clause i no_literal = grind (arith, common_steps) in
    record { var = (get_or clause i no_literal).var; among = has_at (take (i + 1) clause) i (get_or clause i no_literal).var n (ap (λ (x : Lit). x.var) e); level_of = l }

-- a literal that has a level
pub levels_more : (t : TrailState) (clause : List Lit) (i level : ℕ) (marks : List Bool) → i < length clause → AreLevelsOf t (take i clause) marks → IsLevelOf t (get_or clause i no_literal).var level
    → ((place : ℕ) → StandsAt t.literals (get_or clause i no_literal).var place → level ≡ level_at t.reasons place) → AreLevelsOf t (take (i + 1) clause) (slice_set marks level true)
levels_more t clause i level marks h a l single = record {
  each = λ other on. ⊎_elim
      (λ e. subst (λ (n : ℕ). HasLevel t (take (i + 1) clause) n) (sym e) (has_last t clause i level h l))
      (λ d. has_earlier t clause i other h (a.each other (sym (get_or-set_other marks level other true false d) ∙ on)))
      (cases_eq other level);
  all = λ other k has. ⊎_elim
      (λ e. ap (λ (n : ℕ). is_marked_level (slice_set marks level true) n) e ∙ get_or-set_same marks level true false (subst (λ (n : ℕ). n < length marks) e (subst (λ (n : ℕ). other < n) (length-set marks level true) k)))
      (λ d. get_or-set_other marks level other true false d ∙ earlier_marked other (subst (λ (n : ℕ). other < n) (length-set marks level true) k) has d)
      (cases_eq other level);
}
  where
    earlier_marked : (other : ℕ) → other < length marks → HasLevel t (take (i + 1) clause) other → (other ≡ level → ⊥) → is_marked_level marks other ≡ true
    earlier_marked other k has d = ⊎_elim (λ e. e)
        (λ e.
        let n : HasLevel t (take i clause) other → ⊥ = λ z. (let y = a.all other k z in let x : true ≡ false = sym y ∙ e in cc) in
        let o = last_or t clause i other h has n in
        absurd (d (sym (single o.place o.stands ∙ o.at))))
        (cases_Bool (is_marked_level marks other))

-- a literal that has none
pub levels_same : (t : TrailState) (clause : List Lit) (i : ℕ) (marks : List Bool) → i < length clause → AreLevelsOf t (take i clause) marks → ((place : ℕ) → StandsAt t.literals (get_or clause i no_literal).var place → ⊥) → AreLevelsOf t (take (i + 1) clause) marks
levels_same t clause i marks h a none = record {
  each = λ other on. has_earlier t clause i other h (a.each other on);
  all = λ other k has. ⊎_elim (λ e. e)
      (λ e.
      let n : HasLevel t (take i clause) other → ⊥ = λ z. (let y = a.all other k z in let x : true ≡ false = sym y ∙ e in cc) in
      let o = last_or t clause i other h has n in
      absurd (none o.place o.stands))
      (cases_Bool (is_marked_level marks other));
}

-- none is marked at first
pub levels_none : (t : TrailState) (clause : List Lit) (marks : List Bool) → AreLevelsOf t (take 0 clause) (map (λ (b : Bool). false) marks)
levels_none t clause marks = record {
  each = λ level on. absurd (unmarked level on);
  all = λ level k has. absurd (let z : false ≡ true = has.among in cc);
}
  where
    past : (bs : List Bool) (n : ℕ) → length bs ≤ n → get_or bs n false ≡ false
    past bs n k = grind (arith, common_steps)

    unmarked : (level : ℕ) → is_marked_level (map (λ (b : Bool). false) marks) level ≡ true → ⊥
    unmarked level on = ⊎_elim
        (λ k. let e = get_or-map (λ (b : Bool). false) marks level false false k in let z : false ≡ true = sym e ∙ on in cc)
        (λ k. let e : get_or (map (λ (b : Bool). false) marks) level false ≡ false = past (map (λ (b : Bool). false) marks) level (rw (length-map marks (λ (b : Bool). false)) k) in let z : false ≡ true = sym e ∙ on in cc)
        (cases_lt level (length marks))

pub marked_none : (marks : List Bool) → marked_of (map (λ (b : Bool). false) marks) ≡ 0
marked_none marks =
    let a : marked_of (replicate (length marks) false) ≡ length marks * 0 = sum_by-replicate (λ b. cond b 1 0) (length marks) false in
    ap marked_of (all_false marks) ∙ (omega arith)
  where
    all_false : (marks : List Bool) → map (λ (b : Bool). false) marks ≡ replicate (length marks) false
    all_false [] = refl
    all_false (b ∷ marks) = ap (λ (bs : List Bool). false ∷ bs) (all_false marks)

-- one that is marked for the first time is one more, and otherwise nothing changes
pub marked_first : (marks : List Bool) (level : ℕ) → not (get_or marks level true) ≡ true → marked_of (slice_set marks level true) ≡ marked_of marks + 1
marked_first marks level first =
    ⊎_elim (λ k. held_more marks level k (let e : get_or marks level false ≡ get_or marks level true = grind (arith, common_steps) in e ∙ unset (get_or marks level true) first))
    (λ k. let e : get_or marks level true ≡ true = grind (arith, common_steps) in let z : not true ≡ true = subst (λ (b : Bool). not b ≡ true) e first in absurd (let y : false ≡ true = z in cc))
    (cases_lt level (length marks))
  where
    unset : (b : Bool) → not b ≡ true → b ≡ false
    unset true e = sym e
    unset false e = refl

pub marked_again : (marks : List Bool) (level : ℕ) → not (get_or marks level true) ≡ false → slice_set marks level true ≡ marks
marked_again marks level first =
    ⊎_elim (λ k. let e : get_or marks level false ≡ get_or marks level true = grind (arith, common_steps) in
    let on : get_or marks level false ≡ true = e ∙ was (get_or marks level true) first in
    ap (λ (b : Bool). set marks level b) (sym on) ∙ set-get_or marks level false)
    (λ k. set_past marks level true k)
    (cases_lt level (length marks))
  where
    was : (b : Bool) → not b ≡ false → b ≡ true
    was true e = refl
    was false e = sym e

-- one more literal has no level
pub greatest_same : (t : TrailState) (clause : List Lit) (i most : ℕ) → i < length clause → IsGreatestLevel t.literals t.reasons (take i clause) most → ((place : ℕ) → StandsAt t.literals (get_or clause i no_literal).var place → ⊥) → IsGreatestLevel t.literals t.reasons (take (i + 1) clause) most
greatest_same t clause i most h g none = record {
  bound = λ p b e. let v = (get_or t.literals p no_literal).var in ⊎_elim (λ f. g.bound p b f)
      (λ f. let n : has_var v (take i clause) ≡ true → ⊥ = λ z. (let x : true ≡ false = sym z ∙ f in cc) in
      let q = eqb-true (get_or clause i no_literal).var v (or_either (has_var v (take i clause)) (eqb (get_or clause i no_literal).var v) (sym (has_next clause i v h) ∙ e) n) in
      absurd (none p (record { within = b; at = sym q })))
      (cases_Bool (has_var v (take i clause)));
  reached = ⊎_elim inl (λ r. inr (r.0, r.1, earlier clause i (get_or t.literals r.0 no_literal).var h r.2, r.3)) g.reached;
}

-- one more literal has this level
pub greatest_more : (t : TrailState) (clause : List Lit) (i most own next : ℕ) → i < length clause → IsGreatestLevel t.literals t.reasons (take i clause) most → IsLevelOf t (get_or clause i no_literal).var own
    → ((place : ℕ) → StandsAt t.literals (get_or clause i no_literal).var place → own ≡ level_at t.reasons place) → next ≡ max most own → IsGreatestLevel t.literals t.reasons (take (i + 1) clause) next
greatest_more t clause i most own next h g l single e = rw e (⊎_elim
    (λ k. let m : max most own ≡ own = max-eq_right (omega arith) in rw m (record { bound = bound own (omega arith) (omega arith); reached = inr (l.place, l.stands.within, among, l.at) }))
    (λ k. let m : max most own ≡ most = max-eq_left k in rw m (record {
      bound = bound most (omega arith) k;
      reached = ⊎_elim inl (λ r. inr (r.0, r.1, earlier clause i (get_or t.literals r.0 no_literal).var h r.2, r.3)) g.reached;
    }))
    (cases_lt most own))
  where
    among : has_var (get_or t.literals l.place no_literal).var (take (i + 1) clause) ≡ true
    among =
        let n : i < length (take (i + 1) clause) = grind (arith, common_steps) in
        let e : get_or (take (i + 1) clause) i no_literal ≡ get_or clause i no_literal = grind (arith, common_steps) in
        has_at (take (i + 1) clause) i (get_or t.literals l.place no_literal).var n (ap (λ (x : Lit). x.var) e ∙ sym l.stands.at)

    bound : (top : ℕ) → most ≤ top → own ≤ top → (p : ℕ) → p < length t.literals → has_var (get_or t.literals p no_literal).var (take (i + 1) clause) ≡ true → level_at t.reasons p ≤ top
    bound top a o p b f =
        let v = (get_or t.literals p no_literal).var in
        ⊎_elim (λ z. let y = g.bound p b z in omega arith)
        (λ z. let n : has_var v (take i clause) ≡ true → ⊥ = λ y. (let x : true ≡ false = sym y ∙ z in cc) in
        let q = eqb-true (get_or clause i no_literal).var v (or_either (has_var v (take i clause)) (eqb (get_or clause i no_literal).var v) (sym (has_next clause i v h) ∙ f) n) in
        let y = single p (record { within = b; at = sym q }) in omega arith)
        (cases_Bool (has_var v (take i clause)))
