-- Variables that wait, as the trail grows and goes back.
use Rattle.std.proofs.Common.{◌≡◌, ◌∙◌, ℕ, ◌+◌, ◌-◌, ◌<◌, ◌≤◌, Bool, true, false, ◌++◌, ◌∷◌, [], List, refl, ap, sym, length, take, get_or, arith, subst, ⊎_elim}
use Rattle.std.specs.Prelude.{Option, Some, None, slice_get, max, replicate}
use Rattle.std.specs.List.{list_all}
use Rattle.std.specs.Bool.{beq}
use Rattle.std.proofs.lemmas.Grind.{common_steps}
use Rattle.std.proofs.lemmas.Bool.{cases_lt, cases_Bool, or_right}
use Rattle.std.proofs.lemmas.Option.{slice_get_within, get_or_from_slice_get}
use Rattle.des_base.specs.declared.TheConstants.{VAR_LIMIT}
use Rattle.prop_core.specs.declared.lit.Lit.{Lit}
use Rattle.std.proofs.Math.Nat.{le-max_left, le-max_right, max-le, max-eq_left, max-eq_right}
use Rattle.prop_core.specs.Clauses.{Clause, is_true, is_open, HasValues, AreConsistent}
use Rattle.prop_core.specs.Trail.{no_literal, has_var}
use Rattle.prop_core.proofs.Entailed.{same_itself}
use Rattle.prop_core.proofs.Literals.{literal_of, open_parts, open_from, open_var, open_shorter, place_found, true_at, true_more, has_at, below_at, wider}
use Rattle.sat_order.specs.Waiting.{waits}
use Rattle.sat_prop.specs.TrailState.{TrailState, literal_at, trail_value, StandsAt}
use Rattle.sat_prop.specs.Levels.{level_of, level_at, IsUpToLevel}
use Rattle.sat_prop.specs.Changes.{IsKeptUpTo, Propagates, with_attached_clause}
use Rattle.sat_prop.proofs.Fronts.{front_length}
use Rattle.sat_prop.proofs.Leveling.{level_front, level_step}
use Rattle.sat_prop.proofs.Seeing.{value_agrees, value_denies, value_lacks}
use Rattle.sat_learn.specs.Seen.{is_known_var}
use Rattle.sat_solve.specs.Solving.{AreWaiting, IsServing, AreAtRest}
use Rattle.sat_solve.proofs.Learning.{serving_attached}
use Rattle.des_base.proofs.Elements.{all_change}

-- there is room for more clauses, and all else is as before
pub record WithRoom (old new : TrailState) : Type 0 where
  pub same : new ≡ record old { spare = new.spare }
  pub more : old.spare ≤ new.spare

-- a literal by its place
pub read_at : (literals : List Lit) (place : ℕ) (l : Lit) → slice_get literals place ≡ Some l → get_or literals place no_literal ≡ l
read_at literals place l e = get_or_from_slice_get literals place l no_literal e

pub read_var : (literals : List Lit) (place : ℕ) (l : Lit) → slice_get literals place ≡ Some l → has_var l.var literals ≡ true
read_var literals place l e = has_at literals place l.var (slice_get_within literals place l e) (ap (λ (x : Lit). x.var) (read_at literals place l e))

pub read_stands : (literals : List Lit) (place : ℕ) (l : Lit) → slice_get literals place ≡ Some l → StandsAt literals l.var place
read_stands literals place l e = record { within = slice_get_within literals place l e; at = ap (λ (x : Lit). x.var) (read_at literals place l e) }

-- the value says whether a literal is true
pub value_is : (literals : List Lit) (l : Lit) (b : Bool) → AreConsistent literals → trail_value literals l.var ≡ Some b → beq b l.positive ≡ is_true literals l
value_is literals l b c e = by (beq b l.positive) refl
  where
    by : (t : Bool) → beq b l.positive ≡ t → t ≡ is_true literals l
    by true f = sym (value_agrees literals l b e f)
    by false f = ⊎_elim (λ t. absurd (let n = c l t in let d = value_denies literals l b e f in let z : true ≡ false = sym d ∙ n in cc)) (λ t. sym t) (cases_Bool (is_true literals l))

-- the place is above the level
above_cut : (reasons : List (Option ℕ)) (level kept place : ℕ) → IsUpToLevel reasons level kept → kept ≤ place → place < length reasons → level < level_at reasons place
above_cut reasons level kept place c h b =
    let n = level_step reasons kept (omega arith) (c.next (omega arith)) in
    let f = level_front reasons (kept + 1) (place + 1) (omega arith) in
    let d = c.decided in
    omega arith

-- an open variable waits on the way back
pub waiting_kept : (waiting : List Bool) (t u : TrailState) (vars level : ℕ) → AreWaiting waiting t.literals vars → length t.reasons ≡ length t.literals → ((place : ℕ) → place < length t.literals → level < level_at t.reasons place → waits waiting (literal_at t.literals place).var ≡ true) →
    IsKeptUpTo t u level → AreWaiting waiting u.literals vars
waiting_kept waiting t u vars level w same back k var b o =
    let p : is_open (take k.kept t.literals) (literal_of var false) ≡ true = subst (λ (ls : List Lit). is_open ls (literal_of var false) ≡ true) k.literals o in
    let n = open_parts (take k.kept t.literals) (literal_of var false) p in
    ⊎_elim (λ e. stood false e n.0)
    (λ f. ⊎_elim (λ e. stood true e n.1)
    (λ g. w var b (open_from t.literals (literal_of var false) f g))
    (cases_Bool (is_true t.literals (literal_of var true))))
    (cases_Bool (is_true t.literals (literal_of var false)))
  where
    stood : (sign : Bool) → is_true t.literals (literal_of var sign) ≡ true → is_true (take k.kept t.literals) (literal_of var sign) ≡ false → waits waiting var ≡ true
    stood sign e f =
        let i = place_found t.literals (literal_of var sign) e in
        let within = i.1.within in
        let v : (get_or t.literals i.0 no_literal).var ≡ var = ap (λ (l : Lit). l.var) i.1.at in
        ⊎_elim
        (λ h. let m : i.0 < length (take k.kept t.literals) = grind (arith, common_steps) in
        let g : get_or (take k.kept t.literals) i.0 no_literal ≡ get_or t.literals i.0 no_literal = grind (arith, common_steps) in
        let x = true_at (take k.kept t.literals) (literal_of var sign) i.0 m (g ∙ i.1.at) in
        absurd (let z : true ≡ false = sym x ∙ f in cc))
        (λ h. subst (λ (n : ℕ). waits waiting n ≡ true) v (back i.0 within (above_cut t.reasons level k.kept i.0 k.cut h (omega arith))))
        (cases_lt i.0 k.kept)

-- an open variable waits where the trail has grown
pub waiting_grown : (waiting : List Bool) (t u : TrailState) (vars : ℕ) → AreWaiting waiting t.literals vars → Propagates t u → AreWaiting waiting u.literals vars
waiting_grown waiting t u vars w p var b o =
    let n : length t.literals ≤ length u.literals = front_length t.literals u.literals p.literals in
    let e : take (length u.literals) u.literals ≡ u.literals = grind (arith, common_steps) in
    w var b (subst (λ (ls : List Lit). is_open ls (literal_of var false) ≡ true) p.literals
    (open_shorter u.literals (literal_of var false) (length t.literals) (length u.literals) n (subst (λ (ls : List Lit). is_open ls (literal_of var false) ≡ true) (sym e) o)))

-- and where a literal was decided: all others wait
pub waiting_decided : (waiting : List Bool) (literals : List Lit) (l : Lit) (vars : ℕ) → ((other : ℕ) → other < vars → (other ≡ l.var → ⊥) → is_open literals (literal_of other false) ≡ true → waits waiting other ≡ true) → AreWaiting waiting (literals ++ l ∷ []) vars
waiting_decided waiting literals l vars h var b o =
    let e : take (length literals) (literals ++ l ∷ []) ≡ literals = grind (arith, common_steps) in
    let f : take (length (literals ++ l ∷ [])) (literals ++ l ∷ []) ≡ literals ++ l ∷ [] = grind (arith, common_steps) in
    let n : length literals ≤ length (literals ++ l ∷ []) = grind (arith, common_steps) in
    let before = subst (λ (ls : List Lit). is_open ls (literal_of var false) ≡ true) e
    (open_shorter (literals ++ l ∷ []) (literal_of var false) (length literals) (length (literals ++ l ∷ [])) n (subst (λ (ls : List Lit). is_open ls (literal_of var false) ≡ true) (sym f) o)) in
    h var b (λ q.
    let x = open_parts (literals ++ l ∷ []) l (open_var (literals ++ l ∷ []) (literal_of var false) l q o) in
    let t : is_true (literals ++ l ∷ []) l ≡ true = true_more literals l l ∙ or_right _ _ (same_itself l) in
    let z : true ≡ false = sym t ∙ x.0 in cc) before

pub more_room : (vars spare : ℕ) (t : TrailState) → IsServing vars spare t → spare + 1 ≤ t.spare → IsServing vars (spare + 1) t
more_room vars spare t s h = record { joined = s.joined; below = s.below; literals_below = s.literals_below; enough = s.enough; room = h }

-- only room was added
pub serving_roomier : (vars spare : ℕ) (t u : TrailState) → IsServing vars spare t → WithRoom t u → IsServing vars spare u
serving_roomier vars spare t u s r = rw r.same (record { joined = s.joined; below = s.below; literals_below = s.literals_below; enough = s.enough; room = let a = s.room in let b = r.more in omega arith })

pub waiting_roomier : (waiting : List Bool) (vars : ℕ) (t u : TrailState) → AreWaiting waiting t.literals vars → WithRoom t u → AreWaiting waiting u.literals vars
waiting_roomier waiting vars t u w r = let e : u.literals ≡ t.literals = ap (λ (x : TrailState). x.literals) r.same in rw e w

-- room for n clauses
pub room_max : (t u : TrailState) (n : ℕ) → u ≡ record t { spare = max t.spare n } → WithRoom t u
room_max t u n e =
    let s : u.spare ≡ max t.spare n = ap (λ (x : TrailState). x.spare) e in
    record { same = e ∙ ap (λ (m : ℕ). record t { spare = m }) (sym s); more = rw s (le-max_left t.spare n) }

pub room_given : (t u : TrailState) (n : ℕ) → u ≡ record t { spare = max t.spare n } → n ≤ u.spare
room_given t u n e = let s : u.spare ≡ max t.spare n = ap (λ (x : TrailState). x.spare) e in rw s (le-max_right t.spare n)

-- at rest with one more clause attached
pub rest_attached : (waiting : List Bool) (t u : TrailState) (values : List Bool) (vars spare : ℕ) (all : List Clause) (c : Clause) (id : ℕ) → AreAtRest waiting t values vars spare → spare + 1 ≤ t.spare → all ≡ t.clauses ++ c ∷ [] → id ≡ length all → list_all (λ l. is_known_var t.clauses l.var) c ≡ true → u ≡ with_attached_clause t all id → AreAtRest waiting u values vars spare
rest_attached waiting t u values vars spare all c id r room e f k g =
    let l : u.literals ≡ t.literals = ap (λ (x : TrailState). x.literals) g in
    record {
      level = ap (λ (x : TrailState). level_of x.reasons) g ∙ r.level;
      serving = serving_attached vars spare t u all c id (more_room vars spare t r.serving room) e f k g;
      limit = r.limit;
      variables = r.variables;
      waiting_open = rw l r.waiting_open;
      values_kept = r.values_kept;
    }

-- more variables and more room
pub record IsWider (t u : TrailState) : Type 0 where
  pub clauses : u.clauses ≡ t.clauses
  pub attached : u.attached ≡ t.attached
  pub literals : u.literals ≡ t.literals
  pub reasons : u.reasons ≡ t.reasons
  pub vars : t.vars ≤ u.vars
  pub spare : t.spare ≤ u.spare

pub wider_room : (t u : TrailState) (n : ℕ) → u ≡ record t { spare = max t.spare n } → IsWider t u
wider_room t u n e =
    let v : u.vars ≡ t.vars = ap (λ (x : TrailState). x.vars) e in
    let s : u.spare ≡ max t.spare n = ap (λ (x : TrailState). x.spare) e in
    record {
      clauses = ap (λ (x : TrailState). x.clauses) e;
      attached = ap (λ (x : TrailState). x.attached) e;
      literals = ap (λ (x : TrailState). x.literals) e;
      reasons = ap (λ (x : TrailState). x.reasons) e;
      vars = omega arith;
      spare = rw s (le-max_left t.spare n);
    }

pub wider_vars : (t u : TrailState) (n : ℕ) → u ≡ record t { vars = max t.vars n } → IsWider t u
wider_vars t u n e =
    let v : u.vars ≡ max t.vars n = ap (λ (x : TrailState). x.vars) e in
    let s : u.spare ≡ t.spare = ap (λ (x : TrailState). x.spare) e in
    record {
      clauses = ap (λ (x : TrailState). x.clauses) e;
      attached = ap (λ (x : TrailState). x.attached) e;
      literals = ap (λ (x : TrailState). x.literals) e;
      reasons = ap (λ (x : TrailState). x.reasons) e;
      vars = rw v (le-max_left t.vars n);
      spare = omega arith;
    }

pub wider_both : (t u w : TrailState) → IsWider t u → IsWider u w → IsWider t w
wider_both t u w a b = record {
  clauses = b.clauses ∙ a.clauses;
  attached = b.attached ∙ a.attached;
  literals = b.literals ∙ a.literals;
  reasons = b.reasons ∙ a.reasons;
  vars = let x = a.vars in let y = b.vars in omega arith;
  spare = let x = a.spare in let y = b.spare in omega arith;
}

pub rest_wider : (waiting : List Bool) (t u : TrailState) (values more : List Bool) (vars spare : ℕ) → AreAtRest waiting t values vars spare → IsWider t u → length values ≤ length more → AreAtRest waiting u more vars spare
rest_wider waiting t u values more vars spare r w v = record {
  level = ap level_of w.reasons ∙ r.level;
  serving = record {
    joined = rw (w.clauses, w.attached) r.serving.joined;
    below = rw w.clauses r.serving.below;
    literals_below = rw w.literals r.serving.literals_below;
    enough = let a = r.serving.enough in let b = w.vars in omega arith;
    room = let a = r.serving.room in let b = w.spare in omega arith;
  };
  limit = r.limit;
  variables = r.variables;
  waiting_open = rw w.literals r.waiting_open;
  values_kept = let a = r.values_kept in omega arith;
}

-- a list that is made longer where it is too short
pub grown_is : (a b : ℕ) → a + (b - a) ≡ max a b
grown_is a b = ⊎_elim
    (λ h. let e : max a b ≡ b = max-eq_right (omega arith) in rw e (omega arith))
    (λ h. let e : max a b ≡ a = max-eq_left h in rw e (omega arith))
    (cases_lt a b)

still_waits : (waiting : List Bool) (count var : ℕ) → var < length waiting → waits waiting var ≡ true → waits (waiting ++ replicate count true) var ≡ true
still_waits waiting count var h e = let g : get_or (waiting ++ replicate count true) var false ≡ get_or waiting var false = grind (arith, common_steps) in g ∙ e

new_waits : (waiting : List Bool) (count var : ℕ) → length waiting ≤ var → var < length waiting + count → waits (waiting ++ replicate count true) var ≡ true
new_waits waiting count var h b = grind (arith, common_steps)

-- at rest with more variables, and room for more clauses
pub rest_more : (waiting : List Bool) (t u : TrailState) (values kept : List Bool) (vars spare more room : ℕ) → AreAtRest waiting t values vars spare → IsWider t u → more ≤ VAR_LIMIT → more ≤ u.vars → room ≤ u.spare → max vars more ≤ length kept
    → AreAtRest (waiting ++ replicate (more - length waiting) true) u kept (max vars more) (max spare room)
rest_more waiting t u values kept vars spare more room r w limit b s v =
    let n : vars + (more - vars) ≡ max vars more = grown_is vars more in
    let len = r.variables in
    record {
      level = ap level_of w.reasons ∙ r.level;
      serving = record {
        joined = rw (w.clauses, w.attached) r.serving.joined;
        below = rw w.clauses (all_change (HasValues vars) (HasValues (max vars more)) t.clauses (λ clause. wider vars (max vars more) clause (le-max_left vars more)) r.serving.below);
        literals_below = rw w.literals (wider vars (max vars more) t.literals (le-max_left vars more) r.serving.literals_below);
        enough = max-le (let x = r.serving.enough in let y = w.vars in omega arith) b;
        room = max-le (let x = r.serving.room in let y = w.spare in omega arith) s;
      };
      limit = max-le r.limit limit;
      variables = let g : length (waiting ++ replicate (more - length waiting) true) ≡ length waiting + (more - length waiting) = grind (arith, common_steps) in g ∙ rw len n;
      waiting_open = λ var h o. ⊎_elim
          (λ a. still_waits waiting (more - length waiting) var a (r.waiting_open var (omega arith) (subst (λ (ls : List Lit). is_open ls (literal_of var false) ≡ true) w.literals o)))
          (λ a. new_waits waiting (more - length waiting) var a (omega arith))
          (cases_lt var (length waiting));
      values_kept = v;
    }

pub vars_given : (t u : TrailState) (n : ℕ) → u ≡ record t { vars = max t.vars n } → n ≤ u.vars
vars_given t u n e = let s : u.vars ≡ max t.vars n = ap (λ (x : TrailState). x.vars) e in rw s (le-max_right t.vars n)

pub longer_with : (xs ys : List Bool) (count : ℕ) → ys ≡ xs ++ replicate count false → length ys ≡ length xs + count
longer_with xs ys count e = rw e (grind (arith, common_steps))
