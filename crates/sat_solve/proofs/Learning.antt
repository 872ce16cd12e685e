-- A learnt clause: it is fresh, it joins quietly, and the trail serves on.
use Rattle.std.proofs.Common.{◌≡◌, ◌∙◌, ℕ, ◌+◌, ◌-◌, ◌<◌, ◌≤◌, Bool, true, false, ◌||◌, ◌++◌, ◌∷◌, [], List, refl, ap, sym, length, take, suc, get_or, arith, subst, ⊎_elim, eqb}
use Rattle.std.specs.Prelude.{Option, Some, None, Contains, is_none, slice_get, IfSome}
use Rattle.std.specs.List.{list_any, list_all, AllByRecursion}
use Rattle.std.proofs.lemmas.Grind.{common_steps}
use Rattle.std.proofs.lemmas.Bool.{and_from, or_cases, or_right, or_left, cases_lt, ne_eqb}
use Rattle.std.proofs.lemmas.Option.{slice_get-get_or}
use Rattle.prop_core.specs.declared.lit.Lit.{Lit}
use Rattle.prop_core.specs.Clauses.{Clause, same_literal, is_false, HasValues}
use Rattle.prop_core.specs.Derivation.{standing, clause_numbered}
use Rattle.prop_core.specs.Trail.{no_literal, has_var, HasVarsOnce, is_quiet, all_quiet}
use Rattle.prop_core.proofs.Entailed.{same_itself}
use Rattle.prop_core.proofs.Literals.{same_is, below_var, below_from, has_back, all_from, all_at, once_apart, open_shorter, open_var, place_found, wider}
use Rattle.prop_core.proofs.Forcing.{quiet_two}
use Rattle.proof_ledger.specs.Book.{BookEntry, learnt, clauses_of}
use Rattle.proof_ledger.specs.Fresh.{occurs, IsFreshClause}
use Rattle.sat_prop.specs.TrailState.{TrailState, reason_at, IsJustified}
use Rattle.sat_prop.specs.Levels.{level_at, IsUpToLevel}
use Rattle.sat_prop.specs.Quiet.{stands, AreQuiet}
use Rattle.sat_prop.specs.Changes.{IsFront, IsKeptUpTo, with_attached_clause}
use Rattle.sat_prop.specs.Kept.{IsTrailState}
use Rattle.sat_prop.proofs.Fronts.{split_last, contains_more}
use Rattle.sat_prop.proofs.Justifying.{justified_once, justified_take}
use Rattle.sat_prop.proofs.Leveling.{level_front, level_step}
use Rattle.sat_learn.specs.Seen.{is_known_var}
use Rattle.sat_learn.specs.Learnt.{IsLearnt}
use Rattle.sat_learn.proofs.Beginning.{quiet_at}
use Rattle.sat_solve.specs.Searching.{HasAxiomVars}
use Rattle.sat_solve.specs.Solving.{AllJoined, IsServing, IsUnder, IsUnattached}
use Rattle.sat_solve.proofs.Booking.{clauses_of-learnt, clauses_of-final, IsClosed}

none_is : (o : Option ℕ) → o ≡ None → is_none o ≡ false → ⊥
none_is None e f = cc
none_is (Some id) e f = cc

-- a learnt clause is quiet just before each decision that is kept
pub joins_quietly : (t : TrailState) (all : List Clause) (c : Clause) (hs : List ℕ) (level kept : ℕ) → IsJustified t.clauses t.attached t.literals t.reasons t.vars → IsLearnt t all c hs level → IsUpToLevel t.reasons level kept
    → (k : ℕ) → k < kept → reason_at t.reasons k ≡ None → is_quiet (standing (take k t.literals) c) ≡ true
joins_quietly t all c hs level kept j l cut k h e =
    let same = j.same in
    let within = cut.within in
    let a = level_front t.reasons (k + 1) kept (omega arith) in
    let b = level_step t.reasons k (omega arith) e in
    let d = cut.decided in
    let start : k ≤ l.start = ⊎_elim (λ n. let w = l.last.last k n (omega arith) in absurd (none_is (get_or t.reasons k None) e w)) (λ n. n) (cases_lt l.start k) in
    let found = open_shorter t.literals l.found k l.start start l.before in
    ⊎_elim
    (λ z. absurd (omega arith))
    (λ z.
    let i = z.0 in
    let i_in : i < length t.literals = z.1 in
    let i_level : level_at t.reasons i ≡ level = z.3 in
    let k_le : k ≤ i = ⊎_elim (λ n. let u = level_front t.reasons (i + 1) k (omega arith) in absurd (omega arith)) (λ n. n) (cases_lt i k) in
    let x = has_back l.rest (get_or t.literals i no_literal).var z.2 in
    let o = open_shorter t.literals (get_or t.literals i no_literal) k i k_le (j.open_before i i_in) in
    let r = open_var (take k t.literals) (get_or t.literals i no_literal) x.0 (sym x.1.var) o in
    let f_in : list_any (same_literal l.found) c ≡ true = subst (λ (d : Clause). list_any (same_literal l.found) d ≡ true) (sym l.split) (let s = same_itself l.found in rw s refl) in
    let r_in : list_any (same_literal x.0) c ≡ true = subst (λ (d : Clause). list_any (same_literal x.0) d ≡ true) (sym l.split) (or_right (same_literal x.0 l.found) _ x.1.among) in
    quiet_two (take k t.literals) c l.found x.0 f_in r_in found r (head_apart l.found l.rest x.0 (subst HasVarsOnce l.split l.once) x.1.among))
    l.deepest.reached
  where
    head_apart : (f : Lit) (rest : Clause) (x : Lit) → HasVarsOnce (f ∷ rest) → list_any (same_literal x) rest ≡ true → same_literal f x ≡ false
    head_apart f rest x once e = by (same_literal f x) refl
      where
        by : (b : Bool) → same_literal f x ≡ b → b ≡ false
        by false q = refl
        by true q =
            let i = place_found rest x e in
            let w = i.1.within in
            let v : f.var ≡ (get_or rest i.0 no_literal).var = ap (λ (l : Lit). l.var) (same_is f x q) ∙ ap (λ (l : Lit). l.var) (sym i.1.at) in
            let z : 0 ≡ suc i.0 = once_apart (f ∷ rest) 0 (suc i.0) once (omega arith) (omega arith) v in
            absurd (omega arith)

-- a clause is added to those of the database
pub front_one : (cs : List Clause) (c : Clause) → IsFront cs (cs ++ c ∷ [])
front_one cs c = grind (arith, common_steps)

pub held_last : (cs : List Clause) (c : Clause) (n : ℕ) → n ≡ length (cs ++ c ∷ []) → clause_numbered (cs ++ c ∷ []) n ≡ Some c
held_last cs c n e =
    let m : n ≡ length cs + 1 = e ∙ grind (arith, common_steps) in
    let z : eqb n 0 ≡ false = ne_eqb n 0 (λ q. absurd (omega arith)) in
    let k : n - 1 ≡ length cs = omega arith in
    let h : length cs < length (cs ++ c ∷ []) = grind (arith, common_steps) in
    let q : get_or (cs ++ c ∷ []) (length cs) [] ≡ c = grind (arith, common_steps) in
    let g : slice_get (cs ++ c ∷ []) (n - 1) ≡ Some c = rw k (slice_get-get_or (cs ++ c ∷ []) (length cs) [] h ∙ ap Some q) in
    rw z g

pub last_in_range : (cs : List Clause) (c : Clause) (n : ℕ) → n ≡ length (cs ++ c ∷ []) → 1 ≤ n
last_in_range cs c n e = let m : n ≡ length cs + 1 = e ∙ grind (arith, common_steps) in omega arith

-- its variables are known, and so below the number of variables
below_one : (vars : ℕ) (cs : List Clause) (v : ℕ) → AllByRecursion (HasValues vars) cs → is_known_var cs v ≡ true → v < vars
below_one vars [] v b k = cc
below_one vars (c ∷ cs) v b k = ⊎_elim (λ e. below_var vars c v b.0 e) (λ e. below_one vars cs v b.1 e) (or_cases (has_var v c) (is_known_var cs v) k)

pub below_known : (vars : ℕ) (cs : List Clause) (c : Clause) → AllByRecursion (HasValues vars) cs → list_all (λ l. is_known_var cs l.var) c ≡ true → HasValues vars c
below_known vars cs c b k = below_from vars c (λ x e. below_one vars cs x.var b (all_at (λ l. is_known_var cs l.var) c x k e))

pub known_last : (vars more : ℕ) (cs all : List Clause) (c : Clause) (n : ℕ) → all ≡ cs ++ c ∷ [] → n ≡ length all → AllByRecursion (HasValues vars) cs → list_all (λ l. is_known_var cs l.var) c ≡ true → vars ≤ more → IfSome (clause_numbered all n) (HasValues more)
known_last vars more cs all c n e f b k h = subst (λ (o : Option Clause). IfSome o (HasValues more)) (sym (subst (λ (xs : List Clause). clause_numbered xs n ≡ Some c) (sym e) (held_last cs c n (f ∙ ap length e)))) (wider vars more c h (below_known vars cs c b k))

all_from_places : (p : Clause → Bool) (cs : List Clause) → ((n : ℕ) → n < length cs → p (get_or cs n []) ≡ true) → list_all p cs ≡ true
all_from_places p [] h = refl
all_from_places p (c ∷ cs) h = and_from _ _ (h 0 (omega arith)) (all_from_places p cs (λ n b. h (suc n) (omega arith)))

-- where each clause is attached, all are quiet
pub all_quiet_from : (cs : List Clause) (att : List ℕ) (taken : List Lit) → AllJoined cs att → AreQuiet cs att taken → all_quiet taken cs ≡ true
all_quiet_from cs att taken j q = all_from_places (λ c. is_quiet (standing taken c)) cs (λ n b.
    let a = quiet_at cs att taken (n + 1) (j n b) q in
    let z : eqb (n + 1) 0 ≡ false = ne_eqb (n + 1) 0 (λ e. absurd (omega arith)) in
    let g : clause_numbered cs (n + 1) ≡ Some (get_or cs n []) = let m : n + 1 - 1 ≡ n = omega arith in rw (z, m) (slice_get-get_or cs n [] b) in
    subst (λ (o : Option Clause). is_quiet (stands taken o) ≡ true) g a)

-- a learnt clause is fresh
pub fresh_from : (t : TrailState) (book : List BookEntry) (all : List Clause) (c : Clause) (hs : List ℕ) (level : ℕ) → IsTrailState t → AllJoined t.clauses t.attached → t.clauses ≡ clauses_of book → all ≡ clauses_of book
    → IsLearnt t all c hs level → HasAxiomVars book → IsFreshClause book c
fresh_from t book all c hs level s j clauses e l known =
    let same = s.justified.same in
    let w = l.last.within in
    let among : list_any (same_literal l.found) c ≡ true = subst (λ (d : Clause). list_any (same_literal l.found) d ≡ true) (sym l.split) (let a = same_itself l.found in rw a refl) in
    let others : list_all (λ k. same_literal l.found k || is_false (take l.start t.literals) k) c ≡ true =
    subst (λ (d : Clause). list_all (λ k. same_literal l.found k || is_false (take l.start t.literals) k) d ≡ true) (sym l.split)
    (and_from _ _ (or_left _ _ (same_itself l.found)) (all_from (λ k. same_literal l.found k || is_false (take l.start t.literals) k) l.rest (λ x h. or_right (same_literal l.found x) _ (all_at (is_false (take l.start t.literals)) l.rest x l.others h)))) in
    record {
      some = rw l.split (grind (arith, common_steps));
      once = l.once;
      known = all_from (λ x. occurs x.var book) c (λ x h. known x.var (subst (λ (cs : List Clause). is_known_var cs x.var ≡ true) e (all_at (λ l. is_known_var all l.var) c x l.known h)));
      found = l.found;
      taken = take l.start t.literals;
      taken_once = justified_once t.clauses t.attached (take l.start t.literals) (take l.start t.reasons) t.vars (justified_take t.clauses t.attached t.literals t.reasons t.vars l.start s.justified (omega arith));
      alone = and_from _ _ among others;
      left_open = l.before;
      quiet = subst (λ (cs : List Clause). all_quiet (take l.start t.literals) cs ≡ true) clauses (all_quiet_from t.clauses t.attached (take l.start t.literals) j (s.quiet l.start (omega arith) l.last.decided));
    }

pub contains_last : (att : List ℕ) (id : ℕ) → Contains (att ++ id ∷ []) id
contains_last att id = (length att, grind (arith, common_steps), grind (arith, common_steps))

joined_more : (cs : List Clause) (att : List ℕ) (c : Clause) (id : ℕ) → AllJoined cs att → id ≡ length (cs ++ c ∷ []) → AllJoined (cs ++ c ∷ []) (att ++ id ∷ [])
joined_more cs att c id j e n h =
    let m : n < length cs + 1 = grind (arith, common_steps) in
    ⊎_elim (λ b. contains_more att id (n + 1) (j n b))
    (λ b. let q : id ≡ n + 1 = e ∙ rw b (grind (arith, common_steps)) in
    subst (λ (x : ℕ). Contains (att ++ id ∷ []) x) q (contains_last att id))
    (split_last n (length cs) m)

below_more : (vars : ℕ) (cs : List Clause) (c : Clause) → AllByRecursion (HasValues vars) cs → HasValues vars c → AllByRecursion (HasValues vars) (cs ++ c ∷ [])
below_more vars [] c b h = (h, tt)
below_more vars (d ∷ cs) c b h = (b.0, below_more vars cs c b.1 h)

-- the trail serves on where one more clause is attached
pub serving_attached : (vars spare : ℕ) (t u : TrailState) (all : List Clause) (c : Clause) (id : ℕ) → IsServing vars (spare + 1) t → all ≡ t.clauses ++ c ∷ [] → id ≡ length all → list_all (λ l. is_known_var t.clauses l.var) c ≡ true → u ≡ with_attached_clause t all id → IsServing vars spare u
serving_attached vars spare t u all c id s e f k g = rw (g, e) (record {
  joined = joined_more t.clauses t.attached c id s.joined (f ∙ ap length e);
  below = below_more vars t.clauses c s.below (below_known vars t.clauses c s.below k);
  literals_below = s.literals_below;
  enough = s.enough;
  room = let a = s.room in omega arith;
})

-- and it joins quietly where the trail went back
pub joins_kept : (t u : TrailState) (all new : List Clause) (c : Clause) (hs : List ℕ) (level id : ℕ) → IsJustified t.clauses t.attached t.literals t.reasons t.vars → IsLearnt t all c hs level → IsKeptUpTo t u level → clause_numbered new id ≡ Some c
    → (place : ℕ) → place < length u.literals → reason_at u.reasons place ≡ None → is_quiet (stands (take place u.literals) (clause_numbered new id)) ≡ true
joins_kept t u all new c hs level id j l k h place b e =
    let same = j.same in
    let within = k.cut.within in
    let n : length (take k.kept t.literals) ≡ k.kept = grind (arith, common_steps) in
    let v : length u.literals ≡ length (take k.kept t.literals) = ap length k.literals in
    let m : place < k.kept = omega arith in
    let a : take place (take k.kept t.literals) ≡ take place t.literals = grind (arith, common_steps) in
    let x : take place u.literals ≡ take place t.literals = ap (λ (ls : List Lit). take place ls) k.literals ∙ a in
    let g : get_or (take k.kept t.reasons) place None ≡ get_or t.reasons place None = grind (arith, common_steps) in
    let y : get_or u.reasons place None ≡ get_or t.reasons place None = ap (λ (ws : List (Option ℕ)). get_or ws place None) k.reasons ∙ g in
    rw (x, h) (joins_quietly t all c hs level k.kept j l k.cut place m (sym y ∙ e))

-- the clauses of the book with one learnt clause more
pub all_learnt : (book new : List BookEntry) (cs all : List Clause) (read clause : Clause) (hints : List ℕ) → all ≡ clauses_of new → new ≡ book ++ learnt read hints ∷ [] → read ≡ clause → cs ≡ clauses_of book → all ≡ cs ++ clause ∷ []
all_learnt book new cs all read clause hints a put r e =
    a ∙ ap clauses_of put ∙ clauses_of-learnt book read hints ∙ ap (λ (c : Clause). clauses_of book ++ c ∷ []) r ∙ ap (λ (xs : List Clause). xs ++ clause ∷ []) (sym e)

pub under_attached : (assumed : List Lit) (vars : ℕ) (t u : TrailState) (all : List Clause) (id : ℕ) → IsUnder assumed vars t → u ≡ with_attached_clause t all id → IsUnder assumed vars u
under_attached assumed vars t u all id s e = rw e (record { first = s.first; below = s.below; compatible = s.compatible })

pub under_same : (assumed : List Lit) (vars : ℕ) (t u : TrailState) → IsUnder assumed vars t → u.literals ≡ t.literals → u.reasons ≡ t.reasons → IsUnder assumed vars u
under_same assumed vars t u s e f = record { first = rw (e, f) s.first; below = s.below; compatible = s.compatible }

-- a final clause is left to be attached
pub unattached_from : (spare : ℕ) (t u : TrailState) (assumed : List Lit) (book new : List BookEntry) (number : ℕ) → t.clauses ≡ clauses_of book → u.clauses ≡ t.clauses → IsClosed assumed book new number → spare + 1 ≤ u.spare → IsUnattached spare u new number
unattached_from spare t u assumed book new number e f p h =
    let q : u.clauses ≡ clauses_of book = f ∙ e in
    record {
      clause = p.clause;
      clauses = ap clauses_of p.put ∙ clauses_of-final book p.clause p.hints ∙ ap (λ (xs : List Clause). xs ++ p.clause ∷ []) (sym q);
      numbered = p.numbered;
      known = subst (λ (cs : List Clause). list_all (λ l. is_known_var cs l.var) p.clause ≡ true) (sym q) p.known;
      room = h;
    }
