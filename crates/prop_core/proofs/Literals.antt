-- Lists of literals, and the places where they stand.
use Rattle.std.proofs.Common.{◌≡◌, ◌∙◌, ℕ, suc, ◌<◌, ◌≤◌, Bool, true, false, not, ◌||◌, ◌++◌, ◌∷◌, [], List, refl, ap, sym, map, length, take, get_or, arith, subst, inl, inr, ⊎_elim, eqb}
use Rattle.std.specs.Prelude.{◌⊎◌, nat_eq}
use Rattle.std.specs.List.{list_any, list_all, AllByRecursion, IsDistinct}
use Rattle.std.specs.Bool.{beq}
use Rattle.std.proofs.lemmas.Grind.{common_steps}
use Rattle.std.proofs.lemmas.Bool.{eqb-true, eq-eqb, ne_eqb, and_parts, and_from, and_right, or_cases, or_right, or_parts, cases_Bool, cases_order, not-true}
use Rattle.std.proofs.lemmas.List.{get_or-map}
use Rattle.std.proofs.lemmas.List.Folds.{list_any_at}
use Rattle.std.proofs.lemmas.List.Elements.{All-get_or, All-from_get_or}
use Rattle.std.proofs.lemmas.Map.Keys.{apart_from_distinct, IsDistinct-from_apart, IsDistinct-cons}
use Rattle.prop_core.specs.declared.lit.Lit.{Lit}
use Rattle.prop_core.specs.Clauses.{negation, same_literal, is_true, is_false, is_open, HasValues, AreConsistent}
use Rattle.prop_core.specs.Trail.{has_var, HasVarsOnce, no_literal}
use Rattle.prop_core.proofs.Entailed.{beq_is, same_itself}

abbrev pub literal_of : ℕ → Bool → Lit
literal_of var positive = record { var = var; positive = positive }

pub same_is : (a b : Lit) → same_literal a b ≡ true → a ≡ b
same_is a b e =
    let f = and_parts (nat_eq a.var b.var) (beq a.positive b.positive) e in
    let v : a.var ≡ b.var = eqb-true a.var b.var f.0 in
    let p = beq_is a.positive b.positive f.1 in
    ap (λ (n : ℕ). literal_of n a.positive) v ∙ ap (literal_of b.var) p

pub literal_is : (a b : Lit) → a.var ≡ b.var → a.positive ≡ b.positive → a ≡ b
literal_is a b v p = ap (λ (n : ℕ). literal_of n a.positive) v ∙ ap (literal_of b.var) p

pub same_back : (a b : Lit) → same_literal a b ≡ same_literal b a
same_back a b = by (same_literal a b) refl (same_literal b a) refl
  where
    by : (s : Bool) → same_literal a b ≡ s → (t : Bool) → same_literal b a ≡ t → s ≡ t
    by true e true f = refl
    by true e false f = let g = same_is a b e in let h : same_literal b a ≡ true = subst (λ (x : Lit). same_literal x a ≡ true) g (same_itself a) in cc
    by false e true f = let g = same_is b a f in let h : same_literal a b ≡ true = subst (λ (x : Lit). same_literal x b ≡ true) g (same_itself b) in cc
    by false e false f = refl

pub not_not : (a : Bool) → not (not a) ≡ a
not_not true = refl
not_not false = refl

pub negation_twice : (l : Lit) → negation (negation l) ≡ l
negation_twice l = ap (literal_of l.var) (not_not l.positive)

beq_other : (b : Bool) → beq (not b) b ≡ false
beq_other true = refl
beq_other false = refl

pub not_self : (l : Lit) → same_literal (negation l) l ≡ false
not_self l = and_right (nat_eq l.var l.var) _ (beq_other l.positive)

-- an open literal is neither true nor false
pub open_parts : (taken : List Lit) (l : Lit) → is_open taken l ≡ true → (is_true taken l ≡ false) × (is_false taken l ≡ false)
open_parts taken l e = let f = and_parts (not (is_true taken l)) (not (is_false taken l)) e in (not-true _ f.0, not-true _ f.1)

pub open_from : (taken : List Lit) (l : Lit) → is_true taken l ≡ false → is_false taken l ≡ false → is_open taken l ≡ true
open_from taken l a b = rw (a, b) refl

-- where a literal is true it has a place
pub record IsAt (literals : List Lit) (l : Lit) (i : ℕ) : Type 0 where
  pub within : i < length literals
  pub at : get_or literals i no_literal ≡ l

pub place_found : (literals : List Lit) (l : Lit) → is_true literals l ≡ true → (i : ℕ) × IsAt literals l i
place_found [] l e = cc
place_found (x ∷ literals) l e =
    ⊎_elim (λ s. (0, record { within = omega arith; at = sym (same_is l x s) }))
    (λ s. let r = place_found literals l s in (suc r.0, record { within = let w = r.1.within in omega arith; at = r.1.at }))
    (or_cases (same_literal l x) (is_true literals l) e)

pub true_at : (literals : List Lit) (l : Lit) (i : ℕ) → i < length literals → get_or literals i no_literal ≡ l → is_true literals l ≡ true
true_at literals l i h e = list_any_at (same_literal l) literals i no_literal h (subst (λ (x : Lit). same_literal l x ≡ true) (sym e) (same_itself l))

pub has_at : (literals : List Lit) (i v : ℕ) → i < length literals → (get_or literals i no_literal).var ≡ v → has_var v literals ≡ true
has_at literals i v h e = list_any_at (λ (l : Lit). eqb l.var v) literals i no_literal h (eq-eqb _ v e)

pub has_among : (c : List Lit) (x : Lit) → list_any (same_literal x) c ≡ true → has_var x.var c ≡ true
has_among [] x e = cc
has_among (y ∷ c) x e =
    ⊎_elim (λ s. let q : eqb y.var x.var ≡ true = eq-eqb y.var x.var (ap (λ (l : Lit). l.var) (sym (same_is x y s))) in rw q)
    (λ s. or_right (eqb y.var x.var) _ (has_among c x s))
    (or_cases (same_literal x y) (list_any (same_literal x) c) e)

-- the literal of a clause that has a variable
pub record HasLiteral (c : List Lit) (v : ℕ) (x : Lit) : Type 0 where
  pub among : list_any (same_literal x) c ≡ true
  pub var : x.var ≡ v

pub has_back : (c : List Lit) (v : ℕ) → has_var v c ≡ true → (x : Lit) × HasLiteral c v x
has_back [] v e = cc
has_back (y ∷ c) v e =
    ⊎_elim (λ s. (y, record { among = let a = same_itself y in rw a; var = eqb-true y.var v s }))
    (λ s. let r = has_back c v s in (r.0, record { among = or_right (same_literal r.0 y) _ r.1.among; var = r.1.var }))
    (or_cases (eqb y.var v) (has_var v c) e)

-- what holds of each literal of a clause
pub all_from : (p : Lit → Bool) (c : List Lit) → ((x : Lit) → list_any (same_literal x) c ≡ true → p x ≡ true) → list_all p c ≡ true
all_from p [] h = refl
all_from p (y ∷ c) h = and_from (p y) _ (h y (let a = same_itself y in rw a)) (all_from p c (λ x e. h x (or_right (same_literal x y) _ e)))

pub all_at : (p : Lit → Bool) (c : List Lit) (x : Lit) → list_all p c ≡ true → list_any (same_literal x) c ≡ true → p x ≡ true
all_at p [] x h e = cc
all_at p (y ∷ c) x h e =
    let f = and_parts (p y) (list_all p c) h in
    ⊎_elim (λ s. subst (λ (z : Lit). p z ≡ true) (sym (same_is x y s)) f.0) (λ s. all_at p c x f.1 s) (or_cases (same_literal x y) (list_any (same_literal x) c) e)

pub any_from : (p : Lit → Bool) (c : List Lit) (x : Lit) → list_any (same_literal x) c ≡ true → p x ≡ true → list_any p c ≡ true
any_from p c x e h = let i = place_found c x e in list_any_at p c i.0 no_literal i.1.within (subst (λ (l : Lit). p l ≡ true) (sym i.1.at) h)

-- the variables of a clause are below a number
pub below_at : (n : ℕ) (c : List Lit) (x : Lit) → HasValues n c → list_any (same_literal x) c ≡ true → x.var < n
below_at n c x h e = let i = place_found c x e in subst (λ (l : Lit). l.var < n) i.1.at (All-get_or (λ (l : Lit). l.var < n) c i.0 no_literal i.1.within h)

pub below_from : (n : ℕ) (c : List Lit) → ((x : Lit) → list_any (same_literal x) c ≡ true → x.var < n) → HasValues n c
below_from n c h = All-from_get_or (λ (l : Lit). l.var < n) c no_literal (λ i b. h (get_or c i no_literal) (true_at c (get_or c i no_literal) i b refl))

pub below_var : (n : ℕ) (c : List Lit) (v : ℕ) → HasValues n c → has_var v c ≡ true → v < n
below_var n c v h e = let x = has_back c v e in subst (λ (k : ℕ). k < n) x.1.var (below_at n c x.0 h x.1.among)

pub wider : (n more : ℕ) (c : List Lit) → n ≤ more → HasValues n c → HasValues more c
wider n more c h b k inside = let below = b k inside in omega (arith, below, h)

-- one more literal is taken as true
pub true_more : (taken : List Lit) (l k : Lit) → is_true (taken ++ l ∷ []) k ≡ (is_true taken k || same_literal k l)
true_more taken l k = grind (arith, common_steps)

-- a front of those that are taken
pub true_longer : (literals : List Lit) (x : Lit) (a b : ℕ) → a ≤ b → is_true (take a literals) x ≡ true → is_true (take b literals) x ≡ true
true_longer literals x a b h e =
    let i = place_found (take a literals) x e in
    let w = i.1.within in
    let m : i.0 < length (take b literals) = grind (arith, common_steps) in
    let g : get_or (take a literals) i.0 no_literal ≡ get_or (take b literals) i.0 no_literal = grind (arith, common_steps) in
    true_at (take b literals) x i.0 m (sym g ∙ i.1.at)

false_by : (a b : Bool) → (a ≡ true → b ≡ true) → b ≡ false → a ≡ false
false_by true b h e = let f = h refl in cc
false_by false b h e = refl

pub open_shorter : (literals : List Lit) (x : Lit) (a b : ℕ) → a ≤ b → is_open (take b literals) x ≡ true → is_open (take a literals) x ≡ true
open_shorter literals x a b h o =
    let n = open_parts (take b literals) x o in
    open_from (take a literals) x (false_by _ _ (true_longer literals x a b h) n.0) (false_by _ _ (true_longer literals (negation x) a b h) n.1)

-- the other literal of an open variable is open
pub open_negation : (taken : List Lit) (l : Lit) → is_open taken l ≡ true → is_open taken (negation l) ≡ true
open_negation taken l o =
    let n = open_parts taken l o in
    open_from taken (negation l) n.1 (ap (is_true taken) (negation_twice l) ∙ n.0)

sides : (a b : Bool) → (a ≡ b) ⊎ (a ≡ not b)
sides true true = inl refl
sides true false = inr refl
sides false true = inr refl
sides false false = inl refl

pub open_var : (taken : List Lit) (x y : Lit) → x.var ≡ y.var → is_open taken x ≡ true → is_open taken y ≡ true
open_var taken x y v o =
    ⊎_elim (λ s. subst (λ (l : Lit). is_open taken l ≡ true) (literal_is x y v s) o)
    (λ s. let e : negation x ≡ y = literal_is (negation x) y v (ap not s ∙ not_not y.positive) in subst (λ (l : Lit). is_open taken l ≡ true) e (open_negation taken x o))
    (sides x.positive y.positive)

-- an open literal has another variable than those that are true
pub differs : (taken : List Lit) (l : Lit) (i : ℕ) → i < length taken → is_open taken l ≡ true → (get_or taken i no_literal).var ≡ l.var → ⊥
differs taken l i h o e =
    let x = get_or taken i no_literal in
    let n = open_parts taken x (open_var taken l x (sym e) o) in
    let t = true_at taken x i h refl in
    let z : true ≡ false = sym t ∙ n.0 in
    cc

-- in a clause without repeated variables two literals of one variable are one
pub once_apart : (c : List Lit) (i j : ℕ) → HasVarsOnce c → i < length c → j < length c → (get_or c i no_literal).var ≡ (get_or c j no_literal).var → i ≡ j
once_apart c i j n h k v =
    ⊎_elim (λ e. e) (λ s. ⊎_elim (λ m. absurd (clash i j m k v)) (λ m. absurd (clash j i m h (sym v))) s) (cases_order i j)
  where
    clash : (i j : ℕ) → i < j → j < length c → (get_or c i no_literal).var ≡ (get_or c j no_literal).var → ⊥
    clash i j h k v =
        let m : j < length (map (λ (l : Lit). l.var) c) = grind (arith, common_steps) in
        let x = get_or-map (λ (l : Lit). l.var) c i no_literal 0 (omega arith) in
        let y = get_or-map (λ (l : Lit). l.var) c j no_literal 0 k in
        let d = apart_from_distinct nat_eq (map (λ (l : Lit). l.var) c) i j 0 n h m in
        let s = eq-eqb (get_or (map (λ (l : Lit). l.var) c) i 0) (get_or (map (λ (l : Lit). l.var) c) j 0) (x ∙ v ∙ sym y) in
        let z : true ≡ false = sym s ∙ d in cc

pub once_from_apart : (c : List Lit) → ((i j : ℕ) → i < j → j < length c → (get_or c i no_literal).var ≡ (get_or c j no_literal).var → ⊥) → HasVarsOnce c
once_from_apart c f = IsDistinct-from_apart nat_eq (map (λ (l : Lit). l.var) c) (λ i j d h k.
    let n : j < length c = grind (arith, common_steps) in
    let x = get_or-map (λ (l : Lit). l.var) c i no_literal d (omega arith) in
    let y = get_or-map (λ (l : Lit). l.var) c j no_literal d n in
    ne_eqb _ _ (λ e. f i j h n (sym x ∙ e ∙ y)))

pub once_same : (c : List Lit) (a b : Lit) → HasVarsOnce c → is_true c a ≡ true → is_true c b ≡ true → a.var ≡ b.var → a ≡ b
once_same c a b n f g e =
    let i = place_found c a f in
    let j = place_found c b g in
    let v : (get_or c i.0 no_literal).var ≡ (get_or c j.0 no_literal).var = ap (λ (l : Lit). l.var) i.1.at ∙ e ∙ ap (λ (l : Lit). l.var) (sym j.1.at) in
    let q = once_apart c i.0 j.0 n i.1.within j.1.within v in
    sym i.1.at ∙ ap (λ (k : ℕ). get_or c k no_literal) q ∙ j.1.at

-- one more literal in front
pub once_cons : (x : Lit) (c : List Lit) → has_var x.var c ≡ false → HasVarsOnce c → HasVarsOnce (x ∷ c)
once_cons x c e n = IsDistinct-cons nat_eq x.var (map (λ (l : Lit). l.var) c) (all_apart c e) n
  where
    all_apart : (c : List Lit) → has_var x.var c ≡ false → AllByRecursion (λ w. nat_eq x.var w ≡ false) (map (λ (l : Lit). l.var) c)
    all_apart [] e = tt
    all_apart (y ∷ c) e =
        let f = or_parts (eqb y.var x.var) (has_var x.var c) e in
        (ne_eqb x.var y.var (λ q. (let a = eq-eqb y.var x.var (sym q) in let b = f.0 in let z : true ≡ false = sym a ∙ b in cc)), all_apart c f.1)

pub once_none : HasVarsOnce []
unfolding IsDistinct
once_none = tt

pub once_consistent : (literals : List Lit) → HasVarsOnce literals → AreConsistent literals
once_consistent literals n l e =
    ⊎_elim (λ f. let q = once_same literals l (negation l) n e f refl in
    let s : same_literal (negation l) l ≡ true = subst (λ (x : Lit). same_literal (negation l) x ≡ true) (sym q) (same_itself (negation l)) in
    let z : true ≡ false = sym s ∙ not_self l in cc)
    (λ f. f) (cases_Bool (is_false literals l))
