-- The values that are kept of variables, as literals come and go.
use Rattle.std.proofs.Common.{◌≡◌, ◌∙◌, ℕ, ◌+◌, ◌<◌, ◌≤◌, Bool, true, false, not, ◌||◌, ◌++◌, ◌∷◌, [], List, refl, ap, sym, length, take, get_or, arith, subst, ⊎_elim, Option, Some, None, replicate}
use Rattle.std.specs.Prelude.{slice_set}
use Rattle.std.proofs.Math.Bool.{or-false}
use Rattle.std.proofs.lemmas.Grind.{common_steps}
use Rattle.std.proofs.lemmas.Bool.{cases_eq, cases_lt, ne_eqb}
use Rattle.prop_core.specs.declared.lit.Lit.{Lit}
use Rattle.prop_core.specs.Clauses.{negation, same_literal, is_true, is_open, HasValues}
use Rattle.prop_core.specs.Trail.{no_literal}
use Rattle.prop_core.proofs.Literals.{literal_of, literal_is, open_parts, open_var, true_at, true_more, not_self, below_at, below_from}
use Rattle.sat_prop.specs.TrailState.{trail_value}
use Rattle.sat_prop.specs.Kept.{AreValues}
use Rattle.sat_prop.proofs.Placing.{value_open}

-- a variable whose literal is open has no value,
open_value : (literals : List Lit) (l : Lit) → is_open literals l ≡ true → trail_value literals l.var ≡ None
open_value literals l o =
    let t = (open_parts literals (literal_of l.var true) (open_var literals l (literal_of l.var true) refl o)).0 in
    let f = (open_parts literals (literal_of l.var false) (open_var literals l (literal_of l.var false) refl o)).0 in
    rw (t, f) refl

-- and with the literal it has,
more_value : (literals : List Lit) (l : Lit) → is_open literals l ≡ true → trail_value (literals ++ l ∷ []) l.var ≡ Some l.positive
more_value literals l o = by l.positive refl
  where
    now : is_true (literals ++ l ∷ []) l ≡ true
    now = true_at (literals ++ l ∷ []) l (length literals) (grind (arith, common_steps)) (grind (arith, common_steps))

    by : (p : Bool) → l.positive ≡ p → trail_value (literals ++ l ∷ []) l.var ≡ Some p
    by true q =
        let t : is_true (literals ++ l ∷ []) (literal_of l.var true) ≡ true = subst (λ (x : Lit). is_true (literals ++ l ∷ []) x ≡ true) (literal_is l (literal_of l.var true) refl q) now in
        rw t refl
    by false q =
        let t : is_true (literals ++ l ∷ []) (literal_of l.var false) ≡ true = subst (λ (x : Lit). is_true (literals ++ l ∷ []) x ≡ true) (literal_is l (literal_of l.var false) refl q) now in
        let a : is_true literals (literal_of l.var true) ≡ false = (open_parts literals (literal_of l.var true) (open_var literals l (literal_of l.var true) refl o)).0 in
        let b : same_literal (literal_of l.var true) l ≡ false = subst (λ (x : Lit). same_literal x l ≡ false) (literal_is (negation l) (literal_of l.var true) refl (ap not q)) (not_self l) in
        let f : is_true (literals ++ l ∷ []) (literal_of l.var true) ≡ false = true_more literals l (literal_of l.var true) ∙ rw (a, b) refl in
        rw (f, t) refl

-- while the others stay as they are.
apart_value : (literals : List Lit) (l : Lit) (var : ℕ) → (var ≡ l.var → ⊥) → trail_value (literals ++ l ∷ []) var ≡ trail_value literals var
apart_value literals l var d =
    let t = same true in
    let f = same false in
    rw (t, f) refl
  where
    same : (b : Bool) → is_true (literals ++ l ∷ []) (literal_of var b) ≡ is_true literals (literal_of var b)
    same b = let e = ne_eqb var l.var d in true_more literals l (literal_of var b) ∙ ap (λ (x : Bool). is_true literals (literal_of var b) || x) (rw e refl) ∙ or-false (is_true literals (literal_of var b))

-- one more literal
pub values_more : (vars : ℕ) (literals : List Lit) (values : List (Option Bool)) (l : Lit) → AreValues vars literals values → is_open literals l ≡ true → l.var < vars → AreValues vars (literals ++ l ∷ []) (slice_set values l.var (Some l.positive))
values_more vars literals values l a o h = let n = a.enough in record {
  enough = grind (arith, common_steps);
  each = λ var b. ⊎_elim
      (λ e. let g : get_or (slice_set values l.var (Some l.positive)) l.var None ≡ Some l.positive = grind (arith, common_steps) in
      subst (λ (v : ℕ). get_or (slice_set values l.var (Some l.positive)) v None ≡ trail_value (literals ++ l ∷ []) v) (sym e) (g ∙ sym (more_value literals l o)))
      (λ d. let g : get_or (slice_set values l.var (Some l.positive)) var None ≡ get_or values var None = grind (arith, common_steps) in
      let k : var < length values = grind (arith, common_steps) in
      g ∙ a.each var k ∙ sym (apart_value literals l var d))
      (cases_eq var l.var);
}

-- one less
pub values_less : (vars : ℕ) (literals : List Lit) (values : List (Option Bool)) (l : Lit) → AreValues vars (literals ++ l ∷ []) values → is_open literals l ≡ true → l.var < length values → AreValues vars literals (slice_set values l.var None)
values_less vars literals values l a o h = let n = a.enough in record {
  enough = grind (arith, common_steps);
  each = λ var b. ⊎_elim
      (λ e. let g : get_or (slice_set values l.var None) l.var None ≡ None = grind (arith, common_steps) in
      subst (λ (v : ℕ). get_or (slice_set values l.var None) v None ≡ trail_value literals v) (sym e) (g ∙ sym (open_value literals l o)))
      (λ d. let g : get_or (slice_set values l.var None) var None ≡ get_or values var None = grind (arith, common_steps) in
      let k : var < length values = grind (arith, common_steps) in
      g ∙ a.each var k ∙ apart_value literals l var d)
      (cases_eq var l.var);
}

-- the last of the first places goes
pub values_back : (vars : ℕ) (literals : List Lit) (values : List (Option Bool)) (place : ℕ) → place < length literals → AreValues vars (take (place + 1) literals) values → is_open (take place literals) (get_or literals place no_literal) ≡ true → (get_or literals place no_literal).var < length values
    → AreValues vars (take place literals) (slice_set values (get_or literals place no_literal).var None)
values_back vars literals values place h a o b =
    let e : take (place + 1) literals ≡ take place literals ++ get_or literals place no_literal ∷ [] = grind (arith, common_steps) in
    values_less vars (take place literals) values (get_or literals place no_literal) (subst (λ (ls : List Lit). AreValues vars ls values) e a) o b

-- more of them
pub values_roomier : (vars more : ℕ) (literals : List Lit) (values : List (Option Bool)) → AreValues vars literals values → more ≤ length values → AreValues more literals values
values_roomier vars more literals values a h = record { enough = h; each = a.each }

-- further variables have none
pub values_wider : (vars more : ℕ) (literals : List Lit) (values : List (Option Bool)) → HasValues vars literals → AreValues vars literals values → AreValues vars literals (values ++ replicate more None)
values_wider vars more literals values known a = let n = a.enough in record {
  enough = grind (arith, common_steps);
  each = λ var h. ⊎_elim
      (λ b. let g : get_or (values ++ replicate more None) var None ≡ get_or values var None = grind (arith, common_steps) in g ∙ a.each var b)
      (λ b. let g : get_or (values ++ replicate more None) var None ≡ None = grind (arith, common_steps) in
      g ∙ sym (value_open literals var (λ place s.
      let x = get_or literals place no_literal in
      let k = below_at vars literals x known (true_at literals x place s.within refl) in
      let v = s.at in absurd (grind (arith, common_steps)))))
      (cases_lt var (length values));
}

-- the literals are of variables whose values are kept
pub values_known : (vars : ℕ) (literals : List Lit) (values : List (Option Bool)) → HasValues vars literals → AreValues vars literals values → HasValues (length values) literals
values_known vars literals values known a = below_from (length values) literals (λ x m. let b = below_at vars literals x known m in let n = a.enough in omega arith)
