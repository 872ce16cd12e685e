-- Places that are seen, and how many they are.
use Rattle.std.proofs.Common.{◌≡◌, ◌∙◌, ℕ, ◌+◌, ◌-◌, ◌<◌, ◌≤◌, Bool, true, false, ◌||◌, List, refl, ap, sym, length, take, drop, get_or, arith, subst, ⊎_elim, eqb, cond}
use Rattle.std.specs.Prelude.{slice_set, count_by}
use Rattle.std.proofs.Math.ListN.{set}
use Rattle.std.proofs.lemmas.Grind.{common_steps}
use Rattle.std.proofs.lemmas.Bool.{eqb-true, eq-eqb, or_right, cases_Bool}
use Rattle.std.proofs.lemmas.List.{drop-set-lt, drop-set-add}
use Rattle.std.proofs.lemmas.List.Folds.{list_any_more}
use Rattle.std.proofs.lemmas.List.Sums.{sum_by-set}
use Rattle.prop_core.specs.declared.lit.Lit.{Lit}
use Rattle.prop_core.specs.Trail.{no_literal, has_var, HasVarsOnce}
use Rattle.prop_core.proofs.Literals.{once_apart}
use Rattle.sat_learn.specs.Seen.{count_seen}

-- how a count follows one place
count_at : (bs : List Bool) (i : ℕ) (y : Bool) → i < length bs → count_by (λ b. b) (set bs i y) + cond (get_or bs i false) 1 0 ≡ count_by (λ b. b) bs + cond y 1 0
count_at bs i y h = sum_by-set (λ b. cond b 1 0) bs i y false h

drop_at : (start : ℕ) (bs : List Bool) (i : ℕ) (y : Bool) → start ≤ i → drop start (set bs i y) ≡ set (drop start bs) (i - start) y
drop_at start bs i y h = let e : i ≡ start + (i - start) = omega arith in subst (λ (k : ℕ). drop start (set bs k y) ≡ set (drop start bs) (i - start) y) (sym e) (drop-set-add start bs (i - start) y)

pub count_on : (start : ℕ) (bs : List Bool) (i : ℕ) → start ≤ i → i < length bs → get_or bs i false ≡ false → count_seen start (slice_set bs i true) ≡ count_seen start bs + 1
count_on start bs i h k e =
    let a = drop_at start bs i true h in
    let n : i - start < length (drop start bs) = grind (arith, common_steps) in
    let g : get_or (drop start bs) (i - start) false ≡ get_or bs i false = grind (arith, common_steps) in
    let c = count_at (drop start bs) (i - start) true n in
    let f : get_or (drop start bs) (i - start) false ≡ false = g ∙ e in
    let d : count_by (λ b. b) (set (drop start bs) (i - start) true) + 0 ≡ count_by (λ b. b) (drop start bs) + 1 = rw f at c in
    rw a (omega arith)

pub count_off : (start : ℕ) (bs : List Bool) (i : ℕ) → start ≤ i → i < length bs → get_or bs i false ≡ true → count_seen start (slice_set bs i false) + 1 ≡ count_seen start bs
count_off start bs i h k e =
    let a = drop_at start bs i false h in
    let n : i - start < length (drop start bs) = grind (arith, common_steps) in
    let g : get_or (drop start bs) (i - start) false ≡ get_or bs i false = grind (arith, common_steps) in
    let c = count_at (drop start bs) (i - start) false n in
    let f : get_or (drop start bs) (i - start) false ≡ true = g ∙ e in
    let d : count_by (λ b. b) (set (drop start bs) (i - start) false) + 1 ≡ count_by (λ b. b) (drop start bs) + 0 = rw f at c in
    rw a (omega arith)

pub count_below : (start : ℕ) (bs : List Bool) (i : ℕ) (y : Bool) → i < start → count_seen start (slice_set bs i y) ≡ count_seen start bs
count_below start bs i y h = ap (count_by (λ b. b)) (drop-set-lt start bs i y h)

-- one literal of a clause is marked
pub mark_step : (literals : List Lit) (seen new old : List Bool) (h : Bool) (p i v : ℕ)
    → ((i : ℕ) → i < length literals → (get_or literals i no_literal).var ≡ v → i ≡ p) → (get_or literals p no_literal).var ≡ v
    → get_or new p false ≡ true → ((k : ℕ) → (k ≡ p → ⊥) → get_or new k false ≡ get_or seen k false) → i < length literals
    → get_or seen i false ≡ (get_or old i false || h) → get_or new i false ≡ (get_or old i false || (h || eqb v (get_or literals i no_literal).var))
mark_step literals seen new old h p i v apart at on off b e =
    ⊎_elim
    (λ m. let q : i ≡ p = apart i b (sym (eqb-true v (get_or literals i no_literal).var m)) in
    let a : get_or new i false ≡ true = subst (λ (k : ℕ). get_or new k false ≡ true) (sym q) on in
    a ∙ sym (or_right (get_or old i false) _ (or_right h _ m)))
    (λ m. let q : i ≡ p → ⊥ = λ r. (let s = eq-eqb v (get_or literals i no_literal).var (sym (subst (λ (k : ℕ). (get_or literals k no_literal).var ≡ v) (sym r) at)) in let z : true ≡ false = sym s ∙ m in cc) in
    let a = off i q in
    let z : (h || eqb v (get_or literals i no_literal).var) ≡ h = rw m (or_none h) in
    rw z (a ∙ e))
    (cases_Bool (eqb v (get_or literals i no_literal).var))
  where
    or_none : (a : Bool) → (a || false) ≡ a
    or_none true = refl
    or_none false = refl

pub each_step : (literals : List Lit) → HasVarsOnce literals
    → (clause : List Lit) (x : ℕ) (seen new old : List Bool) (p : ℕ) → x < length clause → p < length literals → (get_or literals p no_literal).var ≡ (get_or clause x no_literal).var → length old ≡ length literals
    → ((i : ℕ) → i < length old → get_or seen i false ≡ (get_or old i false || has_var (get_or literals i no_literal).var (take x clause)))
    → get_or new p false ≡ true → ((k : ℕ) → (k ≡ p → ⊥) → get_or new k false ≡ get_or seen k false)
    → (i : ℕ) → i < length old → get_or new i false ≡ (get_or old i false || has_var (get_or literals i no_literal).var (take (x + 1) clause))
each_step literals t clause x seen new old p h k at size each on off i b =
    let b2 : i < length literals = omega arith in
    let a = mark_step literals seen new old (has_var (get_or literals i no_literal).var (take x clause)) p i (get_or clause x no_literal).var (λ j m e. once_apart literals j p t m k (e ∙ sym at)) at on off b2 (each i b) in
    rw (list_any_more (λ (l : Lit). eqb l.var (get_or literals i no_literal).var) clause x no_literal h) a
