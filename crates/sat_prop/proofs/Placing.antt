-- The places of literals, and the values that are read by them.
use Rattle.std.proofs.Common.{◌≡◌, ◌∙◌, ℕ, ◌+◌, ◌<◌, Bool, true, false, ◌++◌, ◌∷◌, [], List, refl, ap, sym, length, take, get_or, arith, subst, ⊎_elim, Some, None}
use Rattle.std.specs.Prelude.{slice_set, slice_index}
use Rattle.std.proofs.lemmas.Grind.{common_steps}
use Rattle.std.proofs.lemmas.Bool.{cases_Bool}
use Rattle.prop_core.specs.declared.lit.Lit.{Lit}
use Rattle.prop_core.specs.Clauses.{is_true, is_open}
use Rattle.prop_core.specs.Trail.{no_literal, has_var}
use Rattle.prop_core.proofs.Literals.{literal_of, differs, place_found, has_back}
use Rattle.sat_prop.specs.TrailState.{trail_value, StandsAt}
use Rattle.sat_prop.specs.Kept.{ArePlaces}
use Rattle.sat_prop.proofs.Fronts.{split_last}

-- one more literal
pub places_more : (vars : ℕ) (literals : List Lit) (places : List ℕ) (l : Lit) → ArePlaces vars literals places → is_open literals l ≡ true → l.var < vars → ArePlaces vars (literals ++ l ∷ []) (slice_set places l.var (length literals))
places_more vars literals places l a o v = let n = a.enough in record {
  enough = grind (arith, common_steps);
  each = λ k h.
      let b : k < length literals + 1 = grind (arith, common_steps) in
      ⊎_elim
      (λ m. let g : get_or (literals ++ l ∷ []) k no_literal ≡ get_or literals k no_literal = grind (arith, common_steps) in
      let d = differs literals l k m o in
      let e : get_or (slice_set places l.var (length literals)) (get_or literals k no_literal).var 0 ≡ get_or places (get_or literals k no_literal).var 0 = grind (arith, common_steps) in
      ap (λ (x : Lit). get_or (slice_set places l.var (length literals)) x.var 0) g ∙ e ∙ a.each k m)
      (λ m. let g : get_or (literals ++ l ∷ []) k no_literal ≡ l = rw m (grind (arith, common_steps)) in
      let e : get_or (slice_set places l.var (length literals)) l.var 0 ≡ length literals = grind (arith, common_steps) in
      ap (λ (x : Lit). get_or (slice_set places l.var (length literals)) x.var 0) g ∙ e ∙ sym m)
      (split_last k (length literals) b);
}

-- or fewer
pub places_take : (vars n : ℕ) (literals : List Lit) (places : List ℕ) → ArePlaces vars literals places → ArePlaces vars (take n literals) places
places_take vars n literals places a = record {
  enough = a.enough;
  each = λ k h.
      let g : get_or (take n literals) k no_literal ≡ get_or literals k no_literal = grind (arith, common_steps) in
      let b : k < length literals = grind (arith, common_steps) in
      ap (λ (x : Lit). get_or places x.var 0) g ∙ a.each k b;
}

-- the place that is kept of a variable with a literal
pub place_kept : (vars : ℕ) (literals : List Lit) (places : List ℕ) (var : ℕ) → ArePlaces vars literals places → has_var var literals ≡ true → StandsAt literals var (slice_index places var)
place_kept vars literals places var a e =
    let x = has_back literals var e in
    let k = place_found literals x.0 x.1.among in
    let v : (get_or literals k.0 no_literal).var ≡ var = ap (λ (l : Lit). l.var) k.1.at ∙ x.1.var in
    let q : get_or places var 0 ≡ k.0 = subst (λ (n : ℕ). get_or places n 0 ≡ k.0) v (a.each k.0 k.1.within) in
    subst (λ (p : ℕ). StandsAt literals var p) (sym q) (record { within = k.1.within; at = v })

-- the value of a variable with no literal
pub value_open : (literals : List Lit) (var : ℕ) → ((place : ℕ) → StandsAt literals var place → ⊥) → trail_value literals var ≡ None
value_open literals var n =
    let no : (b : Bool) → is_true literals (literal_of var b) ≡ false = λ b. ⊎_elim
    (λ t. let k = place_found literals (literal_of var b) t in absurd (n k.0 (record { within = k.1.within; at = ap (λ (l : Lit). l.var) k.1.at })))
    (λ t. t) (cases_Bool (is_true literals (literal_of var b))) in
    let t = no true in
    let f = no false in
    rw (t, f) refl

-- what the value says of a literal
pub value_some : (literals : List Lit) (var : ℕ) (b : Bool) → trail_value literals var ≡ Some b → is_true literals (literal_of var b) ≡ true
value_some literals var b e = by (is_true literals (literal_of var true)) refl (is_true literals (literal_of var false)) refl
  where
    by : (t : Bool) → is_true literals (literal_of var true) ≡ t → (f : Bool) → is_true literals (literal_of var false) ≡ f → is_true literals (literal_of var b) ≡ true
    by true g f h = let q : Some true ≡ Some b = sym (rw g refl) ∙ e in let r : true ≡ b = cc in subst (λ (x : Bool). is_true literals (literal_of var x) ≡ true) r g
    by false g true h = let q : Some false ≡ Some b = sym (rw (g, h) refl) ∙ e in let r : false ≡ b = cc in subst (λ (x : Bool). is_true literals (literal_of var x) ≡ true) r h
    by false g false h = let q : None ≡ Some b = sym (rw (g, h) refl) ∙ e in cc

pub value_none : (literals : List Lit) (var : ℕ) → trail_value literals var ≡ None → (is_true literals (literal_of var true) ≡ false) × (is_true literals (literal_of var false) ≡ false)
value_none literals var e = by (is_true literals (literal_of var true)) refl (is_true literals (literal_of var false)) refl
  where
    by : (t : Bool) → is_true literals (literal_of var true) ≡ t → (f : Bool) → is_true literals (literal_of var false) ≡ f → (t ≡ false) × (f ≡ false)
    by true g f h = let q : Some true ≡ None = sym (rw g refl) ∙ e in cc
    by false g true h = let q : Some false ≡ None = sym (rw (g, h) refl) ∙ e in cc
    by false g false h = (refl, refl)
