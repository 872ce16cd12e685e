-- Where a literal becomes true, and where false.
use Rattle.std.proofs.Common.{◌≡◌, ◌∙◌, ℕ, ◌+◌, ◌<◌, ◌≤◌, true, false, List, ap, sym, subst, length, take, get_or, arith, ⊎_elim, leb}
use Rattle.std.proofs.lemmas.Grind.{common_steps}
use Rattle.std.proofs.lemmas.Bool.{cases_Bool}
use Rattle.prop_core.specs.declared.lit.Lit.{Lit}
use Rattle.prop_core.specs.Clauses.{negation, is_true}
use Rattle.prop_core.specs.Trail.{no_literal, HasVarsOnce}
use Rattle.prop_core.proofs.Literals.{true_at, place_found, once_apart, once_consistent}
use Rattle.sat_prop.specs.TrailState.{literal_at, StandsAt}
use Rattle.sat_prop.proofs.Links.{not_both}

pub true_whole : (literals : List Lit) (k : ℕ) (x : Lit) → is_true (take k literals) x ≡ true → is_true literals x ≡ true
true_whole literals k x e =
    let p = place_found (take k literals) x e in
    let i = p.1.within in
    let g : get_or (take k literals) p.0 no_literal ≡ get_or literals p.0 no_literal = grind (arith, common_steps) in
    let w : p.0 < length literals = grind (arith, common_steps) in
    true_at literals x p.0 w (sym g ∙ p.1.at)

pub not_yet : (literals : List Lit) (k : ℕ) (x : Lit) → is_true literals x ≡ false → is_true (take k literals) x ≡ false
not_yet literals k x e = ⊎_elim (λ t. absurd (not_both _ (true_whole literals k x t) e)) (λ t. t) (cases_Bool (is_true (take k literals) x))

-- the place of a variable's literal is the only one
pub one_place : (literals : List Lit) (var a b : ℕ) → HasVarsOnce literals → StandsAt literals var a → StandsAt literals var b → a ≡ b
one_place literals var a b n h k = once_apart literals a b n h.within k.within (h.at ∙ sym k.at)

-- a true literal is among those up to a place where its own place is no later
pub holds_at : (literals : List Lit) (x : Lit) (at place : ℕ) → HasVarsOnce literals → is_true literals x ≡ true → StandsAt literals x.var at → leb at place ≡ is_true (take (place + 1) literals) x
holds_at literals x at place n t s = ⊎_elim (λ b. b ∙ sym (early b)) (λ b. b ∙ sym (late b)) (cases_Bool (leb at place))
  where
    there : get_or literals at no_literal ≡ x
    there =
        let p = place_found literals x t in
        let e : p.0 ≡ at = one_place literals x.var p.0 at n (record { within = p.1.within; at = ap (λ (l : Lit). l.var) p.1.at }) s in
        subst (λ (i : ℕ). get_or literals i no_literal ≡ x) e p.1.at

    early : leb at place ≡ true → is_true (take (place + 1) literals) x ≡ true
    early b =
        let l : at ≤ place = grind (arith, common_steps) in
        let w = s.within in
        let i : at < length (take (place + 1) literals) = grind (arith, common_steps) in
        let g : get_or (take (place + 1) literals) at no_literal ≡ get_or literals at no_literal = grind (arith, common_steps) in
        true_at (take (place + 1) literals) x at i (g ∙ there)

    late : leb at place ≡ false → is_true (take (place + 1) literals) x ≡ false
    late b = ⊎_elim
        (λ q. let p = place_found (take (place + 1) literals) x q in
        let l : at ≤ place → ⊥ = λ h. let k : leb at place ≡ true = grind (arith, common_steps) in not_both _ k b in
        let i = p.1.within in
        let w : p.0 < length literals = grind (arith, common_steps) in
        let u : p.0 ≤ place = grind (arith, common_steps) in
        let g : get_or (take (place + 1) literals) p.0 no_literal ≡ get_or literals p.0 no_literal = grind (arith, common_steps) in
        let e : p.0 ≡ at = one_place literals x.var p.0 at n (record { within = w; at = ap (λ (l : Lit). l.var) (sym g ∙ p.1.at) }) s in
        absurd (l (subst (λ (k : ℕ). k ≤ place) e u)))
        (λ q. q)
        (cases_Bool (is_true (take (place + 1) literals) x))

-- a true literal is made false nowhere
pub never_false : (literals : List Lit) (x : Lit) → HasVarsOnce literals → is_true literals x ≡ true → (place : ℕ) → place < length literals → literal_at literals place ≡ negation x → ⊥
never_false literals x n t place w e = not_both _ (true_at literals (negation x) place w e) (once_consistent literals n x t)

-- and one of a variable with a place there alone
pub false_there : (literals : List Lit) (x : Lit) (at place : ℕ) → HasVarsOnce literals → StandsAt literals x.var at → place < length literals → literal_at literals place ≡ negation x → place ≡ at
false_there literals x at place n s w e = one_place literals x.var place at n (record { within = w; at = ap (λ (l : Lit). l.var) e }) s
