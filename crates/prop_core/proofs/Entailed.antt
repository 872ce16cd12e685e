-- A clause that derives is true wherever the held clauses are.
use Rattle.std.proofs.Common.{◌≡◌, ℕ, ◌+◌, List, [], ◌∷◌, ◌++◌, Option, Some, None, refl, sym, ap, subst, Bool, true, false, not, ◌&&◌, ◌||◌, map, filter, IsTrue, cond, ◌∙◌}
use Rattle.std.specs.Bool.{beq}
use Rattle.std.specs.List.{list_any, list_all}
use Rattle.std.proofs.lemmas.Bool.{eqb-true, eq-eqb}
use Rattle.prop_core.specs.declared.lit.Lit.{Lit}
use Rattle.prop_core.specs.Clauses.{Clause, negation, literal_true, clause_true, AllLiteralsTrue, same_literal, is_true, is_false, is_open}
use Rattle.prop_core.specs.Derivation.{standing, open_standing, Standing, falsified, satisfied, unit, wide, follow, Derivation, derives, Progress, ended, goes_on, after_hint, after_standing}
use Rattle.prop_core.specs.Laws.{DerivedClausesAreTrue}

pub both : {a b : Bool} → a && b ≡ true → (a ≡ true) × (b ≡ true)
both {a = true} {b} h = (refl, h)
both {a = false} {b} h = cc

pub neither : {a b : Bool} → a || b ≡ false → (a ≡ false) × (b ≡ false)
neither {a = true} {b} h = cc
neither {a = false} {b} h = (refl, h)

pub beq_is : (a b : Bool) → beq a b ≡ true → a ≡ b
beq_is true true h = refl
beq_is true false h = cc
beq_is false true h = cc
beq_is false false h = refl

pub beq_itself : (a : Bool) → beq a a ≡ true
beq_itself true = refl
beq_itself false = refl

beq_not : (a b : Bool) → beq a (not b) ≡ not (beq a b)
beq_not true true = refl
beq_not true false = refl
beq_not false true = refl
beq_not false false = refl

pub same_itself : (l : Lit) → same_literal l l ≡ true
same_itself l = rw (eq-eqb l.var l.var refl, beq_itself l.positive) refl

same_true : (value : ℕ → Bool) (a b : Lit) → same_literal a b ≡ true → literal_true value b ≡ literal_true value a
same_true value a b h =
    let parts = both h in
    let var = eqb-true a.var b.var parts.0 in
    let sign = beq_is a.positive b.positive parts.1 in
    cc

taken_true : (value : ℕ → Bool) (taken : List Lit) (l : Lit) → AllLiteralsTrue value taken → is_true taken l ≡ true → literal_true value l ≡ true
taken_true value [] l all h = cc
taken_true value (t ∷ taken) l all h = by (same_literal l t) refl (taken_true value taken l all.1)
  where
    by : (b : Bool) → same_literal l t ≡ b → (is_true taken l ≡ true → literal_true value l ≡ true) → literal_true value l ≡ true
    by true e later = let same = same_true value l t e in cc (all.0)
    by false e later = later (rw e at h)

false_untrue : (value : ℕ → Bool) (taken : List Lit) (l : Lit) → AllLiteralsTrue value taken → is_false taken l ≡ true → literal_true value l ≡ true → ⊥
false_untrue value taken l all h t =
    let opposite = taken_true value taken (negation l) all h in
    let flipped = beq_not (value l.var) l.positive in
    cc

-- under an assignment that makes what is taken true, a clause that is false has no true literal
falsified_untrue : (value : ℕ → Bool) (taken : List Lit) (clause : Clause) → AllLiteralsTrue value taken → list_all (is_false taken) clause ≡ true → clause_true value clause ≡ true → ⊥
falsified_untrue value taken [] all h t = cc
falsified_untrue value taken (l ∷ clause) all h t = by (literal_true value l) refl (falsified_untrue value taken clause all (both h).1)
  where
    by : (b : Bool) → literal_true value l ≡ b → (clause_true value clause ≡ true → ⊥) → ⊥
    by true e later = false_untrue value taken l all (both h).0 e
    by false e later = later (rw e at t)

-- and of one with no true literal, whose open literals are all l, l is true where the clause is
open_true : (value : ℕ → Bool) (taken : List Lit) (l : Lit) (clause : Clause) → AllLiteralsTrue value taken → list_any (is_true taken) clause ≡ false →
    list_all (same_literal l) (filter (is_open taken) clause) ≡ true → clause_true value clause ≡ true → literal_true value l ≡ true
open_true value taken l [] all none same t = cc
open_true value taken l (x ∷ clause) all none same t =
    by (literal_true value x) refl (is_false taken x) refl (open_true value taken l clause all (neither none).1)
  where
    here : is_true taken x ≡ false
    here = (neither none).0

    by : (b : Bool) → literal_true value x ≡ b → (d : Bool) → is_false taken x ≡ d →
        (list_all (same_literal l) (filter (is_open taken) clause) ≡ true → clause_true value clause ≡ true → literal_true value l ≡ true) → literal_true value l ≡ true
    by true e true f later = absurd (false_untrue value taken x all f e)
    by true e false f later = let first = both (rw (here, f) at same) in sym (same_true value l x first.0) ∙ e
    by false e true f later = later (rw (here, f) at same) (rw e at t)
    by false e false f later = later (both (rw (here, f) at same)).1 (rw e at t)

pub not_falsified : (ls : List Lit) → open_standing ls ≡ falsified → ⊥
not_falsified [] h = cc
not_falsified (l ∷ ls) h = by (list_all (same_literal l) ls) h
  where
    by : (b : Bool) → cond b (unit l) wide ≡ falsified → ⊥
    by true e = cc
    by false e = cc

when_falsified : (value : ℕ → Bool) (taken : List Lit) (clause : Clause) → AllLiteralsTrue value taken → standing taken clause ≡ falsified → clause_true value clause ≡ true → ⊥
when_falsified value taken clause all h t = by (list_all (is_false taken) clause) refl (list_any (is_true taken) clause) h
  where
    by : (b : Bool) → list_all (is_false taken) clause ≡ b → (d : Bool) → cond b falsified (cond d satisfied (open_standing (filter (is_open taken) clause))) ≡ falsified → ⊥
    by true e d is = falsified_untrue value taken clause all e t
    by false e true is = cc
    by false e false is = not_falsified (filter (is_open taken) clause) is

pub unit_same : (l : Lit) (ls : List Lit) → open_standing ls ≡ unit l → list_all (same_literal l) ls ≡ true
unit_same l [] h = cc
unit_same l (x ∷ ls) h = by (list_all (same_literal x) ls) refl h
  where
    by : (b : Bool) → list_all (same_literal x) ls ≡ b → cond b (unit x) wide ≡ unit l → list_all (same_literal l) (x ∷ ls) ≡ true
    by true e is = let same : x ≡ l = cc in subst (λ y. list_all (same_literal y) (x ∷ ls) ≡ true) same (rw (same_itself x, e) refl)
    by false e is = cc

when_unit : (value : ℕ → Bool) (taken : List Lit) (l : Lit) (clause : Clause) → AllLiteralsTrue value taken → standing taken clause ≡ unit l → clause_true value clause ≡ true → literal_true value l ≡ true
when_unit value taken l clause all h t = by (list_all (is_false taken) clause) (list_any (is_true taken) clause) refl h
  where
    by : (b : Bool) (d : Bool) → list_any (is_true taken) clause ≡ d → cond b falsified (cond d satisfied (open_standing (filter (is_open taken) clause))) ≡ unit l → literal_true value l ≡ true
    by true d e is = cc
    by false true e is = cc
    by false false e is = open_true value taken l clause all e (unit_same l (filter (is_open taken) clause) is) t

more_true : (value : ℕ → Bool) (taken : List Lit) (l : Lit) → AllLiteralsTrue value taken → literal_true value l ≡ true → AllLiteralsTrue value (taken ++ l ∷ [])
more_true value [] l all h = (h, tt)
more_true value (t ∷ taken) l all h = (all.0, more_true value taken l all.1 h)

-- a hint whose clause is true either leaves what is taken true, or does not end with a derivation
hint_true : (value : ℕ → Bool) (taken : List Lit) (at : ℕ) (o : Option Clause) → ((given : Clause) → o ≡ Some given → IsTrue (clause_true value given)) → AllLiteralsTrue value taken →
    (p : Progress) → after_hint taken at o ≡ p → elim p as (λ _. Type 0) [ ended result ↦ (result ≡ derives → ⊥) | goes_on more ↦ AllLiteralsTrue value more ]
hint_true value taken at None given all (ended result) h = λ e. cc
hint_true value taken at None given all (goes_on more) h = cc
hint_true value taken at (Some clause) given all p h = by (standing taken clause) refl p h
  where
    by : (s : Standing) → standing taken clause ≡ s → (p : Progress) → after_standing taken at s ≡ p →
        elim p as (λ _. Type 0) [ ended result ↦ (result ≡ derives → ⊥) | goes_on more ↦ AllLiteralsTrue value more ]
    by falsified f p' is = absurd (when_falsified value taken clause all f (given clause refl))
    by satisfied f (ended result) is = cc
    by satisfied f (goes_on more) is = let same : taken ≡ more = cc in subst (λ xs. AllLiteralsTrue value xs) same all
    by (unit l) f (ended result) is = cc
    by (unit l) f (goes_on more) is =
        let same : taken ++ l ∷ [] ≡ more = cc in subst (λ xs. AllLiteralsTrue value xs) same (more_true value taken l all (when_unit value taken l clause all f (given clause refl)))
    by wide f (ended result) is = λ e. cc
    by wide f (goes_on more) is = cc

follow_false : (held : ℕ → Option Clause) (value : ℕ → Bool) → ((k : ℕ) (given : Clause) → held k ≡ Some given → IsTrue (clause_true value given)) →
    (hints : List ℕ) (taken : List Lit) (at : ℕ) → follow held taken at hints ≡ derives → AllLiteralsTrue value taken → ⊥
follow_false held value given [] taken at h all = cc
follow_false held value given (hint ∷ hints) taken at h all =
    by (after_hint taken at (held hint)) (hint_true value taken at (held hint) (given hint) all (after_hint taken at (held hint)) refl) h
    (λ (more : List Lit). follow_false held value given hints more (at + 1))
  where
    by : (p : Progress) → elim p as (λ _. Type 0) [ ended result ↦ (result ≡ derives → ⊥) | goes_on more ↦ AllLiteralsTrue value more ] →
        elim p as (λ _. Derivation) [ ended result ↦ result | goes_on more ↦ follow held more (at + 1) hints ] ≡ derives →
        ((more : List Lit) → follow held more (at + 1) hints ≡ derives → AllLiteralsTrue value more → ⊥) → ⊥
    by (ended result) fact is later = fact is
    by (goes_on more) fact is later = later more is fact

negations_true : (value : ℕ → Bool) (clause : Clause) → clause_true value clause ≡ false → AllLiteralsTrue value (map negation clause)
negations_true value [] h = tt
negations_true value (l ∷ clause) h =
    let parts = neither h in
    let flipped = beq_not (value l.var) l.positive in
    (flipped ∙ ap not parts.0, negations_true value clause parts.1)

pub derived_clauses_are_true : DerivedClausesAreTrue
derived_clauses_are_true held clause hints derived value given = by (clause_true value clause) refl
  where
    by : (b : Bool) → clause_true value clause ≡ b → clause_true value clause ≡ true
    by true e = e
    by false e = absurd (follow_false held value given hints (map negation clause) 0 derived (negations_true value clause e))
