-- The level of the assumptions, counted along the trail.
use Rattle.std.proofs.Common.{◌≡◌, ◌∙◌, ℕ, ◌+◌, ◌<◌, ◌≤◌, Bool, true, false, ◌∷◌, [], List, refl, ap, sym, length, min, drop, arith}
use Rattle.std.specs.Prelude.{cond, Option, Some, None, is_none}
use Rattle.std.specs.List.{prefix_len}
use Rattle.std.proofs.Math.Nat.{min-eq_right}
use Rattle.std.proofs.lemmas.List.{drop_more}
use Rattle.std.proofs.lemmas.List.Sums.{sum_by-cons}
use Rattle.prop_core.specs.declared.lit.Lit.{Lit}
use Rattle.prop_core.specs.Clauses.{is_true}
use Rattle.sat_prop.specs.TrailState.{TrailState, literal_at, reason_at}
use Rattle.sat_prop.specs.Levels.{level_of}
use Rattle.prop_core.specs.Trail.{no_literal}
use Rattle.sat_solve.specs.Restarts.{Means, is_due}
use Rattle.sat_solve.specs.Solving.{decisions, assumed_level_of, next_level_of}

-- how many decisions of these literals, from the first on, are assumptions
abbrev pub assumed_of : List Lit → List (Option ℕ) → List Lit → ℕ
assumed_of literals reasons assumed = prefix_len (is_true assumed) (decisions literals reasons)

-- what is left from a place on
module _ (literals : List Lit) (reasons : List (Option ℕ)) (assumed : List Lit) (place : ℕ) (same : length reasons ≡ length literals) (within : place < length literals)
  where
    first : assumed_of (drop place literals) (drop place reasons) assumed ≡ assumed_of (literal_at literals place ∷ drop (place + 1) literals) (reason_at reasons place ∷ drop (place + 1) reasons) assumed
    first = rw (drop_more literals place no_literal within, drop_more reasons place None (omega arith)) refl

    by_reason : (r : Option ℕ) → reason_at reasons place ≡ r → assumed_of (drop place literals) (drop place reasons) assumed ≡ assumed_of (literal_at literals place ∷ drop (place + 1) literals) (r ∷ drop (place + 1) reasons) assumed
    by_reason r e = first ∙ ap (λ (x : Option ℕ). assumed_of (literal_at literals place ∷ drop (place + 1) literals) (x ∷ drop (place + 1) reasons) assumed) e

    pub assumed_next : is_none (reason_at reasons place) ≡ true → is_true assumed (literal_at literals place) ≡ true → assumed_of (drop place literals) (drop place reasons) assumed ≡ 1 + assumed_of (drop (place + 1) literals) (drop (place + 1) reasons) assumed
    assumed_next n t = by_none (reason_at reasons place) refl n
      where
        by_none : (r : Option ℕ) → reason_at reasons place ≡ r → is_none r ≡ true → assumed_of (drop place literals) (drop place reasons) assumed ≡ 1 + assumed_of (drop (place + 1) literals) (drop (place + 1) reasons) assumed
        by_none None e z = by_reason None e ∙ ap (λ (b : Bool). cond b (1 + assumed_of (drop (place + 1) literals) (drop (place + 1) reasons) assumed) 0) t
        by_none (Some number) e z = absurd (let w : false ≡ true = z in cc)

    pub forced_passes : is_none (reason_at reasons place) ≡ false → assumed_of (drop place literals) (drop place reasons) assumed ≡ assumed_of (drop (place + 1) literals) (drop (place + 1) reasons) assumed
    forced_passes n = by_some (reason_at reasons place) refl n
      where
        by_some : (r : Option ℕ) → reason_at reasons place ≡ r → is_none r ≡ false → assumed_of (drop place literals) (drop place reasons) assumed ≡ assumed_of (drop (place + 1) literals) (drop (place + 1) reasons) assumed
        by_some None e z = absurd (let w : true ≡ false = z in cc)
        by_some (Some number) e z = by_reason (Some number) e

one_within : (b : Bool) (some all : ℕ) → some ≤ all → cond b (1 + some) 0 ≤ 1 + all
one_within true some all h = omega arith
one_within false some all h = omega arith

-- no more decisions are assumptions than there are
pub assumed_within : (literals : List Lit) (reasons : List (Option ℕ)) (assumed : List Lit) → assumed_of literals reasons assumed ≤ level_of reasons
assumed_within [] reasons assumed = omega arith
assumed_within (l ∷ ls) [] assumed = omega arith
assumed_within (l ∷ ls) (None ∷ rs) assumed = rw (sum_by-cons (λ (r : Option ℕ). cond (is_none r) 1 0) None rs) (one_within (is_true assumed l) (assumed_of ls rs assumed) (level_of rs) (assumed_within ls rs assumed))
assumed_within (l ∷ ls) (Some number ∷ rs) assumed = assumed_within ls rs assumed

-- where a search restarts, it goes on from there
pub begins_anew : (means : Means) (t : TrailState) (assumed : List Lit) (present level result : ℕ) → is_due means ≡ true → present ≡ level_of t.reasons → level ≡ assumed_level_of t assumed → result ≡ min present level → result ≡ next_level_of means t assumed
begins_anew means t assumed present level result due p l r =
    let h : assumed_level_of t assumed ≤ level_of t.reasons = assumed_within t.literals t.reasons assumed in
    let e : min present level ≡ level = min-eq_right (omega arith) in
    r ∙ e ∙ l ∙ ap (λ (b : Bool). cond b (assumed_level_of t assumed) (level_of t.reasons)) (sym due)
