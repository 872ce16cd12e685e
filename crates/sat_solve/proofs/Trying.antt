-- The literals that are tried before any suggestion.
use Rattle.std.proofs.Common.{◌≡◌, ◌∙◌, ℕ, ◌+◌, ◌<◌, Bool, true, false, ◌∷◌, [], List, refl, ap, sym, drop, zero, suc, arith}
use Rattle.std.specs.Prelude.{cond, Some, None, find, nat_lt, slice_get}
use Rattle.std.specs.List.{position_or_len}
use Rattle.std.proofs.lemmas.Bool.{and_parts}
use Rattle.std.proofs.lemmas.List.Folds.{find_at}
use Rattle.des_base.proofs.BoolLemmas.{less_is}
use Rattle.prop_core.specs.declared.lit.Lit.{Lit}
use Rattle.prop_core.specs.Clauses.{is_open}
use Rattle.prop_core.proofs.Literals.{literal_of, open_var}
use Rattle.sat_solve.specs.Advice.{AdviceState, can_be_decided, left_to_try, first_open_try, is_long, next_try}

at_drop : (count : ℕ) (literals : List Lit) (place : ℕ) → slice_get (drop count literals) place ≡ slice_get literals (count + place)
at_drop zero literals place = let e : place ≡ 0 + place = omega arith in ap (slice_get literals) e
at_drop (suc count) [] place = refl
at_drop (suc count) (l ∷ literals) place = let e : suc (count + place) ≡ suc count + place = omega arith in at_drop count literals place ∙ ap (slice_get (l ∷ literals)) e

-- at the first place, from one on, at which a test passes, the first stands that passes
pub first_stands : (test : Lit → Bool) (literals : List Lit) (from : ℕ) → slice_get literals (from + position_or_len test (drop from literals)) ≡ find test (drop from literals)
first_stands test literals from = sym (find_at test (drop from literals) ∙ at_drop from literals (position_or_len test (drop from literals)))

found_passes : (test : Lit → Bool) (literals : List Lit) (l : Lit) → find test literals ≡ Some l → test l ≡ true
found_passes test [] l e = cc
found_passes test (m ∷ literals) l e = by (test m) refl e (found_passes test literals l)
  where
    by : (b : Bool) → test m ≡ b → cond b (Some m) (find test literals) ≡ Some l → (find test literals ≡ Some l → test l ≡ true) → test l ≡ true
    by true f is later = let same : l ≡ m = cc in ap test same ∙ f
    by false f is later = later is

-- the variable of a literal is known, and open
pub record IsKnownAndOpen (taken : List Lit) (vars : ℕ) (l : Lit) : Type 0 where
  pub known : l.var < vars
  pub undecided : is_open taken (literal_of l.var false) ≡ true

-- so is that of a literal to be tried
pub tried : (a : AdviceState) (taken : List Lit) (vars : ℕ) (l : Lit) → next_try a taken vars ≡ Some l → IsKnownAndOpen taken vars l
tried a taken vars l e = by (is_long a.means) e
  where
    by : (b : Bool) → cond b (first_open_try a.tries taken vars) None ≡ Some l → IsKnownAndOpen taken vars l
    by true is =
        let both = and_parts (nat_lt l.var vars) (is_open taken l) (found_passes (can_be_decided taken vars) (left_to_try a.tries) l is) in
        record { known = less_is l.var vars both.0; undecided = open_var taken l (literal_of l.var false) refl both.1 }
    by false is = cc
