-- Where a text stands in a list of texts: the first place, or none.
use Rattle.std.proofs.Common.{◌≡◌, ◌<◌, ℕ, suc, Bool, true, false, List, [], ◌∷◌, length, Option, None, Some, cond, refl, arith, sym}
use Rattle.std.proofs.lemmas.Slice.Eq.{bytes_eq-Decides}
use Rattle.std.specs.Prelude.{option_map, bytes_eq}
use Rattle.des_base.proofs.BoolLemmas.{otherwise}
use Rattle.des_base.specs.Names.{place_by}

-- not there: not the first, nor among the others
pub none_parts : (b : Bool) (q : Option ℕ) → cond b (Some 0) (option_map suc q) ≡ None → (b ≡ false) × (q ≡ None)
none_parts true q h = cc
none_parts false None h = (refl, refl)
none_parts false (Some k) h = cc

pub none_join : (b : Bool) (q : Option ℕ) → b ≡ false → q ≡ None → cond b (Some 0) (option_map suc q) ≡ None
none_join b q h e = rw (h, e) refl

-- not the first, and the place among the others
pub place_next : (b : Bool) (q : Option ℕ) (k : ℕ) → b ≡ false → q ≡ Some k → cond b (Some 0) (option_map suc q) ≡ Some (suc k)
place_next b q k h e = rw (h, e) refl

-- a place is one of the list's
pub place_step : (b : Bool) (q : Option ℕ) (n k : ℕ) → cond b (Some 0) (option_map suc q) ≡ Some k → ((j : ℕ) → q ≡ Some j → j < n) → k < suc n
place_step true q n k h rest = let e : 0 ≡ k = cc in omega arith
place_step false None n k h rest = cc
place_step false (Some j) n k h rest = let e : suc j ≡ k = cc in let l = rest j refl in omega arith

pub place-within : {X : Type 0} (p : X → Bool) (xs : List X) (k : ℕ) → place_by p xs ≡ Some k → k < length xs
place-within p [] k h = cc
place-within p (x ∷ xs) k h = place_step (p x) (place_by p xs) (length xs) k h (place-within p xs)

pub text_turned : (x y : List ℕ) → bytes_eq x y ≡ false → bytes_eq y x ≡ false
text_turned x y h = otherwise (bytes_eq y x) (λ e. let alike : bytes_eq x y ≡ true = (bytes_eq-Decides x y).1 (sym ((bytes_eq-Decides y x).0 e)) in cc)

pub text_itself : (x : List ℕ) → bytes_eq x x ≡ true
text_itself x = (bytes_eq-Decides x x).1 refl
