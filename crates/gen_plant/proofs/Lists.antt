-- Lists of the units, one unit further, and names that aren't in a list.
use Rattle.std.proofs.Common.{◌≡◌, ◌<◌, ◌≤◌, ◌+◌, ℕ, zero, suc, Bool, true, false, cond, None, Some, List, [], ◌∷◌, ◌++◌, length, map, refl, arith, ap, ◌∙◌}
use Rattle.std.proofs.Math.Numerals.{add-one}
use Rattle.std.specs.Prelude.{filter, flat_map, bytes_eq, slice_get, slice_set, ◌==◌}
use Rattle.std.specs.List.{range_with_len, AllByRecursion}
use Rattle.std.proofs.lemmas.Bool.Decides.{nat_tests}
use Rattle.des_base.proofs.NumbersBelow.{range_more}
use Rattle.des_base.proofs.PlaceLemmas.{none_parts, none_join}
use Rattle.des_base.specs.Names.{place_of}
use Rattle.gen_plant.specs.Plant.{units}

-- ---- the units

pub units_more : (n : ℕ) → units (n + 1) ≡ units n ++ (n + 1) ∷ []
units_more n = ap units (add-one n) ∙ range_more 1 n (n + 1) (omega arith)

range_below : (a n most : ℕ) → a + n ≤ most → AllByRecursion (λ j. j < most) (range_with_len a n)
range_below a zero most h = tt
range_below a (suc n) most h = (omega arith, range_below (a + 1) n most (omega arith))

pub units_below : (n : ℕ) → AllByRecursion (λ j. j < n + 1) (units n)
units_below n = range_below 1 n (n + 1) (omega arith)

-- ---- what is true of each

filter_step : {X : Type 0} (P : X → Type 0) (b : Bool) (x : X) (xs : List X) → P x → AllByRecursion P xs → AllByRecursion P (cond b (x ∷ xs) xs)
filter_step P true x xs h rest = (h, rest)
filter_step P false x xs h rest = rest

pub each_filtered : {X : Type 0} (P : X → Type 0) (p : X → Bool) (xs : List X) → AllByRecursion P xs → AllByRecursion P (filter p xs)
each_filtered P p [] h = tt
each_filtered P p (x ∷ xs) h = filter_step P (p x) x (filter p xs) h.0 (each_filtered P p xs h.1)

-- ---- names that aren't there

pub absent_append : (text : List ℕ) (xs ys : List (List ℕ)) → place_of text xs ≡ None → place_of text ys ≡ None → place_of text (xs ++ ys) ≡ None
absent_append text [] ys h k = k
absent_append text (x ∷ xs) ys h k = let p = none_parts (bytes_eq text x) (place_of text xs) h in none_join (bytes_eq text x) (place_of text (xs ++ ys)) p.0 (absent_append text xs ys p.1 k)

pub absent_map : (text : List ℕ) (f : ℕ → List ℕ) (xs : List ℕ) → AllByRecursion (λ j. bytes_eq text (f j) ≡ false) xs → place_of text (map f xs) ≡ None
absent_map text f [] h = refl
absent_map text f (x ∷ xs) h = none_join (bytes_eq text (f x)) (place_of text (map f xs)) h.0 (absent_map text f xs h.1)

pub absent_flat : (text : List ℕ) (f : ℕ → List (List ℕ)) (xs : List ℕ) → AllByRecursion (λ j. place_of text (f j) ≡ None) xs → place_of text (flat_map f xs) ≡ None
absent_flat text f [] h = refl
absent_flat text f (x ∷ xs) h = absent_append text (f x) (flat_map f xs) h.0 (absent_flat text f xs h.1)

-- ---- the last of a list

pub last_there : {X : Type 0} (xs : List X) (x : X) → slice_get (xs ++ x ∷ []) (length xs) ≡ Some x
last_there [] x = refl
last_there (y ∷ xs) x = last_there xs x

pub last_set : {X : Type 0} (xs : List X) (x y : X) → slice_set (xs ++ x ∷ []) (length xs) y ≡ xs ++ y ∷ []
last_set [] x y = refl
last_set (z ∷ xs) x y = ap (λ zs. z ∷ zs) (last_set xs x y)

pub unlike : (x y : ℕ) → x < y → (x == y) ≡ false
unlike x y h = grind (arith, nat_tests)
