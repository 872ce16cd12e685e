-- Names become numbers: what stays, and what two numbers say of two names.
use Rattle.std.proofs.Common.{◌≡◌, ◌<◌, ℕ, suc, Bool, true, false, cond, List, [], ◌∷◌, ◌++◌, length, get_or, Option, None, Some, refl, ap, sym, ◌∙◌, subst, arith}
use Rattle.std.specs.Prelude.{option_map, unwrap_or, bytes_eq, ◌==◌, is_some}
use Rattle.std.specs.List.{AllByRecursion}
use Rattle.std.proofs.lemmas.Slice.Eq.{bytes_eq-Decides}
use Rattle.std.proofs.lemmas.Bool.Decides.{Decides-eqb}
use Rattle.des_base.proofs.BoolLemmas.{alike}
use Rattle.des_base.specs.Names.{place_of, IsName}
use Rattle.des_net.specs.Building.{with_action, action_place}
use Rattle.model_text.specs.ModelNetwork.{number, each_once}

-- what has a place in one list has the same in the other
pub record KeepsPlaces (old new : List (List ℕ)) : Type 0 where
  pub kept : (text : List ℕ) (k : ℕ) → place_of text old ≡ Some k → place_of text new ≡ Some k

pub KeepsPlaces-itself : (xs : List (List ℕ)) → KeepsPlaces xs xs
KeepsPlaces-itself xs = record { kept = λ text k h. h }

kept_step : (b : Bool) (q r : Option ℕ) (k : ℕ) → cond b (Some 0) (option_map suc q) ≡ Some k → ((j : ℕ) → q ≡ Some j → r ≡ Some j) → cond b (Some 0) (option_map suc r) ≡ Some k
kept_step true q r k h f = h
kept_step false None r k h f = cc
kept_step false (Some j) r k h f = ap (option_map suc) (f j refl) ∙ h

place_of-append : (text : List ℕ) (xs ys : List (List ℕ)) (k : ℕ) → place_of text xs ≡ Some k → place_of text (xs ++ ys) ≡ Some k
place_of-append text [] ys k h = cc
place_of-append text (x ∷ xs) ys k h = kept_step (bytes_eq text x) (place_of text xs) (place_of text (xs ++ ys)) k h (λ j e. place_of-append text xs ys j e)

pub KeepsPlaces-append : (xs ys : List (List ℕ)) → KeepsPlaces xs (xs ++ ys)
KeepsPlaces-append xs ys = record { kept = λ text k h. place_of-append text xs ys k h }

grows_by : (b : Bool) (xs ys : List (List ℕ)) → KeepsPlaces xs (cond b xs (xs ++ ys))
grows_by true xs ys = KeepsPlaces-itself xs
grows_by false xs ys = KeepsPlaces-append xs ys

pub KeepsPlaces-with_action : (action : List ℕ) (actions : List (List ℕ)) → KeepsPlaces actions (with_action action actions)
KeepsPlaces-with_action action actions = grows_by (is_some (place_of action actions)) actions (action ∷ [])

known_step : (o : Option ℕ) (n : ℕ) → unwrap_or o n < n → o ≡ Some (unwrap_or o n)
known_step None n h = absurd (omega arith)
known_step (Some k) n h = refl

-- a number below the length is a place
pub place_of-number : (xs : List (List ℕ)) (text : List ℕ) → number xs text < length xs → place_of text xs ≡ Some (number xs text)
place_of-number xs text h = known_step (place_of text xs) (length xs) h

pub number-place : (xs : List (List ℕ)) (text : List ℕ) (k : ℕ) → place_of text xs ≡ Some k → number xs text ≡ k
number-place xs text k h = ap (λ o. unwrap_or o (length xs)) h

pub number-kept : (xs ys : List (List ℕ)) → KeepsPlaces xs ys → (text : List ℕ) → number xs text < length xs → number ys text ≡ number xs text
number-kept xs ys g text h = number-place ys text (number xs text) (g.kept text (number xs text) (place_of-number xs text h))

at_step : (text x : List ℕ) (xs : List (List ℕ)) (b : Bool) (q : Option ℕ) (k : ℕ) → (b ≡ true → text ≡ x) → ((j : ℕ) → q ≡ Some j → text ≡ get_or xs j []) → cond b (Some 0) (option_map suc q) ≡ Some k → text ≡ get_or (x ∷ xs) k []
at_step text x xs true q k f g h = let e : 0 ≡ k = cc in subst (λ (n : ℕ). text ≡ get_or (x ∷ xs) n []) e (f refl)
at_step text x xs false None k f g h = cc
at_step text x xs false (Some j) k f g h = let e : suc j ≡ k = cc in subst (λ (n : ℕ). text ≡ get_or (x ∷ xs) n []) e (g j refl)

-- the text at the place
pub text_at : (text : List ℕ) (xs : List (List ℕ)) (k : ℕ) → place_of text xs ≡ Some k → text ≡ get_or xs k []
text_at text [] k h = cc
text_at text (x ∷ xs) k h = at_step text x xs (bytes_eq text x) (place_of text xs) k (bytes_eq-Decides text x).0 (λ j e. text_at text xs j e) h

some_equal : (i j : ℕ) (o p : Option ℕ) → o ≡ Some i → p ≡ Some j → o ≡ p → j ≡ i
some_equal i j o p a b e = cc

-- two texts are the same where their places are
pub bytes_eq-place : (xs : List (List ℕ)) (x y : List ℕ) (i j : ℕ) → place_of x xs ≡ Some i → place_of y xs ≡ Some j → bytes_eq x y ≡ (j == i)
bytes_eq-place xs x y i j a b =
    alike (bytes_eq x y) (j == i)
    (λ e. (Decides-eqb j i).1 (some_equal i j (place_of x xs) (place_of y xs) a b (ap (λ t. place_of t xs) ((bytes_eq-Decides x y).0 e))))
    (λ e. (bytes_eq-Decides x y).1 (text_at x xs i a ∙ ap (λ n. get_or xs n []) (sym ((Decides-eqb j i).0 e)) ∙ sym (text_at y xs j b)))

name_step : (text x : List ℕ) (b : Bool) (q : Option ℕ) (k : ℕ) → (b ≡ true → text ≡ x) → IsName x → ((j : ℕ) → q ≡ Some j → IsName text) → cond b (Some 0) (option_map suc q) ≡ Some k → IsName text
name_step text x true q k f n g h = subst IsName (sym (f refl)) n
name_step text x false None k f n g h = cc
name_step text x false (Some j) k f n g h = g j refl

-- what stands among names is one
pub IsName-place : (text : List ℕ) (xs : List (List ℕ)) (k : ℕ) → AllByRecursion IsName xs → place_of text xs ≡ Some k → IsName text
IsName-place text [] k a h = cc
IsName-place text (x ∷ xs) k a h = name_step text x (bytes_eq text x) (place_of text xs) k (bytes_eq-Decides text x).0 a.0 (λ j e. IsName-place text xs j a.1 e) h

new_step : (b : Bool) (q r : Option ℕ) (n : ℕ) → cond b (Some 0) (option_map suc q) ≡ None → (q ≡ None → r ≡ Some n) → cond b (Some 0) (option_map suc r) ≡ Some (suc n)
new_step true q r n h f = cc
new_step false None r n h f = ap (option_map suc) (f refl)
new_step false (Some k) r n h f = cc

-- a new text stands last
pub place_of-new : (text : List ℕ) (xs : List (List ℕ)) → place_of text xs ≡ None → place_of text (xs ++ text ∷ []) ≡ Some (length xs)
place_of-new text [] h = ap (λ b. cond b (Some 0) None) ((bytes_eq-Decides text text).1 refl)
place_of-new text (x ∷ xs) h = new_step (bytes_eq text x) (place_of text xs) (place_of text (xs ++ text ∷ [])) (length xs) h (λ e. place_of-new text xs e)

action_step : (text : List ℕ) (xs : List (List ℕ)) (o : Option ℕ) → place_of text xs ≡ o → number (cond (is_some o) xs (xs ++ text ∷ [])) text ≡ unwrap_or o (length xs)
action_step text xs None h = number-place (xs ++ text ∷ []) text (length xs) (place_of-new text xs h)
action_step text xs (Some k) h = number-place xs text k h

-- the action of a transition has this number from then on
pub number-with_action : (action : List ℕ) (actions : List (List ℕ)) → number (with_action action actions) action ≡ action_place actions action
number-with_action action actions = action_step action actions (place_of action actions) refl

pub each_once-push : (known xs : List (List ℕ)) (text : List ℕ) → each_once known (xs ++ text ∷ []) ≡ with_action text (each_once known xs)
each_once-push known [] text = refl
each_once-push known (x ∷ xs) text = each_once-push (cond (is_some (place_of x known)) known (known ++ x ∷ [])) xs text
