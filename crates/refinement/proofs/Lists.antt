-- Lists that agree place by place.
use Rattle.std.proofs.Common.{◌≡◌, ℕ, suc, ◌≤◌, List, [], ◌∷◌, ◌++◌, length, drop, Some, slice_get, refl, ap, ◌∙◌, arith}
use Rattle.std.specs.Prelude.{Bool, true, ◌==◌, ◌&&◌}
use Rattle.std.specs.List.{AllZip}
use lib.Pointwise.{pointwise}
use Rattle.des_base.proofs.BoolLemmas.{both, same}
use Rattle.des_net.specs.declared.parts.Part.{Part}
use Rattle.des_net.specs.declared.parts.Trans.{Trans}
use Rattle.std.proofs.lemmas.Option.{same_Some}
use Rattle.refinement.specs.Comparing.{AgreeBelow}

-- one list is the front of the other
pub front_is : {X : Type 0} (xs ys : List X) → length xs ≤ length ys → AgreeBelow (length xs) ys xs → ys ≡ xs ++ drop (length xs) ys
front_is [] ys few same = refl
front_is (x ∷ xs) [] few same = absurd (omega arith)
front_is (x ∷ xs) (y ∷ ys) few same =
    let first : y ≡ x = same_Some y x (same 0 (omega arith)) in
    let rest : ys ≡ xs ++ drop (length xs) ys = front_is xs ys (omega arith) (λ i below. same (suc i) (omega arith)) in
    ap (λ z. z ∷ ys) first ∙ ap (λ zs. x ∷ zs) rest

-- and is the other if they are equally long
pub same_is : {X : Type 0} (xs ys : List X) → length ys ≡ length xs → AgreeBelow (length xs) ys xs → ys ≡ xs
same_is [] [] long same = refl
same_is [] (y ∷ ys) long same = absurd (omega arith)
same_is (x ∷ xs) [] long same = absurd (omega arith)
same_is (x ∷ xs) (y ∷ ys) long same =
    let first : y ≡ x = same_Some y x (same 0 (omega arith)) in
    let rest : ys ≡ xs = same_is xs ys (omega arith) (λ i below. same (suc i) (omega arith)) in
    ap (λ z. z ∷ ys) first ∙ ap (λ zs. x ∷ zs) rest

-- what holds at each place holds of the lists
pub zip_from_places : {A B : Type 0} (R : A → B → Type 0) (xs : List A) (ys : List B) → length ys ≡ length xs
    → ((i : ℕ) (x : A) (y : B) → slice_get xs i ≡ Some x → slice_get ys i ≡ Some y → R x y) → AllZip R xs ys
zip_from_places R [] [] long each = tt
zip_from_places R [] (y ∷ ys) long each = absurd (omega arith)
zip_from_places R (x ∷ xs) [] long each = absurd (omega arith)
zip_from_places R (x ∷ xs) (y ∷ ys) long each =
    (each 0 x y refl refl, zip_from_places R xs ys (omega arith) (λ i a b at_a at_b. each (suc i) a b at_a at_b))

-- a test, element by element
pub same_pointwise : {X : Type 0} (test : X → X → Bool) → ((x y : X) → test x y ≡ true → x ≡ y) → (xs ys : List X) → pointwise test xs ys ≡ true → xs ≡ ys
same_pointwise test exact [] [] h = refl
same_pointwise test exact [] (y ∷ ys) h = cc
same_pointwise test exact (x ∷ xs) [] h = cc
same_pointwise test exact (x ∷ xs) (y ∷ ys) h =
    let two = both (test x y) (pointwise test xs ys) h in
    ap (λ z. z ∷ xs) (exact x y two.0) ∙ ap (λ zs. y ∷ zs) (same_pointwise test exact xs ys two.1)

pub same_part : (x y : Part) → (x.comp == y.comp && x.action == y.action) ≡ true → x ≡ y
same_part x y h =
    let two = both (x.comp == y.comp) _ h in
    let comp : x.comp ≡ y.comp = same x.comp y.comp two.0 in
    let action : x.action ≡ y.action = same x.action y.action two.1 in
    λ i. record { comp = comp i; action = action i }

pub same_trans : (x y : Trans) → (x.from == y.from && (x.action == y.action && x.to == y.to)) ≡ true → x ≡ y
same_trans x y h =
    let two = both (x.from == y.from) _ h in
    let more = both (x.action == y.action) _ two.1 in
    let from : x.from ≡ y.from = same x.from y.from two.0 in
    let action : x.action ≡ y.action = same x.action y.action more.0 in
    let to : x.to ≡ y.to = same x.to y.to more.1 in
    λ i. record { from = from i; action = action i; to = to i }
