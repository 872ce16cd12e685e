-- Lists that grow at the end, and clauses by their numbers in a database that grows.
use Rattle.std.proofs.Common.{◌≡◌, ◌∙◌, ℕ, ◌+◌, ◌-◌, ◌<◌, ◌≤◌, Bool, true, false, ◌++◌, ◌∷◌, [], List, refl, ap, sym, length, take, get_or, arith, subst, inl, inr, ⊎_elim, eqb, cond, Option, Some, None}
use Rattle.std.specs.Prelude.{◌⊎◌, Contains, slice_get, slice_index, IfSome}
use Rattle.std.proofs.lemmas.Grind.{common_steps}
use Rattle.std.proofs.lemmas.Bool.{cases_eq, eqb-false, ne_eqb}
use Rattle.std.proofs.lemmas.Option.{slice_get_within, get_or_from_slice_get, slice_get-get_or}
use Rattle.prop_core.specs.Clauses.{Clause, HasValues}
use Rattle.prop_core.specs.Derivation.{clause_numbered}
use Rattle.sat_prop.specs.TrailState.{IsKnownClause, AreKnownClauses}
use Rattle.sat_prop.specs.Changes.{IsFront}

pub split_last : (k n : ℕ) → k < n + 1 → (k < n) ⊎ (k ≡ n)
split_last k n h = ⊎_elim (λ e. inr e) (λ e. inl (omega arith)) (cases_eq k n)

pub front_more : {X : Type 0} (old xs : List X) (x : X) → take (length old) xs ≡ old → take (length old) (xs ++ x ∷ []) ≡ old
front_more old xs x e =
    let g : length (take (length old) xs) ≡ length old = ap length e in
    let len : length old ≤ length xs = grind (arith, common_steps) in
    let a : take (length old) (xs ++ x ∷ []) ≡ take (length old) xs = grind (arith, common_steps) in
    a ∙ e

pub front_length : {X : Type 0} (old xs : List X) → take (length old) xs ≡ old → length old ≤ length xs
front_length old xs e = let g : length (take (length old) xs) ≡ length old = ap length e in grind (arith, common_steps)

pub front_at : {X : Type 0} (old new : List X) (k : ℕ) (d : X) → take (length old) new ≡ old → k < length old → get_or new k d ≡ get_or old k d
front_at old new k d e h =
    let a : get_or (take (length old) new) k d ≡ get_or new k d = grind (arith, common_steps) in
    sym a ∙ ap (λ xs. get_or xs k d) e

pub front_take : {X : Type 0} (old new : List X) (k : ℕ) → take (length old) new ≡ old → k ≤ length old → take k new ≡ take k old
front_take old new k e h =
    let a : take k (take (length old) new) ≡ take k new = grind (arith, common_steps) in
    sym a ∙ ap (take k) e

-- what the front of a database holds, the database holds
slice_front : (cs all : List Clause) (n : ℕ) (c : Clause) → IsFront cs all → slice_get cs n ≡ Some c → slice_get all n ≡ Some c
slice_front cs all n c f e =
    let w = slice_get_within cs n c e in
    let v = get_or_from_slice_get cs n c c e in
    let len = front_length cs all f in
    let r = front_at cs all n c f (omega arith) in
    slice_get-get_or all n c (omega arith) ∙ ap Some (r ∙ v)

picks : (b : Bool) (o p : Option Clause) (c : Clause) → (o ≡ Some c → p ≡ Some c) → cond b None o ≡ Some c → cond b None p ≡ Some c
picks true o p c f e = e
picks false o p c f e = f e

pub front_held : (cs all : List Clause) (n : ℕ) (c : Clause) → IsFront cs all → clause_numbered cs n ≡ Some c → clause_numbered all n ≡ Some c
front_held cs all n c f e = picks (eqb n 0) (slice_get cs (n - 1)) (slice_get all (n - 1)) c (slice_front cs all (n - 1) c f) e

-- the number of a clause that is held is one of those of the clauses
pub record IsNumber (cs : List Clause) (n : ℕ) (c : Clause) : Type 0 where
  pub from_one : 1 ≤ n
  pub in_range : n ≤ length cs
  pub got : slice_get cs (n - 1) ≡ Some c

pub number_of : (cs : List Clause) (n : ℕ) (c : Clause) → clause_numbered cs n ≡ Some c → IsNumber cs n c
number_of cs n c e =
    let f = inside (eqb n 0) refl e in
    let z : 1 ≤ n = let q = eqb-false n 0 f.0 in omega arith in
    let w = slice_get_within cs (n - 1) c f.1 in
    record { from_one = z; in_range = omega arith; got = f.1 }
  where
    inside : (b : Bool) → eqb n 0 ≡ b → cond b None (slice_get cs (n - 1)) ≡ Some c → (eqb n 0 ≡ false) × (slice_get cs (n - 1) ≡ Some c)
    inside true g e = cc
    inside false g e = (g, e)

some_inside : (a b : Clause) → Some a ≡ Some b → a ≡ b
some_inside a b e = cc

pub held_same : (cs : List Clause) (n : ℕ) (c d : Clause) → clause_numbered cs n ≡ Some c → clause_numbered cs n ≡ Some d → c ≡ d
held_same cs n c d e f = some_inside c d (sym e ∙ f)

pub known_at : (cs : List Clause) (att : List ℕ) (vars number : ℕ) → AreKnownClauses cs att vars → Contains att number → IsKnownClause cs vars number
known_at cs att vars number a h =
    let e : get_or att h.0 0 ≡ get_or att h.0 number = let n = h.1 in grind (arith, common_steps) in
    subst (λ (i : ℕ). IsKnownClause cs vars i) (e ∙ h.2) (a h.0 h.1)

-- an attached clause is the same in both
pub front_same : (cs all : List Clause) (vars number : ℕ) → IsFront cs all → IsKnownClause cs vars number → clause_numbered all number ≡ clause_numbered cs number
front_same cs all vars number f k = front_held cs all number k.clause f k.held ∙ sym k.held

pub contains_more : (att : List ℕ) (new id : ℕ) → Contains att id → Contains (att ++ new ∷ []) id
contains_more att new id h = let n = h.1 in let e : get_or (att ++ new ∷ []) h.0 id ≡ get_or att h.0 id = grind (arith, common_steps) in (h.0, grind (arith, common_steps), e ∙ h.2)

pub contains_at : (att : List ℕ) (place : ℕ) → place < length att → Contains att (slice_index att place)
contains_at att place h = (place, h, grind (arith, common_steps))

pub known_from : (cs : List Clause) (vars number : ℕ) → 1 ≤ number → number ≤ length cs → IfSome (clause_numbered cs number) (HasValues vars) → IsKnownClause cs vars number
known_from cs vars number a b h =
    let n : number - 1 < length cs = omega arith in
    let z : eqb number 0 ≡ false = ne_eqb number 0 (λ e. absurd (omega arith)) in
    let held : clause_numbered cs number ≡ Some (get_or cs (number - 1) []) = rw z (slice_get-get_or cs (number - 1) [] n) in
    record { clause = get_or cs (number - 1) []; held = held; known = subst (λ (o : Option Clause). IfSome o (HasValues vars)) held h }
