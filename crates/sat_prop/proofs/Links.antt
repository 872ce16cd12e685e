-- Numbers that are linked, as links change.
use Rattle.std.proofs.Common.{◌≡◌, ◌∙◌, ◌⊎◌, inl, inr, ℕ, zero, suc, ◌<◌, ◌≤◌, Bool, true, false, ◌||◌, ◌++◌, ◌∷◌, [], List, refl, ap, sym, subst, length, get_or, arith, ⊎_elim, eqb, cond, Option, Some, None, append_assoc, append-nil}
use Rattle.std.specs.Prelude.{nat_eq, slice_set}
use Rattle.std.specs.List.{AllByRecursion, IsDistinct}
use Rattle.std.proofs.lemmas.Grind.{common_steps}
use Rattle.std.proofs.lemmas.Bool.{cases_Bool, eqb-true, eqb-false, eq-eqb, ne_eqb, or_cases, or_left, or_right}
use Rattle.std.proofs.lemmas.List.Folds.{list_any-append}
use Rattle.std.proofs.lemmas.Map.Steps.{length-le_from_distinct_below}
use Rattle.sat_prop.specs.declared.watch_lists.Ends.{Ends}
use Rattle.sat_prop.specs.declared.watch_lists.TheConstants.{NO_WATCH}
use Rattle.sat_prop.specs.Watches.{IsList, Links, is_among, as_link, appended, first_or_end, last_of, passed_within, unlinked}

-- ---- numbers among others

pub among_front : (n x : ℕ) (xs : List ℕ) → is_among n (x ∷ xs) ≡ false → (eqb n x ≡ false) × (is_among n xs ≡ false)
among_front n x xs h = by (nat_eq n x) h
  where
    by : (b : Bool) → (b || is_among n xs) ≡ false → (b ≡ false) × (is_among n xs ≡ false)
    by true e = cc
    by false e = (refl, e)

pub among_itself : (n : ℕ) (xs : List ℕ) → is_among n (n ∷ xs) ≡ true
among_itself n xs = or_left _ _ (eq-eqb n n refl)

pub among_later : (n x : ℕ) (xs : List ℕ) → is_among n xs ≡ true → is_among n (x ∷ xs) ≡ true
among_later n x xs h = or_right _ _ h

pub among_last : (n : ℕ) (xs : List ℕ) → is_among n (xs ++ n ∷ []) ≡ true
among_last n xs = list_any-append (nat_eq n) xs (n ∷ []) ∙ or_right _ _ (among_itself n [])

-- one that is among neither is not among both together
pub among_neither : (n : ℕ) (xs ys : List ℕ) → is_among n xs ≡ false → is_among n ys ≡ false → is_among n (xs ++ ys) ≡ false
among_neither n xs ys f g = list_any-append (nat_eq n) xs ys ∙ rw (f, g) refl

pub among_split : (n : ℕ) (xs ys : List ℕ) → is_among n (xs ++ ys) ≡ false → (is_among n xs ≡ false) × (is_among n ys ≡ false)
among_split n xs ys h = by (is_among n xs) (is_among n ys) (sym (list_any-append (nat_eq n) xs ys) ∙ h)
  where
    by : (a b : Bool) → (a || b) ≡ false → (a ≡ false) × (b ≡ false)
    by true b e = cc
    by false true e = cc
    by false false e = (refl, refl)

pub among_left : (n : ℕ) (xs ys : List ℕ) → is_among n xs ≡ true → is_among n (xs ++ ys) ≡ true
among_left n xs ys h = list_any-append (nat_eq n) xs ys ∙ or_left _ _ h

pub among_right : (n : ℕ) (xs ys : List ℕ) → is_among n ys ≡ true → is_among n (xs ++ ys) ≡ true
among_right n xs ys h = list_any-append (nat_eq n) xs ys ∙ or_right (is_among n xs) _ h

pub among_either : (n : ℕ) (xs ys : List ℕ) → is_among n (xs ++ ys) ≡ true → (is_among n xs ≡ true) ⊎ (is_among n ys ≡ true)
among_either n xs ys h = or_cases (is_among n xs) (is_among n ys) (sym (list_any-append (nat_eq n) xs ys) ∙ h)

pub not_both : (b : Bool) → b ≡ true → b ≡ false → ⊥
not_both true e f = cc
not_both false e f = cc

-- ---- links

-- a link of a number that isn't passed may change
pub links_apart : (nexts : List (Option ℕ)) (first : Option ℕ) (numbers : List ℕ) (n : ℕ) (v : Option ℕ) → Links nexts first numbers → is_among n numbers ≡ false → Links (slice_set nexts n v) first numbers
links_apart nexts first [] n v h a = h
links_apart nexts first (x ∷ xs) n v h a =
    let f = among_front n x xs a in
    let d : n ≡ x → ⊥ = eqb-false n x f.0 in
    let w : x < length nexts = h.1 in
    let g : get_or (slice_set nexts n v) x None ≡ get_or nexts x None = grind (arith, common_steps) in
    (h.0, grind (arith, common_steps), h.2, subst (λ (o : Option ℕ). Links (slice_set nexts n v) o xs) (sym g) (links_apart nexts (get_or nexts x None) xs n v h.3 f.1))

-- further numbers may be linked
pub links_more : (nexts : List (Option ℕ)) (first : Option ℕ) (numbers : List ℕ) (v : Option ℕ) → Links nexts first numbers → Links (nexts ++ v ∷ []) first numbers
links_more nexts first [] v h = h
links_more nexts first (x ∷ xs) v h =
    let w : x < length nexts = h.1 in
    let g : get_or (nexts ++ v ∷ []) x None ≡ get_or nexts x None = grind (arith, common_steps) in
    (h.0, grind (arith, common_steps), h.2, subst (λ (o : Option ℕ). Links (nexts ++ v ∷ []) o xs) (sym g) (links_more nexts (get_or nexts x None) xs v h.3))

some_one : (a b : ℕ) → Some a ≡ Some b → a ≡ b
some_one a b e = cc

-- one passes the same numbers each time
pub links_once : (nexts : List (Option ℕ)) (first : Option ℕ) (xs ys : List ℕ) → Links nexts first xs → Links nexts first ys → xs ≡ ys
links_once nexts first [] [] h k = refl
links_once nexts first [] (y ∷ ys) h k = let e = sym h ∙ k.0 in cc
links_once nexts first (x ∷ xs) [] h k = let e = sym k ∙ h.0 in cc
links_once nexts first (x ∷ xs) (y ∷ ys) h k =
    let e : x ≡ y = some_one x y (sym h.0 ∙ k.0) in
    let r : xs ≡ ys = links_once nexts (get_or nexts x None) xs ys h.3 (subst (λ (n : ℕ). Links nexts (get_or nexts n None) ys) (sym e) k.3) in
    cc

pub links_below : (nexts : List (Option ℕ)) (first : Option ℕ) (xs : List ℕ) (n : ℕ) → Links nexts first xs → is_among n xs ≡ true → n < length nexts
links_below nexts first [] n h a = cc
links_below nexts first (x ∷ xs) n h a = ⊎_elim
    (λ s. subst (λ (m : ℕ). m < length nexts) (sym (eqb-true n x s)) h.1)
    (λ s. links_below nexts (get_or nexts x None) xs n h.3 s)
    (or_cases (nat_eq n x) (is_among n xs) a)

apart_all : (x : ℕ) (xs : List ℕ) → is_among x xs ≡ false → AllByRecursion (λ y. nat_eq x y ≡ false) xs
apart_all x [] h = tt
apart_all x (y ∷ ys) h = let f = among_front x y ys h in (f.0, apart_all x ys f.1)

pub links_distinct : (nexts : List (Option ℕ)) (first : Option ℕ) (xs : List ℕ) → Links nexts first xs → IsDistinct nat_eq xs
unfolding IsDistinct
links_distinct nexts first [] h = tt
links_distinct nexts first (x ∷ xs) h = (apart_all x xs h.2, links_distinct nexts (get_or nexts x None) xs h.3)

-- so they are no more than there are links
pub links_few : (nexts : List (Option ℕ)) (first : Option ℕ) (xs : List ℕ) → Links nexts first xs → length xs ≤ length nexts
links_few nexts first xs h = length-le_from_distinct_below xs (length nexts) (links_distinct nexts first xs h) (λ q a. links_below nexts first xs q h a)

-- of those that are linked none of the first ones is among the others
pub links_split : (nexts : List (Option ℕ)) (first : Option ℕ) (xs ys : List ℕ) (n : ℕ) → Links nexts first (xs ++ ys) → is_among n xs ≡ true → is_among n ys ≡ false
links_split nexts first [] ys n h a = cc
links_split nexts first (x ∷ xs) ys n h a = ⊎_elim
    (λ s. subst (λ (m : ℕ). is_among m ys ≡ false) (sym (eqb-true n x s)) (among_split x xs ys h.2).1)
    (λ s. links_split nexts (get_or nexts x None) xs ys n h.3 s)
    (or_cases (nat_eq n x) (is_among n xs) a)

-- ---- links as numbers

-- the number of a watch is a link to it
pub linked_to : (number : ℕ) → number < NO_WATCH → as_link number ≡ Some number
linked_to number h = grind (arith, common_steps)

-- a link that isn't the end is to a number
pub goes_on : (next : ℕ) → (next ≡ NO_WATCH → ⊥) → as_link next ≡ Some next
goes_on next h = grind (arith, common_steps)

pub ends : (next : ℕ) → next ≡ NO_WATCH → as_link next ≡ None
ends next e = rw e refl

-- so numbers with the same link are the same
pub link_once : (a b : ℕ) → as_link a ≡ as_link b → a ≡ b
link_once a b e = ⊎_elim
    (λ p. ⊎_elim (λ q. eqb-true a NO_WATCH p ∙ sym (eqb-true b NO_WATCH q)) (λ q. let x = sym (ends a (eqb-true a NO_WATCH p)) ∙ e ∙ goes_on b (eqb-false b NO_WATCH q) in cc) (cases_Bool (nat_eq b NO_WATCH)))
    (λ p. ⊎_elim (λ q. let x = sym (ends b (eqb-true b NO_WATCH q)) ∙ sym e ∙ goes_on a (eqb-false a NO_WATCH p) in cc) (λ q. some_one a b (sym (goes_on a (eqb-false a NO_WATCH p)) ∙ e ∙ goes_on b (eqb-false b NO_WATCH q))) (cases_Bool (nat_eq b NO_WATCH)))
    (cases_Bool (nat_eq a NO_WATCH))

-- from the first of the rest on one passes the rest
pub links_rest : (nexts : List (Option ℕ)) (first : Option ℕ) (done rest : List ℕ) → length nexts ≤ NO_WATCH → Links nexts first (done ++ rest) → Links nexts (as_link (first_or_end rest)) rest
links_rest nexts first [] [] few h = ends NO_WATCH refl
links_rest nexts first [] (x ∷ xs) few h = let w : x < length nexts = h.1 in (linked_to x (omega arith), h.1, h.2, h.3)
links_rest nexts first (y ∷ ys) rest few h = links_rest nexts (get_or nexts y None) ys rest few h.3

-- a link is to the first of those that one passes from it on
pub links_first : (nexts : List (Option ℕ)) (link : Option ℕ) (numbers : List ℕ) → length nexts ≤ NO_WATCH → Links nexts link numbers → link ≡ as_link (first_or_end numbers)
links_first nexts link [] few k = k ∙ sym (ends NO_WATCH refl)
links_first nexts link (x ∷ xs) few k = let w : x < length nexts = k.1 in k.0 ∙ sym (linked_to x (omega arith))

-- the link from one is to the first of those after it
pub link_after : (nexts : List (Option ℕ)) (first : Option ℕ) (done : List ℕ) (n : ℕ) (rest : List ℕ) → length nexts ≤ NO_WATCH → Links nexts first (done ++ n ∷ rest) → get_or nexts n None ≡ as_link (first_or_end rest)
link_after nexts first done n rest few h = links_first nexts (get_or nexts n None) rest few (links_rest nexts first done (n ∷ rest) few h).3

-- those that one passes, where one may pass as many
pub passed_all : (more : ℕ) (nexts : List (Option ℕ)) (link : Option ℕ) (numbers : List ℕ) → Links nexts link numbers → length numbers ≤ more → passed_within more nexts link ≡ numbers
passed_all zero nexts link [] h f = refl
passed_all zero nexts link (x ∷ xs) h f = absurd (omega (arith, f))
passed_all (suc more) nexts link [] h f = ap (passed_within (suc more) nexts) h
passed_all (suc more) nexts link (x ∷ xs) h f = ap (passed_within (suc more) nexts) h.0 ∙ ap (λ (ys : List ℕ). x ∷ ys) (passed_all more nexts (get_or nexts x None) xs h.3 (omega (arith, f)))

pub passed_none : (more : ℕ) (nexts : List (Option ℕ)) → passed_within more nexts None ≡ []
passed_none zero nexts = refl
passed_none (suc more) nexts = refl

-- ---- the last of numbers

pub last_append : (xs : List ℕ) (y : ℕ) (ys : List ℕ) → last_of (xs ++ y ∷ ys) ≡ last_of (y ∷ ys)
last_append [] y ys = refl
last_append (x ∷ []) y ys = refl
last_append (x ∷ z ∷ xs) y ys = last_append (z ∷ xs) y ys

last_view : (xs : List ℕ) → (xs ≡ []) ⊎ ((ys : List ℕ) × (n : ℕ) × (xs ≡ ys ++ n ∷ []))
last_view [] = inl refl
last_view (x ∷ xs) = more (last_view xs)
  where
    more : (xs ≡ []) ⊎ ((ys : List ℕ) × (n : ℕ) × (xs ≡ ys ++ n ∷ [])) → ((x ∷ xs) ≡ []) ⊎ ((ys : List ℕ) × (n : ℕ) × ((x ∷ xs) ≡ ys ++ n ∷ []))
    more (inl e) = inr ([], x, ap (λ (ys : List ℕ). x ∷ ys) e)
    more (inr s) = inr (x ∷ s.0, s.1, ap (λ (ys : List ℕ). x ∷ ys) s.2)

-- what holds of no numbers, and of those with a last one
pub by_last : (P : List ℕ → Type 0) → P [] → ((ys : List ℕ) (n : ℕ) → P (ys ++ n ∷ [])) → (xs : List ℕ) → P xs
by_last P p f xs = ⊎_elim (λ e. subst P (sym e) p) (λ s. subst P (sym s.2) (f s.0 s.1)) (last_view xs)

pub last_is_among : (xs : List ℕ) → (last_of xs ≡ NO_WATCH → ⊥) → is_among (last_of xs) xs ≡ true
last_is_among = by_last (λ xs. (last_of xs ≡ NO_WATCH → ⊥) → is_among (last_of xs) xs ≡ true)
    (λ d. absurd (d refl))
    (λ ys n d. subst (λ (k : ℕ). is_among k (ys ++ n ∷ []) ≡ true) (sym (last_append ys n [])) (among_last n ys))

-- ---- another link after one of them

-- the link from one changes, where there is that one
abbrev pub relinked : List (Option ℕ) → ℕ → Option ℕ → List (Option ℕ)
relinked nexts before link = cond (eqb before NO_WATCH) nexts (slice_set nexts before link)

pub relinked_none : (nexts : List (Option ℕ)) (before : ℕ) (link : Option ℕ) → before ≡ NO_WATCH → relinked nexts before link ≡ nexts
relinked_none nexts before link e = let q = eq-eqb before NO_WATCH e in rw q refl

pub relinked_one : (nexts : List (Option ℕ)) (before : ℕ) (link : Option ℕ) → (before ≡ NO_WATCH → ⊥) → relinked nexts before link ≡ slice_set nexts before link
relinked_one nexts before link d = let q = ne_eqb before NO_WATCH d in rw q refl

pub relinked_length : (nexts : List (Option ℕ)) (before : ℕ) (link : Option ℕ) → length (relinked nexts before link) ≡ length nexts
relinked_length nexts before link = ⊎_elim
    (λ q. ap length (relinked_none nexts before link (eqb-true before NO_WATCH q)))
    (λ q. ap length (relinked_one nexts before link (eqb-false before NO_WATCH q)) ∙ set_length nexts before link)
    (cases_Bool (eqb before NO_WATCH))
  where
    set_length : (nexts : List (Option ℕ)) (n : ℕ) (v : Option ℕ) → length (slice_set nexts n v) ≡ length nexts
    set_length nexts n v = grind (arith, common_steps)

-- numbers without that one stay linked
pub relinked_apart : (nexts : List (Option ℕ)) (first : Option ℕ) (numbers : List ℕ) (before : ℕ) (link : Option ℕ) → Links nexts first numbers → ((before ≡ NO_WATCH → ⊥) → is_among before numbers ≡ false) → Links (relinked nexts before link) first numbers
relinked_apart nexts first numbers before link h a = ⊎_elim
    (λ q. subst (λ (ns : List (Option ℕ)). Links ns first numbers) (sym (relinked_none nexts before link (eqb-true before NO_WATCH q))) h)
    (λ q. let d = eqb-false before NO_WATCH q in subst (λ (ns : List (Option ℕ)). Links ns first numbers) (sym (relinked_one nexts before link d)) (links_apart nexts first numbers before link h (a d)))
    (cases_Bool (eqb before NO_WATCH))

-- after one of them other numbers follow
links_relinked : (nexts : List (Option ℕ)) (first : Option ℕ) (xs : List ℕ) (d : ℕ) (old new : List ℕ) (link : Option ℕ) → Links nexts first (xs ++ d ∷ old) → Links nexts link new → ((q : ℕ) → is_among q (xs ++ d ∷ []) ≡ true → is_among q new ≡ false) → Links (slice_set nexts d link) first (xs ++ d ∷ new)
links_relinked nexts first [] d old new link h k a =
    let w : d < length nexts = h.1 in
    let f = a d (among_itself d []) in
    let g : get_or (slice_set nexts d link) d None ≡ link = grind (arith, common_steps) in
    (h.0, grind (arith, common_steps), f, subst (λ (o : Option ℕ). Links (slice_set nexts d link) o new) (sym g) (links_apart nexts link new d link k f))
links_relinked nexts first (y ∷ ys) d old new link h k a =
    let w : y < length nexts = h.1 in
    let s = among_split y ys (d ∷ old) h.2 in
    let t = among_front y d old s.1 in
    let e : y ≡ d → ⊥ = eqb-false y d t.0 in
    let n = a y (among_itself y (ys ++ d ∷ [])) in
    let z : is_among y (d ∷ new) ≡ false = rw (t.0, n) refl in
    let g : get_or (slice_set nexts d link) y None ≡ get_or nexts y None = grind (arith, common_steps) in (
      h.0,
      grind (arith, common_steps),
      among_neither y ys (d ∷ new) s.0 z,
      subst (λ (o : Option ℕ). Links (slice_set nexts d link) o (ys ++ d ∷ new)) (sym g)
          (links_relinked nexts (get_or nexts y None) ys d old new link h.3 k (λ q b. a q (among_later q y (ys ++ d ∷ []) b))),
    )

-- ---- a list changes

pub list_apart : (nexts : List (Option ℕ)) (e : Ends) (numbers : List ℕ) (before : ℕ) (link : Option ℕ) → IsList nexts e numbers → ((before ≡ NO_WATCH → ⊥) → is_among before numbers ≡ false) → IsList (relinked nexts before link) e numbers
list_apart nexts e numbers before link i a = record { links = relinked_apart nexts (as_link e.first) numbers before link i.links a; last = i.last }

-- one that is linked to none is appended
pub list_appended : (nexts : List (Option ℕ)) (e : Ends) (n : ℕ) → length nexts ≤ NO_WATCH → n < length nexts → get_or nexts n None ≡ None → (numbers : List ℕ) → IsList nexts e numbers → is_among n numbers ≡ false → IsList (relinked nexts e.last (Some n)) (appended e n) (numbers ++ n ∷ [])
list_appended nexts e n few w g = by_last (λ xs. IsList nexts e xs → is_among n xs ≡ false → IsList (relinked nexts e.last (Some n)) (appended e n) (xs ++ n ∷ []))
    (λ i f. let q = eq-eqb e.last NO_WATCH i.last in rw q (record { links = (linked_to n (omega arith), w, refl, g); last = refl }))
    (λ ys d i f.
    let l : e.last ≡ d = i.last ∙ last_append ys d [] in
    let b : d < length nexts = links_below nexts (as_link e.first) (ys ++ d ∷ []) d i.links (among_last d ys) in
    let apart : e.last ≡ NO_WATCH → ⊥ = λ z. absurd (omega (arith, z, l, b, few)) in
    let q = ne_eqb e.last NO_WATCH apart in
    let alone : Links nexts (Some n) (n ∷ []) = (refl, w, refl, g) in
    let all : Links (slice_set nexts e.last (Some n)) (as_link e.first) (ys ++ d ∷ n ∷ []) = subst (λ (k : ℕ). Links (slice_set nexts k (Some n)) (as_link e.first) (ys ++ d ∷ n ∷ [])) (sym l)
    (links_relinked nexts (as_link e.first) ys d [] (n ∷ []) (Some n) i.links alone (λ k t. only k (λ z. not_both _ (subst (λ (m : ℕ). is_among m (ys ++ d ∷ []) ≡ true) z t) f))) in
    rw q (record { links = subst (λ (xs : List ℕ). Links (slice_set nexts e.last (Some n)) (as_link e.first) xs) (sym (append_assoc ys (d ∷ []) (n ∷ []))) all; last = sym (last_append (ys ++ d ∷ []) n []) }))
  where
    only : (k : ℕ) → (k ≡ n → ⊥) → is_among k (n ∷ []) ≡ false
    only k d = let q = ne_eqb k n d in rw q refl

last_left : (done : List ℕ) (n : ℕ) (rest : List ℕ) (last : ℕ) → (rest ≡ []) ⊎ (first_or_end rest < NO_WATCH) → last ≡ last_of (done ++ n ∷ rest) → cond (eqb (first_or_end rest) NO_WATCH) (last_of done) last ≡ last_of (done ++ rest)
last_left done n [] last s e = ap last_of (sym (append-nil done))
last_left done n (r ∷ rs) last s e =
    let b : r < NO_WATCH = small s in
    let q = ne_eqb r NO_WATCH (λ z. absurd (omega (arith, z, b))) in
    rw q (e ∙ last_append done n (r ∷ rs) ∙ sym (last_append done r rs))
  where
    small : ((r ∷ rs) ≡ []) ⊎ (r < NO_WATCH) → r < NO_WATCH
    small (inl z) = cc
    small (inr b) = b

-- one leaves
pub list_unlinked : (nexts : List (Option ℕ)) (e : Ends) (n : ℕ) (rest : List ℕ) → length nexts ≤ NO_WATCH → (done : List ℕ) → IsList nexts e (done ++ n ∷ rest) → IsList (relinked nexts (last_of done) (as_link (first_or_end rest))) (unlinked e (last_of done) (first_or_end rest)) (done ++ rest)
list_unlinked nexts e n rest few = by_last (λ done. IsList nexts e (done ++ n ∷ rest) → IsList (relinked nexts (last_of done) (as_link (first_or_end rest))) (unlinked e (last_of done) (first_or_end rest)) (done ++ rest))
    (λ i. record { links = after [] i.links; last = last_left [] n rest e.last (small [] i.links) i.last })
    (λ ys d i.
    let f : last_of (ys ++ d ∷ []) ≡ d = last_append ys d [] in
    let whole : Links nexts (as_link e.first) (ys ++ d ∷ n ∷ rest) = subst (λ (xs : List ℕ). Links nexts (as_link e.first) xs) (append_assoc ys (d ∷ []) (n ∷ rest)) i.links in
    let b : d < length nexts = links_below nexts (as_link e.first) ((ys ++ d ∷ []) ++ n ∷ rest) d i.links (among_left d (ys ++ d ∷ []) (n ∷ rest) (among_last d ys)) in
    let q = ne_eqb d NO_WATCH (λ z. absurd (omega (arith, z, b, few))) in
    let l : cond (eqb (first_or_end rest) NO_WATCH) d e.last ≡ last_of ((ys ++ d ∷ []) ++ rest) = subst (λ (k : ℕ). cond (eqb (first_or_end rest) NO_WATCH) k e.last ≡ last_of ((ys ++ d ∷ []) ++ rest)) f (last_left (ys ++ d ∷ []) n rest e.last (small (ys ++ d ∷ []) i.links) i.last) in
    let all : Links (slice_set nexts d (as_link (first_or_end rest))) (as_link e.first) (ys ++ d ∷ rest) = links_relinked nexts (as_link e.first) ys d (n ∷ rest) rest (as_link (first_or_end rest)) whole (after (ys ++ d ∷ []) i.links)
    (λ k t. (among_front k n rest (links_split nexts (as_link e.first) (ys ++ d ∷ []) (n ∷ rest) k i.links t)).1) in
    rw (f, q) (record { links = subst (λ (xs : List ℕ). Links (slice_set nexts d (as_link (first_or_end rest))) (as_link e.first) xs) (sym (append_assoc ys (d ∷ []) rest)) all; last = l }))
  where
    after : (done : List ℕ) → Links nexts (as_link e.first) (done ++ n ∷ rest) → Links nexts (as_link (first_or_end rest)) rest
    after done h = links_rest nexts (get_or nexts n None) [] rest few (links_rest nexts (as_link e.first) done (n ∷ rest) few h).3

    small : (done : List ℕ) → Links nexts (as_link e.first) (done ++ n ∷ rest) → (rest ≡ []) ⊎ (first_or_end rest < NO_WATCH)
    small done h = by rest (after done h)
      where
        by : (xs : List ℕ) → Links nexts (as_link (first_or_end xs)) xs → (xs ≡ []) ⊎ (first_or_end xs < NO_WATCH)
        by [] k = inl refl
        by (x ∷ xs) k = let w : x < length nexts = k.1 in inr (omega arith)
