-- Variables that move in a heap, with the places that are kept of them.
use Rattle.std.proofs.Common.{◌≡◌, ◌∙◌, ℕ, ◌+◌, ◌*◌, ◌<◌, ◌≤◌, Bool, true, false, not, ◌++◌, ◌∷◌, [], List, refl, ap, sym, length, take, drop, get_or, set, eqb, arith, subst, ⊎_elim, replicate}
use Rattle.std.specs.Prelude.{slice_set, cond}
use Rattle.std.proofs.lemmas.Grind.{common_steps}
use Rattle.std.proofs.lemmas.Bool.{cases_eq, cases_lt, ne_eqb}
use Rattle.std.proofs.lemmas.List.{get_or-set_same, get_or-set_other, length-set, set-get_or, set_at, map-set, map-append, get_or-map, get_or-replicate, take-append-le, ext_get_or}
use Rattle.std.proofs.lemmas.List.Sums.{sum_by-set, sum_by-append, count_by-le-length}
use Rattle.std.proofs.lemmas.List.Folds.{sum_by-replicate}
use Rattle.sat_order.specs.Waiting.{waits}
use Rattle.sat_solve.specs.declared.heap.TheConstants.{ABSENT}
use Rattle.sat_solve.specs.Heap.{has_place, held_of, ArePlaced}

-- what a variable has that has a place,
present : (place : ℕ) → (place ≡ ABSENT → ⊥) → not (eqb place ABSENT) ≡ true
present place d = ap not (ne_eqb place ABSENT d)

-- and whether it has one
pub waits_at : (places : List ℕ) (var : ℕ) → var < length places → waits (has_place places) var ≡ not (eqb (get_or places var 0) ABSENT)
waits_at places var k = grind (arith, common_steps)

pub waits_present : (places : List ℕ) (var : ℕ) → var < length places → (get_or places var 0 ≡ ABSENT → ⊥) → waits (has_place places) var ≡ true
waits_present places var k d = waits_at places var k ∙ present (get_or places var 0) d

-- a place is not the one of those that have none
pub below_absent : (place count : ℕ) → place < count → count ≤ ABSENT → place ≡ ABSENT → ⊥
below_absent place count k l e = let z : ABSENT < count = subst (λ (n : ℕ). n < count) e k in absurd (omega arith)

-- with a place, a variable waits
pub place_set : (places : List ℕ) (var place : ℕ) → (place ≡ ABSENT → ⊥) → has_place (slice_set places var place) ≡ slice_set (has_place places) var true
place_set places var place d = map-set (λ p. not (eqb p ABSENT)) places var place ∙ ap (λ (b : Bool). set (has_place places) var b) (present place d)

-- and without one it doesn't
pub place_lost : (places : List ℕ) (var : ℕ) → has_place (slice_set places var ABSENT) ≡ slice_set (has_place places) var false
place_lost places var = map-set (λ p. not (eqb p ABSENT)) places var ABSENT

-- One variable moves to the place that is free, and its own is free then: the variable that is put there at last stands as well as before.
module _ (vars places : List ℕ) (p q x a : ℕ) (within : p < length vars) (other : q < length vars) (apart : q ≡ p → ⊥) (known : x < length places) (is : a ≡ get_or vars q 0)
    (f : ArePlaced (slice_set vars p x) (slice_set places x p))
  where
    len : length (slice_set vars p x) ≡ length vars
    len = length-set vars p x

    wide : length (slice_set places x p) ≡ length places
    wide = length-set places x p

    limit : length vars ≤ ABSENT
    limit = subst (λ (n : ℕ). n ≤ ABSENT) len f.limit

    at_p : get_or (slice_set vars p x) p 0 ≡ x
    at_p = get_or-set_same vars p x 0 within

    at_q : get_or (slice_set vars p x) q 0 ≡ a
    at_q = get_or-set_other vars p q x 0 apart ∙ sym is

    of_x : get_or (slice_set places x p) x 0 ≡ p
    of_x = get_or-set_same places x p 0 known

    of_a : get_or (slice_set places x p) a 0 ≡ q
    of_a = ap (λ (v : ℕ). get_or (slice_set places x p) v 0) (sym at_q) ∙ f.placed q (rw len other)

    differ : a ≡ x → ⊥
    differ e = apart (sym of_a ∙ ap (λ (v : ℕ). get_or (slice_set places x p) v 0) e ∙ of_x)

    pub moved_known : a < length places
    moved_known = subst (λ (n : ℕ). a < n) wide (subst (λ (v : ℕ). v < length (slice_set places x p)) at_q (f.known q (rw len other)))

    abbrev H : List ℕ
    H = slice_set (slice_set vars p a) q x

    abbrev K : List ℕ
    K = slice_set (slice_set places a p) x q

    long : length H ≡ length vars
    long = length-set (slice_set vars p a) q x ∙ length-set vars p a

    broad : length K ≡ length places
    broad = length-set (slice_set places a p) x q ∙ length-set places a p

    H_q : get_or H q 0 ≡ x
    H_q = get_or-set_same (slice_set vars p a) q x 0 (rw (length-set vars p a) other)

    H_p : get_or H p 0 ≡ a
    H_p = get_or-set_other (slice_set vars p a) q p x 0 (λ e. apart (sym e)) ∙ get_or-set_same vars p a 0 within

    H_else : (i : ℕ) → (i ≡ q → ⊥) → (i ≡ p → ⊥) → get_or H i 0 ≡ get_or (slice_set vars p x) i 0
    H_else i d e = get_or-set_other (slice_set vars p a) q i x 0 d ∙ get_or-set_other vars p i a 0 e ∙ sym (get_or-set_other vars p i x 0 e)

    K_x : get_or K x 0 ≡ q
    K_x = get_or-set_same (slice_set places a p) x q 0 (rw (length-set places a p) known)

    K_a : get_or K a 0 ≡ p
    K_a = get_or-set_other (slice_set places a p) x a q 0 differ ∙ get_or-set_same places a p 0 moved_known

    K_else : (v : ℕ) → (v ≡ x → ⊥) → (v ≡ a → ⊥) → get_or K v 0 ≡ get_or (slice_set places x p) v 0
    K_else v d e = get_or-set_other (slice_set places a p) x v q 0 d ∙ get_or-set_other places a v p 0 e ∙ sym (get_or-set_other places x v p 0 d)

    stands_else : (i : ℕ) → i < length vars → (i ≡ q → ⊥) → (i ≡ p → ⊥) → (get_or H i 0 < length places) × (get_or K (get_or H i 0) 0 ≡ i)
    stands_else i k d e =
        let w = get_or (slice_set vars p x) i 0 in
        let h = H_else i d e in
        let g : get_or (slice_set places x p) w 0 ≡ i = f.placed i (rw len k) in
        let b : w < length places = subst (λ (n : ℕ). w < n) wide (f.known i (rw len k)) in
        let not_x : w ≡ x → ⊥ = λ z. e (sym g ∙ ap (λ (v : ℕ). get_or (slice_set places x p) v 0) z ∙ of_x) in
        let not_a : w ≡ a → ⊥ = λ z. d (sym g ∙ ap (λ (v : ℕ). get_or (slice_set places x p) v 0) z ∙ of_a) in
        (subst (λ (v : ℕ). v < length places) (sym h) b, ap (λ (v : ℕ). get_or K v 0) h ∙ K_else w not_x not_a ∙ g)

    -- what stands at a place
    stands : (i : ℕ) → i < length vars → (get_or H i 0 < length places) × (get_or K (get_or H i 0) 0 ≡ i)
    stands i k = ⊎_elim
        (λ e. subst (λ (j : ℕ). (get_or H j 0 < length places) × (get_or K (get_or H j 0) 0 ≡ j)) (sym e) (subst (λ (v : ℕ). v < length places) (sym H_q) known, ap (λ (v : ℕ). get_or K v 0) H_q ∙ K_x))
        (λ d. ⊎_elim
        (λ e. subst (λ (j : ℕ). (get_or H j 0 < length places) × (get_or K (get_or H j 0) 0 ≡ j)) (sym e) (subst (λ (v : ℕ). v < length places) (sym H_p) moved_known, ap (λ (v : ℕ). get_or K v 0) H_p ∙ K_a))
        (λ e. stands_else i k d e)
        (cases_eq i p))
        (cases_eq i q)

    where_else : (v : ℕ) → v < length places → (get_or K v 0 ≡ ABSENT → ⊥) → (v ≡ x → ⊥) → (v ≡ a → ⊥) → (get_or K v 0 < length vars) × (get_or H (get_or K v 0) 0 ≡ v)
    where_else v k there d e =
        let i = get_or (slice_set places x p) v 0 in
        let h = K_else v d e in
        let t : i ≡ ABSENT → ⊥ = λ z. there (h ∙ z) in
        let g : get_or (slice_set vars p x) i 0 ≡ v = f.found v (rw wide k) t in
        let b : i < length vars = subst (λ (n : ℕ). i < n) len (f.within v (rw wide k) t) in
        let not_p : i ≡ p → ⊥ = λ z. d (sym g ∙ ap (λ (j : ℕ). get_or (slice_set vars p x) j 0) z ∙ at_p) in
        let not_q : i ≡ q → ⊥ = λ z. e (sym g ∙ ap (λ (j : ℕ). get_or (slice_set vars p x) j 0) z ∙ at_q) in
        (subst (λ (j : ℕ). j < length vars) (sym h) b, ap (λ (j : ℕ). get_or H j 0) h ∙ H_else i not_q not_p ∙ g)

    -- where a variable stands
    where_at : (v : ℕ) → v < length places → (get_or K v 0 ≡ ABSENT → ⊥) → (get_or K v 0 < length vars) × (get_or H (get_or K v 0) 0 ≡ v)
    where_at v k there = ⊎_elim
        (λ e. subst (λ (u : ℕ). (get_or K u 0 < length vars) × (get_or H (get_or K u 0) 0 ≡ u)) (sym e) (subst (λ (i : ℕ). i < length vars) (sym K_x) other, ap (λ (i : ℕ). get_or H i 0) K_x ∙ H_q))
        (λ d. ⊎_elim
        (λ e. subst (λ (u : ℕ). (get_or K u 0 < length vars) × (get_or H (get_or K u 0) 0 ≡ u)) (sym e) (subst (λ (i : ℕ). i < length vars) (sym K_a) within, ap (λ (i : ℕ). get_or H i 0) K_a ∙ H_p))
        (λ e. where_else v k there d e)
        (cases_eq v a))
        (cases_eq v x)

    pub moved : ArePlaced (slice_set (slice_set vars p a) q x) (slice_set (slice_set places a p) x q)
    moved = record {
      limit = rw long limit;
      known = λ i k. let s = stands i (subst (λ (n : ℕ). i < n) long k) in rw broad s.0;
      placed = λ i k. (stands i (subst (λ (n : ℕ). i < n) long k)).1;
      within = λ v k there. rw long (where_at v (subst (λ (n : ℕ). v < n) broad k) there).0;
      found = λ v k there. (where_at v (subst (λ (n : ℕ). v < n) broad k) there).1;
    }

    -- and the same variables have a place
    pub moved_waiting : has_place (slice_set (slice_set places a p) x q) ≡ has_place (slice_set places x p)
    moved_waiting =
        let absent_p = below_absent p (length vars) within limit in
        let absent_q = below_absent q (length vars) other limit in
        let on : waits (has_place (slice_set places x p)) a ≡ true = waits_present (slice_set places x p) a (rw wide moved_known) (λ e. absent_q (sym of_a ∙ e)) in
        let g : get_or (has_place places) a false ≡ true = sym (get_or-set_other (has_place places) x a true false differ) ∙ ap (λ (bs : List Bool). get_or bs a false) (sym (place_set places x p absent_p)) ∙ on in
        let s : set (has_place places) a true ≡ has_place places = ap (λ (b : Bool). set (has_place places) a b) (sym g) ∙ set-get_or (has_place places) a false in
        place_set (slice_set places a p) x q absent_q ∙ ap (λ (bs : List Bool). set bs x true) (place_set places a p absent_p ∙ s) ∙ sym (place_set places x p absent_p)

-- a variable without a place takes that of another, which then has none
pub replaced : (vars places : List ℕ) (p x a : ℕ) → ArePlaced vars places → p < length vars → x < length places → get_or places x 0 ≡ ABSENT → a ≡ get_or vars p 0 → ArePlaced (slice_set vars p x) (slice_set (slice_set places a ABSENT) x p)
replaced vars places p x a f within known none is =
    let k_a : a < length places = subst (λ (v : ℕ). v < length places) (sym is) (f.known p within) in
    let of_a : get_or places a 0 ≡ p = ap (λ (v : ℕ). get_or places v 0) is ∙ f.placed p within in
    let there_p = below_absent p (length vars) within f.limit in
    let long = length-set vars p x in
    let once = length-set places a ABSENT in
    let wide : length (slice_set (slice_set places a ABSENT) x p) ≡ length places = length-set (slice_set places a ABSENT) x p ∙ once in
    let at_p : get_or (slice_set vars p x) p 0 ≡ x = get_or-set_same vars p x 0 within in
    let of_x : get_or (slice_set (slice_set places a ABSENT) x p) x 0 ≡ p = get_or-set_same (slice_set places a ABSENT) x p 0 (rw once known) in
    let stays : (v : ℕ) → (v ≡ x → ⊥) → (v ≡ a → ⊥) → get_or (slice_set (slice_set places a ABSENT) x p) v 0 ≡ get_or places v 0 = λ v d e. get_or-set_other (slice_set places a ABSENT) x v p 0 d ∙ get_or-set_other places a v ABSENT 0 e in
    let apart : (i : ℕ) → i < length vars → get_or vars i 0 ≡ x → ⊥ = λ i k z. below_absent i (length vars) k f.limit (sym (f.placed i k) ∙ ap (λ (v : ℕ). get_or places v 0) z ∙ none) in
    let gone : (v : ℕ) → (v ≡ x → ⊥) → (get_or (slice_set (slice_set places a ABSENT) x p) v 0 ≡ ABSENT → ⊥) → v ≡ a → ⊥ = λ v d there e.
    there (get_or-set_other (slice_set places a ABSENT) x v p 0 d ∙ ap (λ (u : ℕ). get_or (slice_set places a ABSENT) u 0) e ∙ get_or-set_same places a ABSENT 0 k_a) in
    let stands : (i : ℕ) → i < length vars → (get_or (slice_set vars p x) i 0 < length places) × (get_or (slice_set (slice_set places a ABSENT) x p) (get_or (slice_set vars p x) i 0) 0 ≡ i) = λ i k. ⊎_elim
    (λ e. subst (λ (j : ℕ). (get_or (slice_set vars p x) j 0 < length places) × (get_or (slice_set (slice_set places a ABSENT) x p) (get_or (slice_set vars p x) j 0) 0 ≡ j)) (sym e)
    (subst (λ (v : ℕ). v < length places) (sym at_p) known, ap (λ (v : ℕ). get_or (slice_set (slice_set places a ABSENT) x p) v 0) at_p ∙ of_x))
    (λ e.
    let h = get_or-set_other vars p i x 0 e in
    let g = f.placed i k in
    let not_a : get_or vars i 0 ≡ a → ⊥ = λ z. e (sym g ∙ ap (λ (v : ℕ). get_or places v 0) z ∙ of_a) in
    (subst (λ (v : ℕ). v < length places) (sym h) (f.known i k), ap (λ (v : ℕ). get_or (slice_set (slice_set places a ABSENT) x p) v 0) h ∙ stays (get_or vars i 0) (apart i k) not_a ∙ g))
    (cases_eq i p) in
    let where_at : (v : ℕ) → v < length places → (get_or (slice_set (slice_set places a ABSENT) x p) v 0 ≡ ABSENT → ⊥) → (get_or (slice_set (slice_set places a ABSENT) x p) v 0 < length vars) × (get_or (slice_set vars p x) (get_or (slice_set (slice_set places a ABSENT) x p) v 0) 0 ≡ v) = λ v k there. ⊎_elim
    (λ e. subst (λ (u : ℕ). (get_or (slice_set (slice_set places a ABSENT) x p) u 0 < length vars) × (get_or (slice_set vars p x) (get_or (slice_set (slice_set places a ABSENT) x p) u 0) 0 ≡ u)) (sym e)
    (subst (λ (i : ℕ). i < length vars) (sym of_x) within, ap (λ (i : ℕ). get_or (slice_set vars p x) i 0) of_x ∙ at_p))
    (λ d.
    let e = gone v d there in
    let h = stays v d e in
    let t : get_or places v 0 ≡ ABSENT → ⊥ = λ z. there (h ∙ z) in
    let g = f.found v k t in
    let not_p : get_or places v 0 ≡ p → ⊥ = λ z. e (sym g ∙ ap (λ (i : ℕ). get_or vars i 0) z ∙ sym is) in
    (subst (λ (i : ℕ). i < length vars) (sym h) (f.within v k t), ap (λ (i : ℕ). get_or (slice_set vars p x) i 0) h ∙ get_or-set_other vars p (get_or places v 0) x 0 not_p ∙ g))
    (cases_eq v x) in
    record {
      limit = rw long f.limit;
      known = λ i k. rw wide (stands i (subst (λ (n : ℕ). i < n) long k)).0;
      placed = λ i k. (stands i (subst (λ (n : ℕ). i < n) long k)).1;
      within = λ v k there. rw long (where_at v (subst (λ (n : ℕ). v < n) wide k) there).0;
      found = λ v k there. (where_at v (subst (λ (n : ℕ). v < n) wide k) there).1;
    }

-- a variable without a place gets the one behind the last
pub appended : (vars places : List ℕ) (x : ℕ) → ArePlaced vars places → length vars < ABSENT → x < length places → get_or places x 0 ≡ ABSENT → ArePlaced (vars ++ x ∷ []) (slice_set places x (length vars))
appended vars places x f room known none =
    let n = length vars in
    let long : length (vars ++ x ∷ []) ≡ length vars + 1 = grind (arith, common_steps) in
    let wide = length-set places x (length vars) in
    let at_n : get_or (vars ++ x ∷ []) (length vars) 0 ≡ x = grind (arith, common_steps) in
    let of_x : get_or (slice_set places x (length vars)) x 0 ≡ length vars = get_or-set_same places x (length vars) 0 known in
    let read : (i : ℕ) → i < length vars → get_or (vars ++ x ∷ []) i 0 ≡ get_or vars i 0 = λ i k. grind (arith, common_steps) in
    let stays : (v : ℕ) → (v ≡ x → ⊥) → get_or (slice_set places x (length vars)) v 0 ≡ get_or places v 0 = λ v d. get_or-set_other places x v (length vars) 0 d in
    let stands : (i : ℕ) → i < length vars + 1 → (get_or (vars ++ x ∷ []) i 0 < length places) × (get_or (slice_set places x (length vars)) (get_or (vars ++ x ∷ []) i 0) 0 ≡ i) = λ i k. ⊎_elim
    (λ b.
    let h = read i b in
    let g = f.placed i b in
    let d : get_or vars i 0 ≡ x → ⊥ = λ z. below_absent i (length vars) b f.limit (sym g ∙ ap (λ (v : ℕ). get_or places v 0) z ∙ none) in
    (subst (λ (v : ℕ). v < length places) (sym h) (f.known i b), ap (λ (v : ℕ). get_or (slice_set places x (length vars)) v 0) h ∙ stays (get_or vars i 0) d ∙ g))
    (λ b.
    let e : i ≡ length vars = omega arith in
    subst (λ (j : ℕ). (get_or (vars ++ x ∷ []) j 0 < length places) × (get_or (slice_set places x (length vars)) (get_or (vars ++ x ∷ []) j 0) 0 ≡ j)) (sym e)
    (subst (λ (v : ℕ). v < length places) (sym at_n) known, ap (λ (v : ℕ). get_or (slice_set places x (length vars)) v 0) at_n ∙ of_x))
    (cases_lt i (length vars)) in
    let where_at : (v : ℕ) → v < length places → (get_or (slice_set places x (length vars)) v 0 ≡ ABSENT → ⊥) → (get_or (slice_set places x (length vars)) v 0 < length vars + 1) × (get_or (vars ++ x ∷ []) (get_or (slice_set places x (length vars)) v 0) 0 ≡ v) = λ v k there. ⊎_elim
    (λ e. subst (λ (u : ℕ). (get_or (slice_set places x (length vars)) u 0 < length vars + 1) × (get_or (vars ++ x ∷ []) (get_or (slice_set places x (length vars)) u 0) 0 ≡ u)) (sym e)
    (subst (λ (i : ℕ). i < length vars + 1) (sym of_x) (omega arith), ap (λ (i : ℕ). get_or (vars ++ x ∷ []) i 0) of_x ∙ at_n))
    (λ d.
    let h = stays v d in
    let t : get_or places v 0 ≡ ABSENT → ⊥ = λ z. there (h ∙ z) in
    let b = f.within v k t in
    (subst (λ (i : ℕ). i < length vars + 1) (sym h) (omega arith), ap (λ (i : ℕ). get_or (vars ++ x ∷ []) i 0) h ∙ read (get_or places v 0) b ∙ f.found v k t))
    (cases_eq v x) in
    record {
      limit = rw long (omega arith);
      known = λ i k. rw wide (stands i (subst (λ (n : ℕ). i < n) long k)).0;
      placed = λ i k. (stands i (subst (λ (n : ℕ). i < n) long k)).1;
      within = λ v k there. rw long (where_at v (subst (λ (n : ℕ). v < n) wide k) there).0;
      found = λ v k there. (where_at v (subst (λ (n : ℕ). v < n) wide k) there).1;
    }

abbrev one_if : Bool → ℕ
one_if b = cond b 1 0

-- how many wait where one more does, or one less
pub held_more : (waiting : List Bool) (var : ℕ) → var < length waiting → waits waiting var ≡ false → held_of (slice_set waiting var true) ≡ held_of waiting + 1
held_more waiting var k off =
    let s : held_of (set waiting var true) + one_if (get_or waiting var false) ≡ held_of waiting + 1 = sum_by-set (λ b. cond b 1 0) waiting var true false k in
    let z : one_if (get_or waiting var false) ≡ 0 = ap one_if off in
    omega arith

-- no more wait than are known
pub held_known : (waiting : List Bool) → held_of waiting ≤ length waiting
held_known waiting = count_by-le-length (λ b. b) waiting

-- one that doesn't wait is not counted among them
pub held_room : (waiting : List Bool) (var : ℕ) → var < length waiting → waits waiting var ≡ false → held_of waiting < length waiting
held_room waiting var k off =
    let a = held_more waiting var k off in
    let b = held_known (slice_set waiting var true) in
    let c = length-set waiting var true in
    omega arith

-- a variable without a place doesn't wait
pub waits_absent : (places : List ℕ) (var : ℕ) → var < length places → get_or places var 0 ≡ ABSENT → waits (has_place places) var ≡ false
waits_absent places var k e = waits_at places var k ∙ ap (λ (n : ℕ). not (eqb n ABSENT)) e

-- so there is room for it
pub room_left : (vars places : List ℕ) (var : ℕ) → length vars ≡ held_of (has_place places) → var < length places → get_or places var 0 ≡ ABSENT → length vars < length places
room_left vars places var count k e =
    let n : length (has_place places) ≡ length places = grind (arith, common_steps) in
    let r = held_room (has_place places) var (rw n k) (waits_absent places var k e) in
    omega arith

-- what a part that was lent holds afterwards
pub written : (new old : List ℕ) (n : ℕ) → length new ≡ length old → n ≡ length old → take n (new ++ drop (length new) old) ≡ new
written new old n e m =
    let k : n ≡ length new = m ∙ sym e in
    let a : take n (new ++ drop (length new) old) ≡ take n new = take-append-le n new (drop (length new) old) (omega arith) in
    a ∙ (grind (arith, common_steps))

-- variables that are added have no place
pub places_wider : (vars places : List ℕ) (more : ℕ) → ArePlaced vars places → ArePlaced vars (places ++ replicate more ABSENT)
places_wider vars places more f =
    let n : length (places ++ replicate more ABSENT) ≡ length places + more = grind (arith, common_steps) in
    let read : (v : ℕ) → v < length places → get_or (places ++ replicate more ABSENT) v 0 ≡ get_or places v 0 = λ v k. grind (arith, common_steps) in
    let past : (v : ℕ) → v < length (places ++ replicate more ABSENT) → (get_or (places ++ replicate more ABSENT) v 0 ≡ ABSENT → ⊥) → v < length places = λ v k there. ⊎_elim (λ b. b)
    (λ b. let e : get_or (places ++ replicate more ABSENT) v 0 ≡ ABSENT = grind (arith, common_steps) in absurd (there e)) (cases_lt v (length places)) in
    record {
      limit = f.limit;
      known = λ i k. let a = f.known i k in rw n (omega arith);
      placed = λ i k. read (get_or vars i 0) (f.known i k) ∙ f.placed i k;
      within = λ v k there. let b = past v k there in rw (read v b) (f.within v b (λ z. there (read v b ∙ z)));
      found = λ v k there. let b = past v k there in rw (read v b) (f.found v b (λ z. there (read v b ∙ z)));
    }

pub has_wider : (places : List ℕ) (more : ℕ) → has_place (places ++ replicate more ABSENT) ≡ has_place places ++ replicate more false
has_wider places more = map-append (λ p. not (eqb p ABSENT)) places (replicate more ABSENT) ∙ ap (λ (bs : List Bool). has_place places ++ bs) none
  where
    none : has_place (replicate more ABSENT) ≡ replicate more false
    none = ext_get_or false (has_place (replicate more ABSENT)) (replicate more false) (grind (arith, common_steps)) (λ i h.
        let k : i < more = grind (arith, common_steps) in
        let n : length (replicate more ABSENT) ≡ more = grind (arith, common_steps) in
        let e = get_or-map (λ p. not (eqb p ABSENT)) (replicate more ABSENT) i 0 false (rw n k) in
        e ∙ ap (λ p. not (eqb p ABSENT)) (get_or-replicate more i ABSENT 0 k) ∙ sym (get_or-replicate more i false false k))

pub held_wider : (waiting : List Bool) (more : ℕ) → held_of (waiting ++ replicate more false) ≡ held_of waiting
held_wider waiting more =
    let a : held_of (waiting ++ replicate more false) ≡ held_of waiting + held_of (replicate more false) = sum_by-append (λ b. cond b 1 0) waiting (replicate more false) in
    let b : held_of (replicate more false) ≡ more * 0 = sum_by-replicate (λ b. cond b 1 0) more false in
    omega arith

-- a variable that waits already
pub set_waiting : (places : List ℕ) (var : ℕ) → var < length places → (get_or places var 0 ≡ ABSENT → ⊥) → slice_set (has_place places) var true ≡ has_place places
set_waiting places var k d = ap (λ (b : Bool). set (has_place places) var b) (sym (waits_present places var k d)) ∙ set-get_or (has_place places) var false

-- put behind the last
pub put_last : (vars places : List ℕ) (x : ℕ) → ArePlaced vars places → length vars < ABSENT → x < length places → get_or places x 0 ≡ ABSENT → ArePlaced (slice_set (vars ++ x ∷ []) (length vars) x) (slice_set places x (length vars))
put_last vars places x f room known none = rw (set_at vars x [] x (length vars) refl) (appended vars places x f room known none)
