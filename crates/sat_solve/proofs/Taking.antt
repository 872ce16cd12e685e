-- A heap from which the last is taken, and then the first.
use Rattle.std.proofs.Common.{◌≡◌, ◌∙◌, ℕ, ◌+◌, ◌<◌, ◌++◌, ◌∷◌, [], List, Bool, true, false, length, get_or, ap, sym, subst, arith, ⊎_elim}
use Rattle.std.specs.Prelude.{slice_set}
use Rattle.std.proofs.lemmas.Grind.{common_steps}
use Rattle.std.proofs.lemmas.Bool.{cases_order}
use Rattle.std.proofs.lemmas.List.{get_or-set_same, get_or-set_other, length-set, set-set, set_comm}
use Rattle.std.proofs.Math.Seq.{get_or-append_seam}
use Rattle.sat_order.specs.Waiting.{waits}
use Rattle.sat_solve.specs.declared.heap.TheConstants.{ABSENT}
use Rattle.sat_solve.specs.Heap.{has_place, ArePlaced}
use Rattle.sat_solve.proofs.Places.{waits_present, below_absent, place_set, place_lost, set_waiting, replaced}

-- the one at a place waits
waited : (vars places : List ℕ) (i v : ℕ) → ArePlaced vars places → i < length vars → v ≡ get_or vars i 0 → waits (has_place places) v ≡ true
waited vars places i v f k e =
    let b : v < length places = subst (λ (n : ℕ). n < length places) (sym e) (f.known i k) in
    let a : get_or places v 0 ≡ i = ap (λ (n : ℕ). get_or places n 0) e ∙ f.placed i k in
    waits_present places v b (λ z. below_absent i (length vars) k f.limit (sym a ∙ z))

module _ (rest places : List ℕ) (last : ℕ) (f : ArePlaced (rest ++ last ∷ []) places)
  where
    long : length (rest ++ last ∷ []) ≡ length rest + 1
    long = grind (arith, common_steps)

    end : length rest < length (rest ++ last ∷ [])
    end = let n = long in omega arith

    at_end : get_or (rest ++ last ∷ []) (length rest) 0 ≡ last
    at_end = get_or-append_seam rest last [] 0

    read : (i : ℕ) → i < length rest → get_or (rest ++ last ∷ []) i 0 ≡ get_or rest i 0
    read i k = grind (arith, common_steps)

    inside : (i : ℕ) → i < length rest → i < length (rest ++ last ∷ [])
    inside i k = let n = long in omega arith

    last_known : last < length places
    last_known = subst (λ (v : ℕ). v < length places) at_end (f.known (length rest) end)

    of_last : get_or places last 0 ≡ length rest
    of_last = ap (λ (v : ℕ). get_or places v 0) (sym at_end) ∙ f.placed (length rest) end

    -- the last waits,
    pub last_waits : waits (has_place places) last ≡ true
    last_waits = waited (rest ++ last ∷ []) places (length rest) last f end (sym at_end)

    lost : get_or (slice_set places last ABSENT) last 0 ≡ ABSENT
    lost = get_or-set_same places last ABSENT 0 last_known

    wide : length (slice_set places last ABSENT) ≡ length places
    wide = length-set places last ABSENT

    stays : (v : ℕ) → (v ≡ last → ⊥) → get_or (slice_set places last ABSENT) v 0 ≡ get_or places v 0
    stays v d = get_or-set_other places last v ABSENT 0 d

    other : (v : ℕ) → (get_or (slice_set places last ABSENT) v 0 ≡ ABSENT → ⊥) → v ≡ last → ⊥
    other v there e = there (ap (λ (u : ℕ). get_or (slice_set places last ABSENT) u 0) e ∙ lost)

    below : (v : ℕ) → v < length places → (get_or (slice_set places last ABSENT) v 0 ≡ ABSENT → ⊥) → get_or places v 0 < length rest
    below v k there =
        let t : get_or places v 0 ≡ ABSENT → ⊥ = λ z. there (stays v (other v there) ∙ z) in
        let w : get_or places v 0 < length rest + 1 = subst (λ (n : ℕ). get_or places v 0 < n) long (f.within v k t) in
        let d : get_or places v 0 ≡ length rest → ⊥ = λ z. other v there (sym (f.found v k t) ∙ ap (λ (i : ℕ). get_or (rest ++ last ∷ []) i 0) z ∙ at_end) in
        ⊎_elim (λ z. absurd (d z)) (λ z. ⊎_elim (λ b. b) (λ b. absurd (omega arith)) z) (cases_order (get_or places v 0) (length rest))

    -- and without a place it stands in the list no more
    pub last_dropped : ArePlaced rest (slice_set places last ABSENT)
    last_dropped = record {
      limit = let l = f.limit in let n = long in omega arith;
      known = λ i k. rw wide (subst (λ (v : ℕ). v < length places) (read i k) (f.known i (inside i k)));
      placed = λ i k.
          let g = f.placed i (inside i k) in
          let d : get_or (rest ++ last ∷ []) i 0 ≡ last → ⊥ = λ z. let q : i ≡ length rest = sym g ∙ ap (λ (v : ℕ). get_or places v 0) z ∙ of_last in absurd (omega arith) in
          subst (λ (v : ℕ). get_or (slice_set places last ABSENT) v 0 ≡ i) (read i k) (stays (get_or (rest ++ last ∷ []) i 0) d ∙ g);
      within = λ v k there. let k' : v < length places = subst (λ (c : ℕ). v < c) wide k in rw (stays v (other v there)) (below v k' there);
      found = λ v k there.
          let k' : v < length places = subst (λ (c : ℕ). v < c) wide k in
          let e = stays v (other v there) in
          rw e (sym (read (get_or places v 0) (below v k' there)) ∙ f.found v k' (λ z. there (e ∙ z)));
    }

    -- Where more than one stood, the first
    module _ (first : ℕ) (some : 0 < length rest) (is : first ≡ get_or rest 0 0)
      where
        begins : first ≡ get_or (rest ++ last ∷ []) 0 0
        begins = is ∙ sym (read 0 some)

        start : 0 < length (rest ++ last ∷ [])
        start = inside 0 some

        apart : first ≡ last → ⊥
        apart e =
            let a : get_or places first 0 ≡ 0 = ap (λ (v : ℕ). get_or places v 0) begins ∙ f.placed 0 start in
            let z : 0 ≡ length rest = sym a ∙ ap (λ (v : ℕ). get_or places v 0) e ∙ of_last in
            omega arith

        -- waits,
        pub first_waits : waits (has_place places) first ≡ true
        first_waits = waited (rest ++ last ∷ []) places 0 first f start begins

        -- the last can have its place,
        pub last_first : ArePlaced (slice_set rest 0 last) (slice_set (slice_set places first ABSENT) last 0)
        last_first =
            let r = replaced rest (slice_set places last ABSENT) 0 last first last_dropped some (rw wide last_known) lost is in
            let e : slice_set (slice_set (slice_set places last ABSENT) first ABSENT) last 0 ≡ slice_set (slice_set places first ABSENT) last 0 =
            ap (λ (ps : List ℕ). slice_set ps last 0) (set_comm places last first ABSENT ABSENT (λ z. apart (sym z))) ∙ set-set (slice_set places first ABSENT) last ABSENT 0 in
            subst (λ (ps : List ℕ). ArePlaced (slice_set rest 0 last) ps) e r

        -- and the others wait then
        pub first_taken : has_place (slice_set (slice_set places first ABSENT) last 0) ≡ slice_set (has_place places) first false
        first_taken =
            let t : get_or places last 0 ≡ ABSENT → ⊥ = λ z. below_absent (length rest) (length (rest ++ last ∷ [])) end f.limit (sym of_last ∙ z) in
            place_set (slice_set places first ABSENT) last 0 (λ z. absurd (omega arith))
            ∙ ap (λ (bs : List Bool). slice_set bs last true) (place_lost places first)
            ∙ set_comm (has_place places) first last false true apart
            ∙ ap (λ (bs : List Bool). slice_set bs first false) (set_waiting places last last_known t)
