-- Marks by rounds.
use Rattle.std.proofs.Common.{◌≡◌, ◌∙◌, ℕ, ◌<◌, ◌≤◌, Bool, true, false, ◌++◌, List, refl, ap, sym, length, map, get_or, set, eqb, arith, replicate}
use Rattle.std.specs.Prelude.{slice_set}
use Rattle.std.proofs.lemmas.Grind.{common_steps}
use Rattle.std.proofs.lemmas.Bool.{eq-eqb, ne_eqb}
use Rattle.std.proofs.lemmas.List.{map-set, map-append, length-map, get_or-map, get_or-replicate, set-get_or, set_past, ext_get_or}

-- the places that were marked in this round
abbrev pub marked_in : ℕ → List ℕ → List Bool
marked_in round rounds = map (λ r. eqb r round) rounds

-- one is marked
pub marked_set : (round : ℕ) (rounds : List ℕ) (place : ℕ) → marked_in round (slice_set rounds place round) ≡ slice_set (marked_in round rounds) place true
marked_set round rounds place = map-set (λ r. eqb r round) rounds place round ∙ ap (λ (b : Bool). set (marked_in round rounds) place b) (eq-eqb round round refl)

-- others are added
pub marked_wider : (round : ℕ) (rounds : List ℕ) (more : ℕ) → 0 < round → marked_in round (rounds ++ replicate more 0) ≡ marked_in round rounds ++ replicate more false
marked_wider round rounds more some = map-append (λ r. eqb r round) rounds (replicate more 0) ∙ ap (λ (bs : List Bool). marked_in round rounds ++ bs) none
  where
    none : marked_in round (replicate more 0) ≡ replicate more false
    none = ext_get_or false (marked_in round (replicate more 0)) (replicate more false) (grind (arith, common_steps)) (λ i h.
        let k : i < more = grind (arith, common_steps) in
        let n : length {A = ℕ} (replicate more 0) ≡ more = grind (arith, common_steps) in
        let e = get_or-map (λ r. eqb r round) (replicate more 0) i 0 false (rw n k) in
        e ∙ ap (λ r. eqb r round) (get_or-replicate more i 0 0 k) ∙ ne_eqb 0 round (λ z. absurd (omega arith)) ∙ sym (get_or-replicate more i false false k))

-- in a later round none is
pub none_marked : (round later : ℕ) (rounds new : List ℕ) → length new ≡ length rounds → ((i : ℕ) → i < length new → get_or new i 0 < later) → marked_in later new ≡ map (λ (b : Bool). false) (marked_in round rounds)
none_marked round later rounds new n below = ext_get_or false (marked_in later new) (map (λ (b : Bool). false) (marked_in round rounds)) (grind (arith, common_steps)) (λ i h.
    let k : i < length new = grind (arith, common_steps) in
    let m : i < length (marked_in round rounds) = grind (arith, common_steps) in
    let b = below i k in
    get_or-map (λ r. eqb r later) new i 0 false k ∙ ne_eqb (get_or new i 0) later (λ z. absurd (omega arith)) ∙ sym (get_or-map (λ (b : Bool). false) (marked_in round rounds) i false false m))

-- a place that is marked already, and one that isn't there
pub marked_same : (round : ℕ) (rounds : List ℕ) (place : ℕ) → place < length rounds → get_or rounds place 0 ≡ round → slice_set (marked_in round rounds) place true ≡ marked_in round rounds
marked_same round rounds place k e =
    let on : get_or (marked_in round rounds) place false ≡ true = get_or-map (λ r. eqb r round) rounds place 0 false k ∙ eq-eqb (get_or rounds place 0) round e in
    ap (λ (b : Bool). set (marked_in round rounds) place b) (sym on) ∙ set-get_or (marked_in round rounds) place false
