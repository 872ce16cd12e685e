-- A heap that gets a variable which had no place in it.
use Rattle.std.proofs.Common.{◌≡◌, ◌∙◌, ℕ, ◌+◌, ◌<◌, ◌≤◌, ◌++◌, ◌∷◌, [], List, Bool, true, length, get_or, sym, subst, arith}
use Rattle.std.specs.Prelude.{slice_set}
use Rattle.std.proofs.lemmas.Grind.{common_steps}
use Rattle.sat_solve.specs.declared.heap.TheConstants.{ABSENT}
use Rattle.sat_solve.specs.Heap.{IsHeap, ArePlaced, has_place}
use Rattle.sat_solve.proofs.Places.{below_absent, room_left, put_last, place_set, held_more, waits_absent}

module _ (vars places : List ℕ) (room var : ℕ) (heap : IsHeap vars places room) (known : var < length places) (absent : get_or places var 0 ≡ ABSENT)
  where
    -- there is room for it,
    pub fits_more : length vars < length places
    fits_more = room_left vars places var heap.count known absent

    -- it can stand behind the last,
    pub last_placed : ArePlaced (slice_set (vars ++ var ∷ []) (length vars) var) (slice_set places var (length vars))
    last_placed = let l = heap.limit in let f = fits_more in put_last vars places var heap.placed (omega arith) known absent

    -- waits then,
    pub waits_more : has_place (slice_set places var (length vars)) ≡ slice_set (has_place places) var true
    waits_more = place_set places var (length vars) (below_absent (length vars) (length places) fits_more heap.limit)

    -- and also waits wherever it is moved to
    pub more_heap : (new_vars new_places : List ℕ) (more : ℕ) → ArePlaced new_vars new_places → has_place new_places ≡ has_place (slice_set places var (length vars)) → length new_vars ≡ length vars + 1 → length new_places ≡ length places → room ≤ more → IsHeap new_vars new_places more
    more_heap new_vars new_places more placed waiting long wide roomy =
        let wait : length (has_place places) ≡ length places = grind (arith, common_steps) in
        let held = held_more (has_place places) var (rw wait known) (waits_absent places var known absent) in
        record {
          placed = placed;
          count = let c = heap.count in rw (waiting ∙ waits_more) (omega arith);
          limit = rw wide heap.limit;
          fits = let f = heap.fits in omega arith;
        }

-- a variable that is known, by those that wait
pub known_of : (places : List ℕ) (waiting : List Bool) (var : ℕ) → has_place places ≡ waiting → var < length waiting → var < length places
known_of places waiting var e k = let n : length (has_place places) ≡ length places = grind (arith, common_steps) in subst (λ (m : ℕ). var < m) n (subst (λ (bs : List Bool). var < length bs) (sym e) k)
