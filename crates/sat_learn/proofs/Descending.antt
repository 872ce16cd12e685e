-- The way down to the one place that is left.
use Rattle.std.proofs.Common.{◌≡◌, ◌∙◌, ℕ, ◌+◌, ◌-◌, ◌<◌, ◌≤◌, Bool, true, false, ◌∷◌, [], List, refl, sym, length, drop, zero, suc, get_or, arith, ⊎_elim}
use Rattle.std.specs.Prelude.{count_by, slice_set}
use Rattle.std.proofs.lemmas.Grind.{common_steps}
use Rattle.std.proofs.lemmas.Bool.{cases_Bool, cases_lt}
use Rattle.sat_learn.specs.Seen.{count_seen, IsOnlySeen}
use Rattle.sat_learn.proofs.Seeing.{count_off}

-- a count is 0 where no place passes
pub count_zero : {X : Type 0} (p : X → Bool) (xs : List X) (d : X) → ((i : ℕ) → i < length xs → p (get_or xs i d) ≡ false) → count_by p xs ≡ 0
count_zero p [] d h = refl
count_zero p (x ∷ xs) d h =
    let a : p x ≡ false = h 0 (omega arith) in
    let b = count_zero p xs d (λ i k. h (suc i) (omega arith)) in
    rw a b

-- where a count is 0, no place is set
pub count_none : (bs : List Bool) (i : ℕ) → count_by (λ b. b) bs ≡ 0 → get_or bs i false ≡ false
count_none [] i e = grind (arith, common_steps)
count_none (true ∷ bs) i e = let q : count_by (λ b. b) (true ∷ bs) ≡ count_by (λ b. b) bs + 1 = grind (arith, common_steps) in absurd (omega arith)
count_none (false ∷ bs) zero e = refl
count_none (false ∷ bs) (suc i) e = count_none bs i e

-- where it is 1, no other place is
alone_one : (start : ℕ) (bs : List Bool) (k : ℕ) → start ≤ k → k < length bs → get_or bs k false ≡ true → count_seen start bs ≡ 1 → (i : ℕ) → start ≤ i → (i ≡ k → ⊥) → i < length bs → get_or bs i false ≡ false
alone_one start bs k h b s n i m d w =
    let c = count_off start bs k h b s in
    let z : count_seen start (slice_set bs k false) ≡ 0 = omega arith in
    let a = count_none (drop start (slice_set bs k false)) (i - start) z in
    let f : get_or (drop start (slice_set bs k false)) (i - start) false ≡ get_or (slice_set bs k false) i false = grind (arith, common_steps) in
    let g : get_or (slice_set bs k false) i false ≡ get_or bs i false = grind (arith, common_steps) in
    sym g ∙ sym f ∙ a

-- where it is not 0 and no later place is set, the first is
first_set : (start : ℕ) (bs : List Bool) → 0 < count_seen start bs → start < length bs → ((i : ℕ) → start < i → i < length bs → get_or bs i false ≡ false) → get_or bs start false ≡ true
first_set start bs c b above =
    ⊎_elim (λ e. e)
    (λ e. let z = count_zero (λ b. b) (drop start bs) false (λ i h.
    let f : get_or (drop start bs) i false ≡ get_or bs (start + i) false = grind (arith, common_steps) in
    let n : start + i < length bs = grind (arith, common_steps) in
    f ∙ later i e n) in absurd (omega arith))
    (cases_Bool (get_or bs start false))
  where
    later : (i : ℕ) → get_or bs start false ≡ false → start + i < length bs → get_or bs (start + i) false ≡ false
    later zero e n = let q : start + 0 ≡ start = omega arith in rw q e
    later (suc i) e n = above (start + suc i) (omega arith) n

-- one literal is left
pub found_one : (start : ℕ) (bs : List Bool) (k : ℕ) → start ≤ k → k < length bs → get_or bs k false ≡ true → count_seen start bs ≡ 1 → IsOnlySeen start bs k
found_one start bs k h b s n = record { from = h; within = b; is = s; alone = alone_one start bs k h b s n }

-- the last decision is reached
pub found_first : (start : ℕ) (bs : List Bool) (k : ℕ) → start ≤ k → k ≤ start → k < length bs → 0 < count_seen start bs → ((i : ℕ) → k < i → i < length bs → get_or bs i false ≡ false) → IsOnlySeen start bs k
found_first start bs k h g b n above =
    let e : k ≡ start = omega arith in
    record { from = h; within = b; is = rw e (first_set start bs n (omega arith) (λ i m. above i (omega arith))); alone = λ i m d w. above i (omega arith) w }

-- one more place is done
pub above_next : (seen new : List Bool) (k : ℕ) → length new ≡ length seen → get_or new k false ≡ false → ((i : ℕ) → k < i → i < length seen → get_or new i false ≡ get_or seen i false) → ((i : ℕ) → k < i → i < length seen → get_or seen i false ≡ false)
    → (i : ℕ) → k - 1 < i → i < length new → get_or new i false ≡ false
above_next seen new k size z same above i m b =
    ⊎_elim (λ q. same i q (omega arith) ∙ above i q (omega arith))
    (λ e. let q : i ≡ k = omega arith in rw q z)
    (cases_lt k i)
