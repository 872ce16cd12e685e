-- Signatures: bits of the literals of a clause.
use Rattle.std.proofs.Common.{◌≡◌, ◌↔◌, ◌∙◌, ◌⊎◌, inl, inr, ℕ, ◌+◌, ◌-◌, ◌*◌, ◌%◌, ◌^◌, ◌<◌, ◌≤◌, min, Bool, true, false, ◌||◌, [], ◌∷◌, refl, ap, sym, subst, ⊎_elim, length, take, get_or, arith, w64, bit_or, bit_and, eqb-true, eq-eqb, nat_eq, IsTrue}
use Rattle.std.specs.Prelude.{if◌then◌else◌, ◌==◌}
use Rattle.std.specs.Int.{bit_at, bit_not}
use Rattle.std.specs.List.{list_any}
use Rattle.std.proofs.lemmas.Bool.{cases_eq, cases_order, and_parts, or_cases, or_right, ne_eqb}
use Rattle.std.proofs.lemmas.List.Folds.{list_any_more}
use Rattle.std.proofs.lemmas.Nat.Bits.{bit_at-zero, bit_at-lt, bit_at_above, bit_at_and, bit_at_not, bit_at_set_same, bit_at_set_other, same_from_bits}
use Rattle.prop_core.specs.declared.lit.Lit.{Lit}
use Rattle.prop_core.specs.Clauses.{Clause, same_literal}
use Rattle.prop_core.specs.LiteralNumbers.{literal_number}
use Rattle.prop_core.proofs.Literals.{any_from}
use Rattle.sat_prop.specs.Recent.{literal_bit, IsSignature, AreBitsWithin}
use Rattle.sat_prop.specs.Watching.{is_part_of}

-- ---- the bits of a clause

or_none : (a b : Bool) → b ≡ false → (a || b) ≡ a
or_none true b e = refl
or_none false b e = e

pub signature_none : IsSignature [] 0
signature_none bit = bit_at-zero bit

-- one more literal
pub signature_more : (clause : Clause) (i n bits : ℕ) (d : Lit) → i < length clause → n ≡ literal_number (get_or clause i d) → IsSignature (take i clause) bits →
    IsSignature (take (i + 1) clause) (bit_or bits (1 * 2 ^ (n % 64) % 2 ^ 64))
signature_more clause i n bits d within number is bit = by (cases_eq bit (n % 64))
  where
    p : Lit → Bool
    p k = literal_bit k == bit

    here : literal_bit (get_or clause i d) ≡ n % 64
    here = ap (λ (k : ℕ). k % 64) (sym number)

    small : n % 64 < 64
    small = omega arith

    more : list_any p (take (i + 1) clause) ≡ (list_any p (take i clause) || p (get_or clause i d))
    more = list_any_more p clause i d within

    by : (bit ≡ n % 64) ⊎ ((bit ≡ n % 64) → ⊥) → bit_at (bit_or bits (1 * 2 ^ (n % 64) % 2 ^ 64)) bit ≡ (if list_any p (take (i + 1) clause) then 1 else 0)
    by (inl same) =
        let yes : p (get_or clause i d) ≡ true = eq-eqb _ _ (here ∙ sym same) in
        let set : bit_at (bit_or bits (1 * 2 ^ (n % 64) % 2 ^ 64)) bit ≡ 1 = subst (λ (k : ℕ). bit_at (bit_or bits (1 * 2 ^ (n % 64) % 2 ^ 64)) k ≡ 1) (sym same) (bit_at_set_same w64 bits (n % 64) small) in
        set ∙ sym (ap (λ (b : Bool). if b then 1 else 0) (more ∙ or_right (list_any p (take i clause)) (p (get_or clause i d)) yes))
    by (inr apart) =
        let no : p (get_or clause i d) ≡ false = ne_eqb _ _ (λ e. apart (sym e ∙ here)) in
        bit_at_set_other w64 bits (n % 64) small bit apart ∙ is bit ∙ sym (ap (λ (b : Bool). if b then 1 else 0) (more ∙ or_none (list_any p (take i clause)) (p (get_or clause i d)) no))

-- ---- what stands in another clause

any_part : (p : Lit → Bool) (inner outer : Clause) → is_part_of inner outer ≡ true → list_any p inner ≡ true → list_any p outer ≡ true
any_part p [] outer h e = cc
any_part p (x ∷ xs) outer h e =
    let f = and_parts (list_any (same_literal x) outer) _ h in
    ⊎_elim (λ s. any_from p outer x f.0 s) (λ s. any_part p xs outer f.1 s) (or_cases (p x) (list_any p xs) e)

ordered : (b c : Bool) → (b ≡ true → c ≡ true) → (if b then 1 else 0) ≤ (if c then 1 else 0)
ordered true c h = let e = h refl in rw e (omega arith)
ordered false c h = omega arith

-- each bit of a part is one of the whole
pub part_within : (inner outer : Clause) (part whole : ℕ) → IsSignature inner part → IsSignature outer whole → is_part_of inner outer ≡ true → AreBitsWithin part whole
part_within inner outer part whole i o h bit =
    let p : Lit → Bool = λ l. literal_bit l == bit in
    let low = ordered (list_any p inner) (list_any p outer) (λ e. any_part p inner outer h e) in
    omega (arith, low, i bit, o bit)

-- ---- the test

pub within_test : (part whole : ℕ) → part < 2 ^ 64 → whole < 2 ^ 64 → (IsTrue (nat_eq (bit_and part (bit_not w64 whole)) 0)) ↔ AreBitsWithin part whole
within_test part whole a b = ((λ h bit. to (eqb-true _ _ h) bit (cases_order bit 64)), (λ h. eq-eqb _ _ (same_from_bits _ 0 (λ bit. from h bit (cases_order bit 64)))))
  where
    both : (bit : ℕ) → bit < 64 → bit_at (bit_and part (bit_not w64 whole)) bit ≡ min (bit_at part bit) (1 - bit_at whole bit)
    both bit less = bit_at_and part (bit_not w64 whole) bit ∙ ap (λ (k : ℕ). min (bit_at part bit) k) (bit_at_not w64 whole bit b less)

    none : (bit : ℕ) → 64 ≤ bit → bit_at part bit ≡ 0
    none bit more = bit_at_above part 64 bit a more

    to : bit_and part (bit_not w64 whole) ≡ 0 → (bit : ℕ) → (bit ≡ 64) ⊎ ((bit < 64) ⊎ (64 < bit)) → bit_at part bit ≤ bit_at whole bit
    to e bit (inl same) = let z = none bit (omega arith) in omega arith
    to e bit (inr (inl less)) =
        let z : min (bit_at part bit) (1 - bit_at whole bit) ≡ 0 = sym (both bit less) ∙ ap (λ (k : ℕ). bit_at k bit) e ∙ bit_at-zero bit in
        omega (arith, z, bit_at-lt part bit, bit_at-lt whole bit)
    to e bit (inr (inr more)) = let z = none bit (omega arith) in omega arith

    high : (bit : ℕ) → 64 ≤ bit → bit_at (bit_and part (bit_not w64 whole)) bit ≡ bit_at 0 bit
    high bit more = let z = none bit more in let y = bit_at_and part (bit_not w64 whole) bit in let x = bit_at-zero bit in omega arith

    from : AreBitsWithin part whole → (bit : ℕ) → (bit ≡ 64) ⊎ ((bit < 64) ⊎ (64 < bit)) → bit_at (bit_and part (bit_not w64 whole)) bit ≡ bit_at 0 bit
    from h bit (inl same) = high bit (omega arith)
    from h bit (inr (inl less)) = let l = h bit in let y = both bit less in let x = bit_at-zero bit in omega (arith, bit_at-lt part bit, bit_at-lt whole bit)
    from h bit (inr (inr more)) = high bit (omega arith)
