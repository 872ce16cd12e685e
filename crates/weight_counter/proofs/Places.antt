-- The places of a scale have variables of their own, one after another.
use Rattle.std.proofs.Common.{◌≡◌, ℕ, zero, suc, ◌+◌, ◌*◌, ◌-◌, ◌/◌, ◌<◌, ◌≤◌, ◌∙◌, ap, arith}
use Rattle.std.proofs.Math.Nat.{suc-mul, mul-le-mul_right}
use Rattle.std.proofs.lemmas.Nat.{div-mul-add}
use Rattle.weight_counter.specs.declared.scale.Scale.{Scale}
use Rattle.weight_counter.specs.Scales.{place_variable, input_of, amount_of}

pub within_scale : (first inputs amounts place amount : ℕ) → place < inputs → amount < amounts → first + place * amounts + amount < first + inputs * amounts
within_scale first inputs amounts place amount known few =
    let next : suc place * amounts ≤ inputs * amounts = mul-le-mul_right amounts (omega (arith, known)) in
    omega (arith, suc-mul place amounts, next, few)

pub few_inputs : (inputs amounts limit : ℕ) → 1 ≤ amounts → inputs * amounts ≤ limit → inputs ≤ limit
few_inputs inputs zero limit some within = absurd (omega (arith, some))
few_inputs inputs (suc amounts) limit some within =
    let own : inputs * 1 ≤ inputs * suc amounts = less inputs amounts in
    omega (arith, own, within)
  where
    less : (n a : ℕ) → n * 1 ≤ n * suc a
    less zero a = omega arith
    less (suc n) a = omega (arith, less n a, suc-mul n (suc a), suc-mul n 1)

pub input_back : (scale : Scale) (i j : ℕ) → j < scale.amounts → input_of scale (place_variable scale i j) ≡ i
input_back scale i j few =
    let offset : scale.first + i * scale.amounts + j - scale.first ≡ i * scale.amounts + j = omega arith in
    ap (λ v. v / scale.amounts) offset ∙ div-mul-add i scale.amounts j few

pub amount_back : (scale : Scale) (i j : ℕ) → j < scale.amounts → amount_of scale (place_variable scale i j) ≡ j
amount_back scale i j few =
    let offset : scale.first + i * scale.amounts + j - scale.first ≡ i * scale.amounts + j = omega arith in
    ap (λ v. v - input_of scale (place_variable scale i j) * scale.amounts) offset
    ∙ ap (λ k. i * scale.amounts + j - k * scale.amounts) (input_back scale i j few)
    ∙ (let same : i * scale.amounts + j - i * scale.amounts ≡ j = omega arith in same)
