-- A literal and its number.
use Rattle.std.proofs.Common.{◌≡◌, ◌∙◌, sym, ap, ℕ, ◌+◌, ◌*◌, ◌/◌, ◌%◌, Bool, true, false, refl, arith}
use Rattle.std.specs.Prelude.{◌==◌}
use Rattle.std.proofs.lemmas.Bool.{eq-eqb, eqb-true}
use Rattle.prop_core.specs.Clauses.{same_literal}
use Rattle.prop_core.specs.LiteralNumbers.{literal_number, numbered_literal, number_back}
use Rattle.prop_core.specs.declared.lit.Lit.{Lit}
use Rattle.prop_core.specs.SameLiterals.{same_literal_equiv}
use Rattle.prop_core.proofs.Literals.{same_is}

-- the number of a literal gives it back
pub literal_back : (l : Lit) → numbered_literal (literal_number l) ≡ l
literal_back l = by l.positive l.var
  where
    by : (b : Bool) (v : ℕ) → numbered_literal (literal_number (record { var = v; positive = b })) ≡ record { var = v; positive = b }
    by true v = let q : (2 * v + 1) / 2 ≡ v = omega arith in let r : (2 * v + 1) % 2 ≡ 1 = omega arith in rw (q, r) refl
    by false v = let q : (2 * v + 0) / 2 ≡ v = omega arith in let r : (2 * v + 0) % 2 ≡ 0 = omega arith in rw (q, r) refl

-- numbers are the same where their literals are
pub same_number : (m n : ℕ) → (m == n) ≡ same_literal (numbered_literal m) (numbered_literal n)
same_number m n = by (m == n) refl
  where
    by : (b : Bool) → (m == n) ≡ b → b ≡ same_literal (numbered_literal m) (numbered_literal n)
    by true e = let same : m ≡ n = eqb-true m n e in rw same (sym (same_literal_equiv.refl (numbered_literal n)))
    by false e = other (same_literal (numbered_literal m) (numbered_literal n)) refl
      where
        other : (s : Bool) → same_literal (numbered_literal m) (numbered_literal n) ≡ s → false ≡ s
        other false s = refl
        other true s =
            let l = same_is (numbered_literal m) (numbered_literal n) s in
            let same : m ≡ n = sym (number_back m) ∙ ap literal_number l ∙ number_back n in
            sym e ∙ eq-eqb m n same
