-- What is reached from a number is the least that has it and goes on along the pairs.
use Rattle.std.proofs.Common.{◌≡◌, ℕ, Bool, true, ◌&&◌, List, [], ◌∷◌, inl, inr, ap, sym, ◌∙◌}
use Rattle.std.specs.Prelude.{◌==◌}
use Rattle.log_order.specs.Log.{has_pair, reaches}
use Rattle.des_base.proofs.BoolLemmas.{both, join, either, or_left, or_right, same, itself}

-- where the test holds of a pair's first number, it holds of its second
pub record IsClosed (p : ℕ → Bool) (pairs : List (ℕ × ℕ)) : Type 0 where
  pub at : (i j : ℕ) → has_pair pairs i j ≡ true → p i ≡ true → p j ≡ true

pub has_pair-first : (pair : ℕ × ℕ) (pairs : List (ℕ × ℕ)) → has_pair (pair ∷ pairs) pair.0 pair.1 ≡ true
has_pair-first pair pairs = or_left (pair.0 == pair.0 && pair.1 == pair.1) _ (join (pair.0 == pair.0) (pair.1 == pair.1) (itself pair.0) (itself pair.1))

pub has_pair-later : (pair : ℕ × ℕ) (pairs : List (ℕ × ℕ)) (i j : ℕ) → has_pair pairs i j ≡ true → has_pair (pair ∷ pairs) i j ≡ true
has_pair-later pair pairs i j h = or_right (pair.0 == i && pair.1 == j) _ h

pub IsClosed-rest : (p : ℕ → Bool) (pair : ℕ × ℕ) (pairs : List (ℕ × ℕ)) → IsClosed p (pair ∷ pairs) → IsClosed p pairs
IsClosed-rest p pair pairs h = record { at = λ i j there. h.at i j (has_pair-later pair pairs i j there) }

pub reaches-itself : (pairs : List (ℕ × ℕ)) (i : ℕ) → reaches pairs i i ≡ true
reaches-itself [] i = itself i
reaches-itself (pair ∷ pairs) i = or_left (reaches pairs i i) _ (reaches-itself pairs i)

pub reaches-least : (p : ℕ → Bool) (pairs : List (ℕ × ℕ)) (i j : ℕ) → IsClosed p pairs → p i ≡ true → reaches pairs i j ≡ true → p j ≡ true
reaches-least p [] i j closed h r = ap p (sym (same i j r)) ∙ h
reaches-least p (pair ∷ pairs) i j closed h r = elim (either (reaches pairs i j) _ r) [
  | inl there ↦ reaches-least p pairs i j (IsClosed-rest p pair pairs closed) h there
  | inr by ↦
      let parts = both (reaches pairs i pair.0) (reaches pairs pair.1 j) by in
      let rest = IsClosed-rest p pair pairs closed in
      reaches-least p pairs pair.1 j rest (closed.at pair.0 pair.1 (has_pair-first pair pairs) (reaches-least p pairs i pair.0 rest h parts.0)) parts.1
]

-- by the first pair: what reaches its first number reaches its second
on_first : (pair : ℕ × ℕ) (pairs : List (ℕ × ℕ)) (i c d : ℕ) → (pair.0 == c) ≡ true → (pair.1 == d) ≡ true → reaches (pair ∷ pairs) i c ≡ true → reaches (pair ∷ pairs) i d ≡ true
on_first pair pairs i c d ec ed r =
    let to : reaches pairs i pair.0 ≡ true = elim (either (reaches pairs i c) _ r) [
      | inl there ↦ ap (reaches pairs i) (same pair.0 c ec) ∙ there
      | inr by ↦ (both (reaches pairs i pair.0) (reaches pairs pair.1 c) by).0
    ] in
    let from : reaches pairs pair.1 d ≡ true = ap (reaches pairs pair.1) (sym (same pair.1 d ed)) ∙ reaches-itself pairs pair.1 in
    or_right (reaches pairs i d) _ (join (reaches pairs i pair.0) (reaches pairs pair.1 d) to from)

on_along : (pairs : List (ℕ × ℕ)) (i c d : ℕ) → has_pair pairs c d ≡ true → reaches pairs i c ≡ true → reaches pairs i d ≡ true
on_along [] i c d h r = cc
on_along (pair ∷ pairs) i c d h r = elim (either (pair.0 == c && pair.1 == d) (has_pair pairs c d) h) [
  | inl first ↦ let parts = both (pair.0 == c) (pair.1 == d) first in on_first pair pairs i c d parts.0 parts.1 r
  | inr later ↦ elim (either (reaches pairs i c) _ r) [
    | inl there ↦ or_left (reaches pairs i d) _ (on_along pairs i c d later there)
    | inr by ↦
        let parts = both (reaches pairs i pair.0) (reaches pairs pair.1 c) by in
        or_right (reaches pairs i d) _ (join (reaches pairs i pair.0) (reaches pairs pair.1 d) parts.0 (on_along pairs pair.1 c d later parts.1))
  ]
]

pub reaches-closed : (pairs : List (ℕ × ℕ)) (i : ℕ) → IsClosed (reaches pairs i) pairs
reaches-closed pairs i = record { at = λ c d h r. on_along pairs i c d h r }
