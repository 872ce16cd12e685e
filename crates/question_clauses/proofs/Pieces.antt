-- The sets of the steps one after another, by recursion.
use Rattle.std.proofs.Common.{◌≡◌, ◌≢◌, ◌↔◌, ℕ, zero, suc, ◌+◌, ◌<◌, Bool, true, List, [], ◌∷◌, length, sym, subst, arith, Contains, get_or}
use Rattle.std.specs.Prelude.{⊤}
use Rattle.des_base.specs.Lists.{EachPair, numbers_below}
use Rattle.des_net.specs.Network.{Net}
use Rattle.prop_core.specs.VariableNames.{Meaning, happens}
use Rattle.question_clauses.specs.Steps.{events_at, IsOrderOf, AreSteps}
use Rattle.question_clauses.proofs.Lists.{from_numbers, in_numbers}
use Rattle.des_base.proofs.Elements.{filter_has, filter_from}

-- the piece has the events that are true in the step after t steps, and no event twice
pub record IsStepSet (net : Net) (value : Meaning → Bool) (t : ℕ) (piece : List ℕ) : Type 0 where
  pub exact : (e : ℕ) → Contains piece e ↔ ((e < length net.events) × (value (happens e (suc t)) ≡ true))
  pub once : EachPair (λ e f. e ≢ f) piece

-- these are the pieces from the step after t steps on
abbrev pub AreFrom : Net → (Meaning → Bool) → ℕ → List (List ℕ) → Type 0
AreFrom net value t [] = ⊤
AreFrom net value t (piece ∷ pieces) = IsStepSet net value t piece × AreFrom net value (suc t) pieces

pub piece_is : (net : Net) (value : Meaning → Bool) (s t : ℕ) (pieces : List (List ℕ)) → AreFrom net value s pieces → t < length pieces → IsStepSet net value (s + t) (get_or pieces t [])
piece_is net value s t [] are less = absurd (omega arith)
piece_is net value s zero (piece ∷ pieces) are less = let same : s ≡ s + 0 = omega arith in subst (λ r. IsStepSet net value r piece) same are.0
piece_is net value s (suc t) (piece ∷ pieces) are less =
    let same : suc s + t ≡ s + suc t = omega arith in
    subst (λ r. IsStepSet net value r (get_or pieces t [])) same (piece_is net value (suc s) t pieces are.1 (omega arith))

order_of : (net : Net) (value : Meaning → Bool) (t : ℕ) (piece : List ℕ) → IsStepSet net value t piece → IsOrderOf (events_at net value (suc t)) piece
order_of net value t piece is = record { once = is.once; same = λ e. (to e, from e) }
  where
    to : (e : ℕ) → Contains piece e → Contains (events_at net value (suc t)) e
    to e in' = let h = (is.exact e).0 in' in filter_has (λ f. value (happens f (suc t))) (numbers_below (length net.events)) e h.1 (in_numbers (length net.events) e h.0)

    from : (e : ℕ) → Contains (events_at net value (suc t)) e → Contains piece e
    from e in' =
        let found = filter_from (λ f. value (happens f (suc t))) (numbers_below (length net.events)) e in' in
        (is.exact e).1 (from_numbers (length net.events) e found.1, found.0)

piece_of : (net : Net) (value : Meaning → Bool) (t : ℕ) (piece : List ℕ) → IsOrderOf (events_at net value (suc t)) piece → IsStepSet net value t piece
piece_of net value t piece is = record { once = is.once; exact = λ e. (to e, from e) }
  where
    to : (e : ℕ) → Contains piece e → (e < length net.events) × (value (happens e (suc t)) ≡ true)
    to e in' =
        let found = filter_from (λ f. value (happens f (suc t))) (numbers_below (length net.events)) e ((is.same e).0 in') in
        (from_numbers (length net.events) e found.1, found.0)

    from : (e : ℕ) → (e < length net.events) × (value (happens e (suc t)) ≡ true) → Contains piece e
    from e h = (is.same e).1 (filter_has (λ f. value (happens f (suc t))) (numbers_below (length net.events)) e h.1 (in_numbers (length net.events) e h.0))

pieces_of : (net : Net) (value : Meaning → Bool) (s : ℕ) (pieces : List (List ℕ)) → ((t : ℕ) → t < length pieces → IsStepSet net value (s + t) (get_or pieces t [])) → AreFrom net value s pieces
pieces_of net value s [] each = tt
pieces_of net value s (piece ∷ pieces) each =
    let same : s + 0 ≡ s = omega arith in (
      subst (λ r. IsStepSet net value r piece) same (each 0 (omega arith)),
      pieces_of net value (suc s) pieces (λ t h. let next : s + suc t ≡ suc s + t = omega arith in subst (λ r. IsStepSet net value r (get_or pieces t [])) next (each (suc t) (omega arith))),
    )

-- Both forms of the pieces say the same.
pub pieces_are_steps : (net : Net) (n : ℕ) (value : Meaning → Bool) (pieces : List (List ℕ)) → AreSteps net n value pieces ↔ (length pieces ≡ n) × AreFrom net value 0 pieces
pieces_are_steps net n value pieces = (to, from)
  where
    zero_add : (t : ℕ) → 0 + t ≡ t
    zero_add t = omega arith

    to : AreSteps net n value pieces → (length pieces ≡ n) × AreFrom net value 0 pieces
    to are = (
      are.count,
      pieces_of net value 0 pieces (λ t h.
          subst (λ r. IsStepSet net value r (get_or pieces t [])) (sym (zero_add t)) (piece_of net value t (get_or pieces t []) (are.each t (let size = are.count in omega (arith, size))))),
    )

    from : (length pieces ≡ n) × AreFrom net value 0 pieces → AreSteps net n value pieces
    from h = record {
      count = h.0;
      each = λ t below.
          order_of net value t (get_or pieces t []) (subst (λ r. IsStepSet net value r (get_or pieces t [])) (zero_add t) (piece_is net value 0 t pieces h.1 (let size = h.0 in omega (arith, size))));
    }
