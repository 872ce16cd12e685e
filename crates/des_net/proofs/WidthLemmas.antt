-- Pieces that take all that they can are fewest.
use Rattle.std.proofs.Common.{◌≡◌, ℕ, zero, suc, ◌+◌, ◌-◌, ◌≤◌, Bool, true, false, List, [], ◌∷◌, ◌++◌, length, refl, ap, subst, arith, inl, inr}
use Rattle.std.specs.Prelude.{◌==◌, ◌||◌}
use Rattle.std.specs.List.{AllByRecursion, list_any}
use Rattle.des_base.proofs.BoolLemmas.{either, neither, or_left, or_right, otherwise, same, itself}
use Rattle.des_net.specs.declared.parts.Part.{Part}
use Rattle.des_net.specs.Network.{Net, has_part, parts_of, touches}
use Rattle.des_net.specs.Width.{AreApart, IsPiece, Fits, NeedIsLeast, joined, meets, need, pieces_after}

-- the event touches none of the components
abbrev IsClear : Net → (ℕ → Bool) → ℕ → Type 0
IsClear net touched e = (c : ℕ) → touches net e c ≡ true → touched c ≡ true → ⊥

-- the components that are touched, and those of an event
abbrev with_event : Net → (ℕ → Bool) → ℕ → ℕ → Bool
with_event net touched e c = touched c || touches net e c

-- ---- the test

-- a component that a part is of passes no test that no part's component passes
clear_parts : (parts : List Part) (touched : ℕ → Bool) → list_any (λ part. touched part.comp) parts ≡ false → (c : ℕ) → has_part parts c ≡ true → touched c ≡ true → ⊥
clear_parts [] touched none c here other = cc
clear_parts (part ∷ parts) touched none c here other = elim (either (part.comp == c) (has_part parts c) here) [
  | inl is ↦ let first = (neither (touched part.comp) _ none).0 in let e : touched part.comp ≡ touched c = ap touched (same part.comp c is) in cc
  | inr later ↦ clear_parts parts touched (neither (touched part.comp) _ none).1 c later other
]

-- and where one passes, its component is touched by both
met_part : (parts : List Part) (touched : ℕ → Bool) → list_any (λ part. touched part.comp) parts ≡ true → (c : ℕ) × (has_part parts c ≡ true) × (touched c ≡ true)
met_part [] touched some = cc
met_part (part ∷ parts) touched some = elim (either (touched part.comp) (list_any (λ p. touched p.comp) parts) some) [
  | inl is ↦ (part.comp, or_left (part.comp == part.comp) _ (itself part.comp), is)
  | inr later ↦ let rest = met_part parts touched later in (rest.0, or_right (part.comp == rest.0) _ rest.1, rest.2)
]

clear_from_test : (net : Net) (touched : ℕ → Bool) (e : ℕ) → meets net touched e ≡ false → IsClear net touched e
clear_from_test net touched e none = clear_parts (parts_of net e) touched none

test_from_clear : (net : Net) (touched : ℕ → Bool) (e : ℕ) → IsClear net touched e → meets net touched e ≡ false
test_from_clear net touched e clear = otherwise (meets net touched e) (λ some. let met = met_part (parts_of net e) touched some in clear met.0 met.1 met.2)

-- ---- it fits

-- events that are clear of what is touched and of an event are clear of each, and apart from the event
clear_parted : (net : Net) (touched : ℕ → Bool) (e : ℕ) (front : List ℕ) → AllByRecursion (IsClear net (with_event net touched e)) front
    → AllByRecursion (AreApart net e) front × AllByRecursion (IsClear net touched) front
clear_parted net touched e [] clear = (tt, tt)
clear_parted net touched e (g ∷ front) clear =
    let rest = clear_parted net touched e front clear.1 in
    ((λ c here there. clear.0 c there (or_right (touched c) _ here), rest.0), (λ c here there. clear.0 c here (or_left (touched c) _ there), rest.1))

apart_from : (net : Net) (e : ℕ) (front : List ℕ) → AllByRecursion (IsClear net (touches net e)) front → AllByRecursion (AreApart net e) front
apart_from net e [] clear = tt
apart_from net e (g ∷ front) clear = (λ c here there. clear.0 c there here, apart_from net e front clear.1)

-- what the present piece still takes, and the pieces after it
record Cut (net : Net) (touched : ℕ → Bool) (word : List ℕ) : Type 0 where
  front : List ℕ
  pieces : List (List ℕ)
  whole : word ≡ front ++ joined pieces
  count : length pieces ≡ pieces_after net touched word
  clear : AllByRecursion (IsClear net touched) front
  piece : IsPiece net front
  each : AllByRecursion (IsPiece net) pieces

cut : (net : Net) (touched : ℕ → Bool) (word : List ℕ) → Cut net touched word
cut net touched [] = record { front = []; pieces = []; whole = refl; count = refl; clear = tt; piece = tt; each = tt }
cut net touched (e ∷ word) = by (meets net touched e) refl (cut net (touches net e) word) (cut net (with_event net touched e) word)
  where
    by : (b : Bool) → meets net touched e ≡ b → Cut net (touches net e) word → Cut net (with_event net touched e) word → Cut net touched (e ∷ word)
    by true is new on = record {
      front = [];
      pieces = (e ∷ new.front) ∷ new.pieces;
      whole = ap (λ w. e ∷ w) new.whole;
      count = rw is (omega (arith, new.count));
      clear = tt;
      piece = tt;
      each = ((apart_from net e new.front new.clear, new.piece), new.each);
    }
    by false is new on =
        let two = clear_parted net touched e on.front on.clear in record {
          front = e ∷ on.front;
          pieces = on.pieces;
          whole = ap (λ w. e ∷ w) on.whole;
          count = rw is on.count;
          clear = (clear_from_test net touched e is, two.1);
          piece = (two.0, on.piece);
          each = on.each;
        }

fits_need : (net : Net) (word : List ℕ) → Fits net word (need net word)
fits_need net [] = ([], refl, record { whole = refl; apart = tt })
fits_need net (e ∷ word) =
    let rest = cut net (touches net e) word in
    ((e ∷ rest.front) ∷ rest.pieces, omega (arith, rest.count), record { whole = ap (λ w. e ∷ w) rest.whole; apart = ((apart_from net e rest.front rest.clear, rest.piece), rest.each) })

-- empty pieces may be added in front
fits_more : (net : Net) (word : List ℕ) (n k : ℕ) → Fits net word n → Fits net word (k + n)
fits_more net word n k (pieces, count, cuts) = by k
  where
    by : (j : ℕ) → Fits net word (j + n)
    by zero = (pieces, omega (arith, count), cuts)
    by (suc j) = let rest = by j in ([] ∷ rest.0, omega (arith, rest.1), record { whole = rest.2.whole; apart = (tt, rest.2.apart) })

-- ---- it is least

-- One more than the pieces that follow are enough, and where the present piece can take the rest of its own, the pieces
-- that follow are.
record Bounds (net : Net) (rest : List ℕ) (pieces : List (List ℕ)) (touched : ℕ → Bool) : Type 0 where
  any : pieces_after net touched (rest ++ joined pieces) ≤ suc (length pieces)
  taking : AllByRecursion (IsClear net touched) rest → pieces_after net touched (rest ++ joined pieces) ≤ length pieces

clear_both : (net : Net) (touched : ℕ → Bool) (e : ℕ) (rest : List ℕ) → AllByRecursion (AreApart net e) rest → AllByRecursion (IsClear net touched) rest
    → AllByRecursion (IsClear net (with_event net touched e)) rest
clear_both net touched e [] apart clear = tt
clear_both net touched e (g ∷ rest) apart clear = (
  λ c here there. elim (either (touched c) (touches net e c) there) [ inl before ↦ clear.0 c here before | inr now ↦ apart.0 c now here ],
  clear_both net touched e rest apart.1 clear.1,
)

clear_of : (net : Net) (e : ℕ) (rest : List ℕ) → AllByRecursion (AreApart net e) rest → AllByRecursion (IsClear net (touches net e)) rest
clear_of net e [] apart = tt
clear_of net e (g ∷ rest) apart = (λ c here there. apart.0 c there here, clear_of net e rest apart.1)

bounds : (net : Net) (pieces : List (List ℕ)) → ((touched : ℕ → Bool) → pieces_after net touched (joined pieces) ≤ length pieces) →
    (rest : List ℕ) (touched : ℕ → Bool) → IsPiece net rest → Bounds net rest pieces touched
bounds net pieces base [] touched piece = record { any = omega (arith, base touched); taking = λ _. base touched }
bounds net pieces base (e ∷ rest) touched piece =
    by (meets net touched e) refl (bounds net pieces base rest (touches net e) piece.1) (bounds net pieces base rest (with_event net touched e) piece.1)
  where
    by : (b : Bool) → meets net touched e ≡ b → Bounds net rest pieces (touches net e) → Bounds net rest pieces (with_event net touched e) → Bounds net (e ∷ rest) pieces touched
    by true is new on = record {
      any = rw is (omega (arith, new.taking (clear_of net e rest piece.0)));
      taking = λ clear. let not : meets net touched e ≡ false = test_from_clear net touched e clear.0 in cc;
    }
    by false is new on = record {
      any = rw is on.any;
      taking = λ clear. rw is (on.taking (clear_both net touched e rest piece.0 clear.1));
    }

base_bound : (net : Net) (pieces : List (List ℕ)) → AllByRecursion (IsPiece net) pieces → (touched : ℕ → Bool) → pieces_after net touched (joined pieces) ≤ length pieces
base_bound net [] each touched = omega arith
base_bound net (piece ∷ pieces) each touched = (bounds net pieces (base_bound net pieces each.1) piece touched each.0).any

least : (net : Net) (word : List ℕ) (pieces : List (List ℕ)) → word ≡ joined pieces → AllByRecursion (IsPiece net) pieces → need net word ≤ length pieces
least net [] pieces whole each = omega arith
least net (e ∷ word) [] whole each = cc
least net (e ∷ word) ([] ∷ pieces) whole each = let later = least net (e ∷ word) pieces whole each.1 in omega (arith, later)
least net (e ∷ word) ((f ∷ piece) ∷ pieces) whole each =
    let first : e ≡ f = cc in
    let rest : word ≡ piece ++ joined pieces = cc in
    let bound = (bounds net pieces (base_bound net pieces each.1) piece (touches net f) each.0.1).taking (clear_of net f piece each.0.0) in
    rw (first, rest) (omega (arith, bound))

pub need_is_least : NeedIsLeast
need_is_least net word n = (
  λ fits. subst (λ k. need net word ≤ k) fits.1 (least net word fits.0 fits.2.whole fits.2.apart),
  λ enough. subst (Fits net word) (omega arith) (fits_more net word (need net word) (n - need net word) (fits_need net word)),
)
