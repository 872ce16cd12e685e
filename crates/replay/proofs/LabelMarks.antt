-- A label among others has a mark at its place.
use Rattle.std.proofs.Common.{◌≡◌, ℕ, suc, ◌+◌, ◌<◌, Bool, true, false, List, [], ◌∷◌, length, get_or, set, bytes_eq, ⊎_elim, refl, sym, ap, ◌∙◌, arith, below_more, get_or-set_same, get_or-set_other, length-set}
use Rattle.std.specs.Prelude.{◌&&◌, ◌||◌}
use Rattle.std.specs.List.{list_any}
use Rattle.std.proofs.lemmas.Bool.{cases_eq}
use Rattle.std.proofs.lemmas.List.{get_or_default}
use Rattle.std.proofs.lemmas.Slice.Eq.{bytes_eq-Decides}
use Rattle.replay.specs.LabelPlaces.{mark_place, HaveMarks}

-- there is a mark at the label's place
abbrev marked : List Bool → List ℕ → Bool
marked marks label = get_or marks (mark_place label) false

-- where one of the labels is this one, its place is marked
there : (marks : List Bool) (label : List ℕ) (labels : List (List ℕ)) → ((i : ℕ) (d : List ℕ) → i < length labels → marked marks (get_or labels i d) ≡ true) → list_any (bytes_eq label) labels ≡ true → marked marks label ≡ true
there marks label [] each h = cc
there marks label (other ∷ labels) each h = by (bytes_eq label other) refl h (there marks label labels (λ i d l. each (suc i) d (omega arith)))
  where
    by : (b : Bool) → bytes_eq label other ≡ b → (b || list_any (bytes_eq label) labels) ≡ true → (list_any (bytes_eq label) labels ≡ true → marked marks label ≡ true) → marked marks label ≡ true
    by true same h rest = ap (marked marks) ((bytes_eq-Decides label other).0 same) ∙ each 0 label (omega arith)
    by false other h rest = rest h

-- so to look at the mark first changes nothing
pub sifted : (marks : List Bool) (label : List ℕ) (labels : List (List ℕ)) → HaveMarks marks labels (length labels) → list_any (bytes_eq label) labels ≡ (get_or marks (mark_place label) false && list_any (bytes_eq label) labels)
sifted marks label labels are = by (list_any (bytes_eq label) labels) refl
  where
    by : (b : Bool) → list_any (bytes_eq label) labels ≡ b → b ≡ (marked marks label && b)
    by true h = sym (ap (λ m. m && true) (there marks label labels are.each h))
    by false h = none (marked marks label)
      where
        none : (m : Bool) → false ≡ (m && false)
        none true = refl
        none false = refl

stays : (marks : List Bool) (a b : ℕ) → a < length marks → get_or marks b false ≡ true → get_or (set marks a true) b false ≡ true
stays marks a b inside was =
    ⊎_elim (λ same. ap (λ k. get_or (set marks a true) k false) same ∙ get_or-set_same marks a true false inside) (λ other. get_or-set_other marks a b true false other ∙ was) (cases_eq b a)

-- the mark of one label more
pub marked_more : (marks : List Bool) (labels : List (List ℕ)) (n : ℕ) (label : List ℕ) → n < length labels → label ≡ get_or labels n label → mark_place label < 4096 → HaveMarks marks labels n → HaveMarks (set marks (mark_place label) true) labels (n + 1)
marked_more marks labels n label within is low are = record {
  long = length-set marks (mark_place label) true ∙ are.long;
  each = λ i d l. below_more (λ i. (d : List ℕ) → get_or (set marks (mark_place label) true) (mark_place (get_or labels i d)) false ≡ true) n
      (λ j less d. stays marks (mark_place label) _ (omega (arith, low, are.long)) (are.each j d less))
      (λ d. ap (λ (text : List ℕ). get_or (set marks (mark_place label) true) (mark_place text) false) (get_or_default labels n d label within ∙ sym is) ∙ get_or-set_same marks (mark_place label) true false (omega (arith, low, are.long)))
      i l d;
}
