-- Lists that stand one behind another among their items.
use Rattle.std.proofs.Common.{◌≡◌, ◌∙◌, ◌<◌, ◌≤◌, ◌+◌, ◌-◌, ◌^◌, ◌++◌, ◌∷◌, [], ℕ, zero, suc, List, length, map, take, drop, get_or, Some, slice_get, refl, sym, ap, subst, arith}
use Rattle.std.specs.Prelude.{slice_range}
use Rattle.std.proofs.Math.Seq.{drop-append-add}
use Rattle.std.proofs.lemmas.Grind.{common_steps}
use Rattle.prop_core.specs.PieceList.{pieces_by_ends, pieces_of, EndsAscend, later_by}

-- the last end isn't before the start
cut_le : (start last : ℕ) (ends : List ℕ) → EndsAscend start last ends → start ≤ last
cut_le start last [] c = omega (arith, c)
cut_le start last (end ∷ ends) c = omega (arith, c.0, cut_le end last ends c.1)

range_kept : {X : Type 0} (items more : List X) (start end : ℕ) → start ≤ end → end ≤ length items → slice_range (items ++ more) start end ≡ slice_range items start end
range_kept items more start end a b = grind (arith, common_steps)

range_last : {X : Type 0} (items more : List X) → slice_range (items ++ more) (length items) (length items + length more) ≡ more
range_last items more = grind (arith, common_steps)

-- ---- one more list

pub pieces_more : {X : Type 0} (items more : List X) (start : ℕ) (ends : List ℕ) → EndsAscend start (length items) ends →
    pieces_by_ends (items ++ more) start (ends ++ (length items + length more) ∷ []) ≡ pieces_by_ends items start ends ++ more ∷ []
pieces_more items more start [] c = let a = range_last items more in rw c (ap (λ x. x ∷ []) a)
pieces_more items more start (end ∷ ends) c =
    let a = range_kept items more start end c.0 (cut_le end (length items) ends c.1) in
    let b = pieces_more items more end ends c.1 in
    cc

pub cut_more : (start last count : ℕ) (ends : List ℕ) → EndsAscend start last ends → EndsAscend start (last + count) (ends ++ (last + count) ∷ [])
cut_more start last count [] c = (omega (arith, c), refl)
cut_more start last count (end ∷ ends) c = (c.0, cut_more end last count ends c.1)

-- ---- all lists of others

range_later : {X : Type 0} (items more : List X) (start end : ℕ) → slice_range (items ++ more) (length items + start) (length items + end) ≡ slice_range more start end
range_later items more start end =
    let width : length items + end - (length items + start) ≡ end - start = omega arith in
    ap (λ n. take n (drop (length items + start) (items ++ more))) width ∙ ap (take (end - start)) (drop-append-add items more start)

pieces_later : {X : Type 0} (items more : List X) (start : ℕ) (ends : List ℕ) → pieces_by_ends (items ++ more) (length items + start) (map (later_by (length items)) ends) ≡ pieces_by_ends more start ends
pieces_later items more start [] = refl
pieces_later items more start (end ∷ ends) = let a = range_later items more start end in let b = pieces_later items more end ends in cc

pub pieces_joined : {X : Type 0} (items more : List X) (start : ℕ) (ends others : List ℕ) → EndsAscend start (length items) ends →
    pieces_by_ends (items ++ more) start (ends ++ map (later_by (length items)) others) ≡ pieces_by_ends items start ends ++ pieces_by_ends more 0 others
pieces_joined items more start [] others c =
    let z : start ≡ length items + 0 = omega (arith, c) in
    ap (λ (n : ℕ). pieces_by_ends (items ++ more) n (map (later_by (length items)) others)) z ∙ pieces_later items more 0 others
pieces_joined items more start (end ∷ ends) others c =
    let a = range_kept items more start end c.0 (cut_le end (length items) ends c.1) in
    let b = pieces_joined items more end ends others c.1 in
    cc

cut_later : (start last count : ℕ) (ends : List ℕ) → EndsAscend start last ends → EndsAscend (count + start) (count + last) (map (later_by count) ends)
cut_later start last count [] c = ap (λ n. count + n) c
cut_later start last count (end ∷ ends) c = (omega (arith, c.0), cut_later end last count ends c.1)

pub cut_joined : (start last count : ℕ) (ends others : List ℕ) → EndsAscend start last ends → EndsAscend 0 count others → EndsAscend start (last + count) (ends ++ map (later_by last) others)
cut_joined start last count [] others c d =
    let z : last + 0 ≡ start = omega (arith, c) in
    subst (λ (n : ℕ). EndsAscend n (last + count) (map (later_by last) others)) z (cut_later 0 count last others d)
cut_joined start last count (end ∷ ends) others c d = (c.0, cut_joined end last count ends others c.1 d)

-- ---- the list at a place

-- it starts before it ends, within the items
pub cut_at : (start last : ℕ) (ends : List ℕ) (place d e : ℕ) → EndsAscend start last ends → place < length ends → (get_or (start ∷ ends) place d ≤ get_or ends place e) × (get_or ends place e ≤ last)
cut_at start last [] place d e c h = absurd (omega (arith, h))
cut_at start last (end ∷ ends) zero d e c h = (c.0, cut_le end last ends c.1)
cut_at start last (end ∷ ends) (suc place) d e c h = cut_at end last ends place d e c.1 (omega arith)

pub piece_at : {X : Type 0} (items : List X) (start : ℕ) (ends : List ℕ) (place d e : ℕ) → place < length ends → slice_get (pieces_by_ends items start ends) place ≡ Some (slice_range items (get_or (start ∷ ends) place d) (get_or ends place e))
piece_at items start [] place d e h = absurd (omega (arith, h))
piece_at items start (end ∷ ends) zero d e h = refl
piece_at items start (end ∷ ends) (suc place) d e h = piece_at items end ends place d e (omega arith)

pub length-pieces_from : {X : Type 0} (items : List X) (start : ℕ) (ends : List ℕ) → length (pieces_by_ends items start ends) ≡ length ends
length-pieces_from items start [] = refl
length-pieces_from items start (end ∷ ends) = ap suc (length-pieces_from items end ends)

-- there are as many ends as lists
pub place_within : {X : Type 0} (items : List X) (ends : List ℕ) (place : ℕ) (pieces : List (List X)) → pieces_of items ends ≡ pieces → place < length pieces → place < length ends
place_within items ends place pieces e h = omega (arith, h, ap length e, length-pieces_from items 0 ends)

-- the bounds of the list at a place, as they are read
pub bounds_at : (count start end place : ℕ) (ends given : List ℕ) → EndsAscend 0 count ends → place < length ends → given ≡ ends → start ≡ get_or (0 ∷ given) place 0 → end ≡ get_or ends place end → (start ≤ end) × (end ≤ count)
bounds_at count start end place ends given c h same a b =
    let both = cut_at 0 count ends place 0 end c h in
    let from = a ∙ ap (λ (l : List ℕ). get_or (0 ∷ l) place 0) same in
    (omega (arith, both.0, from, b), omega (arith, both.1, b))

-- and the list itself
pub read_at : {X : Type 0} (items taken : List X) (ends given : List ℕ) (place start end : ℕ) (pieces : List (List X)) → pieces_of items ends ≡ pieces → place < length ends → given ≡ ends → taken ≡ items →
    start ≡ get_or (0 ∷ given) place 0 → end ≡ get_or ends place end → slice_get pieces place ≡ Some (slice_range taken start end)
read_at {X = X} items taken ends given place start end pieces shown h same all a b =
    let from : start ≡ get_or (0 ∷ ends) place 0 = a ∙ ap (λ (l : List ℕ). get_or (0 ∷ l) place 0) same in
    ap (λ (l : List (List X)). slice_get l place) (sym shown) ∙ piece_at items 0 ends place 0 end h ∙ ap Some (range_is from)
  where
    range_is : start ≡ get_or (0 ∷ ends) place 0 → slice_range items (get_or (0 ∷ ends) place 0) (get_or ends place end) ≡ slice_range taken start end
    range_is from = rw (all, from, ← b) refl

-- ---- what calls leave

pub cut_pushed : (last new count : ℕ) (ends more : List ℕ) → EndsAscend 0 last ends → new ≡ last + count → more ≡ ends ++ new ∷ [] → EndsAscend 0 new more
cut_pushed last new count ends more c n m = rw (m, n) (cut_more 0 last count ends c)

pub pieces_pushed : {X : Type 0} (items piece new : List X) (last after : ℕ) (ends more : List ℕ) (pieces : List (List X)) → pieces_of items ends ≡ pieces → EndsAscend 0 last ends → last ≡ length items →
    new ≡ items ++ piece → after ≡ last + length piece → more ≡ ends ++ after ∷ [] → pieces_of new more ≡ pieces ++ piece ∷ []
pieces_pushed {X = X} items piece new last after ends more pieces shown c l n a m =
    let z : after ≡ length items + length piece = a ∙ ap (λ k. k + length piece) l in
    let cut = subst (λ (k : ℕ). EndsAscend 0 k ends) l c in
    rw (n, m, z) (pieces_more items piece 0 ends cut) ∙ ap (λ (ps : List (List X)). ps ++ piece ∷ []) shown

pub cut_appended : (last count new : ℕ) (ends others all : List ℕ) → EndsAscend 0 last ends → EndsAscend 0 count others → new ≡ last + count → all ≡ ends ++ map (later_by last) others → EndsAscend 0 new all
cut_appended last count new ends others all c d n a = rw (a, n) (cut_joined 0 last count ends others c d)

pub pieces_appended : {X : Type 0} (items more new : List X) (last : ℕ) (ends others all : List ℕ) (pieces further : List (List X)) → pieces_of items ends ≡ pieces → pieces_of more others ≡ further → EndsAscend 0 last ends → last ≡ length items →
    new ≡ items ++ more → all ≡ ends ++ map (later_by last) others → pieces_of new all ≡ pieces ++ further
pieces_appended {X = X} items more new last ends others all pieces further shown shown_more c l n a =
    let e : all ≡ ends ++ map (later_by (length items)) others = a ∙ ap (λ (k : ℕ). ends ++ map (later_by k) others) l in
    let cut = subst (λ (k : ℕ). EndsAscend 0 k ends) l c in
    rw (n, e) (pieces_joined items more 0 ends others cut) ∙ ap (λ (ps : List (List X)). ps ++ pieces_by_ends more 0 others) shown ∙ ap (λ (ps : List (List X)). pieces ++ ps) shown_more

-- an end that is later is still a number of four bytes
pub small_sum : (later place d : ℕ) (more : List ℕ) → ((count : ℕ) × EndsAscend 0 count more × (later + count < 2 ^ 32)) → place < length more → later + get_or more place d < 2 ^ 32
small_sum later place d more s h = omega (arith, (cut_at 0 s.0 more place d d s.1 h).1, s.2)
