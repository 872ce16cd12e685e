-- Finding a name by its bytes, and adding one.
use Rattle.std.proofs.Common.{◌≡◌, ◌<◌, ◌+◌, ℕ, suc, Bool, true, false, List, [], ◌∷◌, ◌++◌, length, Option, None, Some, cond, refl, arith, ap, sym, ◌∙◌, subst, Vec, ◌^◌, length-append}
use Rattle.std.specs.Prelude.{position, option_map, bytes_eq}
use Rattle.std.specs.List.{position_from, AllByRecursion}
use Rattle.std.specs.Map.{keys_of, values_of, lookup}
use Rattle.std.proofs.lemmas.Iterator.Adapters.{position_from-zero}
use Rattle.std.specs.Cmp.Lexicographic.{nat_list_eq_equiv}
use Rattle.des_base.proofs.PlaceLemmas.{none_parts, place-within}
use Rattle.indexmap.specs.IndexMap.{insert_entry}
use Rattle.indexmap.specs.Layout.{hash_map}
use Rattle.indexmap.proofs.CallerLemmas.{insert_entry-new}
use Rattle.des_base.specs.Names.{place_by, place_of, AreDistinct, AreNames, IsName}
use Rattle.des_base.specs.Entries.{KeysAreNames}

module _ {X : Type 0} (p : X → Bool) where
  from_step : (i : ℕ) (b : Bool) (q o : Option ℕ) → q ≡ option_map (λ k. i + 1 + k) o → cond b (Some i) q ≡ option_map (λ k. i + k) (cond b (Some 0) (option_map suc o))
  from_step i true q o h = ap Some (omega arith)
  from_step i false q None h = h
  from_step i false q (Some k) h = h ∙ ap Some (omega arith)

  from_place : (i : ℕ) (xs : List X) → position_from p i xs ≡ option_map (λ k. i + k) (place_by p xs)
  from_place i [] = refl
  from_place i (x ∷ xs) = from_step i (p x) (position_from p (i + 1) xs) (place_by p xs) (from_place (i + 1) xs)

  plain : (o : Option ℕ) → option_map (λ k. 0 + k) o ≡ o
  plain None = refl
  plain (Some k) = ap Some (omega arith)

  -- std's search is ours
  pub position-place : (xs : List X) → position p xs ≡ place_by p xs
  position-place xs = position_from-zero p xs ∙ from_place 0 xs ∙ plain (place_by p xs)

absent_step : (b : Bool) (x : List ℕ) (o : Option (List ℕ)) (q : Option ℕ) → cond b (Some 0) (option_map suc q) ≡ None → (q ≡ None → o ≡ None) → cond b (Some x) o ≡ None
absent_step true x o q h rest = cc
absent_step false x o None h rest = rest refl
absent_step false x o (Some k) h rest = cc

module _ {Z : Type 0} where
  -- the keys and the names are searched alike
  pub place-keys : (text : List ℕ) (es : List (Vec ℕ Z × List ℕ)) → KeysAreNames es → place_by (λ k. bytes_eq text k.items) (keys_of es) ≡ place_of text (values_of es)
  place-keys text [] h = refl
  place-keys text (e ∷ es) h = λ i. cond (bytes_eq text (h.0 i)) (Some 0) (option_map suc (place-keys text es h.1 i))

  -- a name that isn't there has no entry
  pub lookup-absent : (text : Vec ℕ Z) (es : List (Vec ℕ Z × List ℕ)) → KeysAreNames es → place_of text.items (values_of es) ≡ None → lookup (λ k. bytes_eq text.items k.items) es ≡ None
  lookup-absent text [] h none = refl
  lookup-absent text (e ∷ es) h none =
      absent_step (bytes_eq text.items e.0.items) e.1 (lookup (λ k. bytes_eq text.items k.items) es) (place_of text.items (values_of es))
      (subst (λ n. cond (bytes_eq text.items n) (Some 0) (option_map suc (place_of text.items (values_of es))) ≡ None) (sym h.0) none)
      (lookup-absent text es h.1)

  pub KeysAreNames-push : (es : List (Vec ℕ Z × List ℕ)) (k : Vec ℕ Z) (n : List ℕ) → KeysAreNames es → k.items ≡ n → KeysAreNames (es ++ (k, n) ∷ [])
  KeysAreNames-push [] k n h e = (e, tt)
  KeysAreNames-push (x ∷ xs) k n h e = (h.0, KeysAreNames-push xs k n h.1 e)

  pub values-push : (es : List (Vec ℕ Z × List ℕ)) (k : Vec ℕ Z) (n : List ℕ) → values_of (es ++ (k, n) ∷ []) ≡ values_of es ++ n ∷ []
  values-push [] k n = refl
  values-push (x ∷ xs) k n = ap (λ l. x.1 ∷ l) (values-push xs k n)

-- none in a list with one more: not there and not the new one
none_step : (b c : Bool) (q r : Option ℕ) → cond b (Some 0) (option_map suc q) ≡ None → (q ≡ None → c ≡ false → r ≡ None) → c ≡ false → cond b (Some 0) (option_map suc r) ≡ None
none_step true c q r h rest e = cc
none_step false c None r h rest e = ap (option_map suc) (rest refl e)
none_step false c (Some k) r h rest e = cc

pub place-push : (text : List ℕ) (ns : List (List ℕ)) (n : List ℕ) → place_of text ns ≡ None → bytes_eq text n ≡ false → place_of text (ns ++ n ∷ []) ≡ None
place-push text [] n h e = ap (λ b. cond b (Some 0) None) e
place-push text (x ∷ xs) n h e = none_step (bytes_eq text x) (bytes_eq text n) (place_of text xs) (place_of text (xs ++ n ∷ [])) h (λ q c. place-push text xs n q c) e

pub AreDistinct-push : (ns : List (List ℕ)) (n : List ℕ) → AreDistinct ns → place_of n ns ≡ None → AreDistinct (ns ++ n ∷ [])
AreDistinct-push [] n h none = (refl, tt)
AreDistinct-push (x ∷ xs) n h none =
    let parts = none_parts (bytes_eq n x) (place_of n xs) none in
    (place-push x xs n h.0 (nat_list_eq_equiv.symm x n ∙ parts.0), AreDistinct-push xs n h.1 parts.1)

pub each_push : (ns : List (List ℕ)) (n : List ℕ) → AllByRecursion IsName ns → IsName n → AllByRecursion IsName (ns ++ n ∷ [])
each_push [] n h e = (e, tt)
each_push (x ∷ xs) n h e = (h.0, each_push xs n h.1 e)

pub AreNames-push : (ns : List (List ℕ)) (n : List ℕ) → AreNames ns → IsName n → place_of n ns ≡ None → length ns + 1 < 2 ^ 32 → AreNames (ns ++ n ∷ [])
AreNames-push ns n h name none few = record { each = each_push ns n h.each name; distinct = AreDistinct-push ns n h.distinct none; few = omega (arith, length-append ns (n ∷ [])) }

-- what a table keeps, after a new name was put in
pub record Added {Z : Type 0} (old : List (List ℕ)) (new : List (Vec ℕ Z × List ℕ)) (n : List ℕ) : Type 0 where
  pub kept : KeysAreNames new × AreNames (values_of new)
  pub grown : values_of new ≡ old ++ n ∷ []

pub added : {Z : Type 0} (es new : List (Vec ℕ Z × List ℕ)) (k : Vec ℕ Z) (n : List ℕ) (old : List (List ℕ))
    → KeysAreNames es × AreNames (values_of es) → values_of es ≡ old → new ≡ insert_entry (λ x y. bytes_eq x.items y.items) es k n
    → k.items ≡ n → IsName n → place_of n old ≡ None → length old + 1 < 2 ^ 32 → Added old new n
added es new k n old inv is e same name none few =
    let none_here : place_of n (values_of es) ≡ None = subst (λ l. place_of n l ≡ None) (sym is) none in
    let few_here : length (values_of es) + 1 < 2 ^ 32 = subst (λ l. length l + 1 < 2 ^ 32) (sym is) few in
    let absent : lookup (λ j. bytes_eq k.items j.items) es ≡ None = lookup-absent k es inv.0 (subst (λ t. place_of t (values_of es) ≡ None) (sym same) none_here) in
    let last : new ≡ es ++ (k, n) ∷ [] = e ∙ insert_entry-new (λ x y. bytes_eq x.items y.items) (hash_map {S = ℕ} es 0 0) k n absent in
    let grown : values_of new ≡ values_of es ++ n ∷ [] = ap values_of last ∙ values-push es k n in
    record {
      kept = (subst KeysAreNames (sym last) (KeysAreNames-push es k n inv.0 same), subst AreNames (sym grown) (AreNames-push (values_of es) n inv.1 name none_here few_here));
      grown = grown ∙ ap (λ l. l ++ n ∷ []) is;
    }

pub found : {Z : Type 0} (text : List ℕ) (es : List (Vec ℕ Z × List ℕ)) (names : List (List ℕ)) (r : Option ℕ)
    → KeysAreNames es × AreNames (values_of es) → r ≡ position (λ k. bytes_eq text k.items) (keys_of es) → values_of es ≡ names → r ≡ place_of text names
found text es names r inv e same = e ∙ position-place (λ k. bytes_eq text k.items) (keys_of es) ∙ place-keys text es inv.0 ∙ ap (place_of text) same

pub place_of-within : (text : List ℕ) (names : List (List ℕ)) (k : ℕ) → Some k ≡ place_of text names → k < length names
place_of-within text names k h = place-within (bytes_eq text) names k (sym h)
