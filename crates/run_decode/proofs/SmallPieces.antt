-- A piece has no more events than there are components, since each of its events touches one that no other does.
use Rattle.std.proofs.Common.{◌≡◌, ◌≢◌, ℕ, ◌<◌, ◌≤◌, ◌∙◌, true, List, [], ◌∷◌, length, refl, sym, subst, arith, map, ◌==◌}
use Rattle.std.specs.List.{AllByRecursion}
use Rattle.std.proofs.lemmas.Bool.{eq-eqb}
use Rattle.std.proofs.lemmas.List.{length-map}
use Rattle.std.proofs.lemmas.List.FromFn.{length-range_with_len}
use Rattle.std.proofs.lemmas.List.Elements.{Contains-get_or}
use Rattle.des_base.proofs.BoolLemmas.{or_left}
use Rattle.des_base.proofs.Elements.{all_from, map_from}
use Rattle.des_base.specs.Lists.{EachPair, numbers_below}
use Rattle.des_net.specs.declared.parts.Part.{Part}
use Rattle.des_net.specs.Network.{Net, IsNetwork, IsEvent, IsPart, has_part, parts_of, touches, event_at, no_event}
use Rattle.des_net.specs.Width.{IsPiece, AreApart}
use Rattle.question_clauses.proofs.Entries.{no_longer}
use Rattle.question_clauses.proofs.Lists.{all_at, in_numbers}

-- the component of the first part
pub first_of : List Part → ℕ
first_of [] = 0
first_of (part ∷ parts) = part.comp

pub first_there : (parts : List Part) → 0 < length parts → has_part parts (first_of parts) ≡ true
unfolding first_of
first_there [] h = absurd (omega arith)
first_there (part ∷ parts) h = or_left (part.comp == part.comp) (has_part parts part.comp) (eq-eqb part.comp part.comp refl)

pub first_known : (m : ℕ) (parts : List Part) → 0 < length parts → AllByRecursion (λ part. part.comp < m) parts → first_of parts < m
unfolding first_of
first_known m [] h known = absurd (omega arith)
first_known m (part ∷ parts) h known = known.0

module _ (net : Net) (network : IsNetwork net) where
  event_is : (e : ℕ) → e < length net.events → IsEvent net.components (event_at net e)
  event_is e h = all_at (IsEvent net.components) net.events network.events (event_at net e) (Contains-get_or net.events e no_event h)

  touched : ℕ → ℕ
  touched e = first_of (parts_of net e)

  touches_first : (e : ℕ) → e < length net.events → touches net e (touched e) ≡ true
  unfolding touched
  touches_first e h = first_there (parts_of net e) (event_is e h).moving

  touched_known : (e : ℕ) → e < length net.events → touched e < length net.components
  unfolding touched
  touched_known e h = first_known (length net.components) (parts_of net e) (event_is e h).moving
      (all_from (λ (part : Part). part.comp < length net.components) (parts_of net e) (λ part in'. (all_at (IsPart net.components) (parts_of net e) (event_is e h).known part in').component))

  touched_once : (piece : List ℕ) → AllByRecursion (λ e. e < length net.events) piece → IsPiece net piece → EachPair (λ c d. c ≢ d) (map touched piece)
  touched_once [] known apart = tt
  touched_once (e ∷ piece) known apart = (
    all_from (λ d. touched e ≢ d) (map touched piece) (λ d in' same.
        let found = map_from touched piece d in' in
        let other = all_at (λ f. f < length net.events) piece known.1 found.0 found.1 in
        all_at (AreApart net e) piece apart.0 found.0 found.1 (touched e) (touches_first e known.0)
        (subst (λ c. touches net found.0 c ≡ true) (found.2 ∙ sym same) (touches_first found.0 other))),
    touched_once piece known.1 apart.1,
  )

  pub piece_small : (piece : List ℕ) → AllByRecursion (λ e. e < length net.events) piece → IsPiece net piece → length piece ≤ length net.components
  piece_small piece known apart =
      let few = no_longer (map touched piece) (numbers_below (length net.components)) (touched_once piece known apart) (λ c in'.
      let found = map_from touched piece c in' in
      in_numbers (length net.components) c (subst (λ d. d < length net.components) found.2 (touched_known found.0 (all_at (λ f. f < length net.events) piece known found.0 found.1)))) in
      let size = length-map piece touched in
      let range = length-range_with_len 0 (length net.components) in
      omega (arith, few, size, range)
