-- Each event touches a component, so no more events can be seen than the components' sizes say.
use Rattle.std.proofs.Common.{◌≡◌, ℕ, zero, suc, ◌+◌, ◌*◌, ◌^◌, ◌<◌, ◌≤◌, ◌⊎◌, inl, inr, Bool, true, false, cond, List, [], ◌∷◌, length, refl, sym, ap, subst, arith, Contains, sum_by, is_some}
use Rattle.std.proofs.lemmas.List.Elements.{Contains-get_or}
use Rattle.std.proofs.lemmas.List.Sums.{sum_by-cons}
use Rattle.des_base.proofs.Elements.{all_at, all_from, cons_cases, none_in_nil}
use Rattle.des_base.proofs.NumbersBelow.{sum_numbers_more}
use Rattle.des_base.proofs.Powers.{square}
use Rattle.des_base.specs.Lists.{numbers_below}
use Rattle.des_net.specs.declared.parts.Part.{Part}
use Rattle.des_net.specs.Network.{Net, IsNetwork, IsEvent, IsPart, parts_of, touches, event_at, no_event, label_of}
use Rattle.des_net.specs.QuestionSize.{component_sizes, observable_count, component_state_count, touching_count}
use Rattle.question_clauses.proofs.Lists.{in_numbers}
use Rattle.run_decode.proofs.SmallPieces.{first_of, first_there, first_known}

-- ---- sums

pub sum_both : (f g : ℕ → ℕ) (xs : List ℕ) → sum_by (λ x. f x + g x) xs ≡ sum_by f xs + sum_by g xs
sum_both f g [] = refl
sum_both f g (x ∷ xs) = omega (arith, sum_by-cons (λ y. f y + g y) x xs, sum_by-cons f x xs, sum_by-cons g x xs, sum_both f g xs)

sum_le : (f g : ℕ → ℕ) (xs : List ℕ) → ((x : ℕ) → f x ≤ g x) → sum_by f xs ≤ sum_by g xs
sum_le f g [] each = omega arith
sum_le f g (x ∷ xs) each = omega (arith, sum_by-cons f x xs, sum_by-cons g x xs, sum_le f g xs each, each x)

one_within : (f : ℕ → ℕ) (xs : List ℕ) (x : ℕ) → Contains xs x → f x ≤ sum_by f xs
one_within f [] x in' = absurd (none_in_nil x in')
one_within f (y ∷ xs) x in' = by (cons_cases y xs x in') (one_within f xs x)
  where
    by : (y ≡ x) ⊎ Contains xs x → (Contains xs x → f x ≤ sum_by f xs) → f x ≤ sum_by f (y ∷ xs)
    by (inl is) later = omega (arith, sum_by-cons f y xs, ap f is)
    by (inr there) later = omega (arith, sum_by-cons f y xs, later there)

-- ---- events

bit : Bool → ℕ
bit b = cond b 1 0

module _ (net : Net) (network : IsNetwork net) where
  event_valid : (e : ℕ) → e < length net.events → IsEvent net.components (event_at net e)
  event_valid e h = all_at (IsEvent net.components) net.events (event_at net e) network.events (Contains-get_or net.events e no_event h)

  touched_known : (e : ℕ) → e < length net.events → first_of (parts_of net e) < length net.components
  touched_known e h = first_known (length net.components) (parts_of net e) (event_valid e h).moving
      (all_from (λ (part : Part). part.comp < length net.components) (parts_of net e) (λ part in'. (all_at (IsPart net.components) (parts_of net e) part (event_valid e h).known in').component))

  -- of the first events, those that touch a component
  touching : ℕ → ℕ → ℕ
  touching k c = sum_by (λ e. bit (touches net e c)) (numbers_below k)

  -- an event is one of those that touch its first component
  one_touches : (e : ℕ) → e < length net.events → 1 ≤ sum_by (λ c. bit (touches net e c)) (numbers_below (length net.components))
  unfolding bit
  one_touches e h =
      let within = one_within (λ c. bit (touches net e c)) (numbers_below (length net.components)) (first_of (parts_of net e)) (in_numbers (length net.components) (first_of (parts_of net e)) (touched_known e h)) in
      let touch : touches net e (first_of (parts_of net e)) ≡ true = first_there (parts_of net e) (event_valid e h).moving in
      let one : bit (touches net e (first_of (parts_of net e))) ≡ 1 = one_bit (touches net e (first_of (parts_of net e))) touch in
      omega (arith, within, one)
    where
      one_bit : (b : Bool) → b ≡ true → bit b ≡ 1
      one_bit true is = refl
      one_bit false is = cc

  few_seen : (k : ℕ) → k ≤ length net.events → sum_by (λ e. bit (is_some (label_of net e))) (numbers_below k) ≤ sum_by (touching k) (numbers_below (length net.components))
  unfolding touching bit
  few_seen zero h = omega arith
  few_seen (suc k) h =
      let before = few_seen k (omega (arith, h)) in
      let next : k + 1 ≡ suc k = omega arith in
      let seen = sum_numbers_more (λ e. bit (is_some (label_of net e))) k in
      let each : (λ (c : ℕ). touching k c + bit (touches net k c)) ≡ touching (k + 1) = λ i. λ c. sym (more c) i in
      let summed = ap (λ (f : ℕ → ℕ). sum_by f (numbers_below (length net.components))) each in
      let both = sum_both (touching k) (λ c. bit (touches net k c)) (numbers_below (length net.components)) in
      let one = one_touches k (omega (arith, h)) in
      let small = bit_small (is_some (label_of net k)) in
      subst (λ m. sum_by (λ e. bit (is_some (label_of net e))) (numbers_below m) ≤ sum_by (touching m) (numbers_below (length net.components))) next
      (omega (arith, before, seen, summed, both, one, small))
    where
      more : (c : ℕ) → touching (k + 1) c ≡ touching k c + bit (touches net k c)
      more c = sum_numbers_more (λ e. bit (touches net e c)) k

      bit_small : (b : Bool) → bit b ≤ 1
      bit_small true = omega arith
      bit_small false = omega arith

  pub few_observable : observable_count net ≤ component_sizes net
  unfolding touching bit
  few_observable =
      let seen = few_seen (length net.events) (omega arith) in
      let squares = sum_le (touching_count net) (λ c. (component_state_count net c + touching_count net c) ^ 2) (numbers_below (length net.components)) (λ c. within_square (component_state_count net c) (touching_count net c)) in
      omega (arith, seen, squares)
    where
      at_most : (m : ℕ) → m ≤ m * m
      at_most zero = omega arith
      at_most (suc m) = omega arith

      within_square : (s t : ℕ) → t ≤ (s + t) ^ 2
      within_square s t = omega (arith, square (s + t), at_most (s + t))
