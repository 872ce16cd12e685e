-- Events that touch a component, counted by their parts.
use Rattle.std.proofs.Common.{◌≡◌, ◌∙◌, ℕ, zero, suc, ◌+◌, ◌<◌, ◌≤◌, ◌==◌, Bool, true, false, cond, List, [], ◌∷◌, length, get_or, take, refl, ap, sym, subst, arith, eqb-true, replicate, ◌*◌}
use Rattle.std.specs.Prelude.{◌||◌, count_by}
use Rattle.std.specs.List.{list_any}
use Rattle.std.proofs.lemmas.List.{take_all}
use Rattle.std.proofs.lemmas.Nat.{mul-le}
use Rattle.std.proofs.lemmas.List.Elements.{All-get_or}
use Rattle.std.proofs.lemmas.List.FromFn.{length-range_with_len}
use Rattle.std.proofs.lemmas.List.Sums.{sum_by-cons, count_by-le-length}
use Rattle.des_base.proofs.NumbersBelow.{sum_numbers_more}
use Rattle.des_base.specs.Lists.{numbers_below}
use Rattle.des_net.specs.declared.parts.Part.{Part}
use Rattle.des_net.specs.Building.{IsDraft, IsDraftEvent, repeats}
use Rattle.des_net.specs.QuestionSize.{touching_count}
use Rattle.des_net.specs.Network.{Net, has_part, no_event, parts_of, touches}

or_left : (a b : Bool) → (a || b) ≡ false → a ≡ false
or_left false b h = refl
or_left true b h = h

or_right : (a b : Bool) → (a || b) ≡ false → b ≡ false
or_right false b h = h
or_right true b h = cc

-- the part is of this component
abbrev pub is_of : ℕ → Part → Bool
is_of c part = part.comp == c

-- of parts that differ in their components one at most is of a component
pub once_counted : (c : ℕ) (parts : List Part) → repeats parts ≡ false → count_by (is_of c) parts ≡ cond (has_part parts c) 1 0
unfolding repeats
once_counted c [] h = refl
once_counted c (p ∷ ps) h =
    let here : list_any (λ (q : Part). q.comp == p.comp) ps ≡ false = or_left (list_any (λ (q : Part). q.comp == p.comp) ps) (repeats ps) h in
    let rest : count_by (is_of c) ps ≡ cond (has_part ps c) 1 0 = once_counted c ps (or_right (list_any (λ (q : Part). q.comp == p.comp) ps) (repeats ps) h) in
    sum_by-cons (λ (q : Part). cond (is_of c q) 1 0) p ps ∙ by (p.comp == c) refl here rest
  where
    by : (b : Bool) → (p.comp == c) ≡ b → list_any (λ (q : Part). q.comp == p.comp) ps ≡ false → count_by (is_of c) ps ≡ cond (has_part ps c) 1 0 → cond (p.comp == c) 1 0 + count_by (is_of c) ps ≡ cond ((p.comp == c) || has_part ps c) 1 0
    by true e here rest =
        let none : has_part ps c ≡ false = subst (λ k. list_any (λ (q : Part). q.comp == k) ps ≡ false) (eqb-true p.comp c e) here in
        let zero_more : count_by (is_of c) ps ≡ 0 = rest ∙ ap (λ b. cond b 1 0) none in
        rw e (omega (arith, zero_more))
    by false e here rest = rw e (omega (arith, rest))

-- all parts
pub counted_all : (counts first : List ℕ) (parts : List Part) (i : ℕ) → length parts ≤ i → repeats parts ≡ false → ((c : ℕ) → get_or counts c 0 ≡ get_or first c 0 + count_by (is_of c) (take i parts)) → (c : ℕ) → get_or counts c 0 ≡ get_or first c 0 + cond (has_part parts c) 1 0
counted_all counts first parts i all once before c =
    before c ∙ ap (λ ps. get_or first c 0 + count_by (is_of c) ps) (take_all i parts all) ∙ ap (λ n. get_or first c 0 + n) (once_counted c parts once)

-- no part is counted at first
pub none_counted : (n k : ℕ) → ◌≡◌ {A = ℕ} (get_or (replicate n 0) k 0) 0
none_counted zero k = refl
none_counted (suc n) zero = refl
none_counted (suc n) (suc k) = none_counted n k

-- one event more
pub touching_more : (net : Net) (e : ℕ) (counts new : List ℕ) (parts : List Part) → parts ≡ parts_of net e
    → ((c : ℕ) → get_or counts c 0 ≡ count_by (λ f. touches net f c) (numbers_below e)) → ((c : ℕ) → get_or new c 0 ≡ get_or counts c 0 + cond (has_part parts c) 1 0)
    → (c : ℕ) → get_or new c 0 ≡ count_by (λ f. touches net f c) (numbers_below (e + 1))
touching_more net e counts new parts is before after c =
    after c ∙ (λ i. before c i + cond (has_part (is i) c) 1 0) ∙ sym (sum_numbers_more (λ f. cond (touches net f c) 1 0) e)

-- no component is touched by more events than there are so far
pub few_so_far : (net : Net) (e c : ℕ) → count_by (λ f. touches net f c) (numbers_below e) ≤ e
few_so_far net e c = subst (λ n. count_by (λ f. touches net f c) (numbers_below e) ≤ n) (length-range_with_len 0 e) (count_by-le-length (λ f. touches net f c) (numbers_below e))

-- how many events touch a component of a network
pub touching_is_few : (net : Net) (c : ℕ) → IsDraft net → touching_count net c ≤ 4000
touching_is_few net c draft = let few = few_so_far net (length net.events) c in let events = draft.few_events in omega (arith, few, events)

pub square_is_few : (states touching : ℕ) → states ≤ 256 → touching ≤ 4000 → (states + touching) * (states + touching) ≤ 18113536
square_is_few states touching few_states few_touching = mul-le (states + touching) (states + touching) 4256 4256 (omega (arith, few_states, few_touching)) (omega (arith, few_states, few_touching))

-- the counts so far have room for the parts of one event more
pub counts_are_few : (net : Net) (e : ℕ) (counts : List ℕ) (parts : List Part) → e < length net.events → IsDraft net → parts ≡ parts_of net e
    → ((c : ℕ) → get_or counts c 0 ≡ count_by (λ f. touches net f c) (numbers_below e)) → (c : ℕ) → get_or counts c 0 + length parts < 4294967296
counts_are_few net e counts parts known draft is before c =
    let few = few_so_far net e c in
    let events = draft.few_events in
    let own = (All-get_or (IsDraftEvent net.components) net.events e no_event known draft.events.each).few in
    let counted = before c in
    let same : length parts ≡ length (parts_of net e) = ap length is in
    omega (arith, few, events, own, counted, same, known)
