-- The last piece in which each component was touched decides which events go into the present one.
use Rattle.std.proofs.Common.{◌≡◌, ℕ, zero, suc, ◌+◌, ◌<◌, ◌≤◌, Bool, true, false, cond, ◌||◌, List, [], ◌∷◌, length, refl, arith, ap, sym, ◌∙◌, subst, get_or, drop, replicate, zero-add}
use Rattle.std.specs.Prelude.{◌==◌, All}
use Rattle.std.specs.List.{list_any}
use Rattle.std.proofs.lemmas.Bool.Decides.{nat_tests}
use Rattle.std.proofs.lemmas.List.{drop_more, length-replicate}
use Rattle.std.proofs.lemmas.List.Elements.{All-get_or, All-head}
use Rattle.des_base.proofs.BoolLemmas.{or_left, itself}
use Rattle.des_net.specs.declared.parts.Part.{Part}
use Rattle.des_net.specs.Network.{Net, no_event, has_part, parts_of, touches}
use Rattle.des_net.specs.Building.{IsDraft, IsDraftEvent}
use Rattle.des_net.specs.Width.{meets, need, pieces_after}

-- the component was last touched in this piece
abbrev pub present : List ℕ → ℕ → ℕ → Bool
present last piece c = get_or last c 0 == piece

-- The pieces so far and those of the rest are all that the word needs.
pub record Standing (net : Net) (word last : List ℕ) (pieces i : ℕ) : Type 0 where
  pub whole : IsDraft net
  pub long : length last ≡ length net.components
  pub few : pieces ≤ i
  pub below : (c : ℕ) → get_or last c 0 ≤ pieces
  pub rest : pieces + pieces_after net (present last pieces) (drop i word) ≡ need net word

-- ---- at the start all components count as touched, so that the first event begins a piece

zeros : (n c : ℕ) → get_or {A = ℕ} (replicate n 0) c 0 ≡ 0
zeros zero c = refl
zeros (suc n) zero = refl
zeros (suc n) (suc c) = zeros n c

met : (parts : List Part) (f : ℕ → Bool) → 1 ≤ length parts → ((c : ℕ) → f c ≡ true) → list_any (λ part. f part.comp) parts ≡ true
met [] f some all = absurd (omega arith)
met (part ∷ parts) f some all = or_left (f part.comp) _ (all part.comp)

has_parts : (net : Net) (e : ℕ) → IsDraft net → e < length net.events → 1 ≤ length (parts_of net e)
has_parts net e whole known = (All-get_or (IsDraftEvent net.components) net.events e no_event known whole.events.each).some

first_piece : (net : Net) (word : List ℕ) (f : ℕ → Bool) → IsDraft net → All (λ e. e < length net.events) word → ((c : ℕ) → f c ≡ true) → pieces_after net f word ≡ need net word
first_piece net [] f whole known all = refl
first_piece net (e ∷ word) f whole known all =
    ap (λ b. cond b (1 + pieces_after net (touches net e) word) (pieces_after net (λ c. f c || touches net e c) word))
    (met (parts_of net e) f (has_parts net e whole (All-head (λ k. k < length net.events) e word known)) all)

pub Standing-start : (net : Net) (word last : List ℕ) (n : ℕ) → IsDraft net → All (λ e. e < length net.events) word → n ≡ length net.components → last ≡ replicate n 0 → Standing net word last 0 0
Standing-start net word last n whole known count is = record {
  whole = whole;
  long = ap length is ∙ length-replicate n 0 ∙ count;
  few = omega arith;
  below = λ c. let e : get_or last c 0 ≡ 0 = ap (λ (l : List ℕ). get_or l c 0) is ∙ zeros n c in omega arith;
  rest = zero-add _ ∙ first_piece net word (present last 0) whole known (λ c. ap (λ (l : List ℕ). get_or l c 0 == 0) is ∙ ap (λ k. k == 0) (zeros n c));
}

-- ---- one more event

-- what an event leaves of the pieces in which components were last touched
abbrev Touched : Net → ℕ → List ℕ → List ℕ → ℕ → Type 0
Touched net e old new piece = (c : ℕ) → get_or new c 0 ≡ cond (touches net e c) piece (get_or old c 0)

not_later : (n k : ℕ) → n ≤ k → (n == (k + 1)) ≡ false
not_later n k h = grind (arith, nat_tests)

begun : (b : Bool) (old new k : ℕ) → new ≡ cond b (k + 1) old → old ≤ k → (new == (k + 1)) ≡ b
begun true old new k is h = ap (λ n. n == (k + 1)) is ∙ itself (k + 1)
begun false old new k is h = ap (λ n. n == (k + 1)) is ∙ not_later old k h

joined : (b : Bool) (old new k : ℕ) → new ≡ cond b k old → (new == k) ≡ ((old == k) || b)
joined true old new k is = ap (λ n. n == k) is ∙ itself k ∙ by (old == k)
  where
    by : (a : Bool) → true ≡ (a || true)
    by true = refl
    by false = refl
joined false old new k is = ap (λ n. n == k) is ∙ by (old == k)
  where
    by : (a : Bool) → a ≡ (a || false)
    by true = refl
    by false = refl

lower : (b : Bool) (old new k j : ℕ) → new ≡ cond b j old → old ≤ k → k ≤ j → new ≤ j
lower true old new k j is h l = omega arith
lower false old new k j is h l = omega arith

-- the pieces from here on, where the event begins one or goes into the present one
step : (net : Net) (e : ℕ) (word old new : List ℕ) (k piece : ℕ) (b : Bool) → meets net (present old k) e ≡ b → piece ≡ cond b (k + 1) k → Touched net e old new piece → ((c : ℕ) → get_or old c 0 ≤ k)
    → piece + pieces_after net (present new piece) word ≡ k + pieces_after net (present old k) (e ∷ word)
step net e word old new k piece true is at touched below =
    let same : present new (k + 1) ≡ touches net e = λ j c. begun (touches net e c) (get_or old c 0) (get_or new c 0) k (subst (λ p. get_or new c 0 ≡ cond (touches net e c) p (get_or old c 0)) at (touched c)) (below c) j in
    let here : piece + pieces_after net (present new piece) word ≡ (k + 1) + pieces_after net (touches net e) word
    = ap (λ p. p + pieces_after net (present new p) word) at ∙ ap (λ f. (k + 1) + pieces_after net f word) same in
    here ∙ more k (pieces_after net (touches net e) word) ∙ ap (λ b. k + cond b (1 + pieces_after net (touches net e) word) (pieces_after net (λ c. present old k c || touches net e c) word)) (sym is)
  where
    more : (a r : ℕ) → (a + 1) + r ≡ a + (1 + r)
    more a r = omega arith
step net e word old new k piece false is at touched below =
    let same : present new k ≡ (λ c. present old k c || touches net e c) = λ j c. joined (touches net e c) (get_or old c 0) (get_or new c 0) k (subst (λ p. get_or new c 0 ≡ cond (touches net e c) p (get_or old c 0)) at (touched c)) j in
    ap (λ p. p + pieces_after net (present new p) word) at ∙ ap (λ f. k + pieces_after net f word) same
    ∙ ap (λ b. k + cond b (1 + pieces_after net (touches net e) word) (pieces_after net (λ c. present old k c || touches net e c) word)) (sym is)

no_less : (b : Bool) (k piece : ℕ) → piece ≡ cond b (k + 1) k → (k ≤ piece) × (piece ≤ k + 1)
no_less true k piece is = (omega arith, omega arith)
no_less false k piece is = (omega arith, omega arith)

pub Standing-step : (net : Net) (word old new : List ℕ) (k piece i e : ℕ) (parts : List Part) → Standing net word old k i → i < length word → e ≡ get_or word i e → parts ≡ parts_of net e
    → piece ≡ cond (list_any (λ part. present old k part.comp) parts) (k + 1) k → ((c : ℕ) → get_or new c 0 ≡ cond (has_part parts c) piece (get_or old c 0)) → length new ≡ length old
    → Standing net word new piece (i + 1)
Standing-step net word old new k piece i e parts h l at are is touched long =
    let now : piece ≡ cond (meets net (present old k) e) (k + 1) k = is ∙ ap (λ (ps : List Part). cond (list_any (λ part. present old k part.comp) ps) (k + 1) k) are in
    let touches_are : Touched net e old new piece = λ c. touched c ∙ ap (λ (ps : List Part). cond (has_part ps c) piece (get_or old c 0)) are in
    let bounds = no_less (meets net (present old k) e) k piece now in
    let few = h.few in record {
      whole = h.whole;
      long = long ∙ h.long;
      few = omega (arith, bounds.0, bounds.1);
      below = λ c. lower (touches net e c) (get_or old c 0) (get_or new c 0) k piece (touches_are c) (h.below c) bounds.0;
      rest = step net e (drop (i + 1) word) old new k piece (meets net (present old k) e) refl now touches_are h.below
          ∙ ap (λ (w : List ℕ). k + pieces_after net (present old k) w) (sym (drop_more word i e l ∙ ap (λ n. n ∷ drop (i + 1) word) (sym at))) ∙ h.rest;
    }
