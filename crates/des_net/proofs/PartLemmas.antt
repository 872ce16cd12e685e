-- Going over an event's parts with the set of the components that were seen.
use Rattle.std.proofs.Common.{◌≡◌, ◌<◌, ◌+◌, ℕ, suc, Bool, true, false, cond, List, [], ◌∷◌, length, drop, get_or, ◌≤◌, refl, sym, ap, ◌∙◌, add-one, arith}
use Rattle.std.specs.Prelude.{nat_eq, ◌||◌, ◌==◌}
use Rattle.std.specs.List.{list_any}
use Rattle.std.proofs.Math.Seq.{drop-cons}
use Rattle.std.proofs.lemmas.List.{drop_all}
use Rattle.std.proofs.lemmas.Bool.Decides.{nat_tests}
use Rattle.des_net.specs.declared.parts.Part.{Part}
use Rattle.des_net.specs.Building.{repeats}

-- one of the parts is of a marked component
abbrev pub marks : (ℕ → Bool) → List Part → Bool
marks f ps = list_any (λ p. f p.comp) ps

pub marks-none : (f : ℕ → Bool) → ((q : ℕ) → f q ≡ false) → (ps : List Part) → marks f ps ≡ false
marks-none f none [] = refl
marks-none f none (p ∷ ps) = rw (none p.comp) (marks-none f none ps)

pub regroup : (a b x y : Bool) → ((a || b) || (x || y)) ≡ ((a || x) || (b || y))
regroup true b x y = refl
regroup false true true y = refl
regroup false true false y = refl
regroup false false x y = refl

marked : (k q : ℕ) (b : Bool) → cond (nat_eq k q) true b ≡ ((q == k) || b)
marked k q b = grind (arith, nat_tests)

-- one more component is marked
pub marks-more : (f g : ℕ → Bool) (k : ℕ) → ((q : ℕ) → g q ≡ cond (nat_eq k q) true (f q)) → (ps : List Part) → marks g ps ≡ (list_any (λ p. p.comp == k) ps || marks f ps)
marks-more f g k more [] = refl
marks-more f g k more (p ∷ ps) =
    let here : g p.comp ≡ ((p.comp == k) || f p.comp) = more p.comp ∙ marked k p.comp (f p.comp) in
    rw (here, marks-more f g k more ps) (regroup (p.comp == k) (f p.comp) (list_any (λ q. q.comp == k) ps) (marks f ps))

-- a part that isn't marked is passed over
pub pass : (b m x r : Bool) → b ≡ false → ((b || m) || (x || r)) ≡ ((x || m) || r)
pass true m x r h = cc
pass false true true r h = refl
pass false true false r h = refl
pass false false true r h = refl
pass false false false r h = refl

here : (ps : List Part) (i : ℕ) (part : Part) → i < length ps → part ≡ get_or ps i part → drop i ps ≡ part ∷ drop (suc i) ps
here ps i part h is = drop-cons ps i part h ∙ ap (λ p. p ∷ drop (suc i) ps) (sym is)

pub marks-step : (ps : List Part) (i : ℕ) (part : Part) (f g : ℕ → Bool) → i < length ps → part ≡ get_or ps i part → f part.comp ≡ false → ((q : ℕ) → g q ≡ cond (nat_eq part.comp q) true (f q))
    → (marks g (drop (i + 1) ps) || repeats (drop (i + 1) ps)) ≡ (marks f (drop i ps) || repeats (drop i ps))
unfolding repeats
marks-step ps i part f g h is fresh more =
    let rest = drop (suc i) ps in
    let e : drop i ps ≡ part ∷ rest = here ps i part h is in
    rw (add-one, e) (rw (marks-more f g part.comp more rest) (sym (pass (f part.comp) (marks f rest) (list_any (λ q. q.comp == part.comp) rest) (repeats rest) fresh)))

-- and after the last part none is marked and none repeats
pub marks-end : (ps : List Part) (i : ℕ) (f : ℕ → Bool) → length ps ≤ i → (marks f (drop i ps) || repeats (drop i ps)) ≡ false
unfolding repeats
marks-end ps i f h = rw (drop_all i ps h) refl
