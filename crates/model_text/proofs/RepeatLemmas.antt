-- Going over an event's parts with the set of the component names that were seen.
use Rattle.std.proofs.Common.{◌≡◌, ◌<◌, ◌+◌, ℕ, suc, Bool, true, false, cond, List, [], ◌∷◌, length, drop, get_or, refl, sym, ap, ◌∙◌, add-one}
use Rattle.std.specs.Prelude.{bytes_eq, is_some, map, ◌||◌}
use Rattle.std.specs.List.{list_any}
use Rattle.std.proofs.Math.Seq.{drop-cons}
use Rattle.des_base.specs.Names.{place_of}
use Rattle.des_net.proofs.PartLemmas.{regroup, pass}
use Rattle.model_text.specs.declared.part_name.PartName.{PartName}
use Rattle.model_text.specs.ModelFaults.{has_repeated}
use Rattle.model_text.specs.Shapes.{part_said}
use Rattle.model_text.proofs.PartLemmas.{is_some_step}

-- the components that the parts name
abbrev pub names_of : List PartName → List (List ℕ)
names_of parts = map (λ part. part.component) (map part_said parts)

pub marks-none : (f : PartName → Bool) → ((q : PartName) → f q ≡ false) → (ps : List PartName) → list_any f ps ≡ false
marks-none f none [] = refl
marks-none f none (p ∷ ps) = rw (none p) (marks-none f none ps)

marked : (k b : Bool) → cond k true b ≡ (k || b)
marked true b = refl
marked false b = refl

-- one more name is marked
pub marks-more : (f g : PartName → Bool) (k : List ℕ) → ((q : PartName) → g q ≡ cond (bytes_eq k q.component.now) true (f q)) → (ps : List PartName) → list_any g ps ≡ (is_some (place_of k (names_of ps)) || list_any f ps)
marks-more f g k more [] = refl
marks-more f g k more (p ∷ ps) =
    let here : g p ≡ (bytes_eq k p.component.now || f p) = more p ∙ marked (bytes_eq k p.component.now) (f p) in
    (λ i. here i || marks-more f g k more ps i)
    ∙ regroup (bytes_eq k p.component.now) (f p) (is_some (place_of k (names_of ps))) (list_any f ps)
    ∙ ap (λ b. b || (f p || list_any f ps)) (sym (is_some_step (bytes_eq k p.component.now) (place_of k (names_of ps))))

pub marks-step : (ps : List PartName) (i : ℕ) (other : PartName) (f g : PartName → Bool) → i < length ps → f (get_or ps i other) ≡ false
    → ((q : PartName) → g q ≡ cond (bytes_eq (get_or ps i other).component.now q.component.now) true (f q))
    → (list_any g (drop (i + 1) ps) || has_repeated (names_of (drop (i + 1) ps))) ≡ (list_any f (drop i ps) || has_repeated (names_of (drop i ps)))
marks-step ps i other f g h fresh more =
    let part = get_or ps i other in
    let rest = drop (suc i) ps in
    ap (λ n. list_any g (drop n ps) || has_repeated (names_of (drop n ps))) (add-one i)
    ∙ ap (λ b. b || has_repeated (names_of rest)) (marks-more f g part.component.now more rest)
    ∙ sym (pass (f part) (list_any f rest) (is_some (place_of part.component.now (names_of rest))) (has_repeated (names_of rest)) fresh)
    ∙ ap (λ qs. list_any f qs || has_repeated (names_of qs)) (sym (drop-cons ps i other h))
