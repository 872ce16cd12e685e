-- Whether an event moves one component as another tells, and whether it settles what is told, as tests that compute. Worked networks are tried by them.
use Rattle.std.proofs.Common.{◌≡◌, ℕ, Bool, true, false, List, [], ◌∷◌, map, filter, Option, None, Some, sym, ap, ◌∙◌, subst, Contains, inl, inr}
use Rattle.std.specs.Prelude.{◌==◌, ◌&&◌, ◌||◌, not}
use Rattle.std.specs.List.{list_all, list_any}
use Rattle.des_base.proofs.BoolLemmas.{both, join, itself, same}
use Rattle.des_base.proofs.Elements.{any_has, cons_cases, filter_from, filter_has, here_first, map_from, map_has, none_in_nil}
use Rattle.des_net.specs.declared.parts.Trans.{Trans}
use Rattle.des_net.specs.Network.{Component}
use Rattle.des_net.specs.Run.{next_states}
use Rattle.refinement.specs.Refinement.{told}

-- ---- where a component can go is where a transition leads

abbrev Leads : List Trans → ℕ → ℕ → ℕ → Type 0
Leads ts action q r = Contains (map (λ t. t.to) (filter (λ t. t.from == q && t.action == action) ts)) r

leads_by : (ts : List Trans) (action q r : ℕ) → Leads ts action q r → (t : Trans) × Contains ts t × (t.from ≡ q) × (t.action ≡ action) × (t.to ≡ r)
leads_by ts action q r goes =
    let end = map_from (λ (t : Trans). t.to) (filter (λ t. t.from == q && t.action == action) ts) r goes in
    let kept = filter_from (λ (t : Trans). t.from == q && t.action == action) ts end.0 end.1 in
    let two = both (end.0.from == q) (end.0.action == action) kept.0 in
    (end.0, kept.1, same end.0.from q two.0, same end.0.action action two.1, end.2)

by_leads : (ts : List Trans) (t : Trans) → Contains ts t → Leads ts t.action t.from t.to
by_leads ts t there =
    map_has (λ (u : Trans). u.to) (filter (λ u. u.from == t.from && u.action == t.action) ts) t
    (filter_has (λ (u : Trans). u.from == t.from && u.action == t.action) ts t (join (t.from == t.from) (t.action == t.action) (itself t.from) (itself t.action)) there)

leads_found : (ts : List Trans) (action q r : ℕ) → list_any (λ t. t.action == action && (t.from == q && t.to == r)) ts ≡ true → Leads ts action q r
leads_found ts action q r some =
    let found = any_has (λ (t : Trans). t.action == action && (t.from == q && t.to == r)) ts some in
    let first = both (found.0.action == action) (found.0.from == q && found.0.to == r) found.2 in
    let second = both (found.0.from == q) (found.0.to == r) first.1 in
    subst (λ n. Leads ts n q r) (same found.0.action action first.0)
    (subst (λ n. Leads ts found.0.action n r) (same found.0.from q second.0)
    (subst (λ n. Leads ts found.0.action found.0.from n) (same found.0.to r second.1) (by_leads ts found.0 found.1)))

-- ---- the test

-- each transition by the action stays in the set or out of it
abbrev stays_test : (ℕ → Bool) → ℕ → List Trans → Bool
stays_test members a ts = list_all (λ t. not (t.action == a) || told (members t.from) == told (members t.to)) ts

-- for each transition by action a there is one by action b that goes as it tells
abbrev goes_test : (ℕ → Bool) → ℕ → ℕ → List Trans → List Trans → Bool
goes_test members a b ts us = list_all (λ t. not (t.action == a) || list_any (λ u. u.action == b && (u.from == told (members t.from) && u.to == told (members t.to))) us) ts

-- and the other way round
abbrev comes_test : (ℕ → Bool) → ℕ → ℕ → List Trans → List Trans → Bool
comes_test members a b ts us = list_all (λ u. not (u.action == b) || list_any (λ t. t.action == a && (told (members t.from) == u.from && told (members t.to) == u.to)) ts) us

-- an event that moves a component by the first action and its follower by the second moves this one as that one tells
abbrev pub moves_as_told : (ℕ → Bool) → Option ℕ → Option ℕ → List Trans → List Trans → Bool
moves_as_told members None None ts us = true
moves_as_told members None (Some b) ts us = false
moves_as_told members (Some a) None ts us = stays_test members a ts
moves_as_told members (Some a) (Some b) ts us = goes_test members a b ts us && comes_test members a b ts us

-- ---- the test is right

abbrev Goes : Component → Option ℕ → ℕ → ℕ → Type 0
Goes component action q r = Contains (next_states component action q) r

all_has : {X : Type 0} (p : X → Bool) (xs : List X) (x : X) → list_all p xs ≡ true → Contains xs x → p x ≡ true
all_has p [] x all there = absurd (none_in_nil x there)
all_has p (y ∷ ys) x all there =
    let two = both (p y) (list_all p ys) all in
    elim (cons_cases y ys x there) [ inl is ↦ subst (λ z. p z ≡ true) is two.0 | inr later ↦ all_has p ys x two.1 later ]

-- where the one of two tests fails, the other holds
other_holds : (a b : ℕ) (rest : Bool) → (not (a == b) || rest) ≡ true → a ≡ b → rest ≡ true
other_holds a b rest either is = let e : (a == b) ≡ true = ap (λ n. a == n) (sym is) ∙ itself a in rw e at either

pub told_goes : (members : ℕ → Bool) (component follower : Component) (a b : Option ℕ) → moves_as_told members a b component.transitions follower.transitions ≡ true →
    (q r : ℕ) → Goes component a q r → Goes follower b (told (members q)) (told (members r))
told_goes members component follower None None test q r goes = elim (cons_cases q [] r goes) [
  | inl is ↦ here_first _ [] _ (ap (λ s. told (members s)) is)
  | inr later ↦ absurd (none_in_nil r later)
]
told_goes members component follower None (Some b) test q r goes = cc
told_goes members component follower (Some a) None test q r goes =
    let by = leads_by component.transitions a q r goes in
    let stays = other_holds by.0.action a _ (all_has (λ (t : Trans). not (t.action == a) || told (members t.from) == told (members t.to)) component.transitions by.0 test by.1) by.3 in
    here_first _ [] _ (ap (λ s. told (members s)) (sym by.2) ∙ same _ _ stays ∙ ap (λ s. told (members s)) by.4)
told_goes members component follower (Some a) (Some b) test q r goes =
    let two = both (goes_test members a b component.transitions follower.transitions) (comes_test members a b component.transitions follower.transitions) test in
    let by = leads_by component.transitions a q r goes in
    let some = other_holds by.0.action a _ (all_has (λ (t : Trans). not (t.action == a) || list_any (λ u. u.action == b && (u.from == told (members t.from) && u.to == told (members t.to))) follower.transitions) component.transitions by.0 two.0 by.1) by.3 in
    subst (λ s. Leads follower.transitions b s (told (members r))) (ap (λ s. told (members s)) by.2)
    (subst (λ s. Leads follower.transitions b (told (members by.0.from)) s) (ap (λ s. told (members s)) by.4) (leads_found follower.transitions b _ _ some))

abbrev GoesBefore : (ℕ → Bool) → Component → Option ℕ → ℕ → ℕ → Type 0
GoesBefore members component a s t = (q : ℕ) × (r : ℕ) × (told (members q) ≡ s) × (told (members r) ≡ t) × Goes component a q r

pub told_only : (members : ℕ → Bool) (component follower : Component) (a : Option ℕ) (b : ℕ) → moves_as_told members a (Some b) component.transitions follower.transitions ≡ true →
    (s t : ℕ) → Goes follower (Some b) s t → GoesBefore members component a s t
told_only members component follower None b test s t goes = cc
told_only members component follower (Some a) b test s t goes =
    let two = both (goes_test members a b component.transitions follower.transitions) (comes_test members a b component.transitions follower.transitions) test in
    let by = leads_by follower.transitions b s t goes in
    let some = other_holds by.0.action b _ (all_has (λ (u : Trans). not (u.action == b) || list_any (λ t. t.action == a && (told (members t.from) == u.from && told (members t.to) == u.to)) component.transitions) follower.transitions by.0 two.1 by.1) by.3 in
    let found = any_has (λ (t : Trans). t.action == a && (told (members t.from) == by.0.from && told (members t.to) == by.0.to)) component.transitions some in
    let first = both (found.0.action == a) (told (members found.0.from) == by.0.from && told (members found.0.to) == by.0.to) found.2 in
    let second = both (told (members found.0.from) == by.0.from) (told (members found.0.to) == by.0.to) first.1 in (
      found.0.from,
      found.0.to,
      same _ _ second.0 ∙ by.2,
      same _ _ second.1 ∙ by.4,
      subst (λ n. Leads component.transitions n found.0.from found.0.to) (same _ _ first.0) (by_leads component.transitions found.0 found.1),
    )

-- ---- what an event settles

-- transitions by the action that leave states both in the set or both out of it enter such states
abbrev pub settles : (ℕ → Bool) → Option ℕ → List Trans → Bool
settles members None ts = true
settles members (Some a) ts = list_all (λ t. not (t.action == a) || list_all (λ u. not (u.action == a) || (not (told (members t.from) == told (members u.from)) || told (members t.to) == told (members u.to))) ts) ts

pub settles_told : (members : ℕ → Bool) (component : Component) (action : Option ℕ) → settles members action component.transitions ≡ true →
    (q r s t : ℕ) → members q ≡ members s → Goes component action q r → Goes component action s t → told (members r) ≡ told (members t)
settles_told members component None test q r s t same_before first second =
    ap (λ p. told (members p)) (sym (still q r first)) ∙ ap told same_before ∙ ap (λ p. told (members p)) (still s t second)
  where
    still : (p n : ℕ) → Goes component None p n → p ≡ n
    still p n goes = elim (cons_cases p [] n goes) [ inl is ↦ is | inr later ↦ absurd (none_in_nil n later) ]
settles_told members component (Some a) test q r s t same_before first second =
    let one = leads_by component.transitions a q r first in
    let two = leads_by component.transitions a s t second in
    let of_one = other_holds one.0.action a _ (all_has (λ (t : Trans). not (t.action == a) || list_all (λ u. not (u.action == a) || (not (told (members t.from) == told (members u.from)) || told (members t.to) == told (members u.to))) component.transitions) component.transitions one.0 test one.1) one.3 in
    let of_two = other_holds two.0.action a _ (all_has (λ (u : Trans). not (u.action == a) || (not (told (members one.0.from) == told (members u.from)) || told (members one.0.to) == told (members u.to))) component.transitions two.0 of_one two.1) two.3 in
    let before : told (members one.0.from) ≡ told (members two.0.from) = ap (λ p. told (members p)) one.2 ∙ ap told same_before ∙ ap (λ p. told (members p)) (sym two.2) in
    let after = other_holds (told (members one.0.from)) (told (members two.0.from)) _ of_two before in
    ap (λ p. told (members p)) (sym one.4) ∙ same _ _ after ∙ ap (λ p. told (members p)) two.4
