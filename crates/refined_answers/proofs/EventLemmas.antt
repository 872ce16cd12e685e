-- The events of a refinement: each is as it was, and its further parts change nothing for the old components.
use Rattle.std.proofs.Common.{◌≡◌, ℕ, zero, suc, ◌<◌, ◌≤◌, Bool, true, false, ◌++◌, List, [], ◌∷◌, length, None, refl, ap, ◌∙◌, subst, arith}
use Rattle.std.specs.Prelude.{◌==◌, slice_index_or}
use Rattle.std.specs.List.{AllByRecursion, AllZip}
use Rattle.std.proofs.lemmas.Bool.Decides.{nat_tests}
use Rattle.des_net.specs.declared.parts.Part.{Part}
use Rattle.des_net.specs.Network.{Component, Event, Net, no_event, IsPart, IsEvent, IsNetwork, action_at, has_part, parts_of, touches}
use Rattle.refinement.specs.Refinement.{HasFurtherParts, IsRefinementOf}

-- ---- parts

-- parts of components from number k on move none before it
no_action_before : (k : ℕ) (parts : List Part) (c : ℕ) → AllByRecursion (λ part. k ≤ part.comp) parts → c < k → action_at parts c ≡ None
no_action_before k [] c new below = refl
no_action_before k (part ∷ parts) c new below =
    let other : (part.comp == c) ≡ false = let l = new.0 in grind (arith, nat_tests) in
    rw other (no_action_before k parts c new.1 below)

no_part_before : (k : ℕ) (parts : List Part) (c : ℕ) → AllByRecursion (λ part. k ≤ part.comp) parts → c < k → has_part parts c ≡ false
no_part_before k [] c new below = refl
no_part_before k (part ∷ parts) c new below =
    let other : (part.comp == c) ≡ false = let l = new.0 in grind (arith, nat_tests) in
    rw other (no_part_before k parts c new.1 below)

-- where more parts come behind, what moves a component before them stays
action_beside : (parts further : List Part) (c : ℕ) → action_at further c ≡ None → action_at (parts ++ further) c ≡ action_at parts c
action_beside [] further c none = none
action_beside (part ∷ parts) further c none = by (part.comp == c) refl (action_beside parts further c none)
  where
    by : (b : Bool) → (part.comp == c) ≡ b → action_at (parts ++ further) c ≡ action_at parts c → action_at (part ∷ parts ++ further) c ≡ action_at (part ∷ parts) c
    by true e rest = rw e refl
    by false e rest = rw e rest

part_beside : (parts further : List Part) (c : ℕ) → has_part further c ≡ false → has_part (parts ++ further) c ≡ has_part parts c
part_beside [] further c none = none
part_beside (part ∷ parts) further c none = by (part.comp == c) refl (part_beside parts further c none)
  where
    by : (b : Bool) → (part.comp == c) ≡ b → has_part (parts ++ further) c ≡ has_part parts c → has_part (part ∷ parts ++ further) c ≡ has_part (part ∷ parts) c
    by true e rest = rw e refl
    by false e rest = rw e rest

-- ---- events by number

pub further_at : (k : ℕ) (events fines : List Event) → AllZip (HasFurtherParts k) events fines → (e : ℕ) → HasFurtherParts k (slice_index_or events e no_event) (slice_index_or fines e no_event)
further_at k [] [] zip e = record { label = refl; fault = refl; further = []; parts = refl; new = tt }
further_at k [] (fine ∷ fines) zip e = absurd zip
further_at k (event ∷ events) [] zip e = absurd zip
further_at k (event ∷ events) (fine ∷ fines) zip zero = zip.0
further_at k (event ∷ events) (fine ∷ fines) zip (suc e) = further_at k events fines zip.1 e

pub as_many : (k : ℕ) (events fines : List Event) → AllZip (HasFurtherParts k) events fines → length fines ≡ length events
as_many k [] [] zip = refl
as_many k [] (fine ∷ fines) zip = absurd zip
as_many k (event ∷ events) [] zip = absurd zip
as_many k (event ∷ events) (fine ∷ fines) zip = ap suc (as_many k events fines zip.1)

pub same_action : (net fine : Net) → IsRefinementOf fine net → (e c : ℕ) → c < length net.components → action_at (parts_of fine e) c ≡ action_at (parts_of net e) c
same_action net fine refines e c below =
    let at = further_at (length net.components) net.events fine.events refines.events e in
    ap (λ parts. action_at parts c) at.parts ∙ action_beside (parts_of net e) at.further c (no_action_before (length net.components) at.further c at.new below)

pub same_touch : (net fine : Net) → IsRefinementOf fine net → (e c : ℕ) → c < length net.components → touches fine e c ≡ touches net e c
same_touch net fine refines e c below =
    let at = further_at (length net.components) net.events fine.events refines.events e in
    ap (λ parts. has_part parts c) at.parts ∙ part_beside (parts_of net e) at.further c (no_part_before (length net.components) at.further c at.new below)

-- ---- what an event touches is a component of the network

part_known : (components : List Component) (parts : List Part) (c : ℕ) → AllByRecursion (IsPart components) parts → has_part parts c ≡ true → c < length components
part_known components [] c known has = cc
part_known components (part ∷ parts) c known has = by (part.comp == c) refl (part_known components parts c known.1)
  where
    by : (b : Bool) → (part.comp == c) ≡ b → (has_part parts c ≡ true → c < length components) → c < length components
    by true e rest = let same : part.comp ≡ c = grind (arith, nat_tests) in subst (λ d. d < length components) same known.0.component
    by false e rest = rest (rw e at has)

event_known : (components : List Component) (events : List Event) → AllByRecursion (IsEvent components) events → (e c : ℕ) → has_part (slice_index_or events e no_event).parts c ≡ true → c < length components
event_known components [] known e c has = cc
event_known components (event ∷ events) known zero c has = part_known components event.parts c known.0.known has
event_known components (event ∷ events) known (suc e) c has = event_known components events known.1 e c has

pub touched_is_known : (net : Net) → IsNetwork net → (e c : ℕ) → touches net e c ≡ true → c < length net.components
touched_is_known net network e c touched = event_known net.components net.events network.events e c touched
