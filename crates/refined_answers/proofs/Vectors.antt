-- A worked refinement is one, and networks that come close are none.
use Rattle.std.proofs.Common.{◌≡◌, ℕ, zero, suc, ◌<◌, ◌≤◌, Bool, true, false, List, [], ◌∷◌, ◌++◌, Some, refl, sym, ap, ◌∙◌, arith, lit<}
use Rattle.std.specs.Prelude.{◌==◌, ◌||◌, codes, slice_index_or}
use Rattle.std.proofs.lemmas.List.{append-nil}
use Rattle.des_net.specs.Network.{Event, Net, action_at, parts_of, touches}
use Rattle.des_net.specs.LocalRuns.{can_run}
use Rattle.des_net.specs.Models.{takes}
use Rattle.des_net.specs.Run.{IsRun, IsStart, Leads}
use Rattle.des_net.specs.Width.{need}
use Rattle.des_net.proofs.Local.{runs_are_local}
use Rattle.des_base.proofs.BoolLemmas.{clash, same}
use Rattle.refinement.specs.Refinement.{CanGo, CanStart, Follows, FollowsSome, HasFurtherParts, IsRefinementOf, told}
use Rattle.refined_answers.specs.AnswerAlike.{AnswerAlike}
use Rattle.refined_answers.specs.Sharp.{IsSharp}
use Rattle.refined_answers.proofs.AnswerLemmas.{refinements_answer_alike}
use Rattle.refined_answers.proofs.EventLemmas.{further_at}
use Rattle.refined_answers.proofs.FollowLemmas.{sharp_followers_tell, told_once}
use Rattle.refined_answers.proofs.FollowTests.{moves_as_told, settles, settles_told, told_goes, told_only}
use Rattle.refined_answers.proofs.Models.{astray, beyond, excused, finer, forbids, left_out, plant, renamed, starts_wrong, stuck, valve}
use Rattle.refined_answers.proofs.NetworkTests.{is_network, network_test}
use Rattle.refined_answers.proofs.RunLemmas.{refinements_have_same_runs}

-- ---- the refinement is one

abbrev is_stuck : ℕ → Bool
is_stuck q = q == 2

passes : (e : ℕ) → moves_as_told is_stuck (action_at (parts_of plant e) 0) (action_at (parts_of finer e) 2) valve.transitions stuck.transitions ≡ true
passes zero = refl
passes (suc zero) = refl
passes (suc (suc zero)) = refl
passes (suc (suc (suc zero))) = refl
passes (suc (suc (suc (suc zero)))) = refl
passes (suc (suc (suc (suc (suc zero))))) = refl
passes (suc (suc (suc (suc (suc (suc e)))))) = refl

stuck_starts : (q : ℕ) → CanStart plant 0 q → CanStart finer 2 (told (is_stuck q))
stuck_starts zero start = refl
stuck_starts (suc zero) start = cc
stuck_starts (suc (suc zero)) start = cc
stuck_starts (suc (suc (suc q))) start = cc

stuck_starts_only : (s : ℕ) → CanStart finer 2 s → (q : ℕ) × (told (is_stuck q) ≡ s) × CanStart plant 0 q
stuck_starts_only zero start = (0, refl, refl)
stuck_starts_only (suc zero) start = cc
stuck_starts_only (suc (suc s)) start = cc

stuck_beside : (e : ℕ) → touches finer e 2 ≡ true → touches plant e 0 ≡ true
stuck_beside zero touched = refl
stuck_beside (suc zero) touched = refl
stuck_beside (suc (suc zero)) touched = refl
stuck_beside (suc (suc (suc zero))) touched = refl
stuck_beside (suc (suc (suc (suc zero)))) touched = refl
stuck_beside (suc (suc (suc (suc (suc zero))))) touched = cc
stuck_beside (suc (suc (suc (suc (suc (suc e)))))) touched = cc

abbrev GoesOnly : ℕ → Type 0
GoesOnly e = (s t : ℕ) → CanGo finer 2 e s t → (q : ℕ) × (r : ℕ) × (told (is_stuck q) ≡ s) × (told (is_stuck r) ≡ t) × CanGo plant 0 e q r

stuck_goes_only : (e : ℕ) → touches finer e 2 ≡ true → GoesOnly e
stuck_goes_only zero touched = cc
stuck_goes_only (suc zero) touched = cc
stuck_goes_only (suc (suc zero)) touched = told_only is_stuck valve stuck (Some 2) 0 refl
stuck_goes_only (suc (suc (suc zero))) touched = cc
stuck_goes_only (suc (suc (suc (suc zero)))) touched = told_only is_stuck valve stuck (Some 3) 1 refl
stuck_goes_only (suc (suc (suc (suc (suc zero))))) touched = cc
stuck_goes_only (suc (suc (suc (suc (suc (suc e)))))) touched = cc

stuck_follows : Follows plant finer is_stuck 0 2
stuck_follows = record {
  starts = stuck_starts;
  goes = λ e q r go. told_goes is_stuck valve stuck (action_at (parts_of plant e) 0) (action_at (parts_of finer e) 2) (passes e) q r go;
  beside = stuck_beside;
  starts_only = stuck_starts_only;
  goes_only = λ e s t touched go. stuck_goes_only e touched s t go;
}

new_component : (d : ℕ) → 2 ≤ d → d < 3 → FollowsSome plant finer d
new_component zero from below = absurd (omega arith)
new_component (suc zero) from below = absurd (omega arith)
new_component (suc (suc zero)) from below = record { members = is_stuck; component = 0; known = lit< tt; follows = stuck_follows }
new_component (suc (suc (suc d))) from below = absurd (omega arith)

as_was : {event : Event} → HasFurtherParts 2 event event
as_was {event} = record { label = refl; fault = refl; further = []; parts = sym (append-nil event.parts); new = tt }

pub finer-refines : IsRefinementOf finer plant
finer-refines = record {
  components = (stuck ∷ [], refl);
  component_names = (codes "valve-is-stuck" ∷ [], refl);
  event_names = refl;
  events = (as_was, (as_was, (record { label = refl; fault = refl; further = takes 2 0 ∷ []; parts = refl; new = (omega arith, tt) }, (as_was, (record { label = refl; fault = refl; further = takes 2 1 ∷ []; parts = refl; new = (omega arith, tt) }, (as_was, tt))))));
  new = new_component;
}

-- both are networks, so each question has the same answer
pub finer-answers : AnswerAlike plant finer
finer-answers = refinements_answer_alike plant finer (is_network plant refl) (is_network finer refl) finer-refines

-- the valve sticks and is closed again, where the pump is switched back: a run of both, of as many pieces
pub finer-run : IsRun finer (0 ∷ 2 ∷ 0 ∷ 4 ∷ [])
finer-run = (finer-answers.behaviour.runs (0 ∷ 2 ∷ 0 ∷ 4 ∷ [])).1 ((runs_are_local plant (0 ∷ 2 ∷ 0 ∷ 4 ∷ [])).0 refl)

pub finer-run_by_test : can_run finer (0 ∷ 2 ∷ 0 ∷ 4 ∷ []) ≡ true
finer-run_by_test = refl

pub finer-no_run : can_run plant (2 ∷ []) ≡ can_run finer (2 ∷ [])
finer-no_run = refl

pub finer-needs : need finer (0 ∷ 2 ∷ 5 ∷ 4 ∷ []) ≡ need plant (0 ∷ 2 ∷ 5 ∷ 4 ∷ [])
finer-needs = refl

-- ---- what the new component tells

start_is_open : (q : ℕ) → CanStart plant 0 q → q ≡ 0
start_is_open zero start = refl
start_is_open (suc zero) start = cc
start_is_open (suc (suc zero)) start = cc
start_is_open (suc (suc (suc q))) start = cc

settled : (e : ℕ) → settles is_stuck (action_at (parts_of plant e) 0) valve.transitions ≡ true
settled zero = refl
settled (suc zero) = refl
settled (suc (suc zero)) = refl
settled (suc (suc (suc zero))) = refl
settled (suc (suc (suc (suc zero)))) = refl
settled (suc (suc (suc (suc (suc zero))))) = refl
settled (suc (suc (suc (suc (suc (suc e)))))) = refl

pub stuck-sharp : IsSharp plant is_stuck 0
stuck-sharp = record {
  starts = λ q r first second. ap is_stuck (start_is_open q first ∙ sym (start_is_open r second));
  goes = λ e q r s t alike first second. told_once (is_stuck r) (is_stuck t) (settles_told is_stuck valve (action_at (parts_of plant e) 0) (settled e) q r s t alike first second);
}

-- after each run the new component is in "yes" exactly if the valve is stuck
pub finer-tells : (before word after : List ℕ) → IsStart finer before → Leads finer before word after → slice_index_or after 2 0 ≡ told (is_stuck (slice_index_or after 0 0))
finer-tells = sharp_followers_tell plant finer is_stuck 0 2 finer-refines (lit< tt) (lit< tt) stuck_follows stuck-sharp

-- Whether the valve is shut isn't settled: `close` shuts it where it is open, and not where it is stuck.
pub shut-not_sharp : IsSharp plant (λ q. q == 1) 0 → ⊥
shut-not_sharp sharp = let same_after : true ≡ false = sharp.goes 0 0 1 2 2 refl (0, lit< tt, refl) (0, lit< tt, refl) in cc

-- ---- none of these is a refinement

-- a network that can't perform a run of the plant
not_all_runs : (net : Net) (word : List ℕ) → can_run plant word ≡ true → can_run net word ≡ false → IsRefinementOf net plant → ⊥
not_all_runs net word can can_not refines =
    let run : IsRun net word = (refinements_have_same_runs plant net refines word).1 ((runs_are_local plant word).0 can) in
    let is : can_run net word ≡ true = (runs_are_local net word).1 run in
    clash (can_run net word) is can_not

-- it forbids to close the valve where it is stuck
pub forbids-refines_not : IsRefinementOf forbids plant → ⊥
forbids-refines_not = not_all_runs forbids (0 ∷ 2 ∷ 0 ∷ []) refl refl

-- it starts as if the valve were stuck, so nothing can stick
pub starts_wrong-refines_not : IsRefinementOf starts_wrong plant → ⊥
starts_wrong-refines_not = not_all_runs starts_wrong (0 ∷ 2 ∷ []) refl refl

-- it doesn't follow where the valve sticks, so nothing is mended
pub left_out-refines_not : IsRefinementOf left_out plant → ⊥
left_out-refines_not = not_all_runs left_out (0 ∷ 2 ∷ 4 ∷ []) refl refl

-- two events that touch nothing in common, and touch the new component: they no longer stand in one piece
pub astray-needs : need plant (2 ∷ 5 ∷ []) ≡ 1
astray-needs = refl

pub astray-needs_more : need astray (2 ∷ 5 ∷ []) ≡ 2
astray-needs_more = refl

-- one of the two doesn't touch the component that the new one follows
pub astray-refines_not : IsRefinementOf astray plant → ⊥
astray-refines_not refines =
    let some = refines.new 2 (omega arith) (lit< tt) in
    let one : (0 == some.component) ≡ true = by (0 == some.component) (some.follows.beside 2 refl) in
    let other : (1 == some.component) ≡ true = by (1 == some.component) (some.follows.beside 5 refl) in
    absurd (omega (arith, same 0 some.component one, same 1 some.component other))
  where
    by : (b : Bool) → (b || false) ≡ true → b ≡ true
    by true h = refl
    by false h = h

-- Lists that are no network may follow the definition, and need more pieces: so the laws ask for networks.
pub beyond-refines : IsRefinementOf beyond plant
beyond-refines = record {
  components = ([], refl);
  component_names = ([], refl);
  event_names = refl;
  events = (as_was, (as_was, (beyond_it, (as_was, (as_was, (beyond_it, tt))))));
  new = λ d from below. absurd (omega arith);
}
  where
    beyond_it : {event : Event} → HasFurtherParts 2 event (record event { parts = event.parts ++ takes 7 0 ∷ [] })
    beyond_it = record { label = refl; fault = refl; further = takes 7 0 ∷ []; parts = refl; new = (omega arith, tt) }

pub beyond-no_network : network_test beyond ≡ false
beyond-no_network = refl

pub beyond-needs_more : need beyond (2 ∷ 5 ∷ []) ≡ 2
beyond-needs_more = refl

pub renamed-refines_not : IsRefinementOf renamed plant → ⊥
renamed-refines_not refines = let names = refines.event_names in cc

pub excused-refines_not : IsRefinementOf excused plant → ⊥
excused-refines_not refines = let same_mark : false ≡ true = (further_at 2 plant.events excused.events refines.events 2).fault in cc
