-- The events of a run's steps.
use Rattle.std.proofs.Common.{◌≡◌, ◌<◌, ◌≤◌, ◌+◌, ℕ, zero, suc, Bool, true, false, cond, List, [], ◌∷◌, ◌++◌, length, Option, Some, None, refl, arith, ap, sym, ◌∙◌, subst, get_or, take, add-zero}
use Rattle.std.specs.Prelude.{All, IfSome}
use Rattle.std.specs.Option.{option_to_list}
use Rattle.std.proofs.lemmas.List.{take_more}
use Rattle.std.proofs.lemmas.List.Elements.{All-append, filter_map-append, All-head, All-tail}
use Rattle.std.proofs.lemmas.List.Sums.{sum_by-append, sum_by-cons}
use Rattle.replay.specs.declared.run.RunStep.{RunStep}
use Rattle.replay.specs.declared.run.RunStep.TheVariants.{Happens, Dropped}
use Rattle.des_net.specs.Network.{Net, is_fault}
use Rattle.des_net.specs.Run.{fault_count}
use Rattle.replay.specs.Traced.{event_of, word_of, step_faults}

one_word : (step : RunStep) → word_of (step ∷ []) ≡ option_to_list (event_of step)
one_word (Happens e alarm) = refl
one_word (Dropped alarm) = refl

-- the events of the first steps, with one more
pub word_more : (steps : List RunStep) (i : ℕ) (step : RunStep) → i < length steps → step ≡ get_or steps i step → word_of (take (i + 1) steps) ≡ word_of (take i steps) ++ option_to_list (event_of step)
word_more steps i step l is =
    ap word_of (take_more steps i step l ∙ ap (λ s. take i steps ++ s ∷ []) (sym is))
    ∙ filter_map-append event_of (take i steps) (step ∷ []) ∙ ap (λ w. word_of (take i steps) ++ w) (one_word step)

-- each event of a step is the network's where the run's are
known_at : (steps : List RunStep) (i : ℕ) (d : RunStep) (n : ℕ) → i < length steps → All (λ e. e < n) (word_of steps) → IfSome (event_of (get_or steps i d)) (λ e. e < n)
known_at [] i d n l known = absurd (omega arith)
known_at (Happens e alarm ∷ steps) zero d n l known = All-head (λ k. k < n) e (word_of steps) known
known_at (Dropped alarm ∷ steps) zero d n l known = tt
known_at (Happens e alarm ∷ steps) (suc i) d n l known = known_at steps i d n (omega arith) (All-tail (λ k. k < n) e (word_of steps) known)
known_at (Dropped alarm ∷ steps) (suc i) d n l known = known_at steps i d n (omega arith) known

pub event_known : (steps : List RunStep) (i : ℕ) (step : RunStep) (n : ℕ) → i < length steps → step ≡ get_or steps i step → All (λ e. e < n) (word_of steps) → IfSome (event_of step) (λ e. e < n)
event_known steps i step n l is known = subst (λ (s : RunStep). IfSome (event_of s) (λ e. e < n)) (sym is) (known_at steps i step n l known)

pub known_front : (steps : List RunStep) (i n : ℕ) → All (λ e. e < n) (word_of steps) → All (λ e. e < n) (word_of (take i steps))
known_front steps zero n known = λ k d l. absurd (omega arith)
known_front [] (suc i) n known = known
known_front (Happens e alarm ∷ steps) (suc i) n known = λ k d l. by k d l (known_front steps i n (All-tail (λ j. j < n) e (word_of steps) known))
  where
    by : (k d : ℕ) → k < length (e ∷ word_of (take i steps)) → All (λ j. j < n) (word_of (take i steps)) → get_or (e ∷ word_of (take i steps)) k d < n
    by zero d l rest = All-head (λ j. j < n) e (word_of steps) known
    by (suc k) d l rest = rest k d (omega arith)
known_front (Dropped alarm ∷ steps) (suc i) n known = known_front steps i n known

-- the count of the first steps, with one more
step_count : (net : Net) (step : RunStep) → fault_count net (option_to_list (event_of step)) ≡ cond (step_faults net step) 1 0
step_count net (Happens e alarm) = let one = sum_by-cons (λ d. cond (is_fault net d) 1 0) e [] in one ∙ add-zero (cond (is_fault net e) 1 0)
step_count net (Dropped alarm) = refl

pub fault_count-more : (net : Net) (steps : List RunStep) (i : ℕ) (step : RunStep) (fault : Bool) → i < length steps → step ≡ get_or steps i step → fault ≡ step_faults net step
    → fault_count net (word_of (take (i + 1) steps)) ≡ fault_count net (word_of (take i steps)) + cond fault 1 0
fault_count-more net steps i step fault l is of =
    ap (fault_count net) (word_more steps i step l is)
    ∙ sum_by-append (λ d. cond (is_fault net d) 1 0) (word_of (take i steps)) (option_to_list (event_of step))
    ∙ ap (λ k. fault_count net (word_of (take i steps)) + k) (step_count net step)
    ∙ ap {B = ℕ} (λ b. fault_count net (word_of (take i steps)) + cond b 1 0) (sym of)

-- one more event where the step has one
pub one_event : (o : Option ℕ) → length (option_to_list o) ≤ 1
one_event None = omega arith
one_event (Some e) = omega arith

-- a run of known events with a step whose event is known
pub known_more : (run : List RunStep) (step : RunStep) (n : ℕ) → All (λ e. e < n) (word_of run) → IfSome (event_of step) (λ e. e < n) → All (λ e. e < n) (word_of (run ++ step ∷ []))
known_more run step n known here =
    subst (λ w. All (λ e. e < n) w) (sym (filter_map-append event_of run (step ∷ []))) (All-append (λ e. e < n) (word_of run) (word_of (step ∷ [])) known (last step here))
  where
    last : (s : RunStep) → IfSome (event_of s) (λ e. e < n) → All (λ e. e < n) (word_of (s ∷ []))
    last (Happens e alarm) below = λ k d l. by k d l
      where
        by : (k d : ℕ) → k < 1 → get_or (e ∷ []) k d < n
        by zero d l = below
        by (suc k) d l = absurd (omega arith)
    last (Dropped alarm) below = λ k d l. absurd (omega arith)

-- at most each step is a fault
cond_few : (b : Bool) → cond b 1 0 ≤ 1
cond_few true = omega arith
cond_few false = omega arith

pub fault_few : (net : Net) (steps : List RunStep) → fault_count net (word_of steps) ≤ length steps
fault_few net [] = omega arith
fault_few net (Happens e alarm ∷ steps) =
    let rest = fault_few net steps in
    let here = sum_by-cons (λ d. cond (is_fault net d) 1 0) e (word_of steps) in
    let one = cond_few (is_fault net e) in
    omega (arith, rest, here, one)
fault_few net (Dropped alarm ∷ steps) = let rest = fault_few net steps in omega (arith, rest)
