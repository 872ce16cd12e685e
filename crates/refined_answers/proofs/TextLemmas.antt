-- Networks that behave alike: texts of runs and of costs say the same, and runs have the same answer when they are replayed.
use Rattle.std.proofs.Common.{◌≡◌, ℕ, ◌+◌, ◌≤◌, Bool, List, [], ◌∷◌, ◌++◌, filter_map, Option, None, Some, refl, sym, ap, ◌∙◌, subst, arith, is_none}
use Rattle.std.specs.Prelude.{not, unwrap_or, option_and_then, count_by, if◌then◌else◌}
use Rattle.std.specs.Option.{option_to_list}
use Rattle.std.proofs.Math.Path.{fun_ext}
use Rattle.des_base.specs.CountedLines.{NumberedLine, counted_lines, tokens_of}
use Rattle.des_base.specs.Names.{is_name_text, place_of}
use Rattle.des_net.specs.Network.{Net, is_fault}
use Rattle.des_net.specs.Run.{fault_count}
use Rattle.des_net.specs.Width.{need}
use Rattle.log_order.specs.Log.{Log}
use Rattle.replay.specs.declared.replaying.Replayed.{Replayed}
use Rattle.replay.specs.declared.replaying.Replayed.TheVariants.{Accepted, Stuck, BadAlarm, Missing, Order, TooWide}
use Rattle.replay.specs.declared.run.RunStep.{RunStep}
use Rattle.replay.specs.declared.run.RunStep.TheVariants.{Happens, Dropped}
use Rattle.replay.specs.declared.tracing.Traced.{Traced}
use Rattle.replay.specs.declared.tracing.Traced.TheVariants.{Ran, Stuck as Halted}
use Rattle.replay.specs.Matching.{bad_alarm, bad_alarm_from, order_of, suits, suits_label, with_step}
use Rattle.replay.specs.Replayed.{HasAlarms, IsReplayed}
use Rattle.replay.specs.RunText.{first_run_fault, run_of}
use Rattle.replay.specs.Traced.{IsStuckAt, IsTraced, word_of}
use Rattle.event_costs.specs.declared.table.Price.{Price}
use Rattle.event_costs.specs.CostText.{CostLine, cost_body, cost_fault_of_lines, cost_fault_or, cost_line, cost_number, cost_shape_code, fault_event_of, first_cost_code, given_to, is_cost_header, is_named, line_price, priced, prices_of}
use Rattle.refined_answers.specs.Behaviour.{BehaveAlike}
use Rattle.refined_answers.specs.Laws.{BehaviourGivesPrices, BehaviourGivesReplays}
use Rattle.refined_answers.proofs.BehaviourLemmas.{needs_over, same_faults, same_marks, turned}

-- ---- a text of a run: of a network nothing but the names of its events matters

-- a network that has these names alone
abbrev named : List (List ℕ) → Net
named names = record { component_names = []; components = []; event_names = names; events = [] }

same_run_fault : (a b : Net) → BehaveAlike a b → (bytes : List ℕ) → first_run_fault b bytes ≡ first_run_fault a bytes
same_run_fault a b alike bytes = ap (λ names. first_run_fault (named names) bytes) alike.event_names

same_run : (a b : Net) → BehaveAlike a b → (bytes : List ℕ) → run_of b bytes ≡ run_of a bytes
same_run a b alike bytes = ap (λ names. run_of (named names) bytes) alike.event_names

-- ---- what a run is answered

same_counts : (a b : Net) → BehaveAlike a b → (word : List ℕ) → fault_count a word ≡ fault_count b word
same_counts a b alike word = ap (λ (marks : ℕ → Bool). count_by marks word) (same_marks a b alike)

same_needs : (a b : Net) → BehaveAlike a b → (word : List ℕ) → need a word ≡ need b word
same_needs a b alike word = let one = needs_over a b alike word in let two = needs_over b a (turned a b alike) word in omega arith

stuck_over : (a b : Net) → BehaveAlike a b → (run : List RunStep) (at : ℕ) → IsStuckAt a run at → IsStuckAt b run at
stuck_over a b alike run at stuck = record {
  first = stuck.first;
  within = stuck.within;
  before = (alike.runs _).1 stuck.before;
  stuck = λ goes. stuck.stuck ((alike.runs _).0 goes);
}

traced_over : (a b : Net) → BehaveAlike a b → (run : List RunStep) (answer : Traced) → IsTraced a run answer → IsTraced b run answer
traced_over a b alike run (Ran faults) traced = ((alike.runs (word_of run)).1 traced.0, traced.1 ∙ same_counts a b alike (word_of run))
traced_over a b alike run (Halted at) stuck = stuck_over a b alike run at stuck

same_suits : (a b : Net) → BehaveAlike a b → (log : Log) (earlier : List ℕ) (step : RunStep) → suits a log earlier step ≡ suits b log earlier step
same_suits a b alike log earlier (Happens event alarm) = ap (λ label. suits_label log earlier label alarm) (sym (alike.labels event))
same_suits a b alike log earlier (Dropped alarm) = refl

same_bad : (a b : Net) → BehaveAlike a b → (log : Log) (earlier : List ℕ) (at : ℕ) (run : List RunStep) → bad_alarm_from a log earlier at run ≡ bad_alarm_from b log earlier at run
same_bad a b alike log earlier at [] = refl
same_bad a b alike log earlier at (step ∷ run) =
    rw (same_suits a b alike log earlier step) (ap (λ later. if suits b log earlier step then later else Some at) (same_bad a b alike log (with_step log earlier step) (at + 1) run))

bad_over : (a b : Net) → BehaveAlike a b → (log : Log) (run : List RunStep) (answer : Option ℕ) → bad_alarm a log run ≡ answer → bad_alarm b log run ≡ answer
bad_over a b alike log run answer bad = sym (same_bad a b alike log [] 1 run) ∙ bad

alarms_over : (a b : Net) → BehaveAlike a b → (log : Log) (run : List RunStep) → HasAlarms a log run → HasAlarms b log run
alarms_over a b alike log run has = record { suit = bad_over a b alike log run None has.suit; complete = has.complete; kept = has.kept }

replayed_over : (a b : Net) → BehaveAlike a b → (log : Log) (run : List RunStep) (n : ℕ) (answer : Replayed) → IsReplayed a log run n answer → IsReplayed b log run n answer
replayed_over a b alike log run n (Stuck at) stuck = stuck_over a b alike run at stuck
replayed_over a b alike log run n (BadAlarm at) (goes, bad) = ((alike.runs (word_of run)).1 goes, bad_over a b alike log run (Some at) bad)
replayed_over a b alike log run n (Missing alarm) (goes, bad, missing) = ((alike.runs (word_of run)).1 goes, bad_over a b alike log run None bad, missing)
replayed_over a b alike log run n (Order first second) (goes, bad, missing, wrong) = ((alike.runs (word_of run)).1 goes, bad_over a b alike log run None bad, missing, wrong)
replayed_over a b alike log run n (TooWide pieces) (goes, has, wide, more) = ((alike.runs (word_of run)).1 goes, alarms_over a b alike log run has, wide ∙ same_needs a b alike (word_of run), more)
replayed_over a b alike log run n (Accepted faults) (goes, has, fits, are) =
    ((alike.runs (word_of run)).1 goes, alarms_over a b alike log run has, subst (λ least. least ≤ n) (same_needs a b alike (word_of run)) fits, are ∙ same_faults a b alike (word_of run) (order_of log run))

pub behaviour_gives_replays : BehaviourGivesReplays
behaviour_gives_replays net other alike =
    let back = turned net other alike in
    record {
      run_faults = same_run_fault net other alike;
      runs = same_run net other alike;
      traced = λ run answer. (traced_over other net back run answer, traced_over net other alike run answer);
      replayed = λ log run n answer. (replayed_over other net back log run n answer, replayed_over net other alike log run n answer);
    }

-- ---- a text of costs

same_found : (a b : Net) → BehaveAlike a b → (name : List ℕ) → fault_event_of a name ≡ fault_event_of b name
same_found a b alike name =
    ap (λ names. option_and_then (λ e. if is_fault a e then Some e else None) (place_of name names)) (sym alike.event_names)
    ∙ ap (λ (marks : ℕ → Bool). option_and_then (λ e. if marks e then Some e else None) (place_of name b.event_names)) (same_marks a b alike)

same_price : (a b : Net) → BehaveAlike a b → (line : Option CostLine) → line_price a line ≡ line_price b line
same_price a b alike None = refl
same_price a b alike (Some line) = ap (λ found. priced found (cost_number line.cost)) (same_found a b alike line.event)

same_prices : (a b : Net) → BehaveAlike a b → (lines : List NumberedLine) → prices_of a lines ≡ prices_of b lines
same_prices a b alike lines = ap (λ (price : Option CostLine → Option Price). filter_map (λ line. price (cost_line (tokens_of line.text))) lines) (fun_ext (same_price a b alike))

same_code : (a b : Net) → BehaveAlike a b → (earlier : List Price) (line : Option CostLine) → cost_shape_code a earlier line ≡ cost_shape_code b earlier line
same_code a b alike earlier None = refl
same_code a b alike earlier (Some line) =
    ap (λ found. if not (is_name_text line.event) then Some 3 else if is_none found then Some 5 else if is_named earlier found then Some 4 else if is_none (cost_number line.cost) then Some 6 else None) (same_found a b alike line.event)

same_codes : (a b : Net) → BehaveAlike a b → (earlier : List Price) (lines : List NumberedLine) → first_cost_code a earlier lines ≡ first_cost_code b earlier lines
same_codes a b alike earlier [] = refl
same_codes a b alike earlier (line ∷ lines) =
    let words = cost_line (tokens_of line.text) in
    let here = ap (λ code. cost_fault_or line.number code (first_cost_code a (earlier ++ option_to_list (line_price a words)) lines)) (same_code a b alike earlier words) in
    let price = ap (λ given. cost_fault_or line.number (cost_shape_code b earlier words) (first_cost_code a (earlier ++ option_to_list given) lines)) (same_price a b alike words) in
    here ∙ price ∙ ap (λ later. cost_fault_or line.number (cost_shape_code b earlier words) later) (same_codes a b alike (earlier ++ option_to_list (line_price b words)) lines)

same_cost_fault : (a b : Net) → BehaveAlike a b → (lines : List NumberedLine) → cost_fault_of_lines a lines ≡ cost_fault_of_lines b lines
same_cost_fault a b alike [] = refl
same_cost_fault a b alike (header ∷ lines) = ap (λ later. if is_cost_header (tokens_of header.text) then later else Some (record { line = header.number; code = 1 })) (same_codes a b alike [] lines)

pub behaviour_gives_prices : BehaviourGivesPrices
behaviour_gives_prices net other alike = record {
  cost_faults = λ bytes. sym (same_cost_fault net other alike (counted_lines 35 bytes));
  costs = λ bytes e. ap (λ prices. unwrap_or (given_to prices e) 1) (sym (same_prices net other alike (cost_body (counted_lines 35 bytes))));
}
