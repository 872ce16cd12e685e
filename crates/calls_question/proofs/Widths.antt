-- Small networks need few variables.
use Rattle.std.proofs.Common.{ℕ, ◌+◌, ◌*◌, ◌≤◌, not, List, length, filter, map, refl, arith}
use Rattle.std.proofs.lemmas.List.Filters.{length-filter_both}
use Rattle.std.proofs.lemmas.List.FromFn.{length-range_with_len}
use Rattle.std.proofs.lemmas.Nat.{mul-le}
use Rattle.std.specs.Prelude.{is_some, Bool}
use Rattle.des_base.specs.ChainCount.{chain_count}
use Rattle.des_base.specs.Lists.{numbers_below}
use Rattle.des_base.specs.declared.TheConstants.{VAR_LIMIT}
use Rattle.des_net.specs.Network.{Net, label_of, observable_events}
use Rattle.question_clauses.specs.Additions.{alarm_added, with_addition}
use Rattle.question_clauses.specs.Drafts.{taken_events}
use Rattle.question_clauses.specs.LogNames.{first_meanings}
use Rattle.log_encode.proofs.TakenLemmas.{width_is, map_count, false_is_small, unlinked, events_again}
use Rattle.log_encode.specs.CodedLog.{CodedLog, addition_width}
use Rattle.log_order.specs.Log.{an_alarm}
use Rattle.prop_core.specs.VariableNames.{closed}
use Rattle.replay.specs.Explanation.{is_matching}
use Rattle.step_encode.proofs.FewChains.{chain_le}

among_numbers : (p : ℕ → Bool) (k : ℕ) → length (filter p (numbers_below k)) ≤ k
among_numbers p k = omega (arith, length-filter_both p (λ x. not (p x)) (λ x. refl) (numbers_below k), length-range_with_len 0 k)

-- eight events in eight steps, and a thousand variables before
pub alarm_fits : (code : CodedLog) (id : List ℕ) (labels : List (List ℕ)) (maybe : Bool) (first : ℕ) → length code.net.events ≤ 8 → code.grid.steps ≤ 8 → first ≤ 1000 →
    first + addition_width code (alarm_added (an_alarm id labels maybe)) ≤ VAR_LIMIT
alarm_fits code id labels maybe first events steps few =
    let new = an_alarm id labels maybe in
    let taken = taken_events code.net code.log new in
    let width = width_is code.net code.log code.grid.steps new (map unlinked taken) (events_again taken) in
    let count = map_count unlinked taken in
    let links = among_numbers (λ e. is_matching code.net (with_addition code.log (alarm_added new)) e (length code.log.alarms)) (length code.net.events) in
    let product = mul-le (length (map unlinked taken)) (1 + code.grid.steps * 2) 8 17 (omega (arith, count, links, events)) (omega (arith, steps)) in
    let chain = chain_le (length (map unlinked taken)) in
    let chains = mul-le code.grid.steps (chain_count (length (map unlinked taken))) 8 8 (omega (arith, steps)) (omega (arith, chain, count, links, events)) in
    omega (arith, width, product, chains, few, steps, false_is_small maybe)

pub first_names_fit : (net : Net) (first : ℕ) → length net.events ≤ 8 → first ≤ 1000 → first + length (first_meanings net) ≤ VAR_LIMIT
first_names_fit net first events few =
    let names = map_count (λ e. closed e 0) (observable_events net) in
    let seen = among_numbers (λ e. is_some (label_of net e)) (length net.events) in
    omega (arith, names, seen, events, few)
