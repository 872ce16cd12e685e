use Rattle.std.proofs.Common.{◌+◌, ℕ, subst}
use Rattle.std.proofs.lemmas.Result.{IfOk-weaker as ok_weaker, on_err_weaker}
use Rattle.des_base.proofs.Results.{on_err}
use Rattle.event_costs.specs.StoredCosts.{GivesCosts}
use Rattle.event_costs.specs.declared.TheConstants.{MOST_COST}
use Rattle.proof_ledger.specs.Book.{axioms_of}
use Rattle.cost_least.proofs.Rounds.{ends_absent, ends_later, ends_unknown, known_counted, quits_later}
use Rattle.cost_least.proofs.Weighed.{goes_both}
use Rattle.cost_least.specs.Asking.{IsGiven}
use Rattle.cost_least.specs.Searching.{HasFoundCost, HasRefusedCosts, asked_of}
use Rattle.cost_least.specs.Weighed.{AreWeighed}
use Rattle.cost_least.proofs.searching.search.Goals as goal
use Rattle.sat_solve.proofs.Leaving.{finals_none}
use Rattle.cost_least.specs.Answers.{NegatesCost}

pub returns-in-Refuted-clause-found : goal.returns-in-Refuted-clause-found
returns-in-Refuted-clause-found g c =
    λ cost answered weighed. ends_absent _ _ (goal.C-post g) c.args.costs.now.cost _ _ c.args.parts.now c.args.question.scale c.args.book.now.entries c.args.budget.now c.requires.belong c.is_built.ensures.network c.is_whole.ensures.whole.valid c.has_guards.ensures.guards
    c.ask.new.parts _ _ _ c.ask.ensures.goes_on c.in_ok-ask.ensures.asked cost answered weighed c.in-Refuted.is

pub returns-in-Spent-clause-found : goal.returns-in-Spent-clause-found
returns-in-Spent-clause-found g c =
    λ cost answered weighed. ends_unknown _ _ (goal.C-post g) c.args.costs.now.cost _ _ c.args.parts.now c.args.question.scale c.args.book.now.entries c.args.budget.now c.requires.belong c.is_built.ensures.network c.is_whole.ensures.whole.valid c.has_guards.ensures.guards
    c.ask.new.parts _ _ _ c.ask.ensures.goes_on c.in_ok-ask.ensures.asked cost answered weighed c.in-Spent.is

pub halve-requires-clause-asked : goal.halve-requires-clause-asked
halve-requires-clause-asked g c = let own = c.requires.asked in record { cost = own.cost; answered = own.answered; others = own.others; weighed = c.ask.ensures.goes_on.still own.cost own.weighed }

pub halve-requires-clause-known : goal.halve-requires-clause-known
halve-requires-clause-known g c = λ cost answered.
    subst (IsGiven (asked_of c.args.question.net.now cost c.args.question.log.now c.ask.new.parts)) c.in-Explained.is (c.in_ok-ask.ensures.given cost answered)

pub halve-requires-clause-counted : goal.halve-requires-clause-counted
halve-requires-clause-counted g c =
    let own = c.requires.asked in
    known_counted _ _ (goal.C-post g) c.args.costs.now.cost _ _ c.args.parts.now c.args.question.scale c.args.book.now.entries c.args.budget.now c.requires.belong c.is_built.ensures.network c.is_whole.ensures.whole.valid c.has_guards.ensures.guards
    c.ask.new.parts _ _ _ c.ask.ensures.goes_on c.in_ok-ask.ensures.asked own.cost own.answered own.weighed c.in-Explained.known c.in-Explained.is

pub returns-in-Explained-clause-goes_on : goal.returns-in-Explained-clause-goes_on
returns-in-Explained-clause-goes_on g c = goes_both _ _ _ _ _ _ _ _ _ _ _ _ c.ask.ensures.goes_on c.halve.ensures.goes_on

pub returns-in-Explained-clause-found : goal.returns-in-Explained-clause-found
returns-in-Explained-clause-found g c =
    let net = c.args.question.net.now in
    let log = c.args.question.log.now in
    let scale = c.args.question.scale in
    let last = c.halve.new.parts in
    let mid = c.ask.new.book.entries in
    let new = c.halve.new.book.entries in
    ok_weaker c.halve.result
    (λ cheap. (cost : ℕ → ℕ) → GivesCosts (goal.C-post g) c.args.costs.now.cost net cost → AreWeighed (goal.R-pre g) (goal.R-post g) cost c.ask.new.parts scale mid → HasFoundCost (asked_of net cost log last) c.ask.new.budget mid new cheap)
    (λ cheap. (cost : ℕ → ℕ) → GivesCosts (goal.C-post g) c.args.costs.now.cost net cost → AreWeighed (goal.R-pre g) (goal.R-post g) cost c.args.parts.now scale c.args.book.now.entries → HasFoundCost (asked_of net cost log last) c.args.budget.now c.args.book.now.entries new cheap)
    (λ cheap found. λ cost answered weighed.
    ends_later _ _ (goal.C-post g) c.args.costs.now.cost _ _ c.args.parts.now c.args.question.scale c.args.book.now.entries c.args.budget.now c.requires.belong c.is_built.ensures.network c.is_whole.ensures.whole.valid c.has_guards.ensures.guards
    c.ask.new.parts _ _ _ c.ask.ensures.goes_on c.in_ok-ask.ensures.asked cost answered weighed (asked_of net cost log last) new cheap c.in-Explained.known c.in-Explained.is (found cost answered (c.ask.ensures.goes_on.still cost weighed)))
    c.halve.ensures.found

pub returns-in_err-ask-clause-quit : goal.returns-in_err-ask-clause-quit
returns-in_err-ask-clause-quit g c =
    let net = c.args.question.net.now in
    let log = c.args.question.log.now in
    let old = c.args.book.now.entries in
    let none : (cost : ℕ → ℕ) → GivesCosts (goal.C-post g) c.args.costs.now.cost net cost → AreWeighed (goal.R-pre g) (goal.R-post g) cost c.args.parts.now c.args.question.scale old → HasRefusedCosts (asked_of net cost log c.ask.new.parts) old c.ask.new.book.entries = λ cost answered weighed.
    finals_none (NegatesCost (asked_of net cost log c.ask.new.parts) (axioms_of c.ask.new.book.entries)) (1 + MOST_COST) old c.ask.new.book.entries c.in_err-ask.ensures.quit in
    on_err _ _ none

pub returns-in-Explained-clause-quit : goal.returns-in-Explained-clause-quit
returns-in-Explained-clause-quit g c =
    let net = c.args.question.net.now in
    let log = c.args.question.log.now in
    on_err_weaker c.halve.result (λ quit. λ cost answered weighed.
    quits_later _ _ (goal.C-post g) c.args.costs.now.cost _ _ c.args.parts.now c.args.question.scale c.args.book.now.entries c.args.budget.now c.requires.belong c.is_built.ensures.network c.is_whole.ensures.whole.valid c.has_guards.ensures.guards
    c.ask.new.parts _ _ _ c.ask.ensures.goes_on c.in_ok-ask.ensures.asked cost answered weighed (asked_of net cost log c.halve.new.parts) c.halve.new.book.entries c.in-Explained.known c.in-Explained.is
    (quit cost answered (c.ask.ensures.goes_on.still cost weighed))) c.halve.ensures.quit
