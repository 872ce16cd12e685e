-- A search by halving over parts, whatever the costs that the stored closure answers: how it begins, one round of it, and where it ends.
use Rattle.std.proofs.Common.{◌≡◌, ℕ, ◌+◌, ◌<◌, ◌≤◌, List, Option, None, Some, IfSome, arith}
use Rattle.std.specs.Prelude.{min}
use Rattle.des_net.specs.Network.{Net, IsNetwork}
use Rattle.event_costs.specs.StoredCosts.{GivesCosts}
use Rattle.event_costs.specs.declared.TheConstants.{MOST_COST}
use Rattle.sat_solve.specs.Leaving.{PutsNoFinal}
use Rattle.least_faults.specs.Parts.{BelongTo}
use Rattle.least_faults.specs.declared.parts.Parts.{Parts}
use Rattle.question_clauses.specs.LogClauses.{guard_literals}
use Rattle.log_encode.specs.CodedLog.{read_meanings, log_guards}
use Rattle.log_order.specs.Log.{Log, IsValidLog}
use Rattle.proof_ledger.specs.Book.{BookEntry, axioms_of, IsValidBook}
use Rattle.prop_core.specs.VariableNames.{ReadsAs}
use Rattle.weight_counter.specs.declared.scale.Scale.{Scale}
use Rattle.cost_least.proofs.Answering.{told, guards_before}
use Rattle.cost_least.proofs.Finding.{asked_back, coded_back, found_absent, found_later, found_nothing, found_still, refused_still}
use Rattle.cost_least.proofs.Halving.{halved_none, halved_quits, halved_better, halved_refuted, halved_spent, halved_cheapest, halved_dear, halved_undecided, HasHalved}
use Rattle.cost_least.proofs.Weighed.{goes_both, goes_none}
use Rattle.cost_least.specs.Answers.{CostAsked, PoseCostQuestion, IsPriced, IsHalfway, NegatesCost}
use Rattle.cost_least.specs.Asking.{HasAskedCost}
use Rattle.cost_least.specs.Searching.{AreAsked, GoesOnWeighed, HasFoundCost, HasRefusedCosts, MayBound, asked_of}
use Rattle.cost_least.specs.Weighed.{AreWeighed, AreWeighedParts, assumed_at}
use Rattle.answers.specs.declared.cheap.Cheap.{Cheap}
use Rattle.answers.specs.declared.cheap.Cheap.TheVariants.{Found, Absent, Dear, Undecided}
use Rattle.answers.specs.declared.cheap.Priced.{Priced}
use Rattle.cost_least.specs.declared.asking.CostAnswer.{CostAnswer}
use Rattle.cost_least.specs.declared.asking.CostAnswer.TheVariants.{Explained, Refuted, Spent}
use Rattle.sat_solve.proofs.Entries.{learnt_no_final}
use Rattle.sat_solve.proofs.Leaving.{finals_later}

-- what the search has come to
pub record HasComeTo {R C : Type 0} (may : R → ℕ → Type 0) (gives : R → ℕ → ℕ → Type 0) (answers : C → ℕ → ℕ → Type 0) (stored : C) (net : Net) (log : Log) (begun now : Parts R) (scale : Scale) (first new : List BookEntry) (budget left lo : ℕ) (best : Priced) : Type 0 where
  pub goes : GoesOnWeighed may gives begun now scale first new budget left
  pub come : (cost : ℕ → ℕ) → GivesCosts answers stored net cost → AreWeighed may gives cost begun scale first → HasHalved (asked_of net cost log begun) begun.code.coded scale first new budget left lo best

module _ {R C : Type 0} (may : R → ℕ → Type 0) (gives : R → ℕ → ℕ → Type 0) (answers : C → ℕ → ℕ → Type 0) (stored : C) (net : Net) (log : Log) (begun : Parts R) (scale : Scale) (first : List BookEntry) (budget : ℕ) where
  pub come_to_none : (known : Priced) → ((cost : ℕ → ℕ) → GivesCosts answers stored net cost → IsPriced (asked_of net cost log begun) known) → (0 < known.cost → 0 < scale.inputs) → HasComeTo may gives answers stored net log begun begun scale first first budget budget 0 known
  come_to_none known given counted = record {
    goes = goes_none may gives begun scale first budget;
    come = λ cost answered weighed. halved_none (asked_of net cost log begun) begun.code.coded scale first budget known (given cost answered) counted;
  }

  -- ---- a further question

  module _ (mid now : Parts R) (old new : List BookEntry) (before after : ℕ) (bound : Option ℕ) (given : CostAnswer) (one : GoesOnWeighed may gives begun mid scale first old budget before) (two : GoesOnWeighed may gives mid now scale old new before after)
      (asked : (cost : ℕ → ℕ) → GivesCosts answers stored net cost → AreWeighed may gives cost mid scale old → HasAskedCost (asked_of net cost log now) now.code.coded scale bound old new before after given) where
    goes : GoesOnWeighed may gives begun now scale first new budget after
    goes = goes_both may gives begun mid now scale first old new budget before after one two

    -- by the parts as they were
    pub asked_then : (other : CostAnswer) → given ≡ other → (cost : ℕ → ℕ) → GivesCosts answers stored net cost → AreWeighed may gives cost begun scale first → HasAskedCost (asked_of net cost log begun) begun.code.coded scale bound old new before after other
    asked_then other same cost answered weighed = asked_back net cost log begun now scale bound old new before after given other goes.kept same (asked cost answered (one.still cost weighed))

  module _ (mid now : Parts R) (old new : List BookEntry) (before after lo : ℕ) (best : Priced) (b : ℕ) (given : CostAnswer) (come : HasComeTo may gives answers stored net log begun mid scale first old budget before lo best) (two : GoesOnWeighed may gives mid now scale old new before after)
      (asked : (cost : ℕ → ℕ) → GivesCosts answers stored net cost → AreWeighed may gives cost mid scale old → HasAskedCost (asked_of net cost log now) now.code.coded scale (Some b) old new before after given) where
    goes_now : GoesOnWeighed may gives begun now scale first new budget after
    goes_now = goes_both may gives begun mid now scale first old new budget before after come.goes two

    then : (other : CostAnswer) → given ≡ other → (cost : ℕ → ℕ) → GivesCosts answers stored net cost → AreWeighed may gives cost begun scale first → HasAskedCost (asked_of net cost log begun) begun.code.coded scale (Some b) old new before after other
    then other same = asked_then mid now old new before after (Some b) given come.goes two asked other same

    pub come_with_better : (better : Priced) → given ≡ Explained better → HasComeTo may gives answers stored net log begun now scale first new budget after lo better
    come_with_better better same = record {
      goes = goes_now;
      come = λ cost answered weighed. halved_better (asked_of net cost log begun) begun.code.coded scale first old new budget before after lo best (come.come cost answered weighed) (Some b) better (then (Explained better) same cost answered weighed);
    }

    pub come_lower : AreAsked may gives answers stored net begun scale first → (better : Priced) → given ≡ Explained better → better.cost ≤ b
    come_lower own better same = (then (Explained better) same own.cost own.answered own.weighed).means.within

    pub come_further : IsHalfway lo best.cost b → given ≡ Refuted → HasComeTo may gives answers stored net log begun now scale first new budget after (b + 1) best
    come_further between same = record {
      goes = goes_now;
      come = λ cost answered weighed. halved_refuted (asked_of net cost log begun) begun.code.coded scale first old new budget before after lo best (come.come cost answered weighed) b between (then Refuted same cost answered weighed);
    }

    pub come_to_spent : given ≡ Spent → HasComeTo may gives answers stored net log begun now scale first new budget after lo best
    come_to_spent same = record {
      goes = goes_now;
      come = λ cost answered weighed. halved_spent (asked_of net cost log begun) begun.code.coded scale first old new budget before after lo best (come.come cost answered weighed) b (then Spent same cost answered weighed);
    }

  -- ---- where it ends

  module _ (belong : BelongTo net log begun) (network : IsNetwork net) (valid : IsValidLog log) (read : ReadsAs (read_meanings begun.code.coded) (log_guards begun.code.coded) (guard_literals begun.code.coded.net begun.code.coded.log)) where
    module _ (now : Parts R) (new : List BookEntry) (left : ℕ) (goes : GoesOnWeighed may gives begun now scale first new budget left) (cost : ℕ → ℕ) (weighed : AreWeighed may gives cost begun scale first) where
      coded : AreWeighedParts cost begun.step begun.code.coded now.counter now.vars (axioms_of new) scale
      coded = coded_back cost begun now (axioms_of new) scale goes.kept (goes.still cost weighed).coded

      tells : (bound : Option ℕ) → IfSome bound (MayBound scale) → PoseCostQuestion (asked_of net cost log begun) bound (axioms_of new) (assumed_at begun.code.coded scale bound)
      tells bound may_bound = told cost begun.step begun.code.coded now.counter now.vars (axioms_of new) scale coded net log belong.of_steps network valid belong.same_log read bound may_bound

      tells_few : (b : ℕ) → b ≤ MOST_COST → 0 < scale.inputs → PoseCostQuestion (asked_of net cost log begun) (Some b) (axioms_of new) (assumed_at begun.code.coded scale (Some b))
      tells_few b few some = tells (Some b) (record { some = some; few = (let amounts = coded.amounts in omega (arith, amounts, few)) })

      as_now : (cheap : Cheap) → HasFoundCost (asked_of net cost log begun) budget first new cheap → HasFoundCost (asked_of net cost log now) budget first new cheap
      as_now cheap = found_still net cost log begun now budget first new cheap goes.kept

    module _ (now : Parts R) (new : List BookEntry) (left lo : ℕ) (best : Priced) (come : HasComeTo may gives answers stored net log begun now scale first new budget left lo best) (end : min best.cost (1 + MOST_COST) ≤ lo) (cost : ℕ → ℕ) (answered : GivesCosts answers stored net cost)
        (weighed : AreWeighed may gives cost begun scale first) where
      pub ends_cheapest : best.cost ≤ MOST_COST → HasFoundCost (asked_of net cost log now) budget first new (Found best)
      ends_cheapest few =
          as_now now new left come.goes cost weighed (Found best)
          (halved_cheapest (asked_of net cost log begun) begun.code.coded scale first new budget left lo best (come.come cost answered weighed) (tells_few now new left come.goes cost weighed) end few)

      pub ends_dear : MOST_COST < best.cost → HasFoundCost (asked_of net cost log now) budget first new (Dear best.run)
      ends_dear above =
          as_now now new left come.goes cost weighed (Dear best.run)
          (halved_dear (asked_of net cost log begun) begun.code.coded scale first new budget left lo best (come.come cost answered weighed) (tells_few now new left come.goes cost weighed) end above)

    -- if memory runs out
    pub quits_at : (mid now : Parts R) (old new : List BookEntry) (before after lo : ℕ) (best : Priced) → HasComeTo may gives answers stored net log begun mid scale first old budget before lo best → GoesOnWeighed may gives mid now scale old new before after → PutsNoFinal old new →
        (cost : ℕ → ℕ) → GivesCosts answers stored net cost → AreWeighed may gives cost begun scale first → HasRefusedCosts (asked_of net cost log now) first new
    quits_at mid now old new before after lo best come two quit cost answered weighed =
        let goes = goes_both may gives begun mid now scale first old new budget before after come.goes two in
        refused_still net cost log begun now first new goes.kept
        (halved_quits (asked_of net cost log begun) begun.code.coded scale first old new budget before lo best (come.come cost answered weighed) quit (tells_few now new after goes cost weighed))

    -- where the budget is spent
    pub ends_undecided : (mid now : Parts R) (old new : List BookEntry) (before after lo : ℕ) (best : Priced) (b : ℕ) (given : CostAnswer) (come : HasComeTo may gives answers stored net log begun mid scale first old budget before lo best) → GoesOnWeighed may gives mid now scale old new before after →
        ((cost : ℕ → ℕ) → GivesCosts answers stored net cost → AreWeighed may gives cost mid scale old → HasAskedCost (asked_of net cost log now) now.code.coded scale (Some b) old new before after given) → given ≡ Spent → IsValidBook new → lo < min best.cost (1 + MOST_COST) → IsHalfway lo best.cost b →
        (cost : ℕ → ℕ) → GivesCosts answers stored net cost → AreWeighed may gives cost begun scale first → HasFoundCost (asked_of net cost log now) budget first new (Undecided lo (Some best))
    ends_undecided mid now old new before after lo best b given come two asked same book less between cost answered weighed =
        let here = asked_then mid now old new before after (Some b) given come.goes two asked Spent same cost answered weighed in
        let spent = come_to_spent mid now old new before after lo best b given come two asked same in
        as_now now new after spent.goes cost weighed (Undecided lo (Some best))
        (halved_undecided (asked_of net cost log begun) begun.code.coded scale first new budget after lo best (spent.come cost answered weighed) (tells_few now new after spent.goes cost weighed) book
        (guards_before cost begun.step begun.code.coded now.counter now.vars (axioms_of new) scale (coded now new after spent.goes cost weighed) net log belong.of_steps network valid belong.same_log read) (tells now new after spent.goes cost weighed None tt) less here.means.nothing b between here.means.clashes)

    -- ---- without a bound

    module _ (now : Parts R) (new : List BookEntry) (left : ℕ) (given : CostAnswer) (goes : GoesOnWeighed may gives begun now scale first new budget left)
        (asked : (cost : ℕ → ℕ) → GivesCosts answers stored net cost → AreWeighed may gives cost begun scale first → HasAskedCost (asked_of net cost log now) now.code.coded scale None first new budget left given) (cost : ℕ → ℕ) (answered : GivesCosts answers stored net cost) (weighed : AreWeighed may gives cost begun scale first) where
      first_asked : (other : CostAnswer) → given ≡ other → HasAskedCost (asked_of net cost log begun) begun.code.coded scale None first new budget left other
      first_asked other same = asked_back net cost log begun now scale None first new budget left given other goes.kept same (asked cost answered weighed)

      pub ends_absent : given ≡ Refuted → HasFoundCost (asked_of net cost log now) budget first new Absent
      ends_absent same = as_now now new left goes cost weighed Absent (found_absent (asked_of net cost log begun) begun.code.coded scale first new budget left (tells now new left goes cost weighed None tt) (first_asked Refuted same))

      pub ends_unknown : given ≡ Spent → HasFoundCost (asked_of net cost log now) budget first new (Undecided 0 None)
      ends_unknown same = as_now now new left goes cost weighed (Undecided 0 None) (found_nothing (asked_of net cost log begun) begun.code.coded scale first new budget left (tells now new left goes cost weighed None tt) (first_asked Spent same))

      pub quits_later : (q : CostAsked) (last : List BookEntry) (known : Priced) → given ≡ Explained known → HasRefusedCosts q new last → HasRefusedCosts q first last
      quits_later q last known same refused =
          let here = first_asked (Explained known) same in
          finals_later (NegatesCost q (axioms_of last)) (1 + MOST_COST) first new last (record { since = here.searching.since; whole = here.searching.whole; none = learnt_no_final here.searching.since here.means.learnt }) refused

      -- with what is found behind it
      pub ends_later : (q : CostAsked) (last : List BookEntry) (cheap : Cheap) (known : Priced) → given ≡ Explained known → HasFoundCost q left new last cheap → HasFoundCost q budget first last cheap
      ends_later q last cheap known same found =
          let here = first_asked (Explained known) same in
          found_later q budget left first new last cheap here.searching (learnt_no_final here.searching.since here.means.learnt) found

      pub known_counted : (known : Priced) → given ≡ Explained known → 0 < known.cost → 0 < scale.inputs
      known_counted known same = (first_asked (Explained known) same).means.counted
