-- The search by halving: what it has come to, and where it ends.
use Rattle.std.proofs.Common.{◌≡◌, ◌⊎◌, inl, inr, ℕ, suc, ◌+◌, ◌-◌, ◌<◌, ◌≤◌, List, [], ◌∷◌, ◌++◌, Option, None, Some, sym, ap, subst, arith, Contains, append-nil}
use Rattle.std.specs.Prelude.{min, count_by}
use Rattle.std.specs.List.{AllByRecursion}
use Rattle.std.proofs.lemmas.Bool.{cases_lt}
use Rattle.std.proofs.lemmas.List.Elements.{Contains-append_cases, Contains-append_right, recursion_from_All}
use Rattle.card_counter.specs.CounterState.{negative}
use Rattle.des_base.proofs.Elements.{cons_cases, none_in_nil}
use Rattle.event_costs.specs.declared.TheConstants.{MOST_COST}
use Rattle.sat_solve.proofs.Leaving.{no_more, searching_further, searching_none, each_both, each_none, last_later, last_before, finals_before, closed_counted, closed_each, closed_last}
use Rattle.least_faults.proofs.Entailing.{final_entailed}
use Rattle.sat_solve.specs.Leaving.{PutsNoFinal, HasFinal, HasLastFinal, EachFinal, IsSearching}
use Rattle.least_faults.specs.Evidence.{is_final}
use Rattle.question_clauses.proofs.Lists.{all_at}
use Rattle.log_encode.specs.CodedLog.{CodedLog, log_guards}
use Rattle.proof_ledger.specs.Book.{BookEntry, final, axioms_of, clauses_of, IsValidBook}
use Rattle.prop_core.specs.Clauses.{Clause, HasValues, negation, NegatesOnly}
use Rattle.prop_core.specs.Trail.{Clashes}
use Rattle.prop_core.specs.declared.lit.Lit.{Lit}
use Rattle.replay.specs.Matching.{order_of}
use Rattle.replay.specs.Traced.{word_of}
use Rattle.run_decode.proofs.Tells.{told_is_refuted}
use Rattle.sat_solve.specs.Searching.{AreLearnt}
use Rattle.weight_counter.specs.Scales.{place_variable}
use Rattle.weight_counter.specs.declared.scale.Scale.{Scale}
use Rattle.cost_least.proofs.Asked.{ends_cheapest, ends_dear, needed}
use Rattle.cost_least.proofs.Finding.{found_by}
use Rattle.cost_least.specs.Answers.{CostAsked, NegatesCost, PoseCostQuestion, IsPriced, Needs, IsHalfway, IsCostEvidence}
use Rattle.cost_least.specs.Asking.{HasAskedCost}
use Rattle.cost_least.specs.Pricing.{ExplainsAt}
use Rattle.cost_least.specs.Searching.{HasFoundCost, HasRefusedCosts}
use Rattle.cost_least.specs.Weighed.{assumed_at}
use Rattle.answers.specs.declared.cheap.Cheap.TheVariants.{Found, Dear, Undecided}
use Rattle.answers.specs.declared.cheap.Priced.{Priced}
use Rattle.cost_least.specs.declared.asking.CostAnswer.TheVariants.{Explained, Refuted, Spent}
use Rattle.prop_core.proofs.Negations.{NegatesLast, split_negates}
use Rattle.sat_solve.proofs.Entries.{learnt_no_final, counted_both}

-- the clause negates what is assumed for some total below lo
abbrev pub NegatesTotalBelow : CodedLog → Scale → ℕ → Clause → Type 0
NegatesTotalBelow code scale lo clause = (j : ℕ) × (j < lo) × NegatesOnly (assumed_at code scale (Some j)) clause

-- What the search has come to: totals below lo are refuted, each by one final entry at most, the last of them by the last one, and a run of this total is known.
pub record HasHalved (q : CostAsked) (code : CodedLog) (scale : Scale) (old new : List BookEntry) (budget_old budget_new lo : ℕ) (best : Priced) : Type 0 where
  pub searching : IsSearching old new budget_old budget_new
  pub finals : EachFinal (NegatesTotalBelow code scale lo) searching.since
  pub few : count_by is_final searching.since ≤ lo
  pub last : (b : ℕ) → lo ≡ suc b → HasLastFinal searching.since (assumed_at code scale (Some b))
  pub needs : Needs q lo
  pub reached : lo ≤ 1 + MOST_COST
  pub given : IsPriced q best
  pub counted : 0 < best.cost → 0 < scale.inputs

-- literals of two amounts are not the same
same_amount : (scale : Scale) (i j b : ℕ) → negative (place_variable scale i j) ≡ negative (place_variable scale i b) → j ≡ b
same_amount scale i j b same = let vars = ap (λ (l : Lit). l.var) same in omega (arith, vars)

-- Each final entry refutes a total below lo, which is one that may be asked for.
negates_cost : (q : CostAsked) (code : CodedLog) (scale : Scale) (old new : List BookEntry) (budget left lo : ℕ) (best : Priced) (axioms : List Clause) → (come : HasHalved q code scale old new budget left lo best) →
    ((b : ℕ) → b ≤ MOST_COST → 0 < scale.inputs → PoseCostQuestion q (Some b) axioms (assumed_at code scale (Some b))) → EachFinal (NegatesCost q axioms) come.searching.since
negates_cost q code scale old new budget left lo best axioms come told clause hints in' =
    let found = come.finals clause hints in' in
    let low = found.1 in
    let least = needed q lo best come.needs come.given in
    let reached = come.reached in
    let few : found.0 ≤ MOST_COST = omega (arith, low, reached) in
    record { bound = Some found.0; few = few; assumed = assumed_at code scale (Some found.0); told = told found.0 few (come.counted (omega (arith, least, low))); negates = found.2 }

-- ---- one step

module _ (q : CostAsked) (code : CodedLog) (scale : Scale) where
  pub halved_none : (book : List BookEntry) (budget : ℕ) (known : Priced) → IsPriced q known → (0 < known.cost → 0 < scale.inputs) → HasHalved q code scale book book budget budget 0 known
  halved_none book budget known given counted = record {
    searching = searching_none book budget;
    finals = λ clause hints in'. absurd (none_in_nil (final clause hints) in');
    few = omega arith;
    last = λ b is. absurd (omega (arith, is));
    needs = λ word order explains. omega arith;
    reached = omega arith;
    given = given;
    counted = counted;
  }

  module _ (old mid new : List BookEntry) (budget before after lo : ℕ) (best : Priced) (come : HasHalved q code scale old mid budget before lo best) where
    -- learnt entries change nothing of what is refuted
    learnt_finals : (more : List BookEntry) → AreLearnt more → EachFinal (NegatesTotalBelow code scale lo) (come.searching.since ++ more)
    learnt_finals more learnt = each_both (NegatesTotalBelow code scale lo) come.searching.since more come.finals (each_none (NegatesTotalBelow code scale lo) more (learnt_no_final more learnt))

    learnt_last : (more : List BookEntry) → AreLearnt more → (b : ℕ) → lo ≡ suc b → HasLastFinal (come.searching.since ++ more) (assumed_at code scale (Some b))
    learnt_last more learnt b is = last_before come.searching.since more (assumed_at code scale (Some b)) (learnt_no_final more learnt) (come.last b is)

    pub halved_better : (bound : Option ℕ) (better : Priced) → HasAskedCost q code scale bound mid new before after (Explained better) → HasHalved q code scale old new budget after lo better
    halved_better bound better asked = record {
      searching = searching_further old mid new budget before after come.searching asked.searching;
      finals = learnt_finals asked.searching.since asked.means.learnt;
      few = no_more lo come.searching.since asked.searching.since come.few (learnt_no_final asked.searching.since asked.means.learnt);
      last = learnt_last asked.searching.since asked.means.learnt;
      needs = come.needs;
      reached = come.reached;
      given = asked.means.given;
      counted = asked.means.counted;
    }

    pub halved_refuted : (b : ℕ) → IsHalfway lo best.cost b → HasAskedCost q code scale (Some b) mid new before after Refuted → HasHalved q code scale old new budget after (b + 1) best
    halved_refuted b between asked = record {
      searching = searching_further old mid new budget before after come.searching asked.searching;
      finals = finals;
      few = (let all = counted_both is_final come.searching.since asked.searching.since in let one = closed_counted asked.searching.since asked.means.ends in let low = between.low in omega (arith, all, one, low, come.few));
      last = λ b' is. subst (λ k. HasLastFinal (come.searching.since ++ asked.searching.since) (assumed_at code scale (Some k))) (let same : b ≡ b' = omega (arith, is) in same) last;
      needs = subst (Needs q) (let next : suc b ≡ b + 1 = omega arith in next) asked.means.out;
      reached = (let few = between.few in omega (arith, few));
      given = come.given;
      counted = come.counted;
    }
      where
        finals : EachFinal (NegatesTotalBelow code scale (b + 1)) (come.searching.since ++ asked.searching.since)
        finals = each_both (NegatesTotalBelow code scale (b + 1)) come.searching.since asked.searching.since
            (λ clause hints in'. let found = come.finals clause hints in' in let low = between.low in (found.0, omega (arith, found.1, low), found.2))
            (λ clause hints in'. (b, omega arith, closed_each asked.searching.since (assumed_at code scale (Some b)) asked.means.ends asked.means.negates clause hints in'))

        last : HasLastFinal (come.searching.since ++ asked.searching.since) (assumed_at code scale (Some b))
        last = last_later come.searching.since asked.searching.since (assumed_at code scale (Some b)) (closed_last asked.searching.since (assumed_at code scale (Some b)) asked.means.ends asked.means.negates)

    -- where the budget is spent nothing is refuted
    pub halved_spent : (b : ℕ) → HasAskedCost q code scale (Some b) mid new before after Spent → HasHalved q code scale old new budget after lo best
    halved_spent b asked = record {
      searching = searching_further old mid new budget before after come.searching asked.searching;
      finals = learnt_finals asked.searching.since asked.means.learnt;
      few = no_more lo come.searching.since asked.searching.since come.few (learnt_no_final asked.searching.since asked.means.learnt);
      last = learnt_last asked.searching.since asked.means.learnt;
      needs = come.needs;
      reached = come.reached;
      given = come.given;
      counted = come.counted;
    }

  -- ---- where it ends

  module _ (old new : List BookEntry) (budget left lo : ℕ) (best : Priced) (come : HasHalved q code scale old new budget left lo best)
      (told : (b : ℕ) → b ≤ MOST_COST → 0 < scale.inputs → PoseCostQuestion q (Some b) (axioms_of new) (assumed_at code scale (Some b))) where
    evidence : (b : ℕ) → lo ≡ suc b → IsCostEvidence q (Some b) (axioms_of new) come.searching.since
    evidence b is =
        let least = needed q lo best come.needs come.given in
        let reached = come.reached in
        record { assumed = assumed_at code scale (Some b); refuted = come.last b is; told = told b (omega (arith, is, reached)) (come.counted (omega (arith, least, is))) }

    finals_negate : EachFinal (NegatesCost q (axioms_of new)) come.searching.since
    finals_negate = negates_cost q code scale old new budget left lo best (axioms_of new) come told

    pub halved_cheapest : min best.cost (1 + MOST_COST) ≤ lo → best.cost ≤ MOST_COST → HasFoundCost q budget old new (Found best)
    halved_cheapest end few = found_by q old new budget left come.searching (Found best) tt finals_negate (omega (arith, come.few, come.reached)) (ends_cheapest q (axioms_of new) come.searching.since lo best come.needs come.given end few evidence)

    pub halved_dear : min best.cost (1 + MOST_COST) ≤ lo → MOST_COST < best.cost → HasFoundCost q budget old new (Dear best.run)
    halved_dear end above = found_by q old new budget left come.searching (Dear best.run) tt finals_negate (omega (arith, come.few, come.reached)) (ends_dear q (axioms_of new) come.searching.since lo best come.needs come.given end come.reached above evidence)

    -- the literals of a final entry show which total it refutes
    finals_tell : IsValidBook new → HasValues scale.first (log_guards code) → PoseCostQuestion q None (axioms_of new) (assumed_at code scale None) → (b : ℕ) → HasFinal come.searching.since (assumed_at code scale (Some b)) → b < lo
    finals_tell valid guards unbounded b has = by (cases_lt b lo)
      where
        here : (j : ℕ) × (j < lo) × NegatesOnly (assumed_at code scale (Some j)) has.clause
        here = come.finals has.clause has.hints has.there

        there : Contains new (final has.clause has.hints)
        there = subst (λ xs. Contains xs (final has.clause has.hints)) (sym come.searching.whole) (Contains-append_right old come.searching.since (final has.clause has.hints) has.there)

        known : AllByRecursion (λ (l : Lit). l.var < scale.first) (log_guards code)
        known = recursion_from_All (λ (l : Lit). l.var < scale.first) (log_guards code) guards

        refutes : NegatesOnly (log_guards code) has.clause → ⊥
        refutes negates =
            told_is_refuted (ExplainsAt q.net q.cost q.log q.steps None) (axioms_of new) (assumed_at code scale None) has.clause unbounded.tells (final_entailed new has.clause has.hints valid there)
            (subst (λ xs. NegatesOnly xs has.clause) (sym (append-nil (log_guards code))) negates) (word_of best.run) (order_of q.log best.run) come.given.explains

        same : NegatesLast (negative (place_variable scale (scale.inputs - 1) here.0)) has.clause → here.0 ≡ b
        same found = one (Contains-append_cases (log_guards code) (negative (place_variable scale (scale.inputs - 1) b) ∷ []) (negative (place_variable scale (scale.inputs - 1) here.0)) (subst (Contains (assumed_at code scale (Some b))) found.is (all_at (λ l. Contains (assumed_at code scale (Some b)) (negation l)) has.clause has.negates found.l found.there)))
          where
            last : (negative (place_variable scale (scale.inputs - 1) b) ≡ negative (place_variable scale (scale.inputs - 1) here.0)) ⊎ Contains [] (negative (place_variable scale (scale.inputs - 1) here.0)) → here.0 ≡ b
            last (inl is) = sym (same_amount scale (scale.inputs - 1) b here.0 is)
            last (inr none) = absurd (none_in_nil (negative (place_variable scale (scale.inputs - 1) here.0)) none)

            one : Contains (log_guards code) (negative (place_variable scale (scale.inputs - 1) here.0)) ⊎ Contains (negative (place_variable scale (scale.inputs - 1) b) ∷ []) (negative (place_variable scale (scale.inputs - 1) here.0)) → here.0 ≡ b
            one (inl guard) = let low = all_at (λ (l : Lit). l.var < scale.first) (log_guards code) known (negative (place_variable scale (scale.inputs - 1) here.0)) guard in absurd (omega (arith, low))
            one (inr bound) = last (cons_cases (negative (place_variable scale (scale.inputs - 1) b)) [] (negative (place_variable scale (scale.inputs - 1) here.0)) bound)

        is_b : NegatesOnly (log_guards code) has.clause ⊎ NegatesLast (negative (place_variable scale (scale.inputs - 1) here.0)) has.clause → here.0 ≡ b
        is_b (inl guard) = absurd (refutes guard)
        is_b (inr found) = same found

        by : (b < lo) ⊎ (lo ≤ b) → b < lo
        by (inl less) = less
        by (inr more) = let equal = is_b (split_negates (log_guards code) (negative (place_variable scale (scale.inputs - 1) here.0)) has.clause here.2) in let low = here.1 in omega (arith, equal, low)

    pub halved_undecided : IsValidBook new → HasValues scale.first (log_guards code) → PoseCostQuestion q None (axioms_of new) (assumed_at code scale None) → lo < min best.cost (1 + MOST_COST) → left ≡ 0 → (b : ℕ) → IsHalfway lo best.cost b →
        Clashes (clauses_of new) (assumed_at code scale (Some b)) → HasFoundCost q budget old new (Undecided lo (Some best))
    halved_undecided valid guards unbounded less nothing b between clashes =
        let some = come.counted (omega (arith, less)) in
        found_by q old new budget left come.searching (Undecided lo (Some best)) (b, between, record { assumed = assumed_at code scale (Some b); told = told b between.few some; clashes = clashes }) finals_negate (omega (arith, come.few, come.reached)) (record {
          spent = (let paid = come.searching.paid in omega (arith, paid, nothing));
          needs = come.needs;
          evidence = evidence;
          given = record {
            given = come.given;
            above = omega (arith, less);
            greatest = record {
              code = code;
              scale = scale;
              told = λ k few. told k few some;
              finals = λ k few has. finals_tell valid guards unbounded k has;
              last = come.last;
            };
          };
          unknown = tt;
        })

-- ---- without an answer

-- the totals that were refuted so far, where nothing more is
pub halved_quits : (q : CostAsked) (code : CodedLog) (scale : Scale) (first old new : List BookEntry) (budget left lo : ℕ) (best : Priced) → HasHalved q code scale first old budget left lo best → PutsNoFinal old new →
    ((b : ℕ) → b ≤ MOST_COST → 0 < scale.inputs → PoseCostQuestion q (Some b) (axioms_of new) (assumed_at code scale (Some b))) → HasRefusedCosts q first new
halved_quits q code scale first old new budget left lo best come quit told = finals_before (NegatesCost q (axioms_of new)) (1 + MOST_COST) first old new (record {
  since = come.searching.since;
  whole = come.searching.whole;
  finals = negates_cost q code scale first old budget left lo best (axioms_of new) come told;
  few = (let few = come.few in let reached = come.reached in omega (arith, few, reached));
}) quit
