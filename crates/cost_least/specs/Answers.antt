-- What is found of the least total of an explanation, and what each answer means.
use Rattle.std.specs.Prelude.{◌≡◌, ℕ, suc, ◌+◌, ◌-◌, ◌*◌, ◌<◌, ◌≤◌, ⊤, false, List, Option, Some, None, IfSome, IfNone, count_by, min}
use Rattle.std.specs.List.{list_any}
use Rattle.des_net.specs.Network.{Net}
use Rattle.event_costs.specs.declared.TheConstants.{MOST_COST}
use Rattle.sat_solve.specs.Leaving.{HasFinal, HasLastFinal, LeavesOpen, LeavesClosed}
use Rattle.least_faults.specs.Evidence.{is_final}
use Rattle.log_encode.specs.CodedLog.{CodedLog}
use Rattle.log_order.specs.Log.{Log}
use Rattle.proof_ledger.specs.Book.{BookEntry, axioms_of, clauses_of}
use Rattle.proof_ledger.specs.Fresh.{is_learnt}
use Rattle.prop_core.specs.Clauses.{Clause, NegatesOnly}
use Rattle.prop_core.specs.Trail.{Clashes}
use Rattle.prop_core.specs.declared.lit.Lit.{Lit}
use Rattle.replay.specs.Explanation.{Explains, IsAbsent}
use Rattle.replay.specs.Matching.{IsWellMatched, order_of}
use Rattle.replay.specs.Traced.{word_of}
use Rattle.replay.specs.declared.run.RunStep.{RunStep}
use Rattle.weight_counter.specs.declared.scale.Scale.{Scale}
use Rattle.cost_least.specs.Costs.{total, NeedsCost, IsCheapest, IsDear}
use Rattle.cost_least.specs.Pricing.{PosesCosts}
use Rattle.cost_least.specs.Weighed.{assumed_at}
use Rattle.answers.specs.declared.cheap.Priced.{Priced}
use Rattle.answers.specs.declared.cheap.Cheap.{Cheap}
use Rattle.answers.specs.declared.cheap.Cheap.TheVariants.{Found, Absent, Dear, Undecided}

-- what is asked about: a network, what its fault events cost, a log, and a number of steps
pub record CostAsked : Type 0 where
  pub net : Net
  pub cost : ℕ → ℕ
  pub log : Log
  pub steps : ℕ

-- clauses and assumptions tell what explains the log with a total of at most the bound, and are drawn from the families of this question
abbrev pub PoseCostQuestion : CostAsked → Option ℕ → List Clause → List Lit → Type 0
PoseCostQuestion q bound clauses assumed = PosesCosts q.net q.cost q.log q.steps bound clauses assumed

-- each explanation has a total of at least c
abbrev pub Needs : CostAsked → ℕ → Type 0
Needs q c = NeedsCost q.net q.cost q.log q.steps c

-- a run that is well matched and explains the log, with this total
pub record IsRunAt (q : CostAsked) (run : List RunStep) (c : ℕ) : Type 0 where
  pub matched : IsWellMatched q.net q.log run
  pub explains : Explains q.net q.log q.steps (word_of run) (order_of q.log run)
  pub total_is : total q.net q.cost (word_of run) (order_of q.log run) ≡ c

-- so does the run of an answer, with its total
abbrev pub IsPriced : CostAsked → Priced → Type 0
IsPriced q priced = IsRunAt q priced.run priced.cost

-- The last of these final entries refutes that something explains the log within the bound, which the axioms tell.
pub record IsCostEvidence (q : CostAsked) (bound : Option ℕ) (axioms : List Clause) (since : List BookEntry) : Type 0 where
  pub assumed : List Lit
  pub refuted : HasLastFinal since assumed
  pub told : PoseCostQuestion q bound axioms assumed

-- the clause has no literals but negations of what is assumed for a total of at most 1,000, or without one, with which the axioms tell what explains within it
pub record NegatesCost (q : CostAsked) (axioms : List Clause) (clause : Clause) : Type 0 where
  pub bound : Option ℕ
  pub few : IfSome bound (λ b. b ≤ MOST_COST)
  pub assumed : List Lit
  pub told : PoseCostQuestion q bound axioms assumed
  pub negates : NegatesOnly assumed clause

-- ---- the answers, with what the entries since the question was opened show, over these axioms

-- no explanation has a lower total, which the book shows
pub record IsCheapestFound (q : CostAsked) (axioms : List Clause) (since : List BookEntry) (priced : Priced) : Type 0 where
  pub given : IsPriced q priced
  pub few : priced.cost ≤ MOST_COST
  pub cheapest : IsCheapest q.net q.cost q.log q.steps priced.cost
  pub evidence : (b : ℕ) → priced.cost ≡ suc b → IsCostEvidence q (Some b) axioms since

-- nothing explains the log
pub record IsNoneFound (q : CostAsked) (axioms : List Clause) (since : List BookEntry) : Type 0 where
  pub absent : IsAbsent q.net q.log q.steps
  pub evidence : IsCostEvidence q None axioms since

-- all that explains the log has a total above 1,000; the run is one that does
pub record IsDearFound (q : CostAsked) (axioms : List Clause) (since : List BookEntry) (run : List RunStep) : Type 0 where
  pub total : ℕ
  pub given : IsRunAt q run total
  pub above : MOST_COST < total
  pub dear : IsDear q.net q.cost q.log q.steps
  pub evidence : IsCostEvidence q (Some MOST_COST) axioms since

-- With what is assumed for a total, by the guards of one log and the bounds of one scale, the axioms tell what explains within it. Each total that a final entry refutes, by what is assumed for it, is below lo, and the last of these entries so refutes the one just below lo.
pub record IsAboveFinals (q : CostAsked) (axioms : List Clause) (since : List BookEntry) (lo : ℕ) : Type 0 where
  pub code : CodedLog
  pub scale : Scale
  pub told : (b : ℕ) → b ≤ MOST_COST → PoseCostQuestion q (Some b) axioms (assumed_at code scale (Some b))
  pub finals : (b : ℕ) → b ≤ MOST_COST → HasFinal since (assumed_at code scale (Some b)) → b < lo
  pub last : (b : ℕ) → lo ≡ suc b → HasLastFinal since (assumed_at code scale (Some b))

-- Where a run is known, its total is above lo, which is one more than the greatest total that is refuted, or 0.
pub record IsKnownAbove (q : CostAsked) (axioms : List Clause) (since : List BookEntry) (lo : ℕ) (priced : Priced) : Type 0 where
  pub given : IsPriced q priced
  pub above : lo < priced.cost
  pub greatest : IsAboveFinals q axioms since lo

-- The budget was spent on learnt entries. All explanations have a total of at least lo, which the book shows. Where no run is known, lo is 0 and nothing is refuted.
pub record IsUndecidedCost (q : CostAsked) (axioms : List Clause) (since : List BookEntry) (budget lo : ℕ) (best : Option Priced) : Type 0 where
  pub spent : count_by is_learnt since ≡ budget
  pub needs : Needs q lo
  pub evidence : (b : ℕ) → lo ≡ suc b → IsCostEvidence q (Some b) axioms since
  pub given : IfSome best (IsKnownAbove q axioms since lo)
  pub unknown : IfNone best ((lo ≡ 0) × (list_any is_final since ≡ false))

-- what it means that this was found
abbrev pub IsCheapFound : CostAsked → List Clause → List BookEntry → ℕ → Cheap → Type 0
IsCheapFound q axioms since budget (Found priced) = IsCheapestFound q axioms since priced
IsCheapFound q axioms since budget Absent = IsNoneFound q axioms since
IsCheapFound q axioms since budget (Dear run) = IsDearFound q axioms since run
IsCheapFound q axioms since budget (Undecided lo best) = IsUndecidedCost q axioms since budget lo best

-- ---- what the budget was spent on

-- The axioms of the book tell what explains within the bound, with some assumptions for which there is a further conflict.
pub record HasCostConflict (q : CostAsked) (bound : Option ℕ) (book : List BookEntry) : Type 0 where
  pub assumed : List Lit
  pub told : PoseCostQuestion q bound (axioms_of book) assumed
  pub clashes : Clashes (clauses_of book) assumed

-- the total halfway between lo and the lesser of 1,000 and what is just below a known one
pub record IsHalfway (lo hi b : ℕ) : Type 0 where
  pub low : lo ≤ b
  pub high : b < hi
  pub few : b ≤ MOST_COST
  pub lower : 2 * b ≤ lo + (min hi (1 + MOST_COST) - 1)
  pub upper : lo + (min hi (1 + MOST_COST) - 1) ≤ 2 * b + 1

-- If it is undecided, that is at a further conflict: of the question without a bound where no run is known, else within the total halfway between what is refuted and what is known.
abbrev pub HasConflictAt : CostAsked → List BookEntry → ℕ → Option Priced → Type 0
HasConflictAt q book lo None = HasCostConflict q None book
HasConflictAt q book lo (Some priced) = (b : ℕ) × IsHalfway lo priced.cost b × HasCostConflict q (Some b) book

-- the same for an answer; of one that decides there is nothing to say
abbrev pub HasConflictOf : CostAsked → List BookEntry → Cheap → Type 0
HasConflictOf q book (Found priced) = ⊤
HasConflictOf q book Absent = ⊤
HasConflictOf q book (Dear run) = ⊤
HasConflictOf q book (Undecided lo best) = HasConflictAt q book lo best

-- The question was opened by a mark 0 and closed by a mark 1, and the entries between show what was found. At most as many clauses as the budget says were learnt, each of them fresh, and each final one has no literals but negations of what is assumed for some total, or without one, and there is at most one for each total up to 1,000.
pub record IsCostAnswered (q : CostAsked) (budget : ℕ) (old new : List BookEntry) (answer : Cheap) : Type 0 where
  pub left : LeavesClosed (NegatesCost q (axioms_of new)) (1 + MOST_COST) budget old new
  pub found : IsCheapFound q (axioms_of new) left.since budget answer
  pub conflict : HasConflictOf q new answer

-- ---- without an answer

-- The question was opened by a mark 0 and has no answer: no mark stands behind that one. At most as many clauses as the budget says were learnt, each of them fresh. Each final one negates what is assumed for some total, or without one, and there is at most one for each total.
abbrev pub IsCostLeftOpen : CostAsked → (budget : ℕ) → (old new : List BookEntry) → Type 0
IsCostLeftOpen q budget old new = LeavesOpen (NegatesCost q (axioms_of new)) (1 + MOST_COST) budget old new
