-- How what a search keeps stands to its assumptions and its book.
use Rattle.std.specs.Prelude.{◌≡◌, ℕ, ◌+◌, ◌-◌, ◌*◌, ◌<◌, ◌≤◌, ◌⊎◌, Bool, true, false, List, [], ◌∷◌, ◌++◌, map, filter, take, length, max, replicate, Option, None, is_none, if◌then◌else◌, Contains}
use Rattle.std.specs.List.{list_all, AllByRecursion, prefix_len, zip}
use Rattle.des_base.specs.declared.TheConstants.{VAR_LIMIT}
use Rattle.prop_core.specs.declared.lit.Lit.{Lit}
use Rattle.prop_core.specs.Clauses.{Clause, is_true, is_open, value_in, HasValues, AreConsistent}
use Rattle.proof_ledger.specs.Book.{BookEntry, learnt, clauses_of}
use Rattle.proof_ledger.specs.Fresh.{IsFreshClause}
use Rattle.sat_order.specs.Rank.{OrderState, KeepsRanks}
use Rattle.sat_order.specs.Waiting.{waits}
use Rattle.sat_prop.specs.TrailState.{TrailState, literal_at, reason_at}
use Rattle.sat_prop.specs.Levels.{level_of}
use Rattle.sat_prop.specs.Quiet.{AreQuiet}
use Rattle.sat_learn.specs.Seen.{is_known_var}
use Rattle.sat_solve.specs.Restarts.{Means, is_due}
pub use Rattle.sat_solve.specs.Widening.{widened, KeepsValues}
use Rattle.sat_solve.specs.declared.answer.Answer.{Answer}
use Rattle.sat_solve.specs.declared.search.Search.{Search}
use Rattle.sat_solve.specs.declared.answer.Answer.TheVariants.{Sat, Unsat, Spent}
use Rattle.sat_solve.specs.Searching.{HasAxiomVars, HasLearnt, HasPut, IsRefuted, IsSpent}

-- The order of the variables, the clauses that were adopted, the values of the last model, the number of variables, and for
-- how many more clauses there is room.
pub record SolverState (R : Type 0) : Type 0 where
  pub order : OrderState R
  pub adopted : List Clause
  pub assignment : List Bool
  pub vars : ℕ
  pub spare : ℕ

-- The variables are as many as before and have the same ranks, and the room for clauses is as before.
pub record KeepsSize {R : Type 0} (old new : SolverState R) : Type 0 where
  pub order : KeepsRanks old.order new.order
  pub vars : new.vars ≡ old.vars
  pub spare : new.spare ≡ old.spare

-- the variables below a number that are added wait, and have the value false
pub record AddsVariables {R : Type 0} (old new : SolverState R) (vars : ℕ) : Type 0 where
  pub waiting : new.order.waiting ≡ old.order.waiting ++ replicate (vars - length old.order.waiting) true
  pub assignment : new.assignment ≡ widened old.assignment vars

-- `asked` variables and room for `more` clauses were reserved: there are no fewer of either than before.
pub record HasReserved {R : Type 0} (old new : SolverState R) (asked more : ℕ) : Type 0 where
  pub vars : new.vars ≡ max old.vars asked
  pub spare : new.spare ≡ max old.spare more
  pub added : AddsVariables old new asked

-- nothing was reserved: all is as before, but that there may be values of further variables, all false
pub record IsUnreserved {R : Type 0} (old new : SolverState R) (asked : ℕ) : Type 0 where
  pub same : new ≡ record old { assignment = new.assignment }
  pub values : KeepsValues old.assignment new.assignment asked

-- each clause is attached
abbrev pub AllJoined : List Clause → List ℕ → Type 0
AllJoined clauses attached = (n : ℕ) → n < length clauses → Contains attached (n + 1)

-- all clauses of a database are attached, and the trail is as before
pub record HasAttached (old new : TrailState) (all : List Clause) : Type 0 where
  pub clauses : new.clauses ≡ all
  pub joined : AllJoined all new.attached
  pub literals : new.literals ≡ old.literals
  pub reasons : new.reasons ≡ old.reasons
  pub vars : new.vars ≡ old.vars
  pub spare : new.spare + length all ≡ old.spare + length old.clauses

-- the first `count` assumptions are true
abbrev pub AreTaken : List Lit → List Lit → ℕ → Type 0
AreTaken literals assumed count = list_all (is_true literals) (take count assumed) ≡ true

-- a decision that is no assumption stands where all assumptions are true
abbrev pub AssumedFirst : List Lit → List Lit → List (Option ℕ) → Type 0
AssumedFirst assumed literals reasons = (place : ℕ) → place < length literals → reason_at reasons place ≡ None → (is_true assumed (literal_at literals place) ≡ true) ⊎ (list_all (is_true (take place literals)) assumed ≡ true)

-- a trail that serves searches over some variables: all clauses are attached, and there is room for more
pub record IsServing (vars spare : ℕ) (t : TrailState) : Type 0 where
  pub joined : AllJoined t.clauses t.attached
  pub below : AllByRecursion (HasValues vars) t.clauses
  pub literals_below : HasValues vars t.literals
  pub enough : vars ≤ t.vars
  pub room : spare ≤ t.spare

-- it stands in a search under assumptions, which are compatible and of known variables
pub record IsUnder (assumed : List Lit) (vars : ℕ) (t : TrailState) : Type 0 where
  pub first : AssumedFirst assumed t.literals t.reasons
  pub below : HasValues vars assumed
  pub compatible : AreConsistent assumed

-- each open variable waits
abbrev pub AreWaiting : List Bool → List Lit → ℕ → Type 0
AreWaiting waiting literals vars = (var : ℕ) → var < vars → is_open literals (record { var = var; positive = false }) ≡ true → waits waiting var ≡ true

-- The trail serves, each open variable waits, and the order has exactly these variables.
pub record AreSound (waiting : List Bool) (vars spare : ℕ) (t : TrailState) : Type 0 where
  pub serving : IsServing vars spare t
  pub waiting_open : AreWaiting waiting t.literals vars
  pub variables : length waiting ≡ vars
  pub limit : vars ≤ VAR_LIMIT

-- a search is sound, whether it is under way or not
abbrev pub IsSound : {R : Type 0} → Search R → Type 0
IsSound s = AreSound s.order.waiting s.vars s.spare s.propagator

-- they are sound, and the trail's clauses are those of the book
pub record AreOver (waiting : List Bool) (vars spare : ℕ) (t : TrailState) (book : List BookEntry) : Type 0 where
  pub sound : AreSound waiting vars spare t
  pub clauses : t.clauses ≡ clauses_of book

-- a search is sound over a book
abbrev pub IsOver : {R : Type 0} → Search R → List BookEntry → Type 0
IsOver s book = AreOver s.order.waiting s.vars s.spare s.propagator book

-- they stand under assumptions, of which the first `taken` are true
pub record AreUnderWay (assumed : List Lit) (taken : ℕ) (waiting : List Bool) (vars spare : ℕ) (t : TrailState) (book : List BookEntry) : Type 0 where
  pub over : AreOver waiting vars spare t book
  pub under : IsUnder assumed vars t
  pub taken_first : AreTaken t.literals assumed taken

-- a search is under way over a book, under its assumptions
abbrev pub IsUnderWay : {R : Type 0} → List Lit → Search R → List BookEntry → Type 0
IsUnderWay assumed s book = AreUnderWay assumed s.taken s.order.waiting s.vars s.spare s.propagator book

-- the variables are as many as before and have the same ranks, and the room that is kept is as before
pub record KeepsVariables {R : Type 0} (old new : Search R) : Type 0 where
  pub order : KeepsRanks old.order new.order
  pub vars : new.vars ≡ old.vars
  pub spare : new.spare ≡ old.spare
  pub known : new.propagator.vars ≡ old.propagator.vars

-- one literal more stands on the trail, and there is room for it
pub record IsLonger (old new : TrailState) : Type 0 where
  pub longer : length new.literals ≡ length old.literals + 1
  pub within : length new.literals ≤ new.vars

-- How much a search has left to do at most: it falls where a clause is learnt, whatever goes from the trail, and where the trail
-- grows.
abbrev pub to_do : ℕ → TrailState → ℕ
to_do budget t = budget * (t.vars + 1) + (t.vars - length t.literals)

-- they are sound at level 0, and there is a value of the last model for each variable
pub record AreAtRest (waiting : List Bool) (t : TrailState) (values : List Bool) (vars spare : ℕ) : Type 0 where
  pub level : level_of t.reasons ≡ 0
  pub serving : IsServing vars spare t
  pub limit : vars ≤ VAR_LIMIT
  pub variables : length waiting ≡ vars
  pub waiting_open : AreWaiting waiting t.literals vars
  pub values_kept : vars ≤ length values

-- between two searches
abbrev pub IsAtRest : {R : Type 0} → Search R → List Bool → Type 0
IsAtRest s values = AreAtRest s.order.waiting s.propagator values s.vars s.spare

-- what waited still waits
abbrev pub KeepsWaiting : List Bool → List Bool → Type 0
KeepsWaiting old new = (var : ℕ) → waits old var ≡ true → waits new var ≡ true

-- the values of the variables below a number are those of the trail
abbrev pub AreTrailValues : List Bool → List Lit → ℕ → Type 0
AreTrailValues values literals vars = (var : ℕ) → var < vars → value_in values var ≡ is_true literals (record { var = var; positive = true })

-- no variable below a number is open
abbrev pub AreClosed : List Lit → ℕ → Type 0
AreClosed literals vars = (var : ℕ) → var < vars → is_open literals (record { var = var; positive = false }) ≡ false

-- a variable was taken that is open, and each other open one still waits
pub record IsPicked (literals : List Lit) (old new : List Bool) (var : ℕ) : Type 0 where
  pub known : var < length old
  pub undecided : is_open literals (record { var = var; positive = false }) ≡ true
  pub others : (other : ℕ) → other < length old → (other ≡ var → ⊥) → is_open literals (record { var = other; positive = false }) ≡ true → waits new other ≡ true

-- no variable is open, all assumptions are true, and propagation has nothing to do
pub record IsComplete (assumed : List Lit) (vars : ℕ) (t : TrailState) : Type 0 where
  pub quiet : AreQuiet t.clauses t.attached t.literals
  pub assumptions : list_all (is_true t.literals) assumed ≡ true
  pub closed : AreClosed t.literals vars

-- an assumption that is not true
pub record IsAssumptionLeft (taken assumed : List Lit) (l : Lit) : Type 0 where
  pub among : is_true assumed l ≡ true
  pub not_yet : is_true taken l ≡ false

-- a decision that is no assumption
pub record IsFurther (t : TrailState) (assumed : List Lit) (place : ℕ) : Type 0 where
  pub within : place < length t.literals
  pub decided : reason_at t.reasons place ≡ None
  pub further : is_true assumed (literal_at t.literals place) ≡ false

-- each decision of the first `count` places is an assumption
abbrev pub HasAssumedDecisions : TrailState → List Lit → ℕ → Type 0
HasAssumedDecisions t assumed count = (place : ℕ) → place < count → reason_at t.reasons place ≡ None → is_true assumed (literal_at t.literals place) ≡ true

-- the literals that were decided, in their order
abbrev pub decisions : List Lit → List (Option ℕ) → List Lit
decisions literals reasons = map (λ (p : Lit × Option ℕ). p.0) (filter (λ (p : Lit × Option ℕ). is_none p.1) (zip literals reasons))

-- The level of the assumptions: how many decisions, from the first on, are assumptions before one that is none.
abbrev pub assumed_level_of : TrailState → List Lit → ℕ
assumed_level_of t assumed = prefix_len (is_true assumed) (decisions t.literals t.reasons)

-- the level that a search goes on from after a conflict: the present one, or that of the assumptions if it restarts
abbrev pub next_level_of : Means → TrailState → List Lit → ℕ
next_level_of means t assumed = if is_due means then assumed_level_of t assumed else level_of t.reasons

-- one learnt entry is put, and the budget is lowered by one
pub record LearnsOne (old new : List BookEntry) (budget_old budget_new : ℕ) : Type 0 where
  pub clause : Clause
  pub hints : List ℕ
  pub put : new ≡ old ++ learnt clause hints ∷ []
  pub paid : budget_new + 1 ≡ budget_old
  pub fresh : HasAxiomVars old → IsFreshClause old clause
  pub known : list_all (λ l. is_known_var (clauses_of old) l.var) clause ≡ true

-- what a search has found, by the trail as it stands then
abbrev pub IsAnswerByTrail : List Lit → ℕ → TrailState → List BookEntry → ℕ → Answer → Type 0
IsAnswerByTrail assumed vars t book budget Sat = IsComplete assumed vars t
IsAnswerByTrail assumed vars t book budget (Unsat number) = IsRefuted book assumed number
IsAnswerByTrail assumed vars t book budget Spent = IsSpent book assumed budget

-- a final clause was put that is not attached yet
pub record IsUnattached (spare : ℕ) (t : TrailState) (book : List BookEntry) (number : ℕ) : Type 0 where
  pub clause : Clause
  pub clauses : clauses_of book ≡ t.clauses ++ clause ∷ []
  pub numbered : number ≡ length (clauses_of book)
  pub known : list_all (λ l. is_known_var t.clauses l.var) clause ≡ true
  pub room : spare + 1 ≤ t.spare

-- what is left to be done after an answer: a final clause has to be attached, and else the trail has all clauses of the book
abbrev pub IsUnfinished : ℕ → TrailState → List BookEntry → Answer → Type 0
IsUnfinished spare t book Sat = t.clauses ≡ clauses_of book
IsUnfinished spare t book (Unsat number) = IsUnattached spare t book number
IsUnfinished spare t book Spent = t.clauses ≡ clauses_of book

-- a search goes on after it put learnt entries alone
pub record GoesOn {R : Type 0} (assumed : List Lit) (s : Search R) (old new : List BookEntry) : Type 0 where
  pub under_way : IsUnderWay assumed s new
  pub learnt : HasLearnt old new

-- it goes on after a decision
pub record HasDecided {R : Type 0} (assumed : List Lit) (old new : Search R) (before after : List BookEntry) : Type 0 where
  pub goes_on : GoesOn assumed new before after
  pub longer : IsLonger old.propagator new.propagator

-- a search has ended with an answer
pub record IsEnded {R : Type 0} (assumed : List Lit) (s : Search R) (old new : List BookEntry) (budget : ℕ) (answer : Answer) : Type 0 where
  pub sound : IsSound s
  pub put : HasPut old new answer
  pub found : IsAnswerByTrail assumed s.vars s.propagator new budget answer
  pub unfinished : IsUnfinished s.spare s.propagator new answer
