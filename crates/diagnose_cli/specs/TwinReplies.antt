-- What `twin` may say, and what it leaves in the book.
use Rattle.std.specs.Prelude.{◌≡◌, ◌<◌, ◌≤◌, ⊤, ℕ, List, [], length, IsSomeAnd, MatchOption}
use Rattle.des_base.specs.declared.TheConstants.{MOST_STEPS}
use Rattle.des_net.specs.Network.{Net}
use Rattle.event_costs.specs.CostText.{fault_event_of}
use Rattle.proof_ledger.specs.Book.{BookEntry}
use Rattle.report.specs.Replies.{text_of_twin, text_of_run}
use Rattle.report.specs.ReadBack.{IsRunText}
use Rattle.twin_test.specs.Tested.{IsTested, LeavesTwins}
use Rattle.answers.specs.declared.twin.Twin.{Twin as TwinAnswer}
use Rattle.answers.specs.declared.twin.Twin.TheVariants.{Ambiguous as AlikeRuns, Clear, Undecided as NotTested}
use Rattle.endings.specs.declared.ending.Kind.{Kind}
use Rattle.endings.specs.declared.ending.Kind.TheVariants.{Done, Undecided, Ambiguous}

-- an event of the network, and not too many steps, before the fault and after it
pub record MayTest (net : Net) (fault n d : ℕ) : Type 0 where
  pub known : fault < length net.events
  pub steps : n ≤ MOST_STEPS
  pub after : d ≤ MOST_STEPS

-- two runs that look alike have a kind of their own; that there are none is the yes of `twin`
abbrev pub kind_of_twin : TwinAnswer → Kind
kind_of_twin (AlikeRuns faulty healthy) = Ambiguous
kind_of_twin Clear = Done
kind_of_twin NotTested = Undecided

-- the reply to a twin question within n steps, by what it came to
abbrev pub reply_of_twin : Net → ℕ → TwinAnswer → Kind × List ℕ
reply_of_twin net n answer = (kind_of_twin answer, text_of_twin net n answer)

-- the text of each of the two runs reads back as that run
abbrev pub TwinRunsReadBack : Net → TwinAnswer → Type 0
TwinRunsReadBack net (AlikeRuns faulty healthy) = IsRunText net faulty (text_of_run net faulty) × IsRunText net healthy (text_of_run net healthy)
TwinRunsReadBack net Clear = ⊤
TwinRunsReadBack net NotTested = ⊤

-- The reply tells what the twin test came to, and the book that is left shows it.
pub record SaysTwin (net : Net) (fault n d budget : ℕ) (book : List BookEntry) (reply : Kind × List ℕ) : Type 0 where
  pub answer : TwinAnswer
  pub tested : IsTested net fault n d budget book answer
  pub again : TwinRunsReadBack net answer
  pub is : reply ≡ reply_of_twin net n answer

-- so it is of the fault event that the word names
abbrev pub SaysOfWord : Net → List ℕ → (n d budget : ℕ) → List BookEntry → (Kind × List ℕ) → Type 0
SaysOfWord net word n d budget book reply = IsSomeAnd (fault_event_of net word) (λ fault. SaysTwin net fault n d budget book reply)

-- the book is empty, or that of an answer about that event
abbrev pub LeavesOfWord : Net → List ℕ → (n d budget : ℕ) → List BookEntry → Type 0
LeavesOfWord net word n d budget book = MatchOption (fault_event_of net word) (book ≡ []) (λ fault. LeavesTwins net fault n d budget book)
