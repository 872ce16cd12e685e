-- What `cheapest` may say.
use Rattle.std.specs.Prelude.{◌≡◌, ℕ, List, IfSome}
use Rattle.answers.specs.declared.cheap.Cheap.{Cheap}
use Rattle.answers.specs.declared.cheap.Cheap.TheVariants.{Found, Absent as NotPriced, Dear, Undecided as NotWeighed}
use Rattle.des_net.specs.Network.{Net}
use Rattle.pricing.specs.LeastCost.{IsPricedBy}
use Rattle.log_order.specs.Log.{Log as AlarmLog}
use Rattle.proof_ledger.specs.Book.{BookEntry}
use Rattle.report.specs.ReadBack.{IsRunText}
use Rattle.report.specs.Replies.{cheap_run, text_of_cheap, text_of_run}
use Rattle.endings.specs.declared.ending.Kind.{Kind}
use Rattle.endings.specs.declared.ending.Kind.TheVariants.{Done, Absent, Undecided, Many}

-- a least total is the yes of `cheapest`; where all totals are above 1,000 there are too many costs
abbrev pub kind_of_cheap : Cheap → Kind
kind_of_cheap (Found priced) = Done
kind_of_cheap NotPriced = Absent
kind_of_cheap (Dear run) = Many
kind_of_cheap (NotWeighed lo best) = Undecided

-- the reply to a question of costs within n steps, by what was found
abbrev pub reply_of_cheap : Net → ℕ → Cheap → Kind × List ℕ
reply_of_cheap net n answer = (kind_of_cheap answer, text_of_cheap net n answer)

-- the text of the run that is printed, if one is, reads back as that run
abbrev pub CheapRunReadsBack : Net → Cheap → Type 0
CheapRunReadsBack net answer = IfSome (cheap_run answer) (λ run. IsRunText net run (text_of_run net run))

-- The reply tells what was found of the least total with these costs, and the book that is left shows it.
pub record SaysCheap (net : Net) (cost : ℕ → ℕ) (alarms : AlarmLog) (n budget : ℕ) (book : List BookEntry) (reply : Kind × List ℕ) : Type 0 where
  pub answer : Cheap
  pub priced : IsPricedBy net cost alarms n budget book answer
  pub again : CheapRunReadsBack net answer
  pub is : reply ≡ reply_of_cheap net n answer
