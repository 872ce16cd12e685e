-- How a session goes: it tells of its rows one after another, each with the reply that it has.
use Rattle.std.specs.Prelude.{◌≡◌, ◌≤◌, ⊤, ℕ, List, Option, Result, IsOkAnd}
use Rattle.std.specs.Option.{option_to_list}
use Rattle.alarm_session.specs.Rows.{IsRowTold}
use Rattle.alarm_session.specs.Session.{SessionState, Stage}
use Rattle.alarm_session.specs.declared.rows.RowTold.{RowTold}
use Rattle.alarm_session.specs.declared.rows.RowTold.TheVariants.{Made, Refused, Answered}
use Rattle.des_base.specs.declared.TheConstants.{MOST_STEPS}
use Rattle.des_net.specs.Network.{Net}
use Rattle.log_csv.specs.declared.row.Row.{Row}
use Rattle.proof_ledger.specs.Book.{BookEntry}
use Rattle.report.specs.Replies.{EventsKnown}
use Rattle.sat_order.specs.Rank.{IsRanked}
use Rattle.telling.specs.declared.each.Broken.{Broken}
use Rattle.diagnose_cli.specs.declared.session_rows.Plan.{Plan}
use Rattle.diagnose_cli.specs.SessionReplies.{IsSession, IsUntold, TellsReplaying, replies_to}
use Rattle.endings.specs.declared.ending.Kind.TheVariants.{Done}
use Rattle.endings.specs.Transcripts.{Ending}
use Rattle.diagnose_cli.specs.Outcomes.{status_of_telling}

-- ---- one row

-- the events of a run that a row told are the network's
abbrev pub TellsKnown : Net → RowTold → Type 0
TellsKnown net Made = ⊤
TellsKnown net (Refused refusal) = ⊤
TellsKnown net (Answered found) = EventsKnown net found

-- The row was carried out, and what it told replays.
pub record IsCarriedOut (net : Net) (n budget : ℕ) (old : Stage) (row : Row) (new : Stage) (told : RowTold) : Type 0 where
  pub holds : IsRowTold net n budget old row new told
  pub replays : TellsReplaying net old.log n told

-- From one moment to another of what has a plan and a stage: the row was carried out, and this is its reply, where it has one. The plan stays.
pub record RowTells {S : Type 0} (plan : S → Plan) (stage : S → Stage) (s : S) (row : Row) (t : S) (text : Option (List ℕ)) : Type 0 where
  pub same : plan t ≡ plan s
  pub told : RowTold
  pub carried : IsCarriedOut (plan s).net (plan s).limits.steps (plan s).limits.budget (stage s) row (stage t) told
  pub is : replies_to (plan s).net (plan s).limits.steps told ≡ option_to_list text

-- the same where it ran out of memory: the reply isn't told, or the row is left undone
pub record RowIsUntold {S : Type 0} (plan : S → Plan) (stage : S → Stage) (s : S) (row : Row) (t : S) : Type 0 where
  pub same : plan t ≡ plan s
  pub untold : IsUntold (plan s).net (plan s).limits.steps (plan s).limits.budget row (stage s) (stage t)

-- the session has the network and the steps of the plan, and ranks by what is answered
pub record IsOfPlan {R : Type 0} (may : R → ℕ → Type 0) (gives : R → ℕ → ℕ → Type 0) (plan : Plan) (session : SessionState R) : Type 0 where
  pub ranked : IsRanked may gives session.order
  pub net : session.net ≡ plan.net
  pub time : session.steps ≡ plan.limits.steps
  pub few : plan.limits.steps ≤ MOST_STEPS

-- ---- all rows

-- what a session may come to that leaves this book
abbrev pub MaySay : Net → ℕ → ℕ → List Row → List BookEntry → Ending → Type 0
MaySay net n budget rows book e = IsOkAnd e (IsSession net n budget rows book)

-- its status, by how its rows went
abbrev pub status_of_session : Result (Unit {0}) Broken → ℕ
status_of_session r = status_of_telling (λ done. Done) r
