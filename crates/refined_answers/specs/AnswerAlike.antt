-- Two networks of which each question has the same answer.
use Rattle.std.specs.Prelude.{◌≡◌, ◌↔◌, ℕ, List}
use Rattle.des_net.specs.Network.{Net}
use Rattle.log_order.specs.Log.{Log}
use Rattle.replay.specs.Explanation.{Entry, Explains, faults_of, IsExplained, NeedsFaults, IsLeast, IsAbsent, IsMany}
use Rattle.cost_least.specs.Costs.{total, IsExplainedAt, NeedsCost, IsCheapest, IsDear}
use Rattle.fault_verdicts.specs.Verdicts.{IsBest, IsCertain, IsExcluded, IsPossible}
use Rattle.step_encode.specs.FaultInputs.{fault_events}
use Rattle.twin_test.specs.Twins.{labels_shown, AreAligned, ShowsAfter, AreTwins}
use Rattle.refined_answers.specs.Behaviour.{BehaveAlike, HaveSamePieces}
use Rattle.refined_answers.specs.Texts.{HaveSameReplays, HaveSamePrices}

-- the same words and orders explain a log, with as many faults, so that the least number is the same, or there is none, or there are many
pub record HaveSameExplanations (net other : Net) : Type 0 where
  pub explains : (log : Log) (n : ℕ) (word : List ℕ) (order : List Entry) → Explains other log n word order ↔ Explains net log n word order
  pub faults : (word : List ℕ) (order : List Entry) → faults_of other word order ≡ faults_of net word order
  pub explained : (log : Log) (n k : ℕ) → IsExplained other log n k ↔ IsExplained net log n k
  pub needed : (log : Log) (n k : ℕ) → NeedsFaults other log n k ↔ NeedsFaults net log n k
  pub least : (log : Log) (n k : ℕ) → IsLeast other log n k ↔ IsLeast net log n k
  pub absent : (log : Log) (n : ℕ) → IsAbsent other log n ↔ IsAbsent net log n
  pub many : (log : Log) (n : ℕ) → IsMany other log n ↔ IsMany net log n

-- whatever each event costs, explanations have the same totals, and so the least one is the same, or above the greatest that is asked for
pub record HaveSameTotals (net other : Net) : Type 0 where
  pub totals : (cost : ℕ → ℕ) (word : List ℕ) (order : List Entry) → total other cost word order ≡ total net cost word order
  pub explained : (cost : ℕ → ℕ) (log : Log) (n c : ℕ) → IsExplainedAt other cost log n c ↔ IsExplainedAt net cost log n c
  pub needed : (cost : ℕ → ℕ) (log : Log) (n c : ℕ) → NeedsCost other cost log n c ↔ NeedsCost net cost log n c
  pub cheapest : (cost : ℕ → ℕ) (log : Log) (n c : ℕ) → IsCheapest other cost log n c ↔ IsCheapest net cost log n c
  pub dear : (cost : ℕ → ℕ) (log : Log) (n : ℕ) → IsDear other cost log n ↔ IsDear net cost log n

-- they have the same fault events, in order; the same explanations are best, and each event is certain, excluded or possible in both networks or in neither
pub record HaveSameVerdicts (net other : Net) : Type 0 where
  pub events : fault_events other ≡ fault_events net
  pub best : (log : Log) (n k : ℕ) (word : List ℕ) (order : List Entry) → IsBest other log n k word order ↔ IsBest net log n k word order
  pub certain : (log : Log) (n e : ℕ) → IsCertain other log n e ↔ IsCertain net log n e
  pub excluded : (log : Log) (n e : ℕ) → IsExcluded other log n e ↔ IsExcluded net log n e
  pub possible : (log : Log) (n e : ℕ) → IsPossible other log n e ↔ IsPossible net log n e

-- the same is seen of each piece, the same pieces are aligned and show enough after an event, and so the same are twins
pub record HaveSameTwins (net other : Net) : Type 0 where
  pub shown : (piece : List ℕ) → labels_shown other piece ≡ labels_shown net piece
  pub aligned : (n : ℕ) (pieces : List (List ℕ)) → AreAligned other n pieces ↔ AreAligned net n pieces
  pub shown_after : (e d : ℕ) (pieces : List (List ℕ)) → ShowsAfter other e d pieces ↔ ShowsAfter net e d pieces
  pub twins : (e n d : ℕ) (u v : List (List ℕ)) → AreTwins other e n d u v ↔ AreTwins net e n d u v

-- Which words are runs, what explains a log and what that costs, what each best explanation says of an event, which runs look alike, and what texts of runs and costs say: all of it is the same of both.
pub record AnswerAlike (net other : Net) : Type 0 where
  pub behaviour : BehaveAlike net other
  pub pieces : HaveSamePieces net other
  pub explanations : HaveSameExplanations net other
  pub totals : HaveSameTotals net other
  pub verdicts : HaveSameVerdicts net other
  pub twins : HaveSameTwins net other
  pub replays : HaveSameReplays net other
  pub prices : HaveSamePrices net other
