-- What is stored of the ranks stays what was answered.
use Rattle.std.proofs.Common.{ℕ, ◌<◌, List, length, subst, sym}
use Rattle.sat_order.specs.Rank.{IsRank, IsRanked, OrderState, KeepsRanks}
use Rattle.sat_order.specs.Waiting.{rank_of}

module _ {R : Type 0} (may : R → ℕ → Type 0) (gives : R → ℕ → ℕ → Type 0) where
  -- each of these ranks is an answer
  abbrev Answered : R → List ℕ → Type 0
  Answered rank ranks = (var : ℕ) → var < length ranks → gives rank var (rank_of ranks var)

  pub still_ranked : (old new : OrderState R) → KeepsRanks old new → IsRanked may gives old → IsRanked may gives new
  still_ranked old new kept ranked = record {
    rank = subst (IsRank may gives) (sym kept.rank) ranked.rank;
    each = subst (λ (ranks : List ℕ). Answered new.rank ranks) (sym kept.ranks) (subst (λ (rank : R). Answered rank old.ranks) (sym kept.rank) ranked.each);
  }
