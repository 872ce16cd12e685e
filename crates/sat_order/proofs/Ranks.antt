-- The stored ranks, where one more is asked for.
use Rattle.std.proofs.Common.{◌≡◌, ◌∙◌, ℕ, suc, ◌+◌, ◌-◌, ◌<◌, ◌≤◌, Bool, true, ◌++◌, ◌∷◌, [], List, ap, sym, length, get_or, arith, subst, ⊎_elim, append_assoc, replicate}
use Rattle.std.specs.Prelude.{Option, Some, None, IfSome}
use Rattle.std.proofs.lemmas.Grind.{common_steps}
use Rattle.std.proofs.lemmas.Bool.{cases_eq}
use Rattle.des_base.specs.declared.TheConstants.{VAR_LIMIT}
use Rattle.sat_order.specs.Waiting.{rank_of, waits, IsNext, IsWaitingList}
use Rattle.sat_order.specs.Rank.{OrderState, IsRanked, IsNextByRank}

pub IsRanked-more : {R : Type 0} (may : R → ℕ → Type 0) (gives : R → ℕ → ℕ → Type 0) (rank : R) (ranks : List ℕ) (waiting : List Bool) (answer : ℕ) →
    IsRanked may gives (record { rank = rank; ranks = ranks; waiting = waiting }) → length ranks < VAR_LIMIT → gives rank (length ranks) answer →
    IsRanked may gives (record { rank = rank; ranks = ranks ++ answer ∷ []; waiting = waiting ++ true ∷ [] })
IsRanked-more may gives rank ranks waiting answer r limit given = record {
  rank = r.rank;
  each = λ var h. ⊎_elim
      (λ e. let a : get_or (ranks ++ answer ∷ []) (length ranks) 0 ≡ answer = grind (arith, common_steps) in
      subst (λ (n : ℕ). gives rank n (rank_of (ranks ++ answer ∷ []) n)) (sym e) (subst (λ (m : ℕ). gives rank (length ranks) m) (sym a) given))
      (λ n. let b : var < length ranks = grind (arith, common_steps) in
      let a : get_or (ranks ++ answer ∷ []) var 0 ≡ get_or ranks var 0 = grind (arith, common_steps) in
      subst (λ (m : ℕ). gives rank var m) (sym a) (r.each var b))
      (cases_eq var (length ranks));
}

-- what comes first by the stored ranks does so by whatever is answered
pub next_by_rank : {R : Type 0} (may : R → ℕ → Type 0) (gives : R → ℕ → ℕ → Type 0) (order : OrderState R) (var : ℕ) → IsWaitingList order.ranks order.waiting → IsNext order.ranks order.waiting var → IsRanked may gives order → IsNextByRank gives order var
next_by_rank may gives order var w n r = record {
  known = n.known;
  waiting_now = n.waiting_now;
  first = λ rank other other_rank on mine theirs.
      let same = w.same in
      let limit = w.limit in
      let known = n.known in
      let below = waits_below order.waiting other on in
      let a : var < length order.ranks = omega arith in
      let b : other < length order.ranks = omega arith in
      let e = r.rank.single var rank (rank_of order.ranks var) (omega arith) mine (r.each var a) in
      let f = r.rank.single other other_rank (rank_of order.ranks other) (omega arith) theirs (r.each other b) in
      rw (e, f) (n.first other on);
}
  where
    waits_below : (waiting : List Bool) (other : ℕ) → waits waiting other ≡ true → other < length waiting
    waits_below waiting other on = grind (arith, common_steps)

-- one more waits
pub waiting_more : (old now new : List Bool) (var : ℕ) → now ≡ old ++ replicate (var - length old) true → new ≡ now ++ true ∷ [] → length old ≤ var → new ≡ old ++ replicate (var + 1 - length old) true
waiting_more old now new var e f h =
    let n : var + 1 - length old ≡ suc (var - length old) = omega arith in
    f ∙ rw (e, n) (append_assoc old (replicate (var - length old) true) (true ∷ []) ∙ ap (λ xs. old ++ xs) (at_end (var - length old)))
  where
    at_end : (k : ℕ) → replicate k true ++ true ∷ [] ≡ replicate (suc k) true
    at_end k = grind (arith, common_steps)

pub taken_by_rank : {R : Type 0} (may : R → ℕ → Type 0) (gives : R → ℕ → ℕ → Type 0) (order viewed : OrderState R) (taken : Option ℕ) → viewed ≡ order → IsWaitingList viewed.ranks viewed.waiting → IfSome taken (λ var. IsNext viewed.ranks viewed.waiting var) →
    IfSome taken (λ var. IsRanked may gives order → IsNextByRank gives order var)
taken_by_rank may gives order viewed None e w n = tt
taken_by_rank {R} may gives order viewed (Some var) e w n = subst (λ (o : OrderState R). IsRanked may gives o → IsNextByRank gives o var) e (next_by_rank may gives viewed var w n)
