-- Where something is left open, the clauses that were learnt for it are fresh, and so fewer than the sets of literals over the book's variables.
use Rattle.std.proofs.Common.{◌≡◌, ◌∙◌, ◌<◌, ◌^◌, inl, inr, ℕ, Bool, true, false, List, [], ◌∷◌, ◌++◌, length, refl, sym, ap, subst, append-nil, append_assoc}
use Rattle.std.specs.List.{list_any}
use Rattle.fault_verdicts.specs.Judges.{AreJudged, IsEventJudged, Matter}
use Rattle.answers.specs.declared.verdict.Verdict.{Verdict}
use Rattle.answers.specs.declared.verdict.Verdict.TheVariants.{Certain, Excluded, Possible, Open}
use Rattle.least_faults.proofs.FreshCount.{fresh_below, over_front}
use Rattle.answers.specs.declared.found.Found.TheVariants.{Explained, Absent, Many, Undecided}
use Rattle.proof_ledger.specs.Book.{BookEntry, mark}
use Rattle.proof_ledger.specs.Fresh.{AreFresh}
use Rattle.verdict_telling.proofs.Growing.{judged_grows}
use Rattle.verdict_telling.specs.Deciding.{IncludeVariablesOf, OpenIsSmall}
use Rattle.verdict_telling.specs.Replied.{is_undecided, matter_behind}

-- ---- fronts of the book

-- what was learnt between two marks is fewer
between_marks : (vars : List ℕ) (old since new : List BookEntry) (count : ℕ) → new ≡ old ++ mark 0 ∷ since ++ mark 1 ∷ [] → IncludeVariablesOf vars new → AreFresh (old ++ mark 0 ∷ []) since count → count < 3 ^ length vars
between_marks vars old since new count whole among fresh =
    fresh_below vars (old ++ mark 0 ∷ []) since count (subst (IncludeVariablesOf vars) (sym (append_assoc old (mark 0 ∷ []) since)) (over_front vars (old ++ (mark 0 ∷ since)) (mark 1 ∷ []) (subst (IncludeVariablesOf vars) whole among))) fresh

-- ---- the events

-- a book that fault events were judged over goes on from the one before
goes_on : (m : Matter) (events : List ℕ) (old new : List BookEntry) (verdicts : List Verdict) → AreJudged m events old new verdicts → (since : List BookEntry) × (new ≡ old ++ since)
goes_on m [] old new [] judged = ([], judged ∙ sym (append-nil old))
goes_on m (e ∷ events) old new (verdict ∷ verdicts) (mid, here, later) =
    let one = judged_grows m e old mid verdict here in
    let others = goes_on m events mid new verdicts later in
    (one.since ++ others.0, others.1 ∙ ap (λ (book : List BookEntry). book ++ others.0) one.whole ∙ append_assoc old one.since others.0)
goes_on m [] old new (verdict ∷ verdicts) judged = absurd judged
goes_on m (e ∷ events) old new [] judged = absurd judged

one_open : (m : Matter) (vars : List ℕ) (e : ℕ) (old new : List BookEntry) (verdict : Verdict) → IncludeVariablesOf vars new → IsEventJudged m e old new verdict → is_undecided verdict ≡ true → m.budget < 3 ^ length vars
one_open m vars e old new Certain among judged is = cc
one_open m vars e old new Excluded among judged is = cc
one_open m vars e old new (Possible run) among judged is = cc
one_open m vars e old new Open among (inl asked) is = between_marks vars old asked.left.since new m.budget asked.left.whole among asked.found.fresh
one_open m vars e old new Open among (inr shown) is = let other = shown.verdict_is in cc

some_open : (m : Matter) (vars : List ℕ) (events : List ℕ) (old new : List BookEntry) (verdicts : List Verdict) → IncludeVariablesOf vars new → AreJudged m events old new verdicts → list_any is_undecided verdicts ≡ true → m.budget < 3 ^ length vars
some_open m vars [] old new [] among judged is = cc
some_open m vars (e ∷ events) old new (verdict ∷ verdicts) among (mid, here, later) is = by (is_undecided verdict) refl (some_open m vars events mid new verdicts among later)
  where
    by : (b : Bool) → is_undecided verdict ≡ b → (list_any is_undecided verdicts ≡ true → m.budget < 3 ^ length vars) → m.budget < 3 ^ length vars
    by true e_is next =
        let others = goes_on m events mid new verdicts later in
        one_open m vars e old mid verdict (over_front vars mid others.0 (subst (IncludeVariablesOf vars) others.1 among)) here e_is
    by false e_is next = next (rw e_is at is)
some_open m vars [] old new (verdict ∷ verdicts) among judged is = absurd judged
some_open m vars (e ∷ events) old new [] among judged is = absurd judged

-- ---- what was found, and the events

pub open_is_small : OpenIsSmall
open_is_small net log n budget (Explained best) verdicts book texts have is vars among =
    some_open (matter_behind net log n budget best) vars _ have.front book verdicts among have.follows.replied.judged is
open_is_small net log n budget Absent verdicts book texts have is vars among = cc
open_is_small net log n budget (Many best) verdicts book texts have is vars among = cc
open_is_small net log n budget (Undecided lo best) verdicts book texts have is vars among =
    let answered = have.diagnosed.answered in
    subst (λ (count : ℕ). count < 3 ^ length vars) answered.found.spent (between_marks vars _ answered.left.since have.front _ answered.left.whole (subst (IncludeVariablesOf vars) have.follows.book among) answered.left.fresh)
