-- A best run that was found before shows that an event is possible, and is kept for the events behind it.
use Rattle.std.proofs.Common.{◌≡◌, ◌∙◌, ◌⊎◌, inl, inr, ℕ, ◌+◌, ◌<◌, ◌≤◌, Bool, true, false, List, [], ◌∷◌, ◌++◌, refl, sym, ap, subst, Contains, ◌↔◌, length, take, get_or}
use Rattle.std.proofs.lemmas.List.{take_more}
use Rattle.std.specs.Bool.{beq}
use Rattle.std.specs.List.{AllByRecursion}
use Rattle.std.specs.Prelude.{not}
use Rattle.des_base.proofs.Elements.{all_append}
use Rattle.des_base.specs.declared.TheConstants.{MOST_STEPS}
use Rattle.des_net.specs.Network.{Net}
use Rattle.fault_verdicts.proofs.Going.{belong_on}
use Rattle.fault_verdicts.proofs.Judged.{has_or_not}
use Rattle.fault_verdicts.specs.Judged.{IsBestRun, IsJudged, IsVerdictOpenAtMost, IsPossibleFound}
use Rattle.fault_verdicts.specs.Judges.{AddsPossible, DiffersIn, IsEventJudged, IsJudgeOf, IsLeftUnjudged, Matter, matter_of}
use Rattle.fault_verdicts.specs.Judging.{KeepsStepsAndLog}
use Rattle.fault_verdicts.specs.Verdicts.{IsPossible}
use Rattle.answers.specs.declared.verdict.Verdict.{Verdict}
use Rattle.answers.specs.declared.verdict.Verdict.TheVariants.{Possible}
use Rattle.fault_verdicts.specs.declared.kept.Carried.{Carried}
use Rattle.answers.specs.declared.found.Best.{Best}
use Rattle.question_clauses.proofs.Lists.{all_at}
use Rattle.log_order.specs.Log.{Log}
use Rattle.proof_ledger.specs.Book.{BookEntry}
use Rattle.replay.specs.Matching.{order_of}
use Rattle.replay.specs.Traced.{word_of}
use Rattle.replay.specs.declared.run.RunStep.{RunStep}
use Rattle.step_encode.specs.Coded.{CodedSteps}

-- two best runs that differ in an event show that it is possible
pub shown_possible : (net : Net) (log : Log) (n k e : ℕ) (first other : List RunStep) → IsBestRun net log n k first → IsBestRun net log n k other → DiffersIn e first other → IsPossibleFound net log n k e first other
shown_possible net log n k e first other known found differs = record { possible = by (has_or_not (word_of first) e); best = found; differs = differs }
  where
    by : Contains (word_of first) e ⊎ (Contains (word_of first) e → ⊥) → IsPossible net log n e
    by (inl in') = record {
      somewhere = record { k = k; word = word_of first; order = order_of log first; best = known.best; has = in' };
      not_everywhere = record { k = k; word = word_of other; order = order_of log other; best = found.best; without = (λ there. differs.0 there in') };
    }
    by (inr out) = record {
      somewhere = record { k = k; word = word_of other; order = order_of log other; best = found.best; has = differs.1 out };
      not_everywhere = record { k = k; word = word_of first; order = order_of log first; best = known.best; without = out };
    }

-- one of two tests is true where the other isn't
pub tests_differ : (there other : Bool) (first has : List RunStep) (e : ℕ) → (there ≡ true ↔ Contains (word_of first) e) → (other ≡ true ↔ Contains (word_of has) e) → not (beq other there) ≡ true → DiffersIn e first has
tests_differ true true first has e told is apart = let no : false ≡ true = apart in cc
tests_differ true false first has e told is apart = ((λ in'. let no : false ≡ true = is.1 in' in cc), (λ out. absurd (out (told.0 refl))))
tests_differ false true first has e told is apart = ((λ in' there. let no : false ≡ true = told.1 there in cc), (λ out. is.0 refl))
tests_differ false false first has e told is apart = let no : false ≡ true = apart in cc

-- the copy of one of the others that differs from the known run shows that the event is possible
pub shown_by : {R : Type 0} (net : Net) (log : Log) (best : Best) (kept : Carried R) (others : List (List RunStep)) (e : ℕ) (other copy : List RunStep) → IsJudgeOf net log best kept → others ≡ kept.others.items → Contains others other → DiffersIn e best.run other → copy ≡ other →
    IsPossibleFound net log kept.parts.step.steps best.faults e best.run copy
shown_by net log best kept others e other copy is same in' differs copied =
    let found = all_at (IsBestRun net log kept.parts.step.steps best.faults) kept.others.items is.others other (subst (λ xs. Contains xs other) same in') in
    subst (IsPossibleFound net log kept.parts.step.steps best.faults e best.run) (sym copied) (shown_possible net log kept.parts.step.steps best.faults e best.run other is.known found differs)

-- the run of a verdict is best
found_is_best : (net : Net) (log : Log) (n k e budget : ℕ) (first : List RunStep) (old new : List BookEntry) (verdict : Verdict) (run : List RunStep) → IsJudged net log n k e budget first old new verdict → verdict ≡ Possible run → IsBestRun net log n k run
found_is_best net log n k e budget first old new verdict run judged is = (subst (IsJudged net log n k e budget first old new) is judged).found.best

-- all others are best where the one is that comes to them
others_best : (P : List RunStep → Type 0) (found : Verdict) (old new : List (List RunStep)) → AddsPossible found old new → ((run : List RunStep) → found ≡ Possible run → P run) → AllByRecursion P old → AllByRecursion P new
others_best P found old new (inl same) best all = subst (AllByRecursion P) (sym same) all
others_best P found old new (inr more) best all = subst (AllByRecursion P) (sym more.2) (all_append P old (more.0 ∷ []) all (best more.0 more.1, tt))

-- with further columns and a variable, and the others that came, all is as it was
judge_goes_on : {R : Type 0} (net : Net) (log : Log) (best : Best) (old new : Carried R) → KeepsStepsAndLog 1 old.parts new.parts → IsJudgeOf net log best old → AllByRecursion (IsBestRun net log new.parts.step.steps best.faults) new.others.items → IsJudgeOf net log best new
judge_goes_on net log best old new goes is others = record {
  belong = belong_on net log 1 old.parts new.parts goes is.belong;
  steps = subst (λ (s : CodedSteps). s.steps ≤ MOST_STEPS) (sym goes.step) is.steps;
  few = is.few;
  known = subst (λ (s : CodedSteps). IsBestRun net log s.steps best.faults best.run) (sym goes.step) is.known;
  others = others;
}

-- where no other comes
pub judge_stays : {R : Type 0} (net : Net) (log : Log) (best : Best) (old new : Carried R) → KeepsStepsAndLog 1 old.parts new.parts → new.others.items ≡ old.others.items → IsJudgeOf net log best old → IsJudgeOf net log best new
judge_stays net log best old new goes same is =
    judge_goes_on net log best old new goes is
    (subst (AllByRecursion (IsBestRun net log new.parts.step.steps best.faults)) (sym same)
    (subst (λ (s : CodedSteps). AllByRecursion (IsBestRun net log s.steps best.faults) old.others.items) (sym goes.step) is.others))

-- and where the run of a verdict may come
pub judge_after : {R : Type 0} (net : Net) (log : Log) (best : Best) (e budget : ℕ) (old new : Carried R) (before after : List BookEntry) (found : Verdict) → KeepsStepsAndLog 1 old.parts new.parts → IsJudgeOf net log best old → AddsPossible found old.others.items new.others.items →
    IsJudged net log new.parts.step.steps best.faults e budget best.run before after found → IsJudgeOf net log best new
judge_after net log best e budget old new before after found goes is adds judged =
    judge_goes_on net log best old new goes is
    (others_best (IsBestRun net log new.parts.step.steps best.faults) found old.others.items new.others.items adds
    (λ run same. found_is_best net log new.parts.step.steps best.faults e budget best.run before after found run judged same)
    (subst (λ (s : CodedSteps). AllByRecursion (IsBestRun net log s.steps best.faults) old.others.items) (sym goes.step) is.others))

-- the matter is as it was
pub same_matter : {R : Type 0} (net : Net) (log : Log) (best : Best) (budget : ℕ) (old new : Carried R) → KeepsStepsAndLog 1 old.parts new.parts → matter_of net log best budget new ≡ matter_of net log best budget old
same_matter net log best budget old new goes = ap {B = Matter} (λ (s : CodedSteps). record { net = net; log = log; steps = s.steps; best = best; budget = budget }) goes.step

-- what was asked, by the steps as they were before
pub asked_of : {R : Type 0} (net : Net) (log : Log) (best : Best) (e budget : ℕ) (old new : Carried R) (before after : List BookEntry) (found : Verdict) → KeepsStepsAndLog 1 old.parts new.parts → IsJudged net log new.parts.step.steps best.faults e budget best.run before after found →
    IsEventJudged (matter_of net log best budget old) e before after found
asked_of net log best e budget old new before after found goes judged = inl (subst (λ (s : CodedSteps). IsJudged net log s.steps best.faults e budget best.run before after found) goes.step judged)

-- out of memory the question is open at most
pub unasked_of : {R : Type 0} (net : Net) (log : Log) (best : Best) (e budget : ℕ) (old new : Carried R) (before after : List BookEntry) → KeepsStepsAndLog 1 old.parts new.parts → IsVerdictOpenAtMost net log new.parts.step.steps best.faults e budget best.run before after →
    IsLeftUnjudged (matter_of net log best budget old) e before after
unasked_of net log best e budget old new before after goes unclosed = inl (subst (λ (s : CodedSteps). IsVerdictOpenAtMost net log s.steps best.faults e budget best.run before after) goes.step unclosed)

-- the verdict was given, and couldn't be kept
pub unkept_of : {R : Type 0} (net : Net) (log : Log) (best : Best) (e budget : ℕ) (old new : Carried R) (before after : List BookEntry) (found : Verdict) → KeepsStepsAndLog 1 old.parts new.parts → IsJudged net log new.parts.step.steps best.faults e budget best.run before after found →
    IsLeftUnjudged (matter_of net log best budget old) e before after
unkept_of net log best e budget old new before after found goes judged = inr (found, subst (λ (s : CodedSteps). IsJudged net log s.steps best.faults e budget best.run before after found) goes.step judged)

-- ---- copies, step by step

-- one more step is copied
pub copied_next : (steps : List RunStep) (i : ℕ) (copy more : List RunStep) (step same : RunStep) → i < length steps → step ≡ get_or steps i step → copy ≡ take i steps → same ≡ step → more ≡ copy ++ same ∷ [] → more ≡ take (i + 1) steps
copied_next steps i copy more step same less is so_far copied added =
    added ∙ ap (λ xs. xs ++ same ∷ []) so_far ∙ ap (λ s. take i steps ++ s ∷ []) (copied ∙ is) ∙ sym (take_more steps i step less)
