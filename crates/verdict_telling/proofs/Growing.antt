-- How the book grows while fault events are judged and told: for each of them by no more learnt clauses than the budget says.
use Rattle.std.proofs.Common.{◌≡◌, ◌≤◌, ◌+◌, ◌*◌, ◌∙◌, inl, inr, ℕ, List, [], ◌∷◌, ◌++◌, length, Option, Some, Result, Ok, Err, refl, sym, ap, subst, arith, append_assoc, length-append}
use Rattle.std.proofs.Math.Nat.{suc-mul, mul-le-mul_right}
use Rattle.des_base.specs.Outside.{Output}
use Rattle.des_net.specs.Network.{Net}
use Rattle.fault_verdicts.specs.Judges.{IsEventJudged, Matter}
use Rattle.answers.specs.declared.verdict.Verdict.{Verdict}
use Rattle.least_faults.proofs.Closing.{grown_closed, grown_not}
use Rattle.sat_solve.proofs.Freshness.{fresh_both, fresh_mark}
use Rattle.least_faults.specs.Growing.{HasGrownWithin}
use Rattle.proof_ledger.specs.Book.{BookEntry, mark}
use Rattle.proof_ledger.specs.Fresh.{is_learnt}
use Rattle.run_decode.proofs.Faults.{count_append}
use Rattle.step_encode.specs.FaultInputs.{fault_events}
use Rattle.telling.specs.Telling.{EachGoes, TellsEach}
use Rattle.telling.specs.declared.each.Broken.{Broken}
use Rattle.telling.specs.declared.each.Broken.TheVariants.{Memory, Put}
use Rattle.verdict_telling.specs.Stages.{IsNotTold, TellsOf}
use Rattle.verdict_telling.specs.declared.teller.VerdictTeller.{VerdictTeller}

-- ---- books

-- first by at most a, and then by at most b
pub grown_both : (a b : ℕ) (old mid new : List BookEntry) → HasGrownWithin a old mid → HasGrownWithin b mid new → HasGrownWithin (a + b) old new
grown_both a b old mid new one other = record {
  since = one.since ++ other.since;
  whole = other.whole ∙ ap (λ (book : List BookEntry). book ++ other.since) one.whole ∙ append_assoc old one.since other.since;
  within = (let few = one.within in
      let more = other.within in
      let all = count_append is_learnt one.since other.since in
      omega (arith, few, more, all));
  fresh = fresh_both old mid one.since other.since one.whole one.fresh other.fresh;
}

-- by at most a, and so by at most b
grown_more : (a b : ℕ) (old new : List BookEntry) → a ≤ b → HasGrownWithin a old new → HasGrownWithin b old new
grown_more a b old new few grown = record { since = grown.since; whole = grown.whole; within = (let less = grown.within in omega (arith, few, less)); fresh = grown.fresh }

-- the book stays
grown_still : (budget : ℕ) (old new : List BookEntry) → new ≡ old → HasGrownWithin budget old new
grown_still budget old new same = subst (λ (book : List BookEntry). HasGrownWithin budget old book) (sym same) (grown_not budget old)

-- a question about an event is opened, asked and closed, or a run was known
pub judged_grows : (m : Matter) (e : ℕ) (old new : List BookEntry) (verdict : Verdict) → IsEventJudged m e old new verdict → HasGrownWithin m.budget old new
judged_grows m e old new verdict (inr shown) = grown_still m.budget old new shown.same
judged_grows m e old new verdict (inl asked) = grown_closed m.budget old (old ++ (mark 0 ∷ asked.left.since)) new asked.left.whole (record {
  since = mark 0 ∷ asked.left.since;
  whole = refl;
  within = (let few = asked.left.within in
      let one = count_append is_learnt (mark 0 ∷ []) asked.left.since in
      omega (arith, few, one));
  fresh = fresh_both old (old ++ mark 0 ∷ []) (mark 0 ∷ []) asked.left.since refl (fresh_mark old 0) asked.left.fresh;
})

-- ---- stages

-- The same is judged, and the book grew by no more than the budget for each of `count` events.
pub record Grows {R : Type 0} (count : ℕ) (s t : VerdictTeller R) : Type 0 where
  pub stays : t.judge.matter ≡ s.judge.matter
  pub grown : HasGrownWithin (count * s.judge.matter.budget) s.judge.book t.judge.book

none_grow : {R : Type 0} (s t : VerdictTeller R) → t ≡ s → Grows 0 s t
none_grow s t same = record { stays = ap (λ x. x.judge.matter) same; grown = grown_still _ s.judge.book t.judge.book (ap (λ x. x.judge.book) same) }

one_more : {R : Type 0} (count : ℕ) (s mid t : VerdictTeller R) → mid.judge.matter ≡ s.judge.matter → HasGrownWithin s.judge.matter.budget s.judge.book mid.judge.book → Grows count mid t → Grows (count + 1) s t
one_more count s mid t stays grown later = record {
  stays = later.stays ∙ stays;
  grown = (let budget = s.judge.matter.budget in
      let both = grown_both budget (count * budget) s.judge.book mid.judge.book t.judge.book grown (subst (λ (m : Matter). HasGrownWithin (count * m.budget) mid.judge.book t.judge.book) stays later.grown) in
      let times = suc-mul count budget in
      grown_more (budget + count * budget) ((count + 1) * budget) s.judge.book t.judge.book (omega (arith, times)) both);
}

more_grow : {R : Type 0} (few many : ℕ) (s t : VerdictTeller R) → few ≤ many → Grows few s t → Grows many s t
more_grow few many s t less grows = record {
  stays = grows.stays;
  grown = grown_more (few * s.judge.matter.budget) (many * s.judge.matter.budget) s.judge.book t.judge.book (mul-le-mul_right s.judge.matter.budget less) grows.grown;
}

-- an event that is judged, or passed over
one_told : {R : Type 0} (s : VerdictTeller R) (e : ℕ) (t : VerdictTeller R) (text : Option (List ℕ)) → TellsOf s e t text → (t.judge.matter ≡ s.judge.matter) × HasGrownWithin s.judge.matter.budget s.judge.book t.judge.book
one_told s e t text (inl is) = (is.stays, judged_grows s.judge.matter e s.judge.book t.judge.book is.verdict is.judged)
one_told s e t text (inr passed) = (ap (λ x. x.judge.matter) passed.same, grown_still _ s.judge.book t.judge.book (ap (λ x. x.judge.book) passed.same))

-- events in turn, and then what comes behind them
told_then : {R : Type 0} (count : ℕ) (s mid t : VerdictTeller R) (events : List ℕ) (texts : List (List ℕ)) → TellsEach TellsOf s events mid texts → Grows count mid t → Grows (count + length events) s t
told_then {R} count s mid t [] texts told later = more_grow count (count + length {A = ℕ} []) s t (omega arith) (subst (λ (x : VerdictTeller R). Grows count x t) told.0 later)
told_then {R} count s mid t (e ∷ events) texts (next, first, rest, here, further, are) later =
    let one = one_told s e next first here in
    let others = told_then count next mid t events rest further later in
    more_grow (count + length events + 1) (count + length (e ∷ events)) s t (omega arith) (one_more (count + length events) s next t one.0 one.1 others)

-- by how it ends
pub each_grows : {R : Type 0} (s t : VerdictTeller R) (events : List ℕ) (before now : Output) (rose : Type 0) (r : Result (Unit {0}) Broken) → EachGoes TellsOf IsNotTold s events t before now rose r → Grows (length events) s t
each_grows s t events before now rose (Ok done) goes =
    more_grow (0 + length events) (length events) s t (omega arith) (told_then 0 s t t events goes.texts goes.says (none_grow t t refl))
each_grows {R} s t events before now rose (Err Memory) goes =
    let comes = goes.says.comes in
    let mid = goes.says.mid in
    let untold = goes.says.untold in
    let last = one_more 0 mid t t untold.stays untold.grown (none_grow t t refl) in
    let size = ap (λ (es : List ℕ). length es) comes.split in
    let all = length-append comes.front (goes.says.item ∷ comes.others) in
    more_grow (0 + 1 + length comes.front) (length events) s t (omega (arith, size, all)) (told_then (0 + 1) s mid t comes.front goes.texts comes.told last)
each_grows {R} s t events before now rose (Err Put) goes =
    let comes = goes.says.comes in
    let mid = goes.says.mid in
    let here = one_told mid goes.says.item t (Some goes.says.last) goes.says.told in
    let last = one_more 0 mid t t here.0 here.1 (none_grow t t refl) in
    let size = ap (λ (es : List ℕ). length es) comes.split in
    let all = length-append comes.front (goes.says.item ∷ comes.others) in
    more_grow (0 + 1 + length comes.front) (length events) s t (omega (arith, size, all)) (told_then (0 + 1) s mid t comes.front goes.says.earlier comes.told last)

-- of the fault events of a network
pub list_grows : {R : Type 0} (s t : VerdictTeller R) (net : Net) (events : List ℕ) (before now : Output) (rose : Type 0) (r : Result (Unit {0}) Broken) → events ≡ fault_events net → EachGoes TellsOf IsNotTold s events t before now rose r
    → HasGrownWithin (length (fault_events net) * s.judge.matter.budget) s.judge.book t.judge.book
list_grows s t net events before now rose r is goes = subst (λ (es : List ℕ). HasGrownWithin (length es * s.judge.matter.budget) s.judge.book t.judge.book) is (each_grows s t events before now rose r goes).grown

-- and the same is judged
pub list_stays : {R : Type 0} (s t : VerdictTeller R) (events : List ℕ) (before now : Output) (rose : Type 0) (r : Result (Unit {0}) Broken) → EachGoes TellsOf IsNotTold s events t before now rose r → t.judge.matter ≡ s.judge.matter
list_stays s t events before now rose r goes = (each_grows s t events before now rose r goes).stays
