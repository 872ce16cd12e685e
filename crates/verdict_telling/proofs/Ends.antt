-- What is told of all fault events, by how it ends.
use Rattle.std.proofs.Common.{◌≡◌, ◌∙◌, inl, inr, ℕ, ◌<◌, ◌||◌, Bool, true, false, List, [], ◌∷◌, ◌++◌, length, Contains, Some, Result, Ok, Err, OnErr, refl, sym, ap, subst, arith, append-nil, append_assoc}
use Rattle.std.proofs.lemmas.List.Elements.{Contains-append_left as append_left}
use Rattle.std.specs.List.{list_any}
use Rattle.std.specs.Option.{option_to_list}
use Rattle.des_base.proofs.Elements.{here_first, here_later, filter_from}
use Rattle.des_base.specs.Lists.{numbers_below}
use Rattle.des_base.specs.Outside.{Output, Took}
use Rattle.des_net.specs.Network.{Net, is_fault}
use Rattle.fault_verdicts.specs.Judges.{IsEventJudged, IsLeftUnjudged, Matter}
use Rattle.answers.specs.declared.verdict.Verdict.{Verdict}
use Rattle.sat_solve.proofs.Freshness.{fresh_none}
use Rattle.least_faults.specs.Growing.{HasGrownWithin}
use Rattle.proof_ledger.specs.Book.{BookEntry}
use Rattle.report.specs.VerdictTexts.{text_of_verdict}
use Rattle.question_clauses.proofs.Lists.{from_numbers}
use Rattle.step_encode.specs.FaultInputs.{fault_events}
use Rattle.telling.proofs.Joining.{tells_more, tells_one}
use Rattle.telling.specs.Telling.{EachGoes, TellsEach}
use Rattle.telling.specs.declared.each.Broken.{Broken}
use Rattle.telling.specs.declared.each.Broken.TheVariants.{Memory, Put}
use Rattle.verdict_telling.specs.Replied.{AreAskedInOrder, AreReplied, AreFirstJudged, LeavesNext, TellsVerdicts, is_undecided}
use Rattle.verdict_telling.specs.Stages.{HasTold, IsNotTold, TellsOf, TellsOfAll}
use Rattle.verdict_telling.specs.declared.teller.VerdictTeller.{VerdictTeller}

-- these are fault events
abbrev AreFaults : Net → List ℕ → Type 0
AreFaults net events = (e : ℕ) → Contains events e → (e < length net.events) × (is_fault net e ≡ true)

all_faults : (net : Net) → AreFaults net (fault_events net)
all_faults net e in' = let found = filter_from (is_fault net) (numbers_below (length net.events)) e in' in (from_numbers (length net.events) e found.1, found.0)

-- ---- from stage to stage

-- these were told, and these are their verdicts
record HaveTold {R : Type 0} (s t : VerdictTeller R) (events : List ℕ) (texts : List (List ℕ)) : Type 0 where
  verdicts : List Verdict
  replied : AreReplied s.judge.matter events s.judge.book t.judge.book verdicts texts
  stays : t.judge.matter ≡ s.judge.matter
  left : t.open_left ≡ s.open_left || list_any is_undecided verdicts

or_none : (b : Bool) → b ≡ b || false
or_none true = refl
or_none false = refl

or_more : (a b c d e : Bool) → b ≡ a || c → d ≡ b || e → d ≡ a || (c || e)
or_more true b c d e first second = second ∙ ap (λ x. x || e) first
or_more false b c d e first second = second ∙ ap (λ x. x || e) first

have_told : {R : Type 0} (s t : VerdictTeller R) (events : List ℕ) (texts : List (List ℕ)) → AreFaults s.judge.matter.net events → TellsEach TellsOf s events t texts → HaveTold s t events texts
have_told s t [] texts faults told = record {
  verdicts = [];
  replied = record { judged = ap (λ x. x.judge.book) told.0; are = told.1 };
  stays = ap (λ x. x.judge.matter) told.0;
  left = ap (λ x. x.open_left) told.0 ∙ or_none s.open_left;
}
have_told {R} s t (e ∷ events) texts faults (mid, first, rest, here, later, are) = by here (λ known. have_told mid t events rest known later)
  where
    by : TellsOf s e mid first → (AreFaults mid.judge.matter.net events → HaveTold mid t events rest) → HaveTold s t (e ∷ events) texts
    by (inr passed) next = let fault = faults e (here_first e events e refl) in absurd (passed.no_fault fault.0 fault.1)
    by (inl is) next =
        let further = next (λ f in'. subst (λ (m : Matter). (f < length m.net.events) × (is_fault m.net f ≡ true)) (sym is.stays) (faults f (here_later e events f in'))) in
        let replied = subst (λ (m : Matter). AreReplied m events mid.judge.book t.judge.book further.verdicts rest) is.stays further.replied in record {
          verdicts = is.verdict ∷ further.verdicts;
          replied = record {
            judged = (mid.judge.book, is.judged, replied.judged);
            are = are ∙ ap (λ o. option_to_list o ++ rest) is.is ∙ ap (λ xs. text_of_verdict s.judge.matter.net e is.verdict ∷ xs) replied.are;
          };
          stays = further.stays ∙ is.stays;
          left = or_more s.open_left mid.open_left (is_undecided is.verdict) t.open_left (list_any is_undecided further.verdicts) is.left further.left;
        }

-- nothing is told of an event where it ran out of memory
pub left_untold : {R T E : Type 0} (s : VerdictTeller R) (event : ℕ) (t : VerdictTeller R) (r : Result T E) → t.judge.matter ≡ s.judge.matter → HasGrownWithin s.judge.matter.budget s.judge.book t.judge.book → IsLeftUnjudged s.judge.matter event s.judge.book t.judge.book → OnErr r (IsNotTold s event t)
left_untold s event t (Ok told) stays grown unjudged = tt
left_untold s event t (Err e) stays grown unjudged = record { stays = stays; grown = grown; unjudged = unjudged }

-- a verdict that isn't told
pub judged_untold : (m : Matter) (e : ℕ) (old new : List BookEntry) (verdict : Verdict) → IsEventJudged m e old new verdict → IsLeftUnjudged m e old new
judged_untold m e old new verdict (inl asked) = inr (verdict, asked)
judged_untold m e old new verdict (inr shown) = inl (inl shown.same)

-- where the book stays, nothing is left for the next event
pub leaves_none : (m : Matter) (others : List ℕ) (old new : List BookEntry) → new ≡ old → LeavesNext m others old new
leaves_none m [] old new same = same
leaves_none m (e ∷ others) old new same = inl (inl same)

-- however it ends, fault events were asked about in order
pub asked_in_order : (m : Matter) (old new : List BookEntry) (before now : Output) (rose : Type 0) (result : Result Bool Broken) → TellsVerdicts m old new before now rose result → AreAskedInOrder m old new
asked_in_order m old new before now rose (Ok open_left) tells = record {
  events = fault_events m.net;
  others = [];
  verdicts = tells.verdicts;
  mid = new;
  ordered = sym (append-nil (fault_events m.net));
  judged = tells.replied.judged;
  next = refl;
}
asked_in_order m old new before now rose (Err Memory) tells = record {
  events = tells.events;
  others = tells.front.others;
  verdicts = tells.verdicts;
  mid = tells.mid;
  ordered = tells.front.ordered;
  judged = tells.front.replied.judged;
  next = tells.next;
}
asked_in_order m old new before now rose (Err Put) tells = record {
  events = tells.1.events;
  others = tells.1.front.others;
  verdicts = tells.1.verdicts;
  mid = new;
  ordered = tells.1.front.ordered;
  judged = tells.1.front.replied.judged;
  next = leaves_none m tells.1.front.others new new refl;
}

-- ---- by how it ends

module _ {R : Type 0} (s t : VerdictTeller R) (none_left : s.open_left ≡ false) (before now : Output) (rose : Type 0) where
  abbrev m : Matter
  m = s.judge.matter

  -- some of them, in front of others
  front_faults : (events others : List ℕ) → fault_events m.net ≡ events ++ others → AreFaults m.net events
  front_faults events others ordered e in' = all_faults m.net e (subst (λ es. Contains es e) (sym ordered) (append_left events others e in'))

  front : (stage : VerdictTeller R) (events others : List ℕ) (texts : List (List ℕ)) (ordered : fault_events m.net ≡ events ++ others) (told : TellsEach TellsOf s events stage texts) →
      AreFirstJudged m s.judge.book stage.judge.book events (have_told s stage events texts (front_faults events others ordered) told).verdicts texts
  front stage events others texts ordered told = record { others = others; ordered = ordered; replied = (have_told s stage events texts (front_faults events others ordered) told).replied }

  pub each_told : (r : Result (Unit {0}) Broken) → EachGoes TellsOf IsNotTold s (fault_events m.net) t before now rose r → TellsOfAll s t before now rose r
  unfolding front
  each_told (Ok done) goes result is =
      let told = have_told s t (fault_events m.net) goes.texts (all_faults m.net) goes.says in
      subst (TellsVerdicts m s.judge.book t.judge.book before now rose) (sym is) (record {
        verdicts = told.verdicts;
        texts = goes.texts;
        replied = told.replied;
        left = told.left ∙ ap (λ b. b || list_any is_undecided told.verdicts) none_left;
        put = goes.put;
      })
  each_told (Err Memory) goes result is =
      let comes = goes.says.comes in
      let told = have_told s goes.says.mid comes.front goes.texts (front_faults comes.front (goes.says.item ∷ comes.others) comes.split) comes.told in
      subst (TellsVerdicts m s.judge.book t.judge.book before now rose) (sym is) (record {
        events = comes.front;
        verdicts = told.verdicts;
        texts = goes.texts;
        mid = goes.says.mid.judge.book;
        front = front goes.says.mid comes.front (goes.says.item ∷ comes.others) goes.texts comes.split comes.told;
        grown = subst (λ (x : Matter). HasGrownWithin x.budget goes.says.mid.judge.book t.judge.book) told.stays goes.says.untold.grown;
        next = subst (λ (x : Matter). IsLeftUnjudged x goes.says.item goes.says.mid.judge.book t.judge.book) told.stays goes.says.untold.unjudged;
        put = goes.put;
      })
  each_told (Err Put) goes result is =
      let comes = goes.says.comes in
      let events = comes.front ++ goes.says.item ∷ [] in
      let ordered : fault_events m.net ≡ events ++ comes.others = comes.split ∙ sym (append_assoc comes.front (goes.says.item ∷ []) comes.others) in
      let all = subst (TellsEach TellsOf s events t) (sym goes.says.are) (tells_more TellsOf s goes.says.mid t comes.front (goes.says.item ∷ []) goes.says.earlier (goes.says.last ∷ []) comes.told (tells_one TellsOf goes.says.mid goes.says.item t (Some goes.says.last) goes.says.told)) in
      let told = have_told s t events goes.texts (front_faults events comes.others ordered) all in
      subst (TellsVerdicts m s.judge.book t.judge.book before now rose) (sym is) (
        goes.put.0,
        record {
          events = events;
          verdicts = told.verdicts;
          texts = goes.texts;
          front = front t events comes.others goes.texts ordered all;
          put = goes.put.1;
        },
      )

  -- it ran out of memory before any was told
  pub none_told : t ≡ s → Took before now [] → TellsOfAll s t before now rose (Err Memory)
  none_told same put result is = subst (TellsVerdicts m s.judge.book t.judge.book before now rose) (sym is) (record {
    events = [];
    verdicts = [];
    texts = [];
    mid = s.judge.book;
    front = record { others = fault_events m.net; ordered = refl; replied = record { judged = refl; are = refl } };
    grown = record { since = []; whole = ap (λ x. x.judge.book) same ∙ sym (append-nil s.judge.book); within = omega arith; fresh = fresh_none s.judge.book };
    next = leaves_none m (fault_events m.net) s.judge.book t.judge.book (ap (λ x. x.judge.book) same);
    put = put;
  })

  -- of the events of a list
  pub list_told : (events : List ℕ) (r : Result (Unit {0}) Broken) → events ≡ fault_events m.net → EachGoes TellsOf IsNotTold s events t before now rose r → TellsOfAll s t before now rose r
  list_told events r is goes = each_told r (subst (λ (es : List ℕ). EachGoes TellsOf IsNotTold s es t before now rose r) is goes)

-- ---- from the first stage

pub told_from : {R : Type 0} (s t : VerdictTeller R) (m : Matter) (old new : List BookEntry) (before now : Output) (rose : Type 0) (told : Result (Unit {0}) Broken) (result : Result Bool Broken) → s.judge.matter ≡ m → s.judge.book ≡ old → new ≡ t.judge.book → TellsOfAll s t before now rose told
    → HasTold told t.open_left result → TellsVerdicts m old new before now rose result
told_from s t m old new before now rose told result same first last tells is =
    subst (λ (book : List BookEntry). TellsVerdicts m old book before now rose result) (sym last)
    (subst (λ (book : List BookEntry). TellsVerdicts m book t.judge.book before now rose result) first (subst (λ (x : Matter). TellsVerdicts x s.judge.book t.judge.book before now rose result) same (tells result is)))
