-- The search upwards from 0, bound by bound.
use Rattle.std.proofs.Common.{◌≡◌, ◌≢◌, ◌∙◌, ℕ, suc, ◌+◌, ◌<◌, ◌≤◌, true, false, List, ◌∷◌, ◌++◌, Option, None, Some, refl, sym, ap, subst, arith, Contains, count_by, append_assoc}
use Rattle.std.proofs.lemmas.List.Elements.{filter_map-append}
use Rattle.std.specs.List.{AllByRecursion, list_any, list_all}
use Rattle.card_counter.specs.CounterState.{CounterState}
use Rattle.des_base.proofs.Elements.{none_in_nil, all_split}
use Rattle.des_net.specs.Network.{Net, IsNetwork}
use Rattle.least_faults.proofs.Assuming.{assumptions_stay}
use Rattle.least_faults.proofs.Entailing.{final_entailed}
use Rattle.least_faults.proofs.KnownVariables.{known_back, known_front}
use Rattle.least_faults.proofs.Posing.{poses}
use Rattle.least_faults.proofs.Putting.{refutation_before, refutation_behind}
use Rattle.least_faults.proofs.Telling.{tells_bound}
use Rattle.answers.specs.declared.found.Best.{Best}
use Rattle.answers.specs.declared.found.Found.{Found}
use Rattle.answers.specs.declared.found.Found.TheVariants.{Explained, Absent, Many, Undecided}
use Rattle.least_faults.specs.declared.asking.Asked.{Asked}
use Rattle.least_faults.specs.declared.asking.Asked.TheVariants as asked
use Rattle.answers.specs.Explanations.{IsExplanation}
use Rattle.least_faults.specs.Answers.{HasConflict, HasConflictFor, IsFound, IsLeastFound, IsAbsentFound, IsManyFound, IsUndecidedFound}
use Rattle.least_faults.specs.Ascending.{HasFound, HasRefused}
use Rattle.least_faults.specs.Asking.{AreAssumptions, ArePut, HasAskedBy, IsRefusal, IsStopped}
use Rattle.least_faults.specs.Columns.{built_within}
use Rattle.least_faults.specs.Evidence.{is_final, IsEvidence, IsPosed, IsRefutation, NegatesAssumed}
use Rattle.least_faults.specs.Growing.{KeepsColumns}
use Rattle.least_faults.specs.Parts.{AreParts}
use Rattle.log_encode.specs.CodedLog.{CodedLog}
use Rattle.log_order.specs.Log.{Log, IsValidLog}
use Rattle.proof_ledger.specs.Book.{BookEntry, final, axiom_of, axioms_of, clauses_of, IsValidBook}
use Rattle.proof_ledger.specs.Fresh.{is_learnt}
use Rattle.prop_core.specs.Clauses.{Clause, HasValues, NegatesOnly}
use Rattle.prop_core.specs.VariableNames.{Meaning}
use Rattle.prop_core.specs.declared.lit.Lit.{Lit}
use Rattle.replay.specs.Explanation.{IsExplained, NeedsFaults}
use Rattle.run_decode.specs.Drawn.{IsInstance}
use Rattle.run_decode.specs.QuestionAxioms.{BuiltQuestion}
use Rattle.run_decode.specs.WholeNaming.{whole_meanings}
use Rattle.std.proofs.lemmas.List.Elements.{Contains-append_right as append_right}
use Rattle.step_encode.specs.Coded.{CodedSteps}
use Rattle.sat_solve.proofs.Entries.{learnt_no_final, no_final_in, counted_both}
use Rattle.sat_solve.specs.Leaving.{IsSearching, EachFinal, PutsNoFinal}
use Rattle.sat_solve.proofs.Leaving.{each_both, each_none, no_more, searching_none, searching_further, leaves_searched, finals_before}
use Rattle.replay.specs.declared.TheConstants.{MOST_FAULTS}
use Rattle.least_faults.specs.declared.parts.Parts.{Parts}

-- the clause negates what is assumed for some bound below this one
abbrev pub NegatesBelow : CodedLog → CounterState → ℕ → Clause → Type 0
NegatesBelow code counter k clause = (j : ℕ) × (j < k) × (assumed : List Lit) × AreAssumptions code counter (Some j) assumed × NegatesOnly assumed clause

-- the bound k is refuted, by the last final entry; the search has come to the next one
pub record IsRefutedAt (code : CodedLog) (counter : CounterState) (net : Net) (log : Log) (n k : ℕ) (first : BuiltQuestion) (since : List BookEntry) : Type 0 where
  pub assumed : List Lit
  pub assumptions : AreAssumptions code counter (Some k) assumed
  pub refuted : IsRefutation first since net log n (Some k) assumed

-- The bounds below k are refuted, each by one of the final entries since then at most, when the question was built so.
pub record HasComeToBy (code : CodedLog) (counter : CounterState) (first : BuiltQuestion) (net : Net) (log : Log) (n k : ℕ) (old new : List BookEntry) (budget_old budget_new : ℕ) : Type 0 where
  pub searching : IsSearching old new budget_old budget_new
  pub finals : EachFinal (NegatesBelow code counter k) searching.since
  pub few : count_by is_final searching.since ≤ k
  pub below : (j : ℕ) → k ≡ suc j → IsRefutedAt code counter net log n j first searching.since
  pub needs : NeedsFaults net log n k

-- the same for the parts of a question
abbrev pub HasComeTo : {R : Type 0} → Parts R → BuiltQuestion → Net → Log → ℕ → List BookEntry → List BookEntry → ℕ → ℕ → Type 0
HasComeTo parts first net log k old new budget_old budget_new = HasComeToBy parts.code.coded parts.counter first net log parts.step.steps k old new budget_old budget_new

pub as_explained : (net : Net) (log : Log) (n : ℕ) (best : Best) → IsExplanation net log n best → IsExplained net log n best.faults
as_explained net log n best given = record { word = _; order = _; explains = given.explains; faults = given.faults }

-- an explanation has as many faults at least as all need
at_least : (net : Net) (log : Log) (n k : ℕ) (best : Best) → NeedsFaults net log n k → IsExplanation net log n best → k ≤ best.faults
at_least net log n k best needs given = let more = needs _ _ given.explains in omega (arith, more, given.faults)

-- ---- from one bound to the next

pub explained_not : (best : Best) → asked.Explained best ≢ asked.Refuted
explained_not best is = cc

pub spent_not : asked.Spent ≢ asked.Refuted
spent_not is = cc

pub come_to_none : (code : CodedLog) (counter : CounterState) (begun : BuiltQuestion) (net : Net) (log : Log) (n : ℕ) (book : List BookEntry) (left : ℕ) → HasComeToBy code counter begun net log n 0 book book left left
come_to_none code counter begun net log n book left = record {
  searching = searching_none book left;
  finals = λ clause hints in'. absurd (none_in_nil (final clause hints) in');
  few = omega arith;
  below = λ j none. cc;
  needs = λ word order explains. omega arith;
}

-- they are still assumptions where the counter has got columns
negates_still : (code : CodedLog) (old new : CounterState) (k later : ℕ) (since : List BookEntry) → KeepsColumns old new → k ≤ later → EachFinal (NegatesBelow code old k) since → EachFinal (NegatesBelow code new later) since
negates_still code old new k later since keeps within finals clause hints in' =
    let found = finals clause hints in' in (found.0, (let low = found.1 in omega (arith, low, within)), found.2, assumptions_stay code old new (Some found.0) found.2 keeps found.3, found.4)

-- without a further one
finals_same : (code : CodedLog) (old new : CounterState) (k : ℕ) (since more : List BookEntry) → KeepsColumns old new → list_any is_final more ≡ false → EachFinal (NegatesBelow code old k) since → EachFinal (NegatesBelow code new k) (since ++ more)
finals_same code old new k since more keeps none finals = each_both (NegatesBelow code new k) since more (negates_still code old new k k since keeps (omega arith) finals) (each_none (NegatesBelow code new k) more none)

pub come_further : (code : CodedLog) (old new : CounterState) (begun now : BuiltQuestion) (net : Net) (log : Log) (n k : ℕ) (first mid last : List BookEntry) (budget before after : ℕ) → KeepsColumns old new →
    begun.axioms ≡ axioms_of first → now.axioms ≡ axioms_of mid → built_within now (Some k) ≡ built_within begun (Some k) →
    HasComeToBy code old begun net log n k first mid budget before → HasAskedBy code new now net log n (Some k) mid last before after asked.Refuted → HasComeToBy code new begun net log n (suc k) first last budget after
come_further code old new begun now net log n k first mid last budget before after keeps at_first at_mid same_within come asked' = record {
  searching = searching_further first mid last budget before after come.searching asked'.searching;
  finals = each_both (NegatesBelow code new (suc k)) come.searching.since asked'.searching.since (negates_still code old new k (suc k) come.searching.since keeps (omega arith) come.finals)
      (λ clause hints in'. let found = asked'.put.finals clause hints in' in (k, omega arith, found.0, found.1, found.2));
  few = (let all = counted_both is_final come.searching.since asked'.searching.since in omega (arith, all, come.few, asked'.put.few));
  below = λ j is. (let same : k ≡ j = omega (arith, is) in subst (λ i. IsRefutedAt code new net log n i begun (come.searching.since ++ asked'.searching.since)) same (record {
    assumed = asked'.means.assumed;
    assumptions = asked'.means.assumptions;
    refuted = refutation_behind begun now first mid come.searching.since asked'.searching.since net log n (Some k) asked'.means.assumed at_first at_mid same_within front_known come.searching.whole asked'.means.refuted;
  }));
  needs = asked'.means.decided.above;
}
  where
    front_known : AllByRecursion (HasValues (built_within now (Some k)).vars) (clauses_of come.searching.since)
    front_known = known_back (built_within now (Some k)).vars first come.searching.since
        (subst (λ es. AllByRecursion (HasValues (built_within now (Some k)).vars) (clauses_of es)) come.searching.whole
        (known_front (built_within now (Some k)).vars mid asked'.searching.since (subst (λ es. AllByRecursion (HasValues (built_within now (Some k)).vars) (clauses_of es)) asked'.searching.whole asked'.known)))

-- the bounds below k stay refuted where nothing more is
pub come_on : (code : CodedLog) (old new : CounterState) (begun now : BuiltQuestion) (net : Net) (log : Log) (n k : ℕ) (first mid last : List BookEntry) (budget before after : ℕ) (what : Asked) → KeepsColumns old new → what ≢ asked.Refuted →
    HasComeToBy code old begun net log n k first mid budget before → HasAskedBy code new now net log n (Some k) mid last before after what → HasComeToBy code new begun net log n k first last budget after
come_on code old new begun now net log n k first mid last budget before after what keeps not come asked' = record {
  searching = searching_further first mid last budget before after come.searching asked'.searching;
  finals = finals_same code old new k come.searching.since asked'.searching.since keeps (asked'.put.none not) come.finals;
  few = no_more k come.searching.since asked'.searching.since come.few (asked'.put.none not);
  below = λ j is. (let found = come.below j is in record {
    assumed = found.assumed;
    assumptions = assumptions_stay code old new (Some j) found.assumed keeps found.assumptions;
    refuted = refutation_before begun come.searching.since asked'.searching.since net log n (Some j) found.assumed (asked'.put.none not) found.refuted;
  });
  needs = come.needs;
}

-- ---- what is found

module _ (steps : CodedSteps) (code : CodedLog) (counter : CounterState) (vars : ℕ) (log : Log) (first book since : List BookEntry) (is : book ≡ first ++ since) (parts : AreParts steps code counter vars (axioms_of book))
    (network : IsNetwork steps.net) (valid : IsValidLog log) (same : code.log ≡ log) (begun : BuiltQuestion) (at_first : begun.axioms ≡ axioms_of first) where
  -- the axioms before an entry are the first ones of all
  axioms_before : (earlier later : List BookEntry) → since ≡ earlier ++ later → axioms_of book ≡ (begun.axioms ++ axioms_of earlier) ++ axioms_of later
  axioms_before earlier later whole =
      ap axioms_of (is ∙ ap (λ b. first ++ b) whole ∙ sym (append_assoc first earlier later)) ∙ filter_map-append axiom_of (first ++ earlier) later ∙ ap (λ cs. cs ++ axioms_of later) (filter_map-append axiom_of first earlier ∙ ap (λ cs. cs ++ axioms_of earlier) (sym at_first))

  evidence : (bound : Option ℕ) (assumed : List Lit) → AreAssumptions code counter bound assumed → IsRefutation begun since steps.net log steps.steps bound assumed →
      IsEvidence (whole_meanings steps code counter) begun since steps.net log steps.steps bound
  evidence bound assumed assumptions refutation = record {
    assumed = assumed;
    refuted = refutation.refuted;
    listed = refutation.listed;
    known = refutation.known;
    known_assumed = refutation.known_assumed;
    posed_before = record {
      faithful = refutation.faithful;
      once = posed.once;
      instances = (all_split (IsInstance steps.net log steps.steps names) (begun.axioms ++ axioms_of refutation.refuted.earlier) (axioms_of later)
          (subst (AllByRecursion (IsInstance steps.net log steps.steps names)) (axioms_before refutation.refuted.earlier later refutation.refuted.whole) posed.instances)).0;
      assumes = posed.assumes;
    };
    posed = subst (λ cs. IsPosed names cs assumed steps.net log steps.steps bound) (ap axioms_of is ∙ filter_map-append axiom_of first since ∙ ap (λ cs. cs ++ axioms_of since) (sym at_first)) posed;
  }
    where
      names : List (ℕ × Meaning)
      names = whole_meanings steps code counter

      later : List BookEntry
      later = final refutation.refuted.clause refutation.refuted.hints ∷ refutation.refuted.later

      posed : IsPosed names (axioms_of book) assumed steps.net log steps.steps bound
      posed = poses steps code counter vars (axioms_of book) bound assumed parts assumptions log network valid same

  -- with evidence below k, an explanation within k is least
  pub least_found : (k : ℕ) (best : Best) → k ≤ MOST_FAULTS → ((j : ℕ) → k ≡ suc j → IsRefutedAt code counter steps.net log steps.steps j begun since) → NeedsFaults steps.net log steps.steps k → IsExplanation steps.net log steps.steps best → best.faults ≤ k →
      IsLeastFound (whole_meanings steps code counter) begun since steps.net log steps.steps best
  least_found k best small below needs given within =
      let more = at_least steps.net log steps.steps k best needs given in
      let is : k ≡ best.faults = omega (arith, more, within) in record {
        given = given;
        few = omega (arith, within, small);
        least = record { reached = as_explained steps.net log steps.steps best given; least = subst (NeedsFaults steps.net log steps.steps) is needs };
        evidence = λ b faults. (let found = below b (is ∙ faults) in evidence (Some b) found.assumed found.assumptions found.refuted);
      }

  pub many_found : (best : Best) → ((j : ℕ) → 256 ≡ suc j → IsRefutedAt code counter steps.net log steps.steps j begun since) → NeedsFaults steps.net log steps.steps 256 → IsExplanation steps.net log steps.steps best →
      IsManyFound (whole_meanings steps code counter) begun since steps.net log steps.steps best
  many_found best below needs given = record {
    given = given;
    above = (let more = at_least steps.net log steps.steps 256 best needs given in omega (arith, more));
    many = record { faults = best.faults; explained = as_explained steps.net log steps.steps best given; above = needs };
    evidence = (let found = below 255 refl in evidence (Some MOST_FAULTS) found.assumed found.assumptions found.refuted);
  }

  pub undecided_found : (k budget : ℕ) (best : Best) → IsValidBook book → count_by is_learnt since ≡ budget → EachFinal (NegatesBelow code counter k) since →
      ((j : ℕ) → k ≡ suc j → IsRefutedAt code counter steps.net log steps.steps j begun since) → NeedsFaults steps.net log steps.steps k → IsExplanation steps.net log steps.steps best → k < best.faults →
      IsUndecidedFound (whole_meanings steps code counter) begun since steps.net log steps.steps budget k (Some best)
  undecided_found k budget best whole spent finals below needs given more = record {
    spent = spent;
    above = needs;
    evidence = λ b lo. (let found = below b lo in evidence (Some b) found.assumed found.assumptions found.refuted);
    greatest = λ b assumed reads has.
        (let found = finals has.clause has.hints has.there in
        let there = subst (λ b'. Contains b' (final has.clause has.hints)) (sym is) (append_right first since (final has.clause has.hints) has.there) in
        let tells = tells_bound steps code counter vars (axioms_of book) parts log found.0 b best.faults found.2 assumed has.clause network valid same found.3 found.4 reads has.negates
        (final_entailed book has.clause has.hints whole there) (as_explained steps.net log steps.steps best given) in
        omega (arith, found.1, tells));
    given = (given, more);
    unknown = tt;
  }

  pub absent_found : IsRefusal code counter steps.net log steps.steps None begun since → IsAbsentFound (whole_meanings steps code counter) begun since steps.net log steps.steps
  absent_found refusal = record { absent = refusal.decided; evidence = evidence None refusal.assumed refusal.assumptions refusal.refuted }

  -- where nothing is known, and learnt entries alone were put
  pub nothing_found : (budget : ℕ) → count_by is_learnt since ≡ budget → list_all is_learnt since ≡ true →
      IsUndecidedFound (whole_meanings steps code counter) begun since steps.net log steps.steps budget 0 None
  nothing_found budget spent all_learnt = record {
    spent = spent;
    above = λ word order explains. omega arith;
    evidence = λ b none. cc;
    greatest = λ b assumed reads has. absurd (no_final_in since has.clause has.hints (learnt_no_final since all_learnt) has.there);
    given = tt;
    unknown = (refl, all_learnt);
  }

-- ---- what the search answers

module _ (steps : CodedSteps) (code : CodedLog) (counter : CounterState) (vars : ℕ) (net : Net) (log : Log) (first book : List BookEntry) (parts : AreParts steps code counter vars (axioms_of book))
    (of_net : steps.net ≡ net) (network : IsNetwork net) (valid : IsValidLog log) (same : code.log ≡ log) (budget : ℕ) (begun : BuiltQuestion) (at_first : begun.axioms ≡ axioms_of first) where
  own : IsNetwork steps.net
  own = subst IsNetwork (sym of_net) network

  found_as : (answer : Found) → HasFound (whole_meanings steps code counter) begun steps.net log steps.steps budget first book answer → HasFound (whole_meanings steps code counter) begun net log steps.steps budget first book answer
  found_as answer = subst (λ net'. HasFound (whole_meanings steps code counter) begun net' log steps.steps budget first book answer) of_net

  back : (k left : ℕ) → HasComeToBy code counter begun net log steps.steps k first book budget left → HasComeToBy code counter begun steps.net log steps.steps k first book budget left
  back k left = subst (λ net'. HasComeToBy code counter begun net' log steps.steps k first book budget left) (sym of_net)

  given_back : (best : Best) → IsExplanation net log steps.steps best → IsExplanation steps.net log steps.steps best
  given_back best = subst (λ net'. IsExplanation net' log steps.steps best) (sym of_net)

  -- what is assumed at a conflict poses the question
  at_conflict : (bound : Option ℕ) (left : ℕ) → IsStopped code counter bound book left → HasConflict (whole_meanings steps code counter) book steps.net log steps.steps bound
  at_conflict bound left stopped = record {
    assumed = stopped.assumed;
    posed = poses steps code counter vars (axioms_of book) bound stopped.assumed parts stopped.assumptions log own valid same;
    clashes = stopped.clashes;
  }

  -- what is assumed reads as the guards and the bound
  negates_assumed : (bound : Option ℕ) (assumed : List Lit) (clause : Clause) → AreAssumptions code counter bound assumed → NegatesOnly assumed clause → NegatesAssumed (whole_meanings steps code counter) steps.net log steps.steps clause
  negates_assumed bound assumed clause assumptions negates = record {
    bound = bound;
    assumed = assumed;
    assumes = (poses steps code counter vars (axioms_of book) bound assumed parts assumptions log own valid same).assumes;
    negates = negates;
  }

  abbrev Negates : Clause → Type 0
  Negates = NegatesAssumed (whole_meanings steps code counter) steps.net log steps.steps

  finals_below : (k : ℕ) (since : List BookEntry) → EachFinal (NegatesBelow code counter k) since → EachFinal Negates since
  finals_below k since finals clause hints there = let found = finals clause hints there in negates_assumed (Some found.0) found.2 clause found.3 found.4

  finals_put : (bound : Option ℕ) (since : List BookEntry) (what : Asked) → ArePut code counter bound since what → EachFinal Negates since
  finals_put bound since what put clause hints there = let found = put.finals clause hints there in negates_assumed bound found.0 clause found.1 found.2

  with_found : (left : ℕ) (searching : IsSearching first book budget left) (answer : Found) → EachFinal Negates searching.since → count_by is_final searching.since ≤ 256 → HasConflictFor (whole_meanings steps code counter) book steps.net log steps.steps answer →
      IsFound (whole_meanings steps code counter) begun searching.since steps.net log steps.steps budget answer → HasFound (whole_meanings steps code counter) begun net log steps.steps budget first book answer
  with_found left searching answer finals few conflict is = found_as answer (record { put = leaves_searched Negates 256 budget left first book searching finals few; found = is; conflict = conflict })

  nothing_left : (count left : ℕ) → count + left ≡ budget → left ≡ 0 → count ≡ budget
  nothing_left count left paid none = omega (arith, paid, none)

  pub answers_least : (k left : ℕ) (best : Best) → k ≤ MOST_FAULTS → HasComeToBy code counter begun net log steps.steps k first book budget left → IsExplanation net log steps.steps best → best.faults ≤ k →
      HasFound (whole_meanings steps code counter) begun net log steps.steps budget first book (Explained best)
  answers_least k left best small come given within =
      let here = back k left come in
      with_found left here.searching (Explained best) (finals_below k here.searching.since here.finals) (omega (arith, here.few, small)) tt
      (least_found steps code counter vars log first book here.searching.since here.searching.whole parts own valid same begun at_first k best small here.below here.needs (given_back best given) within)

  pub answers_many : (left : ℕ) (best : Best) → HasComeToBy code counter begun net log steps.steps 256 first book budget left → IsExplanation net log steps.steps best →
      HasFound (whole_meanings steps code counter) begun net log steps.steps budget first book (Many best)
  answers_many left best come given =
      let here = back 256 left come in
      with_found left here.searching (Many best) (finals_below 256 here.searching.since here.finals) here.few tt
      (many_found steps code counter vars log first book here.searching.since here.searching.whole parts own valid same begun at_first best here.below here.needs (given_back best given))

  pub answers_undecided : (k : ℕ) (best : Best) → k ≤ MOST_FAULTS → IsValidBook book → HasComeToBy code counter begun net log steps.steps k first book budget 0 → IsStopped code counter (Some k) book 0 → IsExplanation net log steps.steps best → k < best.faults →
      HasFound (whole_meanings steps code counter) begun net log steps.steps budget first book (Undecided k (Some best))
  answers_undecided k best small whole come stopped given more =
      let here = back k 0 come in
      with_found 0 here.searching (Undecided k (Some best)) (finals_below k here.searching.since here.finals) (omega (arith, here.few, small)) (at_conflict (Some k) 0 stopped)
      (undecided_found steps code counter vars log first book here.searching.since here.searching.whole parts own valid same begun at_first k budget best whole (omega (arith, here.searching.paid)) here.finals here.below here.needs (given_back best given) more)

  pub answers_absent : (left : ℕ) → HasAskedBy code counter begun net log steps.steps None first book budget left asked.Refuted → HasFound (whole_meanings steps code counter) begun net log steps.steps budget first book Absent
  answers_absent left asked' =
      let here = subst (λ net'. HasAskedBy code counter begun net' log steps.steps None first book budget left asked.Refuted) (sym of_net) asked' in
      with_found left here.searching Absent (finals_put None here.searching.since asked.Refuted here.put) (omega (arith, here.put.few)) tt
      (absent_found steps code counter vars log first book here.searching.since here.searching.whole parts own valid same begun at_first here.means)

  pub answers_nothing : (left : ℕ) → HasAskedBy code counter begun net log steps.steps None first book budget left asked.Spent → HasFound (whole_meanings steps code counter) begun net log steps.steps budget first book (Undecided 0 None)
  answers_nothing left asked' =
      with_found left asked'.searching (Undecided 0 None) (finals_put None asked'.searching.since asked.Spent asked'.put) (omega (arith, asked'.put.few)) (at_conflict None left asked'.means)
      (nothing_found steps code counter vars log first book asked'.searching.since asked'.searching.whole parts own valid same begun at_first budget (nothing_left (count_by is_learnt asked'.searching.since) left asked'.searching.paid asked'.means.nothing) (asked'.put.unbounded spent_not))

  -- if memory runs out at a bound, the final entries are those that refute the bounds below
  pub refuses : (old : CounterState) (k left : ℕ) (mid : List BookEntry) → k ≤ 256 → KeepsColumns old counter → HasComeToBy code old begun net log steps.steps k first mid budget left → PutsNoFinal mid book → HasRefused (whole_meanings steps code counter) net log steps.steps first book
  refuses old k left mid small keeps come quit = subst (λ net'. HasRefused (whole_meanings steps code counter) net' log steps.steps first book) of_net (finals_before Negates 256 first mid book (record {
    since = come.searching.since;
    whole = come.searching.whole;
    finals = finals_below k come.searching.since (negates_still code old counter k k come.searching.since keeps (omega arith) come.finals);
    few = (let few = come.few in omega (arith, few, small));
  }) quit)
