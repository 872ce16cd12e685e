-- From the entries of a search to those of a whole answer: what came before, and the marks.
use Rattle.std.proofs.Common.{◌≡◌, ◌∙◌, ℕ, ◌+◌, ◌-◌, true, ◌&&◌, inr, List, [], ◌∷◌, ◌++◌, length, Option, None, Some, IfNone, sym, ap, subst, arith, count_by, append-nil, append_assoc, ◌≤◌, refl}
use Rattle.std.proofs.lemmas.List.Elements.{filter_map-append}
use Rattle.std.proofs.lemmas.List.Folds.{list_all-append}
use Rattle.std.specs.List.{AllByRecursion, list_all}
use Rattle.des_base.proofs.Elements.{all_append, all_change, all_split}
use Rattle.des_net.specs.Network.{Net}
use Rattle.least_faults.proofs.ColumnsBuilt.{vars_grow, within_none}
use Rattle.sat_solve.proofs.Freshness.{fresh_both, fresh_mark, fresh_none, known_same}
use Rattle.least_faults.proofs.KnownVariables.{known_back, known_joined}
use Rattle.least_faults.proofs.Staying.{kept_by_axioms, with_axioms}
use Rattle.answers.specs.declared.found.Best.{Best}
use Rattle.answers.specs.declared.found.Found.{Found}
use Rattle.answers.specs.declared.found.Found.TheVariants.{Explained, Absent, Many, Undecided}
use Rattle.least_faults.specs.Answers.{asked_last, HasConflictFor, IsFound, IsAnswered, IsOpenAtMost}
use Rattle.least_faults.specs.Ascending.{HasFound, HasRefused}
use Rattle.least_faults.specs.Columns.{built_within, columns_for}
use Rattle.least_faults.specs.Evidence.{IsEvidence, IsPosed, NegatesAssumed}
use Rattle.least_faults.specs.Parts.{AreParts, AreReady, built_of}
use Rattle.log_order.specs.Log.{Log}
use Rattle.proof_ledger.specs.Book.{BookEntry, final, mark, clauses_of, axiom_of, axioms_of}
use Rattle.proof_ledger.specs.Fresh.{is_learnt}
use Rattle.prop_core.specs.Clauses.{Clause, HasValues}
use Rattle.prop_core.specs.Trail.{Clashes}
use Rattle.replay.specs.QuestionSize.{variable_bound}
use Rattle.run_decode.specs.QuestionAxioms.{BuiltQuestion}
use Rattle.prop_core.specs.VariableNames.{Meaning}
use Rattle.prop_core.specs.declared.lit.Lit.{Lit}
use Rattle.least_faults.specs.declared.parts.Parts.{Parts}
use Rattle.sat_solve.specs.Leaving.{IsSearching}
use Rattle.least_faults.specs.Growing.{HasGrownWithin, KeepsQuestion}
use Rattle.proof_ledger.proofs.AxiomLists.{marked_axioms, marked_clauses}
use Rattle.prop_core.proofs.Literals.{wider}
use Rattle.sat_solve.proofs.Entries.{learnt_no_axioms, learnt_no_final, counted_both}
use Rattle.sat_solve.proofs.Leaving.{final_later, last_later, leaves_both, leaves_later, leaves_open, leaves_closed}
use Rattle.replay.specs.declared.TheConstants.{MOST_FAULTS}

-- the axioms are the same where learnt entries came before
same_front : (first : List Clause) (front entries : List BookEntry) → list_all is_learnt front ≡ true → first ++ axioms_of entries ≡ first ++ axioms_of (front ++ entries)
same_front first front entries all_learnt = ap (λ cs. first ++ cs) (sym (filter_map-append axiom_of front entries ∙ ap (λ cs. cs ++ axioms_of entries) (learnt_no_axioms front all_learnt)))

evidence_later : (names : List (ℕ × Meaning)) (first : BuiltQuestion) (front since : List BookEntry) (net : Net) (log : Log) (n : ℕ) (bound : Option ℕ) → list_all is_learnt front ≡ true → AllByRecursion (HasValues first.vars) (clauses_of front) → IsEvidence names first since net log n bound →
    IsEvidence names first (front ++ since) net log n bound
evidence_later names first front since net log n bound all_learnt front_known shown = record {
  assumed = shown.assumed;
  refuted = last_later front since shown.assumed shown.refuted;
  listed = sym (same_front first.axioms front shown.refuted.earlier all_learnt) ∙ shown.listed;
  known = all_append (HasValues most) first.axioms (clauses_of ((front ++ shown.refuted.earlier) ++ last)) both_known.0
      (subst (λ es. AllByRecursion (HasValues most) (clauses_of es)) (sym (append_assoc front shown.refuted.earlier last)) (known_joined most front (shown.refuted.earlier ++ last) grown both_known.1));
  known_assumed = shown.known_assumed;
  posed_before = subst (λ cs. IsPosed names cs shown.assumed net log n bound) (same_front first.axioms front shown.refuted.earlier all_learnt) shown.posed_before;
  posed = subst (λ cs. IsPosed names cs shown.assumed net log n bound) (same_front first.axioms front since all_learnt) shown.posed;
}
  where
    most : ℕ
    most = (built_within first bound).vars

    last : List BookEntry
    last = final shown.refuted.clause shown.refuted.hints ∷ []

    both_known : AllByRecursion (HasValues most) first.axioms × AllByRecursion (HasValues most) (clauses_of (shown.refuted.earlier ++ last))
    both_known = all_split (HasValues most) first.axioms (clauses_of (shown.refuted.earlier ++ last)) shown.known

    grown : AllByRecursion (HasValues most) (clauses_of front)
    grown = all_change (HasValues first.vars) (HasValues most) (clauses_of front) (λ clause low. wider first.vars most clause (vars_grow first (columns_for bound - length first.counter.columns)) low) front_known

-- what was found holds too where learnt entries came before
is_found_later : (names : List (ℕ × Meaning)) (first : BuiltQuestion) (front since : List BookEntry) (net : Net) (log : Log) (n budget left : ℕ) (answer : Found) → list_all is_learnt front ≡ true → AllByRecursion (HasValues first.vars) (clauses_of front) → count_by is_learnt front + left ≡ budget →
    IsFound names first since net log n left answer → IsFound names first (front ++ since) net log n budget answer
is_found_later names first front since net log n budget left (Explained best) all_learnt known paid is =
    record { given = is.given; few = is.few; least = is.least; evidence = λ b faults. evidence_later names first front since net log n (Some b) all_learnt known (is.evidence b faults) }
is_found_later names first front since net log n budget left Absent all_learnt known paid is = record { absent = is.absent; evidence = evidence_later names first front since net log n None all_learnt known is.evidence }
is_found_later names first front since net log n budget left (Many best) all_learnt known paid is =
    record { given = is.given; above = is.above; many = is.many; evidence = evidence_later names first front since net log n (Some MOST_FAULTS) all_learnt known is.evidence }
is_found_later names first front since net log n budget left (Undecided lo best) all_learnt known paid is = record {
  spent = counted_both is_learnt front since ∙ (let rest = is.spent in omega (arith, rest, paid));
  above = is.above;
  evidence = λ b faults. evidence_later names first front since net log n (Some b) all_learnt known (is.evidence b faults);
  greatest = λ b assumed reads has. is.greatest b assumed reads (final_later front since assumed (learnt_no_final front all_learnt) has);
  given = is.given;
  unknown = none best is.unknown;
}
  where
    none : (o : Option Best) → IfNone o ((lo ≡ 0) × (list_all is_learnt since ≡ true)) → IfNone o ((lo ≡ 0) × (list_all is_learnt (front ++ since) ≡ true))
    none None alone = (alone.0, list_all-append is_learnt front since ∙ ap (λ b. b && list_all is_learnt since) all_learnt ∙ alone.1)
    none (Some run) alone = tt

pub found_later : (names : List (ℕ × Meaning)) (begun now : BuiltQuestion) (net : Net) (log : Log) (n budget left : ℕ) (old mid new : List BookEntry) (answer : Found) → now ≡ begun → AllByRecursion (HasValues (built_within begun None).vars) (clauses_of mid) →
    (searching : IsSearching old mid budget left) → list_all is_learnt searching.since ≡ true → HasFound names now net log n left mid new answer → HasFound names begun net log n budget old new answer
found_later names begun now net log n budget left old mid new answer same mid_known searching all_learnt found = record {
  put = leaves_later (NegatesAssumed names net log n) 256 budget left old mid new searching (learnt_no_final searching.since all_learnt) found.put;
  conflict = found.conflict;
  found = is_found_later names begun searching.since found.put.since net log n budget left answer all_learnt front_known searching.paid (subst (λ (first : BuiltQuestion). IsFound names first found.put.since net log n left answer) same found.found);
}
  where
    front_known : AllByRecursion (HasValues begun.vars) (clauses_of searching.since)
    front_known = known_back begun.vars old searching.since
        (subst (λ es. AllByRecursion (HasValues begun.vars) (clauses_of es)) searching.whole (subst (λ (question : BuiltQuestion). AllByRecursion (HasValues question.vars) (clauses_of mid)) (within_none begun) mid_known))

-- ---- marks

pub marked_ready : {R : Type 0} (may : R → ℕ → Type 0) (gives : R → ℕ → ℕ → Type 0) (parts : Parts R) (number : ℕ) (book new : List BookEntry) → new ≡ book ++ mark number ∷ [] → AreReady may gives parts book → AreReady may gives parts new
marked_ready may gives parts number book new is ready = record {
  coded = subst (AreParts parts.step parts.code.coded parts.counter parts.vars) (sym (ap axioms_of is ∙ marked_axioms book number)) ready.coded;
  adopted_all = ready.adopted_all ∙ sym (ap clauses_of is ∙ marked_clauses book number);
  known = known_same book new (ap clauses_of is ∙ marked_clauses book number) (ap axioms_of is ∙ marked_axioms book number) ready.known;
  enough = ready.enough;
  ranked = ready.ranked;
}

-- a mark changes nothing of what is built
pub opened_same : {R : Type 0} (parts : Parts R) (book opened : List BookEntry) → opened ≡ book ++ mark 0 ∷ [] → built_of parts opened ≡ built_of parts book
opened_same parts book opened begins = ap (with_axioms parts) (ap axioms_of begins ∙ marked_axioms book 0)

pub kept_opened : {R : Type 0} (old new : Parts R) (book opened searched : List BookEntry) → opened ≡ book ++ mark 0 ∷ [] → KeepsQuestion old new opened searched → KeepsQuestion old new book searched
kept_opened old new book opened searched begins = kept_by_axioms old new book opened searched searched (sym (ap axioms_of begins ∙ marked_axioms book 0)) refl

pub kept_closed : {R : Type 0} (old new : Parts R) (book searched closed : List BookEntry) → closed ≡ searched ++ mark 1 ∷ [] → KeepsQuestion old new book searched → KeepsQuestion old new book closed
kept_closed old new book searched closed ends = kept_by_axioms old new book book searched closed refl (ap axioms_of ends ∙ marked_axioms searched 1)

-- ---- no more learnt clauses than the budget says, each of them fresh

pub grown_not : (budget : ℕ) (old : List BookEntry) → HasGrownWithin budget old old
grown_not budget old = record { since = []; whole = sym (append-nil old); within = omega arith; fresh = fresh_none old }

pub grown_opened : (budget left : ℕ) (old opened searched : List BookEntry) → opened ≡ old ++ mark 0 ∷ [] → IsSearching opened searched budget left → HasGrownWithin budget old searched
grown_opened budget left old opened searched begins searching = record {
  since = mark 0 ∷ searching.since;
  whole = searching.whole ∙ ap (λ b. b ++ searching.since) begins ∙ append_assoc old (mark 0 ∷ []) searching.since;
  within = (let paid = searching.paid in let one = counted_both is_learnt (mark 0 ∷ []) searching.since in omega (arith, paid, one));
  fresh = fresh_both old opened (mark 0 ∷ []) searching.since begins (fresh_mark old 0) searching.fresh;
}

pub grown_closed : (budget : ℕ) (old searched new : List BookEntry) → new ≡ searched ++ mark 1 ∷ [] → HasGrownWithin budget old searched → HasGrownWithin budget old new
grown_closed budget old searched new ends grown = record {
  since = grown.since ++ mark 1 ∷ [];
  whole = ends ∙ ap (λ b. b ++ mark 1 ∷ []) grown.whole ∙ append_assoc old grown.since (mark 1 ∷ []);
  within = (let less = grown.within in let more = counted_both is_learnt grown.since (mark 1 ∷ []) in omega (arith, less, more));
  fresh = fresh_both old searched grown.since (mark 1 ∷ []) grown.whole grown.fresh (fresh_mark searched 1);
}

-- a conflict stays one
conflict_closed : (names : List (ℕ × Meaning)) (book new : List BookEntry) (number : ℕ) (net : Net) (log : Log) (n : ℕ) (answer : Found) → new ≡ book ++ mark number ∷ [] → HasConflictFor names book net log n answer → HasConflictFor names new net log n answer
conflict_closed names book new number net log n (Explained best) is has = tt
conflict_closed names book new number net log n Absent is has = tt
conflict_closed names book new number net log n (Many best) is has = tt
conflict_closed names book new number net log n (Undecided lo best) is has = record {
  assumed = has.assumed;
  posed = subst (λ axioms. IsPosed names axioms has.assumed net log n (asked_last lo best)) (sym (ap axioms_of is ∙ marked_axioms book number)) has.posed;
  clashes = subst (λ clauses. Clashes clauses has.assumed) (sym (ap clauses_of is ∙ marked_clauses book number)) has.clashes;
}

-- a search between marks is an answer
pub answered : (names : List (ℕ × Meaning)) (begun now : BuiltQuestion) (net : Net) (log : Log) (n budget : ℕ) (old opened searched new : List BookEntry) (answer : Found) → begun.axioms ≡ axioms_of old → now ≡ begun → opened ≡ old ++ mark 0 ∷ [] → new ≡ searched ++ mark 1 ∷ [] →
    length names ≤ variable_bound net log n → ((assumed : List Lit) × IsPosed names (axioms_of searched) assumed net log n None) → HasFound names now net log n budget opened searched answer → IsAnswered names begun net log n budget old new answer
answered names begun now net log n budget old opened searched new answer at_first same begins ends few asks found = record {
  begun = at_first;
  left = leaves_closed (NegatesAssumed names net log n) (NegatesAssumed names net log n) 256 budget old opened searched new begins ends (λ clause negates. negates) found.put;
  few = few;
  conflict = conflict_closed names searched new 1 net log n answer ends found.conflict;
  asks = (asks.0, subst (λ axioms. IsPosed names axioms asks.0 net log n None) (sym (ap axioms_of ends ∙ marked_axioms searched 1)) asks.1);
  found = subst (λ (first : BuiltQuestion). IsFound names first found.put.since net log n budget answer) same found.found;
}

-- a search behind the opening mark that has no answer leaves the question open
pub left_open : (names : List (ℕ × Meaning)) (net : Net) (log : Log) (n budget left : ℕ) (old opened searched : List BookEntry) → opened ≡ old ++ mark 0 ∷ [] → length names ≤ variable_bound net log n → ((assumed : List Lit) × IsPosed names (axioms_of searched) assumed net log n None) →
    IsSearching opened searched budget left → HasRefused names net log n opened searched → IsOpenAtMost names net log n budget old searched
left_open names net log n budget left old opened searched begins few asks searching refused = inr (record {
  left = leaves_open (NegatesAssumed names net log n) 256 budget old opened searched begins (leaves_both (NegatesAssumed names net log n) 256 budget left opened searched searching refused);
  few = few;
  asks = asks;
})
