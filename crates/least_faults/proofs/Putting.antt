-- What a question puts into a book: no marks, a number of learnt entries, and at most one final one.
use Rattle.std.proofs.Common.{◌≡◌, ◌∙◌, ℕ, true, false, List, [], ◌∷◌, ◌++◌, sym, ap, subst, append-nil, append_assoc, Option}
use Rattle.std.proofs.lemmas.List.Elements.{filter_map-append}
use Rattle.std.specs.List.{AllByRecursion, list_any, list_all}
use Rattle.des_base.proofs.Elements.{all_append, all_split}
use Rattle.least_faults.proofs.KnownVariables.{known_joined}
use Rattle.least_faults.specs.Columns.{built_within}
use Rattle.least_faults.specs.Evidence.{is_final, IsRefutation}
use Rattle.proof_ledger.specs.Book.{BookEntry, final, axiom_of, axioms_of, clauses_of}
use Rattle.proof_ledger.specs.Fresh.{is_learnt}
use Rattle.prop_core.specs.Clauses.{HasValues}
use Rattle.prop_core.specs.declared.lit.Lit.{Lit}
use Rattle.des_net.specs.Network.{Net}
use Rattle.log_order.specs.Log.{Log}
use Rattle.run_decode.specs.Faithful.{IsFaithful}
use Rattle.run_decode.specs.QuestionAxioms.{BuiltQuestion}
use Rattle.sat_solve.proofs.Entries.{learnt_no_axioms}
use Rattle.sat_solve.proofs.Leaving.{last_before, last_later}

-- ---- axioms

-- the axioms before an entry, those of an earlier book and those since
pub axioms_further : (first mid front earlier : List BookEntry) → mid ≡ first ++ front → axioms_of mid ++ axioms_of earlier ≡ axioms_of first ++ axioms_of (front ++ earlier)
axioms_further first mid front earlier whole =
    ap (λ cs. cs ++ axioms_of earlier) (ap axioms_of whole ∙ filter_map-append axiom_of first front)
    ∙ append_assoc (axioms_of first) (axioms_of front) (axioms_of earlier)
    ∙ ap (λ cs. axioms_of first ++ cs) (sym (filter_map-append axiom_of front earlier))

pub axioms_with_learnt : (first mid front learnt' : List BookEntry) → mid ≡ first ++ front → list_all is_learnt learnt' ≡ true → axioms_of first ++ axioms_of (front ++ learnt') ≡ axioms_of mid
axioms_with_learnt first mid front learnt' whole all_learnt = sym (axioms_further first mid front learnt' whole) ∙ ap (λ cs. axioms_of mid ++ cs) (learnt_no_axioms learnt' all_learnt) ∙ append-nil (axioms_of mid)

-- ---- the last final entry

pub refutation_before : (first : BuiltQuestion) (since more : List BookEntry) (net : Net) (log : Log) (n : ℕ) (bound : Option ℕ) (assumed : List Lit) → list_any is_final more ≡ false → IsRefutation first since net log n bound assumed →
    IsRefutation first (since ++ more) net log n bound assumed
refutation_before first since more net log n bound assumed none last = record {
  refuted = last_before since more assumed none last.refuted;
  listed = last.listed;
  known = last.known;
  known_assumed = last.known_assumed;
  faithful = last.faithful;
}

-- the same since an earlier moment, from which to this one the question got columns that the bound needs, and nothing else
pub refutation_behind : (begun now : BuiltQuestion) (first mid front since : List BookEntry) (net : Net) (log : Log) (n : ℕ) (bound : Option ℕ) (assumed : List Lit) → begun.axioms ≡ axioms_of first → now.axioms ≡ axioms_of mid →
    built_within now bound ≡ built_within begun bound → AllByRecursion (HasValues (built_within now bound).vars) (clauses_of front) → mid ≡ first ++ front → IsRefutation now since net log n bound assumed → IsRefutation begun (front ++ since) net log n bound assumed
refutation_behind begun now first mid front since net log n bound assumed at_first at_mid same front_known whole last = record {
  refuted = last_later front since assumed last.refuted;
  listed = sym further ∙ last.listed ∙ ap (λ (question : BuiltQuestion). question.axioms) same;
  known = subst (λ (question : BuiltQuestion). AllByRecursion (HasValues question.vars) (begun.axioms ++ clauses_of ((front ++ last.refuted.earlier) ++ final last.refuted.clause last.refuted.hints ∷ []))) same
      (all_append (HasValues vars) begun.axioms (clauses_of ((front ++ last.refuted.earlier) ++ final last.refuted.clause last.refuted.hints ∷ [])) first_known
      (subst (λ es. AllByRecursion (HasValues vars) (clauses_of es)) (sym (append_assoc front last.refuted.earlier (final last.refuted.clause last.refuted.hints ∷ [])))
      (known_joined vars front (last.refuted.earlier ++ final last.refuted.clause last.refuted.hints ∷ []) front_known both_known.1)));
  known_assumed = subst (λ (question : BuiltQuestion). HasValues question.vars assumed) same last.known_assumed;
  faithful = subst (λ axioms. IsFaithful axioms assumed net log n bound) further last.faithful;
}
  where
    vars : ℕ
    vars = (built_within now bound).vars

    both_known : AllByRecursion (HasValues vars) now.axioms × AllByRecursion (HasValues vars) (clauses_of (last.refuted.earlier ++ final last.refuted.clause last.refuted.hints ∷ []))
    both_known = all_split (HasValues vars) now.axioms (clauses_of (last.refuted.earlier ++ final last.refuted.clause last.refuted.hints ∷ [])) last.known

    first_known : AllByRecursion (HasValues vars) begun.axioms
    first_known = (all_split (HasValues vars) begun.axioms (axioms_of front)
        (subst (AllByRecursion (HasValues vars)) (at_mid ∙ ap axioms_of whole ∙ filter_map-append axiom_of first front ∙ ap (λ cs. cs ++ axioms_of front) (sym at_first)) both_known.0)).0

    further : now.axioms ++ axioms_of last.refuted.earlier ≡ begun.axioms ++ axioms_of (front ++ last.refuted.earlier)
    further = ap (λ cs. cs ++ axioms_of last.refuted.earlier) at_mid ∙ axioms_further first mid front last.refuted.earlier whole ∙ ap (λ cs. cs ++ axioms_of (front ++ last.refuted.earlier)) (sym at_first)
