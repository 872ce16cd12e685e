-- The refutation that a book holds checks.
use Rattle.std.proofs.Common.{◌≡◌, ◌∙◌, ℕ, zero, suc, ◌+◌, ◌-◌, ◌==◌, Bool, true, false, cond, ◌&&◌, List, [], ◌∷◌, ◌++◌, map, length, Option, None, Some, slice_get, take, refl, sym, ap, subst, arith, Contains, append-nil, append_assoc, length-append}
use Rattle.des_base.proofs.BoolLemmas.{differ, or_left, or_right}
use Rattle.std.specs.Prelude.{⊤, slice_index_or}
use Rattle.std.specs.List.{AllByRecursion, list_all, range_with_len}
use Rattle.std.proofs.lemmas.List.{length-map}
use Rattle.std.proofs.lemmas.List.Elements.{filter_map-append}
use Rattle.std.proofs.lemmas.List.Folds.{list_any-append}
use Rattle.std.proofs.lemmas.Bool.{eqb-true, eq-eqb}
use Rattle.prop_core.specs.declared.lit.Lit.{Lit}
use Rattle.prop_core.specs.Clauses.{Clause, negation, same_literal, is_true, is_false, NegatesOnly}
use Rattle.prop_core.specs.Derivation.{Standing, falsified, satisfied, unit, wide, standing, after_standing, after_hint, two_open, hints_end, follow, Derivation, derives, fails, derive, clause_numbered}
use Rattle.prop_core.proofs.Following.{follow-falsified, follow-satisfied, follow-unit, follow_ended}
use Rattle.prop_core.proofs.Entailed.{same_itself}
use Rattle.proof_ledger.specs.Book.{BookEntry, axiomatic, learnt, final, mark, axiom_of, clause_of, axioms_of, clauses_of, EachAfter, IsDerivedIfDue, IsValidBook}
use Rattle.proof_ledger.specs.Checking.{with_clause, is_empty_clause, answered, holds, after_add, after_step, check_from, check_proof}
use Rattle.proof_ledger.specs.declared.checker.ProofStep.{ProofStep}
use Rattle.proof_ledger.specs.declared.checker.ProofStep.TheVariants.{Add}
use Rattle.proof_ledger.specs.declared.checker.Checked.TheVariants.{Verified}
use Rattle.proof_ledger.proofs.Checks.{held_same, numbered-suc}
use Rattle.proof_text.proofs.Fronts.{front_ends}
use Rattle.proof_text.specs.Refutation.{unit_clauses, refuted_formula, numbers_from, new_number, derived_of, derived_steps, steps_behind, refutation_steps, EndsIn, front_to, RefutationsCheck}

-- ---- numbers of clauses

abbrev IsAt : List Clause → ℕ → Clause → Type 0
IsAt clauses number clause = clause_numbered clauses number ≡ Some clause

get_front : (xs ys : List Clause) (i : ℕ) (c : Clause) → slice_get xs i ≡ Some c → slice_get (xs ++ ys) i ≡ Some c
get_front [] ys i c h = cc
get_front (x ∷ xs) ys zero c h = h
get_front (x ∷ xs) ys (suc i) c h = get_front xs ys i c h

get_seam : (xs : List Clause) (c : Clause) (ys : List Clause) → slice_get (xs ++ c ∷ ys) (length xs) ≡ Some c
get_seam [] c ys = refl
get_seam (x ∷ xs) c ys = get_seam xs c ys

at_front : (xs ys : List Clause) (n : ℕ) (c : Clause) → IsAt xs n c → IsAt (xs ++ ys) n c
at_front xs ys zero c h = cc
at_front xs ys (suc i) c h = numbered-suc (xs ++ ys) i ∙ get_front xs ys i c (sym (numbered-suc xs i) ∙ h)

at_seam : (xs : List Clause) (c : Clause) (ys : List Clause) → IsAt (xs ++ c ∷ ys) (length xs + 1) c
at_seam xs c ys = let next : suc (length xs) ≡ length xs + 1 = omega arith in subst (λ n. IsAt (xs ++ c ∷ ys) n c) next (numbered-suc (xs ++ c ∷ ys) (length xs) ∙ get_seam xs c ys)

-- the numbers are those of the clauses
abbrev AreAt : List Clause → List ℕ → List Clause → Type 0
AreAt xs [] [] = ⊤
AreAt xs [] (c ∷ cs) = ⊥
AreAt xs (n ∷ ns) [] = ⊥
AreAt xs (n ∷ ns) (c ∷ cs) = IsAt xs n c × AreAt xs ns cs

at_later : (xs ys : List Clause) (ns : List ℕ) (cs : List Clause) → AreAt xs ns cs → AreAt (xs ++ ys) ns cs
at_later xs ys [] [] h = tt
at_later xs ys [] (c ∷ cs) h = h
at_later xs ys (n ∷ ns) [] h = h
at_later xs ys (n ∷ ns) (c ∷ cs) h = (at_front xs ys n c h.0, at_later xs ys ns cs h.1)

at_push : (xs : List Clause) (ns : List ℕ) (cs : List Clause) (n : ℕ) (c : Clause) → AreAt xs ns cs → IsAt xs n c → AreAt xs (ns ++ n ∷ []) (cs ++ c ∷ [])
at_push xs [] [] n c h is = (is, tt)
at_push xs [] (d ∷ cs) n c h is = absurd h
at_push xs (m ∷ ns) [] n c h is = absurd h
at_push xs (m ∷ ns) (d ∷ cs) n c h is = (h.0, at_push xs ns cs n c h.1 is)

number_at : (xs : List Clause) (ns more : List ℕ) (cs : List Clause) (i : ℕ) (c : Clause) → AreAt xs ns cs → slice_get cs i ≡ Some c → IsAt xs (slice_index_or (ns ++ more) i 1) c
number_at xs [] more [] i c h is = cc
number_at xs [] more (d ∷ cs) i c h is = absurd h
number_at xs (n ∷ ns) more [] i c h is = absurd h
number_at xs (n ∷ ns) more (d ∷ cs) zero c h is = h.0 ∙ is
number_at xs (n ∷ ns) more (d ∷ cs) (suc i) c h is = number_at xs ns more cs i c h.1 is

renumbered : (xs : List Clause) (ns more : List ℕ) (cs : List Clause) (n : ℕ) (c : Clause) → AreAt xs ns cs → IsAt cs n c → IsAt xs (new_number (ns ++ more) n) c
renumbered xs ns more cs zero c h is = cc
renumbered xs ns more cs (suc i) c h is =
    let one : suc i - 1 ≡ i = omega arith in
    subst (λ j. IsAt xs (slice_index_or (ns ++ more) j 1) c) (sym one) (number_at xs ns more cs i c h (sym (numbered-suc cs i) ∙ is))

-- ---- hints by other numbers

failed : (a b : ℕ) (d : Derivation) → d ≡ fails a b → d ≡ derives → ⊥
failed a b d is other = cc

module _ (held kept : ℕ → Option Clause) (f : ℕ → ℕ) (same : (n : ℕ) (c : Clause) → held n ≡ Some c → kept (f n) ≡ Some c) where
  pub carried : (taken : List Lit) (at : ℕ) (hints : List ℕ) → follow held taken at hints ≡ derives → follow kept taken at (map f hints) ≡ derives
  carried taken at [] h = absurd (failed at hints_end (follow held taken at []) refl h)
  carried taken at (hint ∷ hints) h = by (held hint) refl (λ now. carried now (at + 1) hints)
    where
      by_standing : (c : Clause) (s : Standing) → held hint ≡ Some c → standing taken c ≡ s → ((now : List Lit) → follow held now (at + 1) hints ≡ derives → follow kept now (at + 1) (map f hints) ≡ derives) → follow kept taken at (f hint ∷ map f hints) ≡ derives
      by_standing c falsified is st later = follow-falsified kept taken at (f hint) (map f hints) c (same hint c is) st
      by_standing c satisfied is st later =
          follow-satisfied kept taken at (f hint) (map f hints) c (same hint c is) st
          ∙ later taken (sym (follow-satisfied held taken at hint hints c is st) ∙ h)
      by_standing c (unit l) is st later =
          follow-unit kept taken at (f hint) (map f hints) c l (same hint c is) st
          ∙ later (taken ++ l ∷ []) (sym (follow-unit held taken at hint hints c l is st) ∙ h)
      by_standing c wide is st later =
          absurd (failed at two_open (follow held taken at (hint ∷ hints)) (follow_ended held taken at hint hints (fails at two_open) (ap (after_hint taken at) is ∙ ap (after_standing taken at) st)) h)

      by : (o : Option Clause) → held hint ≡ o → ((now : List Lit) → follow held now (at + 1) hints ≡ derives → follow kept now (at + 1) (map f hints) ≡ derives) → follow kept taken at (f hint ∷ map f hints) ≡ derives
      by None is later = absurd (failed at 1 (follow held taken at (hint ∷ hints)) (follow_ended held taken at hint hints (fails at 1) (ap (after_hint taken at) is)) h)
      by (Some c) is later = by_standing c (standing taken c) is refl later

-- ---- one more clause

one_more : (xs : List Clause) (c : Clause) → with_clause (clause_numbered xs) (length xs + 1) c ≡ clause_numbered (xs ++ c ∷ [])
one_more xs c = held_same (with_clause (clause_numbered xs) (length xs + 1) c) (clause_numbered (xs ++ c ∷ [])) at
  where
    get_other : (ys : List Clause) (i : ℕ) → (i ≡ length ys → ⊥) → slice_get ys i ≡ slice_get (ys ++ c ∷ []) i
    get_other [] zero ne = absurd (ne refl)
    get_other [] (suc i) ne = refl
    get_other (y ∷ ys) zero ne = refl
    get_other (y ∷ ys) (suc i) ne = get_other ys i (λ e. ne (ap suc e))

    at : (n : ℕ) → with_clause (clause_numbered xs) (length xs + 1) c n ≡ clause_numbered (xs ++ c ∷ []) n
    at zero = rw (differ 0 (length xs + 1) (λ e. omega arith)) refl
    at (suc i) = by (suc i == length xs + 1) refl
      where
        by : (b : Bool) → (suc i == length xs + 1) ≡ b → cond (suc i == length xs + 1) (Some c) (clause_numbered xs (suc i)) ≡ clause_numbered (xs ++ c ∷ []) (suc i)
        by true e = let same : suc i ≡ length xs + 1 = eqb-true (suc i) (length xs + 1) e in rw e (sym (subst (λ n. IsAt (xs ++ c ∷ []) n c) (sym same) (at_seam xs c [])))
        by false e =
            let other : i ≡ length xs → ⊥ = λ s. let h = eq-eqb (suc i) (length xs + 1) (omega arith) in cc in
            rw e (numbered-suc xs i ∙ get_other xs i other ∙ sym (numbered-suc (xs ++ c ∷ []) i))

-- ---- the steps

check_added : (held : ℕ → Option Clause) (line id : ℕ) (clause : Clause) (hints : List ℕ) (steps : List ProofStep) → derive held clause hints ≡ derives →
    ((b : Bool) → is_empty_clause clause ≡ b → b ≡ false → check_from (with_clause held id clause) steps ≡ Verified) → check_from held (Add line id clause hints ∷ steps) ≡ Verified
check_added held line id clause hints steps derived rest = by (is_empty_clause clause) refl
  where
    after : (b : Bool) → is_empty_clause clause ≡ b → after_step held (Add line id clause hints) ≡ cond b (answered Verified) (holds (with_clause held id clause))
    after b e = ap (after_add held line id clause) derived ∙ ap (λ t. cond t (answered Verified) (holds (with_clause held id clause))) e

    by : (b : Bool) → is_empty_clause clause ≡ b → check_from held (Add line id clause hints ∷ steps) ≡ Verified
    by true e = rw (after true e, check_from) refl
    by false e = rw (after false e, check_from) (rest false e refl)

module _ (axioms assumptions : List Clause) (numbers : List ℕ) (tail : List ProofStep) (book : List BookEntry) where
  abbrev all : List Clause → List Clause
  all derived = (axioms ++ assumptions) ++ derived

  -- the entries so far are held by their new numbers
  pub record Stands (done rest : List BookEntry) (derived : List Clause) : Type 0 where
    pub front : List ℕ
    pub whole : numbers ≡ front ++ numbers_from (length (axioms_of done) + 1) (length (all derived) + 1) rest
    pub held : AreAt (all derived) front (clauses_of done)
    pub split : axioms ≡ axioms_of done ++ axioms_of rest

  all_more : (derived : List Clause) (c : Clause) → all derived ++ c ∷ [] ≡ all (derived ++ c ∷ [])
  all_more derived c = append_assoc (axioms ++ assumptions) derived (c ∷ [])

  longer : (derived : List Clause) (c : Clause) → length (all derived) + 1 + 1 ≡ length (all (derived ++ c ∷ [])) + 1
  longer derived c = let more = ap length (all_more derived c) in let one = length-append (all derived) (c ∷ []) in omega (arith, more, one)

  at_axiom : (done rest : List BookEntry) (derived : List Clause) (c : Clause) → axioms ≡ axioms_of done ++ c ∷ axioms_of rest → IsAt (all derived) (length (axioms_of done) + 1) c
  at_axiom done rest derived c is =
      at_front (axioms ++ assumptions) derived (length (axioms_of done) + 1) c (at_front axioms assumptions (length (axioms_of done) + 1) c (subst (λ xs. IsAt xs (length (axioms_of done) + 1) c) (sym is) (at_seam (axioms_of done) c (axioms_of rest))))

  with_axiom : (done rest : List BookEntry) (derived : List Clause) (c : Clause) → Stands done (axiomatic c ∷ rest) derived → Stands (done ++ axiomatic c ∷ []) rest derived
  with_axiom done rest derived c s =
      let more = filter_map-append axiom_of done (axiomatic c ∷ []) in
      let count : length (axioms_of done) + 1 ≡ length (axioms_of (done ++ axiomatic c ∷ [])) = let long = ap length more in let one = length-append (axioms_of done) (c ∷ []) in omega (arith, long, one) in
      record {
        front = s.front ++ (length (axioms_of done) + 1) ∷ [];
        whole = s.whole ∙ sym (append_assoc s.front ((length (axioms_of done) + 1) ∷ []) (numbers_from (length (axioms_of done) + 1 + 1) (length (all derived) + 1) rest))
            ∙ ap (λ k. (s.front ++ (length (axioms_of done) + 1) ∷ []) ++ numbers_from (k + 1) (length (all derived) + 1) rest) count;
        held = subst (AreAt (all derived) (s.front ++ (length (axioms_of done) + 1) ∷ [])) (sym (filter_map-append clause_of done (axiomatic c ∷ []))) (at_push (all derived) s.front (clauses_of done) (length (axioms_of done) + 1) c s.held (at_axiom done rest derived c s.split));
        split = s.split ∙ sym (append_assoc (axioms_of done) (c ∷ []) (axioms_of rest)) ∙ ap (λ xs. xs ++ axioms_of rest) (sym more);
      }

  with_mark : (done rest : List BookEntry) (derived : List Clause) (k : ℕ) → Stands done (mark k ∷ rest) derived → Stands (done ++ mark k ∷ []) rest derived
  with_mark done rest derived k s =
      let more = filter_map-append axiom_of done (mark k ∷ []) ∙ append-nil (axioms_of done) in
      record {
        front = s.front;
        whole = s.whole ∙ ap (λ (xs : List Clause). s.front ++ numbers_from (length xs + 1) (length (all derived) + 1) rest) (sym more);
        held = subst (AreAt (all derived) s.front) (sym (filter_map-append clause_of done (mark k ∷ []) ∙ append-nil (clauses_of done))) s.held;
        split = s.split ∙ ap (λ xs. xs ++ axioms_of rest) (sym more);
      }

  -- an entry with a derived clause
  with_derived : (done rest : List BookEntry) (derived : List Clause) (e : BookEntry) (c : Clause) → axioms_of (done ++ e ∷ []) ≡ axioms_of done → clauses_of (done ++ e ∷ []) ≡ clauses_of done ++ c ∷ [] → axioms_of (e ∷ rest) ≡ axioms_of rest →
      (s : Stands done (e ∷ rest) derived) → numbers_from (length (axioms_of done) + 1) (length (all derived) + 1) (e ∷ rest) ≡ (length (all derived) + 1) ∷ numbers_from (length (axioms_of done) + 1) (length (all derived) + 1 + 1) rest →
      Stands (done ++ e ∷ []) rest (derived ++ c ∷ [])
  with_derived done rest derived e c same more none s next = record {
    front = s.front ++ (length (all derived) + 1) ∷ [];
    whole = s.whole ∙ ap (λ (xs : List ℕ). s.front ++ xs) next ∙ sym (append_assoc s.front ((length (all derived) + 1) ∷ []) (numbers_from (length (axioms_of done) + 1) (length (all derived) + 1 + 1) rest))
        ∙ ap (λ k. (s.front ++ (length (all derived) + 1) ∷ []) ++ numbers_from (length (axioms_of done) + 1) k rest) (longer derived c)
        ∙ ap (λ (xs : List Clause). (s.front ++ (length (all derived) + 1) ∷ []) ++ numbers_from (length xs + 1) (length (all (derived ++ c ∷ [])) + 1) rest) (sym same);
    held = subst (λ xs. AreAt xs (s.front ++ (length (all derived) + 1) ∷ []) (clauses_of (done ++ e ∷ []))) (all_more derived c)
        (subst (AreAt (all derived ++ c ∷ []) (s.front ++ (length (all derived) + 1) ∷ [])) (sym more)
        (at_push (all derived ++ c ∷ []) s.front (clauses_of done) (length (all derived) + 1) c (at_later (all derived) (c ∷ []) s.front (clauses_of done) s.held) (at_seam (all derived) c [])));
    split = s.split ∙ ap (λ xs. axioms_of done ++ xs) none ∙ ap (λ xs. xs ++ axioms_of rest) (sym same);
  }

  derives_still : (done rest : List BookEntry) (derived : List Clause) (c : Clause) (hints : List ℕ) → Stands done rest derived → derive (clause_numbered (clauses_of done)) c hints ≡ derives → derive (clause_numbered (all derived)) c (map (new_number numbers) hints) ≡ derives
  derives_still done rest derived c hints s h =
      carried (clause_numbered (clauses_of done)) (clause_numbered (all derived)) (new_number numbers)
      (λ n d is. subst (λ (ns : List ℕ). IsAt (all derived) (new_number ns n) d) (sym s.whole) (renumbered (all derived) s.front (numbers_from (length (axioms_of done) + 1) (length (all derived) + 1) rest) (clauses_of done) n d s.held is))
      (map negation c) 0 hints h

  put : (done rest : List BookEntry) (derived : List Clause) (e : BookEntry) (c : Clause) (hints : List ℕ) → Stands done (e ∷ rest) derived → derive (clause_numbered (clauses_of done)) c hints ≡ derives →
      check_from (clause_numbered (all (derived ++ c ∷ []))) (derived_steps numbers (length (all (derived ++ c ∷ [])) + 1) rest ++ tail) ≡ Verified →
      check_from (clause_numbered (all derived)) (Add 0 (length (all derived) + 1) c (map (new_number numbers) hints) ∷ (derived_steps numbers (length (all derived) + 1 + 1) rest ++ tail)) ≡ Verified
  put done rest derived e c hints s h later =
      check_added (clause_numbered (all derived)) 0 (length (all derived) + 1) c (map (new_number numbers) hints) (derived_steps numbers (length (all derived) + 1 + 1) rest ++ tail) (derives_still done (e ∷ rest) derived c hints s h)
      (λ b e' f. subst (λ (held : ℕ → Option Clause). check_from held (derived_steps numbers (length (all derived) + 1 + 1) rest ++ tail) ≡ Verified) (sym (one_more (all derived) c ∙ ap clause_numbered (all_more derived c)))
      (subst (λ k. check_from (clause_numbered (all (derived ++ c ∷ []))) (derived_steps numbers k rest ++ tail) ≡ Verified) (sym (longer derived c)) later))

  module _ (finish : (done : List BookEntry) (derived : List Clause) → done ≡ book → Stands done [] derived → check_from (clause_numbered (all derived)) tail ≡ Verified) where
    pub go : (done rest : List BookEntry) (derived : List Clause) → done ++ rest ≡ book → EachAfter IsDerivedIfDue done rest → Stands done rest derived →
        check_from (clause_numbered (all derived)) (derived_steps numbers (length (all derived) + 1) rest ++ tail) ≡ Verified
    go done [] derived is each s = finish done derived (sym (append-nil done) ∙ is) s
    go done (axiomatic c ∷ rest) derived is each s = go (done ++ axiomatic c ∷ []) rest derived (append_assoc done (axiomatic c ∷ []) rest ∙ is) each.1 (with_axiom done rest derived c s)
    go done (mark k ∷ rest) derived is each s = go (done ++ mark k ∷ []) rest derived (append_assoc done (mark k ∷ []) rest ∙ is) each.1 (with_mark done rest derived k s)
    go done (learnt c hints ∷ rest) derived is each s =
        put done rest derived (learnt c hints) c hints s each.0
        (go (done ++ learnt c hints ∷ []) rest (derived ++ c ∷ []) (append_assoc done (learnt c hints ∷ []) rest ∙ is) each.1
        (with_derived done rest derived (learnt c hints) c (filter_map-append axiom_of done (learnt c hints ∷ []) ∙ append-nil (axioms_of done)) (filter_map-append clause_of done (learnt c hints ∷ [])) refl s refl))
    go done (final c hints ∷ rest) derived is each s =
        put done rest derived (final c hints) c hints s each.0
        (go (done ++ final c hints ∷ []) rest (derived ++ c ∷ []) (append_assoc done (final c hints ∷ []) rest ∙ is) each.1
        (with_derived done rest derived (final c hints) c (filter_map-append axiom_of done (final c hints ∷ []) ∙ append-nil (axioms_of done)) (filter_map-append clause_of done (final c hints ∷ [])) refl s refl))

-- ---- the empty clause at the end

true_later : (taken more : List Lit) (l : Lit) → is_true taken l ≡ true → is_true (taken ++ more) l ≡ true
true_later taken more l h = list_any-append (same_literal l) taken more ∙ or_left (is_true taken l) (is_true more l) h

true_last : (taken : List Lit) (l : Lit) → is_true (taken ++ l ∷ []) l ≡ true
true_last taken l = list_any-append (same_literal l) taken (l ∷ []) ∙ or_right (is_true taken l) (is_true (l ∷ []) l) (or_left (same_literal l l) false (same_itself l))

abbrev AllTrue : List Lit → List Lit → Type 0
AllTrue taken literals = AllByRecursion (λ l. is_true taken l ≡ true) literals

all_later : (taken more literals : List Lit) → AllTrue taken literals → AllTrue (taken ++ more) literals
all_later taken more [] h = tt
all_later taken more (l ∷ literals) h = (true_later taken more l h.0, all_later taken more literals h.1)

all_push : (taken literals : List Lit) (l : Lit) → AllTrue taken literals → is_true taken l ≡ true → AllTrue taken (literals ++ l ∷ [])
all_push taken [] l h is = (is, tt)
all_push taken (x ∷ literals) l h is = (h.0, all_push taken literals l h.1 is)

at_member : (taken literals : List Lit) → AllTrue taken literals → (l : Lit) → Contains literals l → is_true taken l ≡ true
at_member taken [] alls l (k, below, is) = absurd (omega arith)
at_member taken (x ∷ literals) alls l (zero, below, is) = ap (is_true taken) (sym is) ∙ alls.0
at_member taken (x ∷ literals) alls l (suc k, below, is) = at_member taken literals alls.1 l (k, omega arith, is)

all_false : (taken assumed : List Lit) (clause : Clause) → AllTrue taken assumed → NegatesOnly assumed clause → list_all (is_false taken) clause ≡ true
all_false taken assumed [] all negates = refl
all_false taken assumed (l ∷ clause) all negates = both (is_false taken l) _ (at_member taken assumed all (negation l) negates.0) (all_false taken assumed clause all negates.1)
  where
    both : (a b : Bool) → a ≡ true → b ≡ true → (a && b) ≡ true
    both true b h k = k
    both false b h k = cc

is_falsified : (taken : List Lit) (clause : Clause) → list_all (is_false taken) clause ≡ true → standing taken clause ≡ falsified
is_falsified taken clause h = rw h refl

-- the assumptions are held one after another
abbrev HeldFrom : (ℕ → Option Clause) → ℕ → List Lit → Type 0
HeldFrom held first [] = ⊤
HeldFrom held first (a ∷ rest) = (held first ≡ Some (a ∷ [])) × HeldFrom held (first + 1) rest

module _ (held : ℕ → Option Clause) (last : ℕ) (clause : Clause) (there : held last ≡ Some clause) (assumed : List Lit) (negates : NegatesOnly assumed clause) where
  pub closes : (past rest taken : List Lit) (at first : ℕ) → past ++ rest ≡ assumed → AllTrue taken past → HeldFrom held first rest → follow held taken at (range_with_len first (length rest) ++ last ∷ []) ≡ derives
  closes past [] taken at first is all from =
      follow-falsified held taken at last [] clause there (is_falsified taken clause (all_false taken assumed clause (subst (AllTrue taken) (sym (append-nil past) ∙ is) all) negates))
  closes past (a ∷ rest) taken at first is all from =
      by (is_false taken a) refl (is_true taken a) refl
      (λ now before here. closes (past ++ a ∷ []) rest now (at + 1) (first + 1) (append_assoc past (a ∷ []) rest ∙ is) (all_push now past a before here) from.1)
    where
      hints : List ℕ
      hints = range_with_len (first + 1) (length rest) ++ last ∷ []

      by : (f : Bool) → is_false taken a ≡ f → (t : Bool) → is_true taken a ≡ t → ((now : List Lit) → AllTrue now past → is_true now a ≡ true → follow held now (at + 1) hints ≡ derives) → follow held taken at (first ∷ hints) ≡ derives
      by true e t e' on = follow-falsified held taken at first hints (a ∷ []) from.0 (rw e refl)
      by false e true e' on = follow-satisfied held taken at first hints (a ∷ []) from.0 (rw (e, e') refl) ∙ on taken all e'
      by false e false e' on =
          follow-unit held taken at first hints (a ∷ []) a from.0 (rw (e, e') refl)
          ∙ on (taken ++ a ∷ []) (all_later taken (a ∷ []) past all) (true_last taken a)

-- ---- all of it

held_units : (front back : List Clause) (rest : List Lit) → HeldFrom (clause_numbered (front ++ (unit_clauses rest ++ back))) (length front + 1) rest
held_units front back [] = tt
held_units front back (a ∷ rest) = (
  at_seam front (a ∷ []) (unit_clauses rest ++ back),
  subst (λ xs. HeldFrom (clause_numbered xs) (length front + 1 + 1) rest) (append_assoc front ((a ∷ []) ∷ []) (unit_clauses rest ++ back))
      (subst (λ k. HeldFrom (clause_numbered ((front ++ (a ∷ []) ∷ []) ++ (unit_clauses rest ++ back))) k rest) (one front) (held_units (front ++ (a ∷ []) ∷ []) back rest)),
)
  where
    one : (xs : List Clause) → length (xs ++ (a ∷ []) ∷ []) + 1 ≡ length xs + 1 + 1
    one xs = omega (arith, length-append xs ((a ∷ []) ∷ []))

checks_at_end : (before : List BookEntry) (clause : Clause) (hints : List ℕ) (assumed : List Lit) → IsValidBook (before ++ final clause hints ∷ []) → NegatesOnly assumed clause →
    check_proof (refuted_formula (before ++ final clause hints ∷ []) assumed) (refutation_steps (before ++ final clause hints ∷ []) assumed) ≡ Verified
checks_at_end before clause hints assumed valid negates =
    subst (λ k. check_from (clause_numbered (axioms ++ unit_clauses assumed)) (derived_steps numbers k book ++ tail) ≡ Verified) count
    (subst (λ xs. check_from (clause_numbered xs) (derived_steps numbers (length (all axioms (unit_clauses assumed) numbers tail book []) + 1) book ++ tail) ≡ Verified) (append-nil (axioms ++ unit_clauses assumed))
    (go axioms (unit_clauses assumed) numbers tail book finish [] book [] refl valid begins))
  where
    book : List BookEntry
    book = before ++ final clause hints ∷ []

    axioms : List Clause
    axioms = axioms_of book

    numbers : List ℕ
    numbers = numbers_from 1 (length (axioms_of book) + length assumed + 1) book

    tail : List ProofStep
    tail = Add 0 (length axioms + length assumed + 1 + length (derived_of book)) [] (range_with_len (length axioms + 1) (length assumed) ++ new_number numbers (length (clauses_of book)) ∷ []) ∷ []

    count : length (all axioms (unit_clauses assumed) numbers tail book []) + 1 ≡ length axioms + length assumed + 1
    count =
        let one = ap (λ (xs : List Clause). length xs) (append-nil (axioms ++ unit_clauses assumed)) in
        let two = length-append axioms (unit_clauses assumed) in
        let three = length-map assumed (λ (l : Lit). let c : Clause = l ∷ [] in c) in
        omega (arith, one, two, three)

    begins : Stands axioms (unit_clauses assumed) numbers tail book [] book []
    begins = record { front = []; whole = ap (λ k. numbers_from 1 k book) (sym count); held = tt; split = refl }

    finish : (done : List BookEntry) (derived : List Clause) → done ≡ book → Stands axioms (unit_clauses assumed) numbers tail book done [] derived → check_from (clause_numbered (all axioms (unit_clauses assumed) numbers tail book derived)) tail ≡ Verified
    finish done derived is s =
        check_added (clause_numbered held) 0 (length (axioms_of book) + length assumed + 1 + length (derived_of book)) [] (range_with_len (length axioms + 1) (length assumed) ++ new_number numbers (length (clauses_of book)) ∷ []) [] derived_empty (λ b e f. absurd (not_both b e f))
      where
        not_both : (b : Bool) → true ≡ b → b ≡ false → ⊥
        not_both b e f = cc

        held : List Clause
        held = (axioms ++ unit_clauses assumed) ++ derived

        last_there : IsAt held (new_number numbers (length (clauses_of book))) clause
        last_there =
            subst (λ (ns : List ℕ). IsAt held (new_number ns (length (clauses_of book))) clause) (sym (s.whole))
            (renumbered held s.front [] (clauses_of done) (length (clauses_of book)) clause s.held at_end)
          where
            at_end : IsAt (clauses_of done) (length (clauses_of book)) clause
            at_end =
                let more = filter_map-append clause_of before (final clause hints ∷ []) in
                let long : length (clauses_of before) + 1 ≡ length (clauses_of book) = let l = ap (λ (xs : List Clause). length xs) more in omega (arith, l, length-append (clauses_of before) (clause ∷ [])) in
                subst (λ (b : List BookEntry). IsAt (clauses_of b) (length (clauses_of book)) clause) (sym is)
                (subst (λ k. IsAt (clauses_of book) k clause) long (subst (λ xs. IsAt xs (length (clauses_of before) + 1) clause) (sym more) (at_seam (clauses_of before) clause [])))

        derived_empty : derive (clause_numbered held) [] (range_with_len (length axioms + 1) (length assumed) ++ new_number numbers (length (clauses_of book)) ∷ []) ≡ derives
        derived_empty =
            closes (clause_numbered held) (new_number numbers (length (clauses_of book))) clause last_there assumed negates [] assumed [] 0 (length axioms + 1) refl tt
            (subst (λ xs. HeldFrom (clause_numbered xs) (length axioms + 1) assumed) (sym (append_assoc axioms (unit_clauses assumed) derived)) (held_units axioms derived assumed))

-- ---- with later entries

valid_front : (earlier front later : List BookEntry) → EachAfter IsDerivedIfDue earlier (front ++ later) → EachAfter IsDerivedIfDue earlier front
valid_front earlier [] later h = tt
valid_front earlier (e ∷ front) later h = (h.0, valid_front (earlier ++ e ∷ []) front later h.1)

pub refutations_check : RefutationsCheck
refutations_check book assumed last valid ends =
    subst (λ (front : List BookEntry). check_proof (refuted_formula front assumed) (refutation_steps front assumed) ≡ Verified) (sym (front_ends book assumed last ends))
    (checks_at_end ends.before ends.clause ends.hints assumed
    (valid_front [] (ends.before ++ final ends.clause ends.hints ∷ []) ends.later (subst IsValidBook (ends.whole ∙ sym (append_assoc ends.before (final ends.clause ends.hints ∷ []) ends.later)) valid)) ends.negates)

-- what the code makes, by what it counts
pub proof_is : (book : List BookEntry) (assumed : List Lit) (last count axioms clauses : ℕ) (formula : List Clause) (steps : List ProofStep) → EndsIn book assumed last → take count book ≡ front_to last book →
    formula ≡ refuted_formula (take count book) assumed → axioms ≡ length (axioms_of (take count book)) → clauses ≡ length formula → steps ≡ steps_behind axioms (clauses - axioms) last (take count book) →
    steps ≡ refutation_steps (front_to last book) assumed
proof_is book assumed last count axioms clauses formula steps ends front formula_is axioms_are clauses_are is =
    is
    ∙ ap (λ k. steps_behind k (clauses - axioms) last (take count book)) axioms_are
    ∙ ap (λ k. steps_behind (length (axioms_of (take count book))) k last (take count book)) assumptions
    ∙ ap (λ k. steps_behind (length (axioms_of (take count book))) (length assumed) k (take count book)) number
    ∙ ap (λ (es : List BookEntry). refutation_steps es assumed) front
  where
    assumptions : clauses - axioms ≡ length assumed
    assumptions =
        let all = ap length formula_is ∙ length-append (axioms_of (take count book)) (unit_clauses assumed) in
        let one = length-map assumed (λ (l : Lit). let c : Clause = l ∷ [] in c) in
        omega (arith, axioms_are, clauses_are, all, one)

    number : last ≡ length (clauses_of (take count book))
    number =
        let last_clauses = ap (λ (es : List BookEntry). length (clauses_of es)) (front ∙ front_ends book assumed last ends) in
        let more = ap length (filter_map-append clause_of ends.before (final ends.clause ends.hints ∷ [])) ∙ length-append (clauses_of ends.before) (ends.clause ∷ []) in
        omega (arith, last_clauses, more, ends.numbered)

pub verified_is : (book : List BookEntry) (assumed : List Lit) (last : ℕ) (formula : List Clause) (steps : List ProofStep) → IsValidBook book → EndsIn book assumed last → formula ≡ refuted_formula (front_to last book) assumed → steps ≡ refutation_steps (front_to last book) assumed → check_proof formula steps ≡ Verified
verified_is book assumed last formula steps valid ends formula_is steps_are = ap (λ (f : List Clause). check_proof f steps) formula_is ∙ ap (check_proof (refuted_formula (front_to last book) assumed)) steps_are ∙ refutations_check book assumed last valid ends
