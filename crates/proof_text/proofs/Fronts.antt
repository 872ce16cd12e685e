-- The entries of a book one after another, up to a final one.
use Rattle.std.proofs.Common.{◌≡◌, ◌∙◌, ◌⊎◌, inl, inr, ℕ, zero, suc, ◌+◌, ◌-◌, ◌<◌, ◌≤◌, ◌==◌, Bool, true, false, List, [], ◌∷◌, ◌++◌, map, length, take, Option, None, Some, slice_get, refl, sym, ap, subst, arith, append-nil, append_assoc, length-append, add-zero}
use Rattle.std.specs.Prelude.{MatchOption, filter_map}
use Rattle.std.specs.List.{range_with_len}
use Rattle.std.proofs.lemmas.List.Elements.{filter_map-append}
use Rattle.std.proofs.lemmas.Bool.{eqb-true, eq-eqb}
use Rattle.std.proofs.lemmas.Option.{slice_get_within}
use Rattle.des_base.proofs.Elements.{take_whole, take_at}
use Rattle.prop_core.specs.declared.lit.Lit.{Lit}
use Rattle.prop_core.specs.Clauses.{Clause}
use Rattle.prop_core.specs.Derivation.{clause_numbered}
use Rattle.proof_ledger.specs.Book.{BookEntry, axiomatic, learnt, final, mark, clause_of, clause_hints_of, axiom_of, axioms_of, clauses_of, hints_of, shown, IsEntryAt}
use Rattle.proof_ledger.specs.declared.checker.ProofStep.{ProofStep}
use Rattle.proof_ledger.specs.declared.checker.ProofStep.TheVariants.{Add}
use Rattle.proof_ledger.specs.declared.entry.Entry.{Entry}
use Rattle.proof_ledger.specs.declared.entry.Entry.TheVariants.{Axiom, Learnt, Final, Mark}
use Rattle.proof_text.specs.Refutation.{EndsIn, front_to, is_numbered, numbers_from, new_number, derived_clause_of, derived_of, derived_steps, IsStepOf}
use Rattle.proof_ledger.proofs.Checks.{numbered-suc}

-- ---- the entry at a place

-- the number that a clause at a place has
abbrev pub number_at : List BookEntry → ℕ → ℕ
number_at book place = length (clauses_of (take place book)) + 1

-- what is seen of the entry at a place
pub record Seen (book : List BookEntry) (place : ℕ) (entry : Entry) : Type 0 where
  pub e : BookEntry
  pub there : slice_get book place ≡ Some e
  pub seen : entry ≡ shown (number_at book place) e

pub seen_at : (book : List BookEntry) (place : ℕ) (entry : Entry) → IsEntryAt book place entry → Seen book place entry
seen_at book place entry h = by (slice_get book place) refl h
  where
    by : (o : Option BookEntry) → slice_get book place ≡ o → MatchOption o ⊥ (λ e. entry ≡ shown (number_at book place) e) → Seen book place entry
    by None is h = absurd h
    by (Some e) is h = record { e = e; there = is; seen = h }

-- the clause of an entry, by its number
pub numbered_there : (book : List BookEntry) (place : ℕ) (e : BookEntry) (c : Clause) → slice_get book place ≡ Some e → clause_of e ≡ Some c → slice_get (clauses_of book) (length (clauses_of (take place book))) ≡ Some c
numbered_there [] place e c is has = cc
numbered_there (axiomatic d ∷ book) zero e c is has = cc
numbered_there (learnt d hints ∷ book) zero e c is has = cc
numbered_there (final d hints ∷ book) zero e c is has = cc
numbered_there (mark k ∷ book) zero e c is has = cc
numbered_there (axiomatic d ∷ book) (suc place) e c is has = numbered_there book place e c is has
numbered_there (learnt d hints ∷ book) (suc place) e c is has = numbered_there book place e c is has
numbered_there (final d hints ∷ book) (suc place) e c is has = numbered_there book place e c is has
numbered_there (mark k ∷ book) (suc place) e c is has = numbered_there book place e c is has

pub hints_there : (book : List BookEntry) (place : ℕ) (e : BookEntry) (hints : List ℕ) → slice_get book place ≡ Some e → clause_hints_of e ≡ Some hints → slice_get (hints_of book) (length (clauses_of (take place book))) ≡ Some hints
hints_there [] place e hints is has = cc
hints_there (axiomatic d ∷ book) zero e hints is has = cc
hints_there (learnt d hs ∷ book) zero e hints is has = cc
hints_there (final d hs ∷ book) zero e hints is has = cc
hints_there (mark k ∷ book) zero e hints is has = cc
hints_there (axiomatic d ∷ book) (suc place) e hints is has = hints_there book place e hints is has
hints_there (learnt d hs ∷ book) (suc place) e hints is has = hints_there book place e hints is has
hints_there (final d hs ∷ book) (suc place) e hints is has = hints_there book place e hints is has
hints_there (mark k ∷ book) (suc place) e hints is has = hints_there book place e hints is has

numbered_by : (clauses : List Clause) (k : ℕ) (c : Clause) → slice_get clauses k ≡ Some c → clause_numbered clauses (k + 1) ≡ Some c
numbered_by clauses k c h = let on : k + 1 ≡ suc k = omega arith in ap (clause_numbered clauses) on ∙ numbered-suc clauses k ∙ h

learnt_same : {n m : ℕ} → Learnt n ≡ Learnt m → n ≡ m
learnt_same h = cc

final_same : {n m : ℕ} → Final n ≡ Final m → n ≡ m
final_same h = cc

-- ---- the front

pub front_here : (book : List BookEntry) (place : ℕ) (e : BookEntry) (c : Clause) → slice_get book place ≡ Some e → clause_of e ≡ Some c → front_to (suc (length (clauses_of (take place book)))) book ≡ take (suc place) book
front_here [] place e c is has = cc
front_here (axiomatic d ∷ book) zero e c is has = refl
front_here (learnt d hints ∷ book) zero e c is has = refl
front_here (final d hints ∷ book) zero e c is has = refl
front_here (mark k ∷ book) zero e c is has = cc
front_here (axiomatic d ∷ book) (suc place) e c is has = ap (λ es. axiomatic d ∷ es) (front_here book place e c is has)
front_here (learnt d hints ∷ book) (suc place) e c is has = ap (λ es. learnt d hints ∷ es) (front_here book place e c is has)
front_here (final d hints ∷ book) (suc place) e c is has = ap (λ es. final d hints ∷ es) (front_here book place e c is has)
front_here (mark k ∷ book) (suc place) e c is has = ap (λ es. mark k ∷ es) (front_here book place e c is has)

pub front_all : (book : List BookEntry) (number : ℕ) → length (clauses_of book) < number → front_to number book ≡ book
front_all book zero h = absurd (omega arith)
front_all [] (suc n) h = refl
front_all (axiomatic d ∷ book) (suc n) h = ap (λ es. axiomatic d ∷ es) (front_all book n (omega arith))
front_all (learnt d hints ∷ book) (suc n) h = ap (λ es. learnt d hints ∷ es) (front_all book n (omega arith))
front_all (final d hints ∷ book) (suc n) h = ap (λ es. final d hints ∷ es) (front_all book n (omega arith))
front_all (mark k ∷ book) (suc n) h = ap (λ es. mark k ∷ es) (front_all book (suc n) h)

ends_after : (before later : List BookEntry) (clause : Clause) (hints : List ℕ) → front_to (suc (length (clauses_of before))) (before ++ final clause hints ∷ later) ≡ before ++ final clause hints ∷ []
ends_after [] later clause hints = refl
ends_after (axiomatic d ∷ before) later clause hints = ap (λ es. axiomatic d ∷ es) (ends_after before later clause hints)
ends_after (learnt d hs ∷ before) later clause hints = ap (λ es. learnt d hs ∷ es) (ends_after before later clause hints)
ends_after (final d hs ∷ before) later clause hints = ap (λ es. final d hs ∷ es) (ends_after before later clause hints)
ends_after (mark k ∷ before) later clause hints = ap (λ es. mark k ∷ es) (ends_after before later clause hints)

pub front_ends : (book : List BookEntry) (assumed : List Lit) (last : ℕ) → (ends : EndsIn book assumed last) → front_to last book ≡ ends.before ++ final ends.clause ends.hints ∷ []
front_ends book assumed last ends =
    let n : last ≡ suc (length (clauses_of ends.before)) = omega (arith, ends.numbered) in
    ap (λ k. front_to k book) n ∙ ap (front_to (suc (length (clauses_of ends.before)))) ends.whole ∙ ends_after ends.before ends.later ends.clause ends.hints

-- the entries go on where the entry has another number
pub goes_on : (book : List BookEntry) (place last : ℕ) (entry : Entry) → IsEntryAt book place entry → is_numbered last entry ≡ false → length (clauses_of (take place book)) < last → length (clauses_of (take (place + 1) book)) < last
goes_on book place last entry at not below = by s.e s.there s.seen
  where
    s : Seen book place entry
    s = seen_at book place entry at

    longer : (e : BookEntry) → slice_get book place ≡ Some e → clauses_of (take (place + 1) book) ≡ clauses_of (take place book) ++ clauses_of (e ∷ [])
    longer e is = ap clauses_of (take_at book place e is) ∙ filter_map-append clause_of (take place book) (e ∷ [])

    other : (e : BookEntry) (c : Clause) → slice_get book place ≡ Some e → clauses_of (e ∷ []) ≡ c ∷ [] → (number_at book place == last) ≡ false → length (clauses_of (take (place + 1) book)) < last
    other e c is one unlike =
        let long : length (clauses_of (take (place + 1) book)) ≡ length (clauses_of (take place book)) + 1 = ap length (longer e is ∙ ap (λ cs. clauses_of (take place book) ++ cs) one) ∙ length-append (clauses_of (take place book)) (c ∷ []) in
        let apart : (number_at book place ≡ last → ⊥) = λ h. differs (eq-eqb (number_at book place) last h) unlike in
        omega (arith, long, apart)
      where
        differs : {b : Bool} → b ≡ true → b ≡ false → ⊥
        differs h k = cc

    by : (e : BookEntry) → slice_get book place ≡ Some e → entry ≡ shown (number_at book place) e → length (clauses_of (take (place + 1) book)) < last
    by (axiomatic c) is seen = other (axiomatic c) c is refl (sym (ap (is_numbered last) seen) ∙ not)
    by (learnt c hints) is seen = other (learnt c hints) c is refl (sym (ap (is_numbered last) seen) ∙ not)
    by (final c hints) is seen = other (final c hints) c is refl (sym (ap (is_numbered last) seen) ∙ not)
    by (mark k) is seen =
        let same = longer (mark k) is ∙ append-nil (clauses_of (take place book)) in
        let long = ap length same in omega (arith, long, below)

-- the front ends where the entry has the number
pub ends_here : (book : List BookEntry) (place last : ℕ) (entry : Entry) → IsEntryAt book place entry → is_numbered last entry ≡ true → take (place + 1) book ≡ front_to last book
ends_here book place last entry at same = by s.e s.there s.seen
  where
    s : Seen book place entry
    s = seen_at book place entry at

    here : (e : BookEntry) (c : Clause) → slice_get book place ≡ Some e → clause_of e ≡ Some c → (number_at book place == last) ≡ true → take (place + 1) book ≡ front_to last book
    here e c is has equal =
        let one : place + 1 ≡ suc place = omega arith in
        let n : suc (length (clauses_of (take place book))) ≡ last = let m = eqb-true (number_at book place) last equal in omega (arith, m) in
        ap (λ k. take k book) one ∙ sym (front_here book place e c is has) ∙ ap (λ k. front_to k book) n

    by : (e : BookEntry) → slice_get book place ≡ Some e → entry ≡ shown (number_at book place) e → take (place + 1) book ≡ front_to last book
    by (axiomatic c) is seen = here (axiomatic c) c is refl (sym (ap (is_numbered last) seen) ∙ same)
    by (learnt c hints) is seen = here (learnt c hints) c is refl (sym (ap (is_numbered last) seen) ∙ same)
    by (final c hints) is seen = here (final c hints) c is refl (sym (ap (is_numbered last) seen) ∙ same)
    by (mark k) is seen = absurd (none (sym (ap (is_numbered last) seen) ∙ same))
      where
        none : false ≡ true → ⊥
        none h = cc

-- the front is all
pub ends_never : (book : List BookEntry) (last : ℕ) → length (clauses_of (take (length book) book)) < last → take (length book) book ≡ front_to last book
ends_never book last h = take_whole book ∙ sym (front_all book last (subst (λ (es : List BookEntry). length (clauses_of es) < last) (take_whole book) h))

-- ---- the axioms

-- what the entries up to a place have, with that of one more entry
module _ {X : Type 0} (f : BookEntry → Option X) (book : List BookEntry) (place : ℕ) (e : BookEntry) (is : slice_get book place ≡ Some e) where
  pub of_more : filter_map f (take (place + 1) book) ≡ filter_map f (take place book) ++ filter_map f (e ∷ [])
  of_more = ap (filter_map f) (take_at book place e is) ∙ filter_map-append f (take place book) (e ∷ [])

-- so there is one more
pub axiom_counted : (book : List BookEntry) (place n : ℕ) → IsEntryAt book place (Axiom n) → length (axioms_of (take (place + 1) book)) ≡ length (axioms_of (take place book)) + 1
axiom_counted book place n at = by s.e s.there s.seen
  where
    s : Seen book place (Axiom n)
    s = seen_at book place (Axiom n) at

    by : (e : BookEntry) → slice_get book place ≡ Some e → Axiom n ≡ shown (number_at book place) e → length (axioms_of (take (place + 1) book)) ≡ length (axioms_of (take place book)) + 1
    by (axiomatic d) there seen = ap length (of_more axiom_of book place (axiomatic d) there) ∙ length-append (axioms_of (take place book)) (d ∷ [])
    by (learnt d hints) there seen = cc
    by (final d hints) there seen = cc
    by (mark k) there seen = cc

-- no other entry has one
pub no_axiom_more : (book : List BookEntry) (place : ℕ) (entry : Entry) → IsEntryAt book place entry → ((n : ℕ) → entry ≡ Axiom n → ⊥) → axioms_of (take (place + 1) book) ≡ axioms_of (take place book)
no_axiom_more book place entry at not = by s.e s.there s.seen
  where
    s : Seen book place entry
    s = seen_at book place entry at

    by : (e : BookEntry) → slice_get book place ≡ Some e → entry ≡ shown (number_at book place) e → axioms_of (take (place + 1) book) ≡ axioms_of (take place book)
    by (axiomatic d) there seen = absurd (not (number_at book place) seen)
    by (learnt d hints) there seen = of_more axiom_of book place (learnt d hints) there ∙ append-nil (axioms_of (take place book))
    by (final d hints) there seen = of_more axiom_of book place (final d hints) there ∙ append-nil (axioms_of (take place book))
    by (mark k) there seen = of_more axiom_of book place (mark k) there ∙ append-nil (axioms_of (take place book))

-- a derived entry's number is that of a clause
pub derived_within : (book : List BookEntry) (place n : ℕ) (entry : Entry) → IsEntryAt book place entry → (entry ≡ Learnt n) ⊎ (entry ≡ Final n) → n ≤ length (clauses_of book)
derived_within book place n entry at is = by s.e s.there s.seen is
  where
    s : Seen book place entry
    s = seen_at book place entry at

    within : (e : BookEntry) (d : Clause) → slice_get book place ≡ Some e → clause_of e ≡ Some d → n ≡ number_at book place → n ≤ length (clauses_of book)
    within e d there has number =
        let below = slice_get_within (clauses_of book) (length (clauses_of (take place book))) d (numbered_there book place e d there has) in
        omega (arith, number, below)

    by : (e : BookEntry) → slice_get book place ≡ Some e → entry ≡ shown (number_at book place) e → (entry ≡ Learnt n) ⊎ (entry ≡ Final n) → n ≤ length (clauses_of book)
    by (learnt d hints) there seen (inl h) = within (learnt d hints) d there refl (learnt_same (sym h ∙ seen))
    by (final d hints) there seen (inr h) = within (final d hints) d there refl (final_same (sym h ∙ seen))
    by (axiomatic d) there seen (inl h) = cc
    by (axiomatic d) there seen (inr h) = cc
    by (learnt d hints) there seen (inr h) = cc
    by (final d hints) there seen (inl h) = cc
    by (mark k) there seen (inl h) = cc
    by (mark k) there seen (inr h) = cc

-- ---- new numbers

numbers_more : (first next : ℕ) (book : List BookEntry) (e : BookEntry) →
    numbers_from first next (book ++ e ∷ []) ≡ numbers_from first next book ++ numbers_from (first + length (axioms_of book)) (next + length (derived_of book)) (e ∷ [])
numbers_more first next [] e = rw (add-zero, add-zero) refl
numbers_more first next (axiomatic c ∷ book) e = let h = numbers_more (first + 1) next book e in let n : first + 1 + length (axioms_of book) ≡ first + suc (length (axioms_of book)) = omega arith in cc
numbers_more first next (learnt c hints ∷ book) e = let h = numbers_more first (next + 1) book e in let n : next + 1 + length (derived_of book) ≡ next + suc (length (derived_of book)) = omega arith in cc
numbers_more first next (final c hints ∷ book) e = let h = numbers_more first (next + 1) book e in let n : next + 1 + length (derived_of book) ≡ next + suc (length (derived_of book)) = omega arith in cc
numbers_more first next (mark k ∷ book) e = numbers_more first next book e

-- The entries up to a place have their numbers, and these follow.
pub record AreNumbered (first : ℕ) (book : List BookEntry) (place : ℕ) (numbers : List ℕ) (axiom_next next : ℕ) : Type 0 where
  pub numbers_are : numbers ≡ numbers_from 1 first (take place book)
  pub axioms : axiom_next ≡ 1 + length (axioms_of (take place book))
  pub derived : next ≡ first + length (derived_of (take place book))
  pub few_axioms : axiom_next ≤ 1 + place
  pub few_derived : next ≤ first + place

module _ (first : ℕ) (book : List BookEntry) (place : ℕ) (numbers more : List ℕ) (axiom_next next : ℕ) (given : AreNumbered first book place numbers axiom_next next) where
  numbers_with : (e : BookEntry) (new : List ℕ) → slice_get book place ≡ Some e → more ≡ numbers ++ new → new ≡ numbers_from axiom_next next (e ∷ []) → more ≡ numbers_from 1 first (take (place + 1) book)
  numbers_with e new there put is =
      put ∙ ap (λ (ns : List ℕ). ns ++ new) given.numbers_are
      ∙ ap (λ (ns : List ℕ). numbers_from 1 first (take place book) ++ ns) (is ∙ ap (λ k. numbers_from k next (e ∷ [])) given.axioms ∙ ap (λ k. numbers_from (1 + length (axioms_of (take place book))) k (e ∷ [])) given.derived)
      ∙ sym (numbers_more 1 first (take place book) e) ∙ ap (numbers_from 1 first) (sym (take_at book place e there))

  count_more : {X : Type 0} (f : BookEntry → Option X) (e : BookEntry) → slice_get book place ≡ Some e → length (filter_map f (take (place + 1) book)) ≡ length (filter_map f (take place book)) + length (filter_map f (e ∷ []))
  count_more f e there = ap length (of_more f book place e there) ∙ length-append (filter_map f (take place book)) (filter_map f (e ∷ []))

  pub numbered_axiom : (n : ℕ) → IsEntryAt book place (Axiom n) → more ≡ numbers ++ axiom_next ∷ [] → AreNumbered first book (place + 1) more (axiom_next + 1) next
  numbered_axiom n at put = by s.e s.there s.seen
    where
      s : Seen book place (Axiom n)
      s = seen_at book place (Axiom n) at

      by : (e : BookEntry) → slice_get book place ≡ Some e → Axiom n ≡ shown (number_at book place) e → AreNumbered first book (place + 1) more (axiom_next + 1) next
      by (axiomatic c) there seen = record {
        numbers_are = numbers_with (axiomatic c) (axiom_next ∷ []) there put refl;
        axioms = let one = count_more axiom_of (axiomatic c) there in omega (arith, one, given.axioms);
        derived = let one = count_more derived_clause_of (axiomatic c) there in omega (arith, one, given.derived);
        few_axioms = omega (arith, given.few_axioms);
        few_derived = omega (arith, given.few_derived);
      }
      by (learnt c hints) there seen = cc
      by (final c hints) there seen = cc
      by (mark k) there seen = cc

  numbered_derived : (e : BookEntry) (c : Clause) → slice_get book place ≡ Some e → axioms_of (e ∷ []) ≡ [] → derived_of (e ∷ []) ≡ c ∷ [] → next ∷ [] ≡ numbers_from axiom_next next (e ∷ []) → more ≡ numbers ++ next ∷ [] → AreNumbered first book (place + 1) more axiom_next (next + 1)
  numbered_derived e c there no_axiom one new put = record {
    numbers_are = numbers_with e (next ∷ []) there put new;
    axioms = let long = count_more axiom_of e there in let none = ap length no_axiom in omega (arith, long, none, given.axioms);
    derived = let long = count_more derived_clause_of e there in let is = ap length one in omega (arith, long, is, given.derived);
    few_axioms = omega (arith, given.few_axioms);
    few_derived = omega (arith, given.few_derived);
  }

  pub numbered_entry : (entry : Entry) → IsEntryAt book place entry → ((n : ℕ) × (entry ≡ Learnt n)) ⊎ ((n : ℕ) × (entry ≡ Final n)) → more ≡ numbers ++ next ∷ [] → AreNumbered first book (place + 1) more axiom_next (next + 1)
  numbered_entry entry at is put = by s.e s.there s.seen is
    where
      s : Seen book place entry
      s = seen_at book place entry at

      by : (e : BookEntry) → slice_get book place ≡ Some e → entry ≡ shown (number_at book place) e → ((n : ℕ) × (entry ≡ Learnt n)) ⊎ ((n : ℕ) × (entry ≡ Final n)) → AreNumbered first book (place + 1) more axiom_next (next + 1)
      by (learnt c hints) there seen is = numbered_derived (learnt c hints) c there refl refl refl put
      by (final c hints) there seen is = numbered_derived (final c hints) c there refl refl refl put
      by (axiomatic c) there seen (inl (n, h)) = cc
      by (axiomatic c) there seen (inr (n, h)) = cc
      by (mark k) there seen (inl (n, h)) = cc
      by (mark k) there seen (inr (n, h)) = cc

  pub numbered_mark : (k : ℕ) → IsEntryAt book place (Mark k) → more ≡ numbers → AreNumbered first book (place + 1) more axiom_next next
  numbered_mark n at same = by s.e s.there s.seen
    where
      s : Seen book place (Mark n)
      s = seen_at book place (Mark n) at

      by : (e : BookEntry) → slice_get book place ≡ Some e → Mark n ≡ shown (number_at book place) e → AreNumbered first book (place + 1) more axiom_next next
      by (mark k) there seen = record {
        numbers_are = numbers_with (mark k) [] there (same ∙ sym (append-nil numbers)) refl;
        axioms = let one = count_more axiom_of (mark k) there in omega (arith, one, given.axioms);
        derived = let one = count_more derived_clause_of (mark k) there in omega (arith, one, given.derived);
        few_axioms = omega (arith, given.few_axioms);
        few_derived = omega (arith, given.few_derived);
      }
      by (axiomatic c) there seen = cc
      by (learnt c hints) there seen = cc
      by (final c hints) there seen = cc

-- ---- steps

steps_more : (numbers : List ℕ) (next : ℕ) (book : List BookEntry) (e : BookEntry) → derived_steps numbers next (book ++ e ∷ []) ≡ derived_steps numbers next book ++ derived_steps numbers (next + length (derived_of book)) (e ∷ [])
steps_more numbers next [] e = rw add-zero refl
steps_more numbers next (axiomatic c ∷ book) e = steps_more numbers next book e
steps_more numbers next (learnt c hints ∷ book) e = let h = steps_more numbers (next + 1) book e in let n : next + 1 + length (derived_of book) ≡ next + suc (length (derived_of book)) = omega arith in cc
steps_more numbers next (final c hints ∷ book) e = let h = steps_more numbers (next + 1) book e in let n : next + 1 + length (derived_of book) ≡ next + suc (length (derived_of book)) = omega arith in cc
steps_more numbers next (mark k ∷ book) e = steps_more numbers next book e

-- What was derived up to a place has its steps behind those that were there, and this number follows.
pub record HaveSteps (numbers : List ℕ) (first : ℕ) (book : List BookEntry) (place : ℕ) (old steps : List ProofStep) (next : ℕ) : Type 0 where
  pub steps_are : steps ≡ old ++ derived_steps numbers first (take place book)
  pub derived : next ≡ first + length (derived_of (take place book))
  pub few : next ≤ first + place

module _ (numbers : List ℕ) (first : ℕ) (book : List BookEntry) (place : ℕ) (old steps more : List ProofStep) (next : ℕ) (given : HaveSteps numbers first book place old steps next) where
  steps_with : (e : BookEntry) (new : List ProofStep) → slice_get book place ≡ Some e → more ≡ steps ++ new → new ≡ derived_steps numbers next (e ∷ []) → more ≡ old ++ derived_steps numbers first (take (place + 1) book)
  steps_with e new there put is =
      put ∙ ap (λ (xs : List ProofStep). xs ++ new) given.steps_are
      ∙ append_assoc old (derived_steps numbers first (take place book)) new
      ∙ ap (λ (xs : List ProofStep). old ++ xs)
      (ap (λ (xs : List ProofStep). derived_steps numbers first (take place book) ++ xs) (is ∙ ap (λ k. derived_steps numbers k (e ∷ [])) given.derived)
      ∙ sym (steps_more numbers first (take place book) e) ∙ ap (derived_steps numbers first) (sym (take_at book place e there)))

  derived_more : (e : BookEntry) → slice_get book place ≡ Some e → length (derived_of (take (place + 1) book)) ≡ length (derived_of (take place book)) + length (derived_of (e ∷ []))
  derived_more e there = ap length (of_more derived_clause_of book place e there) ∙ length-append (derived_of (take place book)) (derived_of (e ∷ []))

  with_one : (e : BookEntry) (n : ℕ) (c : Clause) (hints : List ℕ) (step : ProofStep) → slice_get book place ≡ Some e → clause_of e ≡ Some c → clause_hints_of e ≡ Some hints → n ≡ number_at book place →
      IsStepOf book n next numbers step → more ≡ steps ++ step ∷ [] → Add 0 next c (map (new_number numbers) hints) ∷ [] ≡ derived_steps numbers next (e ∷ []) → derived_of (e ∷ []) ≡ c ∷ [] → HaveSteps numbers first book (place + 1) old more (next + 1)
  with_one e n c hints step there has hinted number derives put new one = record {
    steps_are = steps_with e (step ∷ []) there put (ap (λ (x : ProofStep). x ∷ []) is ∙ new);
    derived = let long = derived_more e there in let is' = ap length one in omega (arith, long, is', given.derived);
    few = omega (arith, given.few);
  }
    where
      back : length (clauses_of (take place book)) ≡ n - 1
      back = omega (arith, number)

      is : step ≡ Add 0 next c (map (new_number numbers) hints)
      is = derives c hints
          (subst (λ k. clause_numbered (clauses_of book) k ≡ Some c) (sym number) (numbered_by (clauses_of book) (length (clauses_of (take place book))) c (numbered_there book place e c there has)))
          (subst (λ k. slice_get (hints_of book) k ≡ Some hints) back (hints_there book place e hints there hinted))

  pub step_derived : (n : ℕ) (entry : Entry) (step : ProofStep) → IsEntryAt book place entry → (entry ≡ Learnt n) ⊎ (entry ≡ Final n) → IsStepOf book n next numbers step → more ≡ steps ++ step ∷ [] → HaveSteps numbers first book (place + 1) old more (next + 1)
  step_derived n entry step at is derives put = by s.e s.there s.seen is
    where
      s : Seen book place entry
      s = seen_at book place entry at

      by : (e : BookEntry) → slice_get book place ≡ Some e → entry ≡ shown (number_at book place) e → (entry ≡ Learnt n) ⊎ (entry ≡ Final n) → HaveSteps numbers first book (place + 1) old more (next + 1)
      by (learnt c hints) there seen (inl h) = with_one (learnt c hints) n c hints step there refl refl (learnt_same (sym h ∙ seen)) derives put refl refl
      by (final c hints) there seen (inr h) = with_one (final c hints) n c hints step there refl refl (final_same (sym h ∙ seen)) derives put refl refl
      by (axiomatic c) there seen (inl h) = cc
      by (axiomatic c) there seen (inr h) = cc
      by (learnt c hints) there seen (inr h) = cc
      by (final c hints) there seen (inl h) = cc
      by (mark k) there seen (inl h) = cc
      by (mark k) there seen (inr h) = cc

  pub no_step : (entry : Entry) → IsEntryAt book place entry → ((n : ℕ) → entry ≡ Learnt n → ⊥) → ((n : ℕ) → entry ≡ Final n → ⊥) → more ≡ steps → HaveSteps numbers first book (place + 1) old more next
  no_step entry at not_learnt not_final same = by s.e s.there s.seen
    where
      s : Seen book place entry
      s = seen_at book place entry at

      stays : (e : BookEntry) → slice_get book place ≡ Some e → derived_of (e ∷ []) ≡ [] → derived_steps numbers next (e ∷ []) ≡ [] → HaveSteps numbers first book (place + 1) old more next
      stays e there none no_steps = record {
        steps_are = steps_with e [] there (same ∙ sym (append-nil steps)) (sym no_steps);
        derived = let long = derived_more e there in let is = ap length none in omega (arith, long, is, given.derived);
        few = omega (arith, given.few);
      }

      by : (e : BookEntry) → slice_get book place ≡ Some e → entry ≡ shown (number_at book place) e → HaveSteps numbers first book (place + 1) old more next
      by (axiomatic c) there seen = stays (axiomatic c) there refl refl
      by (mark k) there seen = stays (mark k) there refl refl
      by (learnt c hints) there seen = absurd (not_learnt (number_at book place) seen)
      by (final c hints) there seen = absurd (not_final (number_at book place) seen)

-- ---- the numbers of the assumptions

pub range_more : (a n : ℕ) → range_with_len a (n + 1) ≡ range_with_len a n ++ (a + n) ∷ []
range_more a n = let on : n + 1 ≡ suc n = omega arith in ap (range_with_len a) on ∙ next a n
  where
    next : (a n : ℕ) → range_with_len a (suc n) ≡ range_with_len a n ++ (a + n) ∷ []
    next a zero = rw add-zero refl
    next a (suc n) = let h = next (a + 1) n in let m : a + 1 + n ≡ a + suc n = omega arith in cc
