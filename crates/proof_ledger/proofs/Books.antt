-- A book and how it is kept.
use Rattle.std.proofs.Common.{◌≡◌, ◌∙◌, ℕ, zero, suc, ◌+◌, ◌<◌, ◌++◌, ◌∷◌, [], List, refl, ap, sym, length, arith, subst, append_assoc, replicate, take, drop, add-zero, Option, Some, None, slice_get, get_or}
use Rattle.std.specs.Prelude.{MatchOption}
use Rattle.std.proofs.lemmas.Grind.{common_steps}
use Rattle.std.proofs.lemmas.List.{append-nil}
use Rattle.std.proofs.lemmas.List.Elements.{filter_map-append}
use Rattle.prop_core.specs.Clauses.{Clause}
use Rattle.proof_ledger.specs.declared.entry.Entry.{Entry}
use Rattle.proof_ledger.specs.declared.entry.KeptEntry.{KeptEntry}
use Rattle.proof_ledger.specs.declared.entry.KeptEntry.TheVariants.{Axiom, Learnt, Final, Mark}
use Rattle.proof_ledger.specs.declared.ledger.Origin.{Origin}
use Rattle.proof_ledger.specs.declared.ledger.Origin.TheVariants as origins
use Rattle.proof_ledger.specs.Book.{BookEntry, axiomatic, learnt, final, mark, clause_of, clause_hints_of, clauses_of, hints_of, shown, EachAfter, IsDerivedIfDue, DerivesFrom, IsEntryAt}
use Rattle.proof_ledger.specs.Kept.{all_entries, all_hints, book_of, first_entries, kept_from, kept, visible_entry, IsBook, IsKeptBook, made}

-- the book of what is kept of it
pub book_of-kept : (count : ℕ) (book : List BookEntry) → book_of (kept_from count book) (clauses_of book) (hints_of book) ≡ book
book_of-kept count [] = refl
book_of-kept count (axiomatic clause ∷ book) = ap (λ es. axiomatic clause ∷ es) (book_of-kept (count + 1) book)
book_of-kept count (learnt clause hints ∷ book) = ap (λ es. learnt clause hints ∷ es) (book_of-kept (count + 1) book)
book_of-kept count (final clause hints ∷ book) = ap (λ es. final clause hints ∷ es) (book_of-kept (count + 1) book)
book_of-kept count (mark k ∷ book) = ap (λ es. mark k ∷ es) (book_of-kept count book)

kept_from-append : (count : ℕ) (book : List BookEntry) (e : BookEntry) → kept_from count (book ++ e ∷ []) ≡ kept_from count book ++ kept (count + length (clauses_of book) + 1) e ∷ []
kept_from-append count [] (axiomatic clause) = rw add-zero refl
kept_from-append count [] (learnt clause hints) = rw add-zero refl
kept_from-append count [] (final clause hints) = rw add-zero refl
kept_from-append count [] (mark k) = refl
kept_from-append count (axiomatic clause ∷ book) e = let h = kept_from-append (count + 1) book e in let n : count + 1 + length (clauses_of book) ≡ count + suc (length (clauses_of book)) = omega arith in cc
kept_from-append count (learnt clause hints ∷ book) e = let h = kept_from-append (count + 1) book e in let n : count + 1 + length (clauses_of book) ≡ count + suc (length (clauses_of book)) = omega arith in cc
kept_from-append count (final clause hints ∷ book) e = let h = kept_from-append (count + 1) book e in let n : count + 1 + length (clauses_of book) ≡ count + suc (length (clauses_of book)) = omega arith in cc
kept_from-append count (mark k ∷ book) e = let h = kept_from-append count book e in cc

each_more : (earlier book : List BookEntry) (e : BookEntry) → EachAfter IsDerivedIfDue earlier book → IsDerivedIfDue (earlier ++ book) e → EachAfter IsDerivedIfDue earlier (book ++ e ∷ [])
each_more earlier [] e all h = (subst (λ (b : List BookEntry). IsDerivedIfDue b e) (append-nil earlier) h, tt)
each_more earlier (x ∷ book) e all h = (all.0, each_more (earlier ++ x ∷ []) book e all.1 (subst (λ (b : List BookEntry). IsDerivedIfDue b e) (sym (append_assoc earlier (x ∷ []) book)) h))

-- An entry joins a book: what is kept is that of the longer book.
pub record Joined (entries : List KeptEntry) (clauses : List Clause) (hints : List (List ℕ)) (book : List BookEntry) : Type 0 where
  pub kept : IsKeptBook entries clauses hints
  pub book_is : book_of entries clauses hints ≡ book
  pub count : length clauses ≡ length (clauses_of book)

pub is_book : (entries : List KeptEntry) (clauses : List Clause) (hints : List (List ℕ)) (book : List BookEntry) → IsBook entries clauses hints book → Joined entries clauses hints book
is_book entries clauses hints book h =
    let same : book_of entries clauses hints ≡ book = rw (h.entries_are, h.clauses_are, h.hints_are) (book_of-kept 0 book) in
    record {
      kept = subst (λ (b : List BookEntry). IsBook entries clauses hints b) (sym same) h;
      book_is = same;
      count = ap length h.clauses_are;
    }

pub joined : (first : ℕ) (es es' : List KeptEntry) (cs cs' : List Clause) (hs hs' : List (List ℕ)) (book : List BookEntry) (e : BookEntry) → IsKeptBook (all_entries first es) cs (all_hints first hs) → book_of (all_entries first es) cs (all_hints first hs) ≡ book → IsDerivedIfDue book e →
    es' ≡ es ++ kept (length cs + 1) e ∷ [] → cs' ≡ cs ++ clauses_of (e ∷ []) → hs' ≡ hs ++ hints_of (e ∷ []) → Joined (all_entries first es') cs' (all_hints first hs') (book ++ e ∷ [])
joined first es es' cs cs' hs hs' book e before same derived more_entries more_clauses more_hints =
    let k : IsBook (all_entries first es) cs (all_hints first hs) book = subst (λ (b : List BookEntry). IsBook (all_entries first es) cs (all_hints first hs) b) same before in
    let entries : all_entries first es' ≡ all_entries first es ++ kept (length cs + 1) e ∷ [] = ap (all_entries first) more_entries ∙ sym (append_assoc (first_entries first) es (kept (length cs + 1) e ∷ [])) in
    let hints : all_hints first hs' ≡ all_hints first hs ++ hints_of (e ∷ []) = ap (all_hints first) more_hints ∙ sym (append_assoc (replicate first []) hs (hints_of (e ∷ []))) in
    is_book (all_entries first es') cs' (all_hints first hs') (book ++ e ∷ []) (record {
      entries_are = let a = k.entries_are in let b = kept_from-append 0 book e in let d = ap length k.clauses_are in let z : 0 + length (clauses_of book) + 1 ≡ length cs + 1 = omega (arith, d) in cc;
      clauses_are = let a = k.clauses_are in let b = filter_map-append clause_of book (e ∷ []) in cc;
      hints_are = let a = k.hints_are in let b = filter_map-append clause_hints_of book (e ∷ []) in cc;
      valid = each_more [] book e k.valid derived;
    })

length-book_of : (es : List KeptEntry) (cs : List Clause) (hs : List (List ℕ)) → length (book_of es cs hs) ≡ length es
length-book_of [] cs hs = refl
length-book_of (Axiom id ∷ es) cs hs = ap suc (length-book_of es (drop 1 cs) (drop 1 hs))
length-book_of (Learnt id ∷ es) cs hs = ap suc (length-book_of es (drop 1 cs) (drop 1 hs))
length-book_of (Final id ∷ es) cs hs = ap suc (length-book_of es (drop 1 cs) (drop 1 hs))
length-book_of (Mark k ∷ es) cs hs = ap suc (length-book_of es cs hs)

-- there are as many entries as are kept
pub count_entries : (es : List KeptEntry) (cs : List Clause) (hs : List (List ℕ)) (book : List BookEntry) → book_of es cs hs ≡ book → length es ≡ length book
count_entries es cs hs book same = sym (length-book_of es cs hs) ∙ ap length same

length-hints_of : (book : List BookEntry) → length (hints_of book) ≡ length (clauses_of book)
length-hints_of [] = refl
length-hints_of (axiomatic clause ∷ book) = ap suc (length-hints_of book)
length-hints_of (learnt clause hints ∷ book) = ap suc (length-hints_of book)
length-hints_of (final clause hints ∷ book) = ap suc (length-hints_of book)
length-hints_of (mark k ∷ book) = length-hints_of book

-- and as many hints as clauses
pub count_hints : (es : List KeptEntry) (cs : List Clause) (hs : List (List ℕ)) (book : List BookEntry) → IsKeptBook es cs hs → book_of es cs hs ≡ book → length hs ≡ length (clauses_of book)
count_hints es cs hs book before same = ap length before.hints_are ∙ length-hints_of (book_of es cs hs) ∙ ap (λ (b : List BookEntry). length (clauses_of b)) same

kept_at : (count : ℕ) (book : List BookEntry) (place : ℕ) (d : KeptEntry) → place < length book →
    MatchOption (slice_get book place) ⊥ (λ e. get_or (kept_from count book) place d ≡ kept (count + length (clauses_of (take place book)) + 1) e)
kept_at count [] place d h = absurd (omega arith)
kept_at count (axiomatic clause ∷ book) zero d h = rw add-zero refl
kept_at count (learnt clause hints ∷ book) zero d h = rw add-zero refl
kept_at count (final clause hints ∷ book) zero d h = rw add-zero refl
kept_at count (mark k ∷ book) zero d h = refl
kept_at count (axiomatic clause ∷ book) (suc k) d h =
    let n : count + 1 + length (clauses_of (take k book)) + 1 ≡ count + suc (length (clauses_of (take k book))) + 1 = omega arith in
    subst (λ (m : ℕ). MatchOption (slice_get book k) ⊥ (λ e. get_or (kept_from (count + 1) book) k d ≡ kept m e)) n (kept_at (count + 1) book k d (omega arith))
kept_at count (learnt clause hints ∷ book) (suc k) d h =
    let n : count + 1 + length (clauses_of (take k book)) + 1 ≡ count + suc (length (clauses_of (take k book))) + 1 = omega arith in
    subst (λ (m : ℕ). MatchOption (slice_get book k) ⊥ (λ e. get_or (kept_from (count + 1) book) k d ≡ kept m e)) n (kept_at (count + 1) book k d (omega arith))
kept_at count (final clause hints ∷ book) (suc k) d h =
    let n : count + 1 + length (clauses_of (take k book)) + 1 ≡ count + suc (length (clauses_of (take k book))) + 1 = omega arith in
    subst (λ (m : ℕ). MatchOption (slice_get book k) ⊥ (λ e. get_or (kept_from (count + 1) book) k d ≡ kept m e)) n (kept_at (count + 1) book k d (omega arith))
kept_at count (mark m ∷ book) (suc k) d h = kept_at count book k d (omega arith)

-- what is kept of an entry shows it
visible_entry-kept : (number : ℕ) (e : BookEntry) → visible_entry (kept number e) ≡ shown number e
visible_entry-kept number (axiomatic clause) = refl
visible_entry-kept number (learnt clause hints) = refl
visible_entry-kept number (final clause hints) = refl
visible_entry-kept number (mark k) = refl

if_some : (o : Option BookEntry) (P Q : BookEntry → Type 0) → ((e : BookEntry) → P e → Q e) → MatchOption o ⊥ P → MatchOption o ⊥ Q
if_some None P Q f h = h
if_some (Some e) P Q f h = f e h

-- the entry at a place is shown with the number of its clause
pub entry_at : (es : List KeptEntry) (cs : List Clause) (hs : List (List ℕ)) (book : List BookEntry) (place : ℕ) (there : KeptEntry) (entry : Entry) → IsKeptBook es cs hs → book_of es cs hs ≡ book →
    place < length book → there ≡ get_or es place there → entry ≡ visible_entry there → IsEntryAt book place entry
entry_at es cs hs book place there entry same_book same h e shows =
    let k : IsBook es cs hs book = subst (λ (b : List BookEntry). IsBook es cs hs b) same same_book in
    let at : get_or (kept_from 0 book) place there ≡ there = sym (e ∙ ap (λ (l : List KeptEntry). get_or l place there) k.entries_are) in
    let n : 0 + length (clauses_of (take place book)) + 1 ≡ length (clauses_of (take place book)) + 1 = omega arith in
    if_some (slice_get book place) _ _ (λ x is. shows ∙ ap visible_entry (sym at ∙ is) ∙ ap (λ (m : ℕ). visible_entry (kept m x)) n ∙ visible_entry-kept _ x) (kept_at 0 book place there h)

-- the hints of a clause
pub hints_at : (es : List KeptEntry) (cs : List Clause) (hs : List (List ℕ)) (book : List BookEntry) (place : ℕ) (hints : List ℕ) → IsKeptBook es cs hs → book_of es cs hs ≡ book →
    slice_get hs place ≡ Some hints → slice_get (hints_of book) place ≡ Some hints
hints_at es cs hs book place hints before same at =
    let k : IsBook es cs hs book = subst (λ (b : List BookEntry). IsBook es cs hs b) same before in
    ap (λ (l : List (List ℕ)). slice_get l place) (sym k.hints_are) ∙ at

one_more : (cs : List Clause) (c : Clause) → length (cs ++ c ∷ []) ≡ length cs + 1
one_more cs c = grind (arith, common_steps)

-- an axiom joins the book
pub axiom_joined : (clause : Clause) (first : ℕ) (es es' : List KeptEntry) (cs cs' : List Clause) (hs hs' : List (List ℕ)) (book : List BookEntry) (id : ℕ) →
    IsKeptBook (all_entries first es) cs (all_hints first hs) → book_of (all_entries first es) cs (all_hints first hs) ≡ book → id ≡ length cs' → es' ≡ es ++ Axiom id ∷ [] → cs' ≡ cs ++ clause ∷ [] → hs' ≡ hs ++ [] ∷ [] → Joined (all_entries first es') cs' (all_hints first hs') (book ++ axiomatic clause ∷ [])
axiom_joined clause first es es' cs cs' hs hs' book id before same number e c h =
    let n : id ≡ length cs + 1 = number ∙ ap length c ∙ one_more cs clause in
    joined first es es' cs cs' hs hs' book (axiomatic clause) before same tt (e ∙ ap (λ k. es ++ Axiom k ∷ []) n) c h

-- a clause that is derived joins it by its origin
pub put_joined : (origin : Origin) (clause : Clause) (hints : List ℕ) (first : ℕ) (es es' : List KeptEntry) (cs cs' : List Clause) (hs hs' : List (List ℕ)) (book : List BookEntry) (id : ℕ) (entry : KeptEntry) →
    IsKeptBook (all_entries first es) cs (all_hints first hs) → book_of (all_entries first es) cs (all_hints first hs) ≡ book → DerivesFrom book clause hints → id ≡ length cs' → entry ≡ kept id (made origin [] []) →
    es' ≡ es ++ entry ∷ [] → cs' ≡ cs ++ clause ∷ [] → hs' ≡ hs ++ hints ∷ [] → Joined (all_entries first es') cs' (all_hints first hs') (book ++ made origin clause hints ∷ [])
put_joined origins.Learnt clause hints first es es' cs cs' hs hs' book id entry before same derived number is e c h =
    let n : id ≡ length cs + 1 = number ∙ ap length c ∙ one_more cs clause in
    joined first es es' cs cs' hs hs' book (learnt clause hints) before same derived (e ∙ ap (λ x. es ++ x ∷ []) (is ∙ ap Learnt n)) c h
put_joined origins.Final clause hints first es es' cs cs' hs hs' book id entry before same derived number is e c h =
    let n : id ≡ length cs + 1 = number ∙ ap length c ∙ one_more cs clause in
    joined first es es' cs cs' hs hs' book (final clause hints) before same derived (e ∙ ap (λ x. es ++ x ∷ []) (is ∙ ap Final n)) c h

-- a mark joins it, and the clauses stay
pub mark_joined : (number : ℕ) (first : ℕ) (es es' : List KeptEntry) (cs : List Clause) (hs : List (List ℕ)) (book : List BookEntry) → IsKeptBook (all_entries first es) cs (all_hints first hs) → book_of (all_entries first es) cs (all_hints first hs) ≡ book → es' ≡ es ++ Mark number ∷ [] → Joined (all_entries first es') cs (all_hints first hs) (book ++ mark number ∷ [])
mark_joined number first es es' cs hs book before same e = joined first es es' cs cs hs hs book (mark number) before same tt e (sym (append-nil cs)) (sym (append-nil hs))
