-- A book that begins with clauses as its axioms.
use Rattle.std.proofs.Common.{◌≡◌, ◌∙◌, ℕ, zero, suc, ◌+◌, ◌-◌, ◌<◌, ◌≤◌, List, [], ◌∷◌, ◌++◌, Some, length, map, replicate, get_or, slice_get, refl, sym, ap, arith}
use Rattle.std.proofs.lemmas.List.{append-nil, get_or_append_left, get_or-append_right, length-append, length-replicate}
use Rattle.std.proofs.lemmas.List.FromFn.{length-map-range_with_len, get_or-map-range_with_len}
use Rattle.std.specs.List.{range_with_len}
use Rattle.prop_core.specs.Clauses.{Clause}
use Rattle.proof_ledger.specs.declared.entry.Entry.{Entry}
use Rattle.proof_ledger.specs.declared.entry.Entry.TheVariants as shown_entries
use Rattle.proof_ledger.specs.declared.entry.KeptEntry.{KeptEntry}
use Rattle.proof_ledger.specs.declared.entry.KeptEntry.TheVariants.{Axiom}
use Rattle.proof_ledger.specs.Book.{BookEntry, axiomatic, clauses_of, hints_of, EachAfter, IsDerivedIfDue, IsEntryAt}
use Rattle.proof_ledger.specs.Kept.{all_entries, all_hints, book_of, first_entries, kept_from, visible_entry, IsKeptBook}
use Rattle.proof_ledger.proofs.Books.{Joined, count_entries, entry_at, is_book}

entries_are : (count : ℕ) (all : List Clause) → map Axiom (range_with_len (count + 1) (length all)) ≡ kept_from count (map axiomatic all)
entries_are count [] = refl
entries_are count (clause ∷ all) = ap (λ es. Axiom (count + 1) ∷ es) (entries_are (count + 1) all)

clauses_are : (all : List Clause) → all ≡ clauses_of (map axiomatic all)
clauses_are [] = refl
clauses_are (clause ∷ all) = ap (λ cs. clause ∷ cs) (clauses_are all)

hints_are : (all : List Clause) → replicate (length all) [] ≡ hints_of (map axiomatic all)
hints_are [] = refl
hints_are (clause ∷ all) = ap (λ hs. [] ∷ hs) (hints_are all)

valid : (earlier : List BookEntry) (all : List Clause) → EachAfter IsDerivedIfDue earlier (map axiomatic all)
valid earlier [] = tt
valid earlier (clause ∷ all) = (tt, valid (earlier ++ axiomatic clause ∷ []) all)

-- the clauses alone are the book of these axioms
pub all_begun : (all : List Clause) (first : ℕ) (es : List KeptEntry) (hs : List (List ℕ)) → first ≡ length all → es ≡ [] → hs ≡ [] → Joined (all_entries first es) all (all_hints first hs) (map axiomatic all)
all_begun all first es hs is no_entries no_hints = is_book _ all _ (map axiomatic all) (record {
  entries_are = ap (all_entries first) no_entries ∙ append-nil (first_entries first) ∙ ap first_entries is ∙ entries_are 0 all;
  clauses_are = clauses_are all;
  hints_are = ap (all_hints first) no_hints ∙ append-nil (replicate first []) ∙ ap (λ n. replicate n []) is ∙ hints_are all;
  valid = valid [] all;
})

-- how many entries there are
pub count_all : (first : ℕ) (es : List KeptEntry) (cs : List Clause) (hs : List (List ℕ)) (book : List BookEntry) → book_of (all_entries first es) cs hs ≡ book → first + length es ≡ length book
count_all first es cs hs book same = omega (arith, length-append (first_entries first) es, length-map-range_with_len Axiom 1 first, count_entries (all_entries first es) cs hs book same)

first_at : (first : ℕ) (es : List KeptEntry) (place : ℕ) (d : KeptEntry) → place < first → get_or (all_entries first es) place d ≡ Axiom (place + 1)
first_at first es place d below =
    get_or_append_left (first_entries first) es d place (omega (arith, length-map-range_with_len Axiom 1 first))
    ∙ get_or-map-range_with_len Axiom 1 first place (place + 1) d below (omega arith)

-- an axiom with which the book begins has the number of its place
pub first_entry_at : (first : ℕ) (es : List KeptEntry) (cs : List Clause) (hs : List (List ℕ)) (book : List BookEntry) (place : ℕ) → IsKeptBook (all_entries first es) cs hs → book_of (all_entries first es) cs hs ≡ book →
    place < first → IsEntryAt book place (shown_entries.Axiom (place + 1))
first_entry_at first es cs hs book place kept same below =
    entry_at (all_entries first es) cs hs book place (Axiom (place + 1)) (shown_entries.Axiom (place + 1)) kept same (omega (arith, count_all first es cs hs book same)) (sym (first_at first es place _ below)) refl

-- and another one has its entry behind those of these axioms
pub further_entry_at : (first : ℕ) (es : List KeptEntry) (cs : List Clause) (hs : List (List ℕ)) (book : List BookEntry) (place at : ℕ) (there : KeptEntry) (entry : Entry) → IsKeptBook (all_entries first es) cs hs → book_of (all_entries first es) cs hs ≡ book →
    place < length book → first ≤ place → at ≡ place - first → there ≡ get_or es at there → entry ≡ visible_entry there → IsEntryAt book place entry
further_entry_at first es cs hs book place at there entry kept same within behind is is_there shows =
    entry_at (all_entries first es) cs hs book place there entry kept same within
    (is_there ∙ ap (λ k. get_or es k there) is ∙ sym (get_or-append_right (first_entries first) es first place there (length-map-range_with_len Axiom 1 first) behind)) shows

further_hints : (first : ℕ) (hs : List (List ℕ)) (k : ℕ) → slice_get (all_hints first hs) (first + k) ≡ slice_get hs k
further_hints zero hs k = let none : 0 + k ≡ k = omega arith in ap (slice_get hs) none
further_hints (suc first) hs k = let next : suc first + k ≡ suc (first + k) = omega arith in ap (slice_get (all_hints (suc first) hs)) next ∙ further_hints first hs k

-- and those of another clause
pub further_hints_at : (first : ℕ) (hs : List (List ℕ)) (place at : ℕ) (hints : List ℕ) → place ≡ first + at → slice_get hs at ≡ Some hints → slice_get (all_hints first hs) place ≡ Some hints
further_hints_at first hs place at hints is there = ap (slice_get (all_hints first hs)) is ∙ further_hints first hs at ∙ there

-- how many clauses have hints, be it none
pub count_all_hints : (first : ℕ) (hs : List (List ℕ)) → length (all_hints first hs) ≡ first + length hs
count_all_hints first hs = length-append (replicate first []) hs ∙ ap (λ n. n + length hs) (length-replicate first [])
