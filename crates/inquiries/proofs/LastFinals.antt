-- The last final clause of a book.
use Rattle.std.proofs.Common.{◌≡◌, ◌∙◌, ℕ, ◌+◌, Bool, true, false, List, [], ◌∷◌, ◌++◌, take, Some, slice_get, refl, sym, ap, subst, append_assoc}
use Rattle.std.specs.Prelude.{◌||◌}
use Rattle.std.specs.List.{list_any}
use Rattle.std.proofs.lemmas.List.Folds.{list_any-append}
use Rattle.least_faults.specs.Evidence.{is_final}
use Rattle.proof_ledger.specs.Book.{BookEntry, axiomatic, learnt, final, mark, shown, IsEntryAt}
use Rattle.proof_ledger.specs.declared.entry.Entry.{Entry}
use Rattle.proof_ledger.specs.declared.entry.Entry.TheVariants.{Final}
use Rattle.proof_text.proofs.Fronts.{Seen, number_at, seen_at}
use Rattle.prop_core.specs.Clauses.{Clause}
use Rattle.inquiries.specs.Refuted.{IsLastFinal}
use Rattle.des_base.proofs.Elements.{take_at}

-- ---- entry by entry

none_empty : {P : Type 0} → list_any is_final [] ≡ true → P
none_empty h = cc

pub no_last : (last : ℕ) → list_any is_final [] ≡ true → IsLastFinal [] last
no_last last h = none_empty h

-- a final entry is the last so far
pub last_here : (book : List BookEntry) (place n : ℕ) (entry : Entry) → IsEntryAt book place entry → entry ≡ Final n → IsLastFinal (take (place + 1) book) n
last_here book place n entry at is = by s.e s.there s.seen
  where
    s : Seen book place entry
    s = seen_at book place entry at

    by : (e : BookEntry) → slice_get book place ≡ Some e → entry ≡ shown (number_at book place) e → IsLastFinal (take (place + 1) book) n
    by (axiomatic d) there seen = cc
    by (learnt d hints) there seen = cc
    by (mark k) there seen = cc
    by (final d hints) there seen = record {
      before = take place book;
      clause = d;
      hints = hints;
      later = [];
      whole = take_at book place (final d hints) there;
      none = refl;
      numbered = number;
    }
      where
        number : n ≡ number_at book place
        number = cc

-- and any other leaves it
pub last_stays : (book : List BookEntry) (place last : ℕ) (entry : Entry) → IsEntryAt book place entry → ((n : ℕ) → entry ≡ Final n → ⊥) → (list_any is_final (take place book) ≡ true → IsLastFinal (take place book) last) →
    list_any is_final (take (place + 1) book) ≡ true → IsLastFinal (take (place + 1) book) last
last_stays book place last entry at not so_far some = by s.e s.there s.seen
  where
    s : Seen book place entry
    s = seen_at book place entry at

    longer : (e : BookEntry) → slice_get book place ≡ Some e → is_final e ≡ false → IsLastFinal (take (place + 1) book) last
    longer e there other = subst (λ (es : List BookEntry). IsLastFinal es last) (sym more) (record {
      before = found.before;
      clause = found.clause;
      hints = found.hints;
      later = found.later ++ e ∷ [];
      whole = ap (λ (es : List BookEntry). es ++ e ∷ []) found.whole ∙ append_assoc found.before (final found.clause found.hints ∷ found.later) (e ∷ []);
      none = list_any-append is_final found.later (e ∷ []) ∙ both (list_any is_final found.later) (is_final e) found.none other;
      numbered = found.numbered;
    })
      where
        both : (a b : Bool) → a ≡ false → b ≡ false → (a || (b || false)) ≡ false
        both false false h k = refl
        both true b h k = cc
        both false true h k = cc

        more : take (place + 1) book ≡ take place book ++ e ∷ []
        more = take_at book place e there

        first : (a b : Bool) → b ≡ false → (a || (b || false)) ≡ true → a ≡ true
        first true b h k = refl
        first false false h k = cc
        first false true h k = cc

        found : IsLastFinal (take place book) last
        found = so_far (first (list_any is_final (take place book)) (is_final e) other (sym (list_any-append is_final (take place book) (e ∷ [])) ∙ ap (list_any is_final) (sym more) ∙ some))

    by : (e : BookEntry) → slice_get book place ≡ Some e → entry ≡ shown (number_at book place) e → IsLastFinal (take (place + 1) book) last
    by (axiomatic d) there seen = longer (axiomatic d) there refl
    by (learnt d hints) there seen = longer (learnt d hints) there refl
    by (final d hints) there seen = absurd (not (number_at book place) seen)
    by (mark k) there seen = longer (mark k) there refl

-- ---- there is one alone

pub has_final : (before : List BookEntry) (clause : Clause) (hints : List ℕ) (later : List BookEntry) → list_any is_final (before ++ final clause hints ∷ later) ≡ true
has_final [] clause hints later = refl
has_final (e ∷ before) clause hints later = by (is_final e) (has_final before clause hints later)
  where
    by : (b : Bool) → list_any is_final (before ++ final clause hints ∷ later) ≡ true → (b || list_any is_final (before ++ final clause hints ∷ later)) ≡ true
    by true h = refl
    by false h = h

pub record SameLast (before others : List BookEntry) (clause other : Clause) : Type 0 where
  pub earlier : before ≡ others
  pub same : clause ≡ other

last_is_one : (before others : List BookEntry) (clause other : Clause) (hints numbers : List ℕ) (later rest : List BookEntry) → before ++ final clause hints ∷ later ≡ others ++ final other numbers ∷ rest →
    list_any is_final later ≡ false → list_any is_final rest ≡ false → SameLast before others clause other
last_is_one [] [] clause other hints numbers later rest h none nothing = record { earlier = refl; same = same }
  where
    same : clause ≡ other
    same = cc
last_is_one [] (e ∷ others) clause other hints numbers later rest h none nothing = absurd (clash (sym none ∙ ap (list_any is_final) tail ∙ has_final others other numbers rest))
  where
    tail : later ≡ others ++ final other numbers ∷ rest
    tail = cc

    clash : false ≡ true → ⊥
    clash e = cc
last_is_one (e ∷ before) [] clause other hints numbers later rest h none nothing = absurd (clash (sym nothing ∙ ap (list_any is_final) (sym tail) ∙ has_final before clause hints later))
  where
    tail : before ++ final clause hints ∷ later ≡ rest
    tail = cc

    clash : false ≡ true → ⊥
    clash e = cc
last_is_one (e ∷ before) (f ∷ others) clause other hints numbers later rest h none nothing =
    let found = last_is_one before others clause other hints numbers later rest tail none nothing in
    record { earlier = joined found.earlier; same = found.same }
  where
    tail : before ++ final clause hints ∷ later ≡ others ++ final other numbers ∷ rest
    tail = cc

    first : e ≡ f
    first = cc

    joined : before ≡ others → e ∷ before ≡ f ∷ others
    joined same = cc

-- so a split of the book by its last final clause is that split
pub last_found : (book before : List BookEntry) (clause : Clause) (hints : List ℕ) (later : List BookEntry) (last : ℕ) → (found : IsLastFinal book last) → book ≡ before ++ final clause hints ∷ later → list_any is_final later ≡ false →
    SameLast found.before before found.clause clause
last_found book before clause hints later last found whole none = last_is_one found.before before found.clause clause found.hints hints found.later later (sym found.whole ∙ whole) found.none none
