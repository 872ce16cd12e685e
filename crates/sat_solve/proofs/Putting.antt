-- What a search puts, by its answer.
use Rattle.std.proofs.Common.{◌≡◌, ◌∙◌, ℕ, ◌++◌, ◌∷◌, [], List, refl, ap, sym, append_assoc}
use Rattle.std.proofs.lemmas.Bool.{and_from}
use Rattle.std.proofs.lemmas.List.{append-nil}
use Rattle.std.proofs.lemmas.List.Folds.{list_all-append}
use Rattle.prop_core.specs.declared.lit.Lit.{Lit}
use Rattle.proof_ledger.specs.Book.{BookEntry, learnt, final}
use Rattle.proof_ledger.specs.Fresh.{is_learnt}
use Rattle.sat_solve.specs.declared.answer.Answer.{Answer}
use Rattle.sat_solve.specs.declared.answer.Answer.TheVariants.{Sat, Unsat, Spent}
use Rattle.sat_solve.specs.Searching.{AreLearnt, IsPutFor, HasLearnt, HasPut}
use Rattle.sat_solve.specs.Solving.{LearnsOne}
use Rattle.sat_solve.proofs.Booking.{IsClosed}

pub learnt_none : (book : List BookEntry) → HasLearnt book book
learnt_none book = record { since = []; whole = sym (append-nil book); all_learnt = refl }

pub put_for_spent : (book : List BookEntry) → HasPut book book Spent
put_for_spent book = record { since = []; whole = sym (append-nil book); put = refl }

are_learnt_both : (xs ys : List BookEntry) → AreLearnt xs → AreLearnt ys → AreLearnt (xs ++ ys)
are_learnt_both xs ys a b = list_all-append is_learnt xs ys ∙ and_from _ _ a b

whole_both : (old book new xs ys : List BookEntry) → book ≡ old ++ xs → new ≡ book ++ ys → new ≡ old ++ (xs ++ ys)
whole_both old book new xs ys a b = b ∙ ap (λ entries. entries ++ ys) a ∙ append_assoc old xs ys

pub learnt_both : (old book new : List BookEntry) → HasLearnt old book → HasLearnt book new → HasLearnt old new
learnt_both old book new a b = record {
  since = a.since ++ b.since;
  whole = whole_both old book new a.since b.since a.whole b.whole;
  all_learnt = are_learnt_both a.since b.since a.all_learnt b.all_learnt;
}

-- a final entry alone is put for a refutation
pub put_closed : (assumed : List Lit) (book new : List BookEntry) (number : ℕ) → IsClosed assumed book new number → HasPut book new (Unsat number)
put_closed assumed book new number c = record {
  since = final c.clause c.hints ∷ [];
  whole = c.put;
  put = record { before = []; clause = c.clause; hints = c.hints; whole = refl; all_learnt = refl };
}

put_for_more : (xs ys : List BookEntry) (answer : Answer) → AreLearnt xs → IsPutFor answer ys → IsPutFor answer (xs ++ ys)
put_for_more xs ys Sat a b = are_learnt_both xs ys a b
put_for_more xs ys (Unsat number) a b = record {
  before = xs ++ b.before;
  clause = b.clause;
  hints = b.hints;
  whole = ap (λ entries. xs ++ entries) b.whole ∙ sym (append_assoc xs b.before (final b.clause b.hints ∷ []));
  all_learnt = are_learnt_both xs b.before a b.all_learnt;
}
put_for_more xs ys Spent a b = are_learnt_both xs ys a b

-- the answer comes after learnt entries
pub put_after : (old book new : List BookEntry) (answer : Answer) → HasLearnt old book → HasPut book new answer → HasPut old new answer
put_after old book new answer a b = record {
  since = a.since ++ b.since;
  whole = whole_both old book new a.since b.since a.whole b.whole;
  put = put_for_more a.since b.since answer a.all_learnt b.put;
}
