-- A question with columns after columns.
use Rattle.std.proofs.Common.{◌≡◌, ◌∙◌, ℕ, zero, suc, ◌+◌, ◌-◌, ◌≤◌, [], ◌∷◌, length, max, Option, None, Some, refl, ap, arith, length-append}
use Rattle.std.specs.List.{range_with_len}
use Rattle.des_net.specs.Network.{Net}
use Rattle.least_faults.specs.Columns.{columns_built, columns_for, built_within}
use Rattle.log_order.specs.Log.{Log}
use Rattle.run_decode.specs.QuestionAxioms.{BuiltQuestion, column_built, question_built}

none_more : (a : ℕ) → a ≡ a + 0
none_more a = omega arith

one_more : (a b : ℕ) → suc (a + b) ≡ a + suc b
one_more a b = omega arith

pub columns_both : (question : BuiltQuestion) (a b : ℕ) → columns_built (columns_built question a) b ≡ columns_built question (a + b)
columns_both question a zero = ap (columns_built question) (none_more a)
columns_both question a (suc b) = ap column_built (columns_both question a b) ∙ ap (columns_built question) (one_more a b)

pub columns_counted : (question : BuiltQuestion) (columns : ℕ) → length (columns_built question columns).counter.columns ≡ length question.counter.columns + columns
columns_counted question zero = omega arith
columns_counted question (suc columns) =
    let before = columns_built question columns in
    omega (arith, columns_counted question columns, length-append before.counter.columns (range_with_len before.vars (length before.counter.inputs) ∷ []))

pub question_columns : (net : Net) (log : Log) (n a b : ℕ) → columns_built (question_built net log n a) b ≡ question_built net log n (a + b)
question_columns net log n a zero = ap (question_built net log n) (none_more a)
question_columns net log n a (suc b) = ap column_built (question_columns net log n a b) ∙ ap (question_built net log n) (one_more a b)

pub vars_grow : (question : BuiltQuestion) (columns : ℕ) → question.vars ≤ (columns_built question columns).vars
vars_grow question zero = omega arith
vars_grow question (suc columns) = omega (arith, vars_grow question columns)

-- without a bound nothing is needed
pub within_none : (question : BuiltQuestion) → built_within question None ≡ question
within_none question = ap (columns_built question) (none (length question.counter.columns))
  where
    none : (before : ℕ) → columns_for None - before ≡ 0
    none before = omega arith

-- a question without columns gets all that the bound needs
pub question_within_bound : (net : Net) (log : Log) (n : ℕ) (bound : Option ℕ) → built_within (question_built net log n 0) bound ≡ question_built net log n (columns_for bound)
question_within_bound net log n bound = ap (columns_built (question_built net log n 0)) (all (length (question_built net log n 0).counter.columns) refl) ∙ question_columns net log n 0 (columns_for bound) ∙ ap (question_built net log n) (sum (columns_for bound))
  where
    all : (before : ℕ) → before ≡ 0 → columns_for bound - before ≡ columns_for bound
    all before none = omega (arith, none)

    sum : (columns : ℕ) → 0 + columns ≡ columns
    sum columns = omega arith

-- What a question is with the columns for a bound is what it was, with them, before it got those for each lower bound.
pub within_further : (begun now : BuiltQuestion) (columns k : ℕ) → now ≡ columns_built begun columns → length now.counter.columns ≡ max (length begun.counter.columns) k → built_within now (Some k) ≡ built_within begun (Some k)
within_further begun now columns k is wide =
    ap (λ (question : BuiltQuestion). columns_built question (k + 1 - length now.counter.columns)) is
    ∙ columns_both begun columns (k + 1 - length now.counter.columns)
    ∙ ap (columns_built begun) (rest (length begun.counter.columns) (length now.counter.columns) (ap (λ (question : BuiltQuestion). length question.counter.columns) is ∙ columns_counted begun columns) wide)
  where
    rest : (before after : ℕ) → after ≡ before + columns → after ≡ max before k → columns + (k + 1 - after) ≡ k + 1 - before
    rest before after more most = omega (arith, more, most)
