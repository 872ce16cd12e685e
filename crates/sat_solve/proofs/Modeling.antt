-- A trail on which no variable is open gives a model.
use Rattle.std.proofs.Common.{◌≡◌, ◌∙◌, ℕ, ◌<◌, Bool, true, false, not, ◌&&◌, ◌∷◌, [], List, refl, ap, sym, subst, ⊎_elim, inl, inr}
use Rattle.std.specs.Prelude.{◌⊎◌, Result, Ok, Err, IfOk}
use Rattle.std.specs.List.{list_any, list_all, AllByRecursion}
use Rattle.std.proofs.lemmas.Bool.{and_parts, and_cases, cases_Bool, or_right}
use Rattle.prop_core.specs.declared.lit.Lit.{Lit}
use Rattle.prop_core.specs.Clauses.{Clause, negation, same_literal, is_true, is_false, is_open, literal_true, clause_true, value_in, HasValues, AllClausesTrue, AllLiteralsTrue, AreConsistent}
use Rattle.prop_core.specs.Derivation.{standing}
use Rattle.prop_core.specs.Trail.{is_quiet}
use Rattle.prop_core.proofs.Entailed.{same_itself}
use Rattle.prop_core.proofs.Literals.{literal_of, literal_is, below_at, any_from}
use Rattle.prop_core.proofs.Forcing.{falsified_from}
use Rattle.proof_ledger.specs.Book.{BookEntry, clauses_of}
use Rattle.sat_prop.specs.TrailState.{TrailState}
use Rattle.sat_prop.specs.Kept.{IsTrailState}
use Rattle.sat_prop.proofs.Justifying.{justified_consistent}
use Rattle.sat_solve.specs.declared.answer.Answer.{Answer}
use Rattle.sat_solve.specs.declared.answer.Answer.TheVariants.{Sat, Unsat, Spent}
use Rattle.sat_solve.specs.Searching.{IsModel, IsAnswer}
use Rattle.sat_solve.specs.Solving.{IsServing, IsComplete, IsAnswerByTrail, IsUnfinished, AreTrailValues, IsEnded}
use Rattle.sat_solve.specs.declared.search.Search.{Search}
use Rattle.sat_solve.proofs.Learning.{all_quiet_from}

-- a true literal is true by the values
true_holds : (values : List Bool) (literals : List Lit) (vars : ℕ) (l : Lit) → AreConsistent literals → AreTrailValues values literals vars → is_true literals l ≡ true → l.var < vars → literal_true (value_in values) l ≡ true
true_holds values literals vars l c v e h = go l.positive refl (v l.var h)
  where
    go : (p : Bool) → l.positive ≡ p → value_in values l.var ≡ is_true literals (literal_of l.var true) → literal_true (value_in values) l ≡ true
    go true q a =
        let i : l ≡ literal_of l.var true = literal_is l (literal_of l.var true) refl q in
        let t : is_true literals (literal_of l.var true) ≡ true = subst (λ (x : Lit). is_true literals x ≡ true) i e in
        rw (a ∙ t, q) refl
    go false q a =
        let i : l ≡ literal_of l.var false = literal_is l (literal_of l.var false) refl q in
        let t : is_true literals (literal_of l.var true) ≡ false = c (literal_of l.var false) (subst (λ (x : Lit). is_true literals x ≡ true) i e) in
        rw (a ∙ t, q) refl

-- where no variable is open, a literal that is not false is true
closed_true : (literals : List Lit) (l : Lit) → is_open literals (literal_of l.var false) ≡ false → is_false literals l ≡ false → is_true literals l ≡ true
closed_true literals l o f = go l.positive refl
  where
    pick_one : (a b : Bool) → (not a && not b) ≡ false → (a ≡ true) ⊎ (b ≡ true)
    pick_one true b e = inl refl
    pick_one false true e = inr refl
    pick_one false false e = cc

    go : (p : Bool) → l.positive ≡ p → is_true literals l ≡ true
    go true q =
        let i : l ≡ literal_of l.var true = literal_is l (literal_of l.var true) refl q in
        ⊎_elim (λ a. let n : negation l ≡ literal_of l.var false = ap negation i in absurd (let z : true ≡ false = sym a ∙ sym (ap (is_true literals) n) ∙ f in cc))
        (λ a. ap (is_true literals) i ∙ a) (pick_one (is_true literals (literal_of l.var false)) (is_false literals (literal_of l.var false)) o)
    go false q =
        let i : l ≡ literal_of l.var false = literal_is l (literal_of l.var false) refl q in
        ⊎_elim (λ a. ap (is_true literals) i ∙ a)
        (λ a. let n : negation l ≡ literal_of l.var true = ap negation i in absurd (let z : true ≡ false = sym a ∙ sym (ap (is_true literals) n) ∙ f in cc)) (pick_one (is_true literals (literal_of l.var false)) (is_false literals (literal_of l.var false)) o)

-- a literal of a clause for which a test fails
record Fails (p : Lit → Bool) (c : Clause) (x : Lit) : Type 0 where
  among : list_any (same_literal x) c ≡ true
  fails : p x ≡ false

some_fails : (p : Lit → Bool) (c : Clause) → list_all p c ≡ false → (x : Lit) × Fails p c x
some_fails p [] e = cc
some_fails p (y ∷ c) e =
    ⊎_elim (λ a. (y, record { among = let s = same_itself y in rw s refl; fails = a }))
    (λ a. let r = some_fails p c a in (r.0, record { among = or_right (same_literal r.0 y) _ r.1.among; fails = r.1.fails })) (and_cases (p y) (list_all p c) e)

-- a quiet clause
quiet_holds : (values : List Bool) (literals : List Lit) (vars : ℕ) (c : Clause) → AreConsistent literals → AreTrailValues values literals vars → ((var : ℕ) → var < vars → is_open literals (literal_of var false) ≡ false) →
    is_quiet (standing literals c) ≡ true → HasValues vars c → clause_true (value_in values) c ≡ true
quiet_holds values literals vars c k v o q h =
    let z : list_all (is_false literals) c ≡ false = ⊎_elim (λ e. let w = ap is_quiet (falsified_from literals c e) in absurd (let y : true ≡ false = sym q ∙ w in cc)) (λ e. e) (cases_Bool (list_all (is_false literals) c)) in
    let r = some_fails (is_false literals) c z in
    let b = below_at vars c r.0 h r.1.among in
    any_from (literal_true (value_in values)) c r.0 r.1.among (true_holds values literals vars r.0 k v (closed_true literals r.0 (o r.0.var b) r.1.fails) b)

all_hold : (values : List Bool) (literals : List Lit) (vars : ℕ) (cs : List Clause) → AreConsistent literals → AreTrailValues values literals vars → ((var : ℕ) → var < vars → is_open literals (literal_of var false) ≡ false) →
    list_all (λ c. is_quiet (standing literals c)) cs ≡ true → AllByRecursion (HasValues vars) cs → AllClausesTrue (value_in values) cs
all_hold values literals vars [] k v o q h = tt
all_hold values literals vars (c ∷ cs) k v o q h =
    let p = and_parts (is_quiet (standing literals c)) _ q in
    (quiet_holds values literals vars c k v o p.0 h.0, all_hold values literals vars cs k v o p.1 h.1)

assumptions_hold : (values : List Bool) (literals : List Lit) (vars : ℕ) (whole assumed : List Lit) → AreConsistent literals → AreTrailValues values literals vars → list_all (is_true literals) assumed ≡ true → ((l : Lit) → is_true assumed l ≡ true → l.var < vars) → AllLiteralsTrue (value_in values) assumed
assumptions_hold values literals vars whole [] k v a h = tt
assumptions_hold values literals vars whole (l ∷ assumed) k v a h =
    let p = and_parts (is_true literals l) _ a in
    (true_holds values literals vars l k v p.0 (h l (let s = same_itself l in rw s refl)), assumptions_hold values literals vars whole assumed k v p.1 (λ x e. h x (or_right (same_literal x l) _ e)))

-- the values make all true
pub model_from : (values : List Bool) (assumed : List Lit) (t : TrailState) (book : List BookEntry) (vars spare : ℕ) → IsTrailState t → IsServing vars spare t → HasValues vars assumed → t.clauses ≡ clauses_of book → IsComplete assumed vars t → AreTrailValues values t.literals vars → IsModel values book assumed
model_from values assumed t book vars spare ts s below e c v =
    let k = justified_consistent t.clauses t.attached t.literals t.reasons t.vars ts.justified in
    record {
      clauses = subst (AllClausesTrue (value_in values)) e (all_hold values t.literals vars t.clauses k v c.closed (all_quiet_from t.clauses t.attached t.literals s.joined c.quiet) s.below);
      assumptions = assumptions_hold values t.literals vars assumed assumed k v c.assumptions (λ l h. below_at vars assumed l below h);
    }

-- what was found is an answer
pub answer_from : (values : List Bool) (assumed : List Lit) (t : TrailState) (book : List BookEntry) (vars spare budget : ℕ) (a : Answer) → IsTrailState t → IsServing vars spare t → HasValues vars assumed → IsUnfinished spare t book a → IsAnswerByTrail assumed vars t book budget a → (a ≡ Sat → AreTrailValues values t.literals vars) → IsAnswer values book assumed budget a
answer_from values assumed t book vars spare budget Sat ts s below u f v = model_from values assumed t book vars spare ts s below u f (v refl)
answer_from values assumed t book vars spare budget (Unsat number) ts s below u f v = f
answer_from values assumed t book vars spare budget Spent ts s below u f v = f

-- what was found is an answer where the values of a model are kept
pub answers_from : {R E : Type 0} (r : Result Answer E) (values : List Bool) (assumed : List Lit) (s : Search R) (old new : List BookEntry) (budget : ℕ) → IsTrailState s.propagator → HasValues s.vars assumed → IfOk r (IsEnded assumed s old new budget) → (r ≡ Ok Sat → AreTrailValues values s.propagator.literals s.vars) → IfOk r (IsAnswer values new assumed budget)
answers_from (Ok a) values assumed s old new budget ts below e v = answer_from values assumed s.propagator new s.vars s.spare budget a ts e.sound.serving below e.unfinished e.found (λ q. v (ap Ok q))
answers_from (Err error) values assumed s old new budget ts below e v = tt
