-- Fewer fresh clauses are learnt than there are clauses without a repeated variable over the variables of the axioms.
use Rattle.std.proofs.Common.{◌≡◌, ◌∙◌, ℕ, zero, suc, ◌+◌, ◌*◌, ◌^◌, ◌<◌, ◌≤◌, Bool, true, false, ◌||◌, List, [], ◌∷◌, ◌++◌, length, map, filter_map, Option, Some, None, refl, sym, ap, subst, arith, Contains, cond, ◌==◌, eqb, count_by, append_assoc}
use Rattle.std.proofs.Math.Nat.{pow-succ'}
use Rattle.std.proofs.lemmas.Bool.{eqb-true}
use Rattle.std.proofs.lemmas.List.{length-map}
use Rattle.std.proofs.lemmas.List.Elements.{Contains-append_left, Contains-append_right, filter_map-append}
use Rattle.std.proofs.lemmas.List.Folds.{list_any-append}
use Rattle.std.proofs.lemmas.List.Sums.{sum_by-cons}
use Rattle.std.proofs.lemmas.Map.Steps.{length-le_from_distinct_below}
use Rattle.std.specs.List.{AllByRecursion, IsDistinct, list_all, list_any}
use Rattle.proof_ledger.specs.Book.{BookEntry, axiomatic, learnt, final, mark, axiom_of, axioms_of, clause_of, clauses_of, EachAfter}
use Rattle.proof_ledger.specs.Fresh.{AreFresh, IfLearnt, IsFreshClause, is_learnt, occurs}
use Rattle.prop_core.proofs.Entailed.{both}
use Rattle.prop_core.proofs.Forcing.{falsified_from, forced_unit}
use Rattle.prop_core.proofs.Literals.{all_at, all_from, literal_is, once_consistent, same_is, literal_of}
use Rattle.prop_core.specs.Clauses.{Clause, is_false, is_true, same_literal}
use Rattle.prop_core.specs.Derivation.{standing}
use Rattle.prop_core.specs.Trail.{HasVarsOnce, all_quiet, has_var, is_forced_by, is_quiet}
use Rattle.prop_core.specs.declared.lit.Lit.{Lit}
use Rattle.des_base.proofs.BoolLemmas.{or_left, clash, otherwise}

-- ---- a fresh clause is no superset of one before

quiet_in : (taken : List Lit) (clauses : List Clause) (d : Clause) → all_quiet taken clauses ≡ true → Contains clauses d → is_quiet (standing taken d) ≡ true
quiet_in taken [] d quiet (k, below, is) = absurd (omega arith)
quiet_in taken (c ∷ clauses) d quiet (zero, below, is) = subst (λ x. is_quiet (standing taken x) ≡ true) is (both quiet).0
quiet_in taken (c ∷ clauses) d quiet (suc k, below, is) = quiet_in taken clauses d (both quiet).1 (k, omega arith, is)

abbrev IsWithin : Clause → Clause → Type 0
IsWithin c d = (x : Lit) → is_true d x ≡ true → is_true c x ≡ true

false_where : (a b : Bool) → a || b ≡ true → a ≡ false → b ≡ true
false_where true b h k = cc
false_where false b h k = h

covered : (taken : List Lit) (l : Lit) (c d : Clause) → is_forced_by taken l c ≡ true → IsWithin c d → list_all (λ k. same_literal l k || is_false taken k) d ≡ true
covered taken l c d alone inside = all_from (λ k. same_literal l k || is_false taken k) d (λ x here. all_at (λ k. same_literal l k || is_false taken k) c x (both alone).1 (inside x here))

not_superset : (before : List BookEntry) (c d : Clause) → IsFreshClause before c → Contains (clauses_of before) d → IsWithin c d → ⊥
not_superset before c d fresh held inside = by (is_true d fresh.found) refl
  where
    quiet : is_quiet (standing fresh.taken d) ≡ true
    quiet = quiet_in fresh.taken (clauses_of before) d fresh.quiet held

    others : list_all (λ k. same_literal fresh.found k || is_false fresh.taken k) d ≡ true
    others = covered fresh.taken fresh.found c d fresh.alone inside

    by : (b : Bool) → is_true d fresh.found ≡ b → ⊥
    by true e =
        let unit = forced_unit fresh.taken d fresh.found (once_consistent fresh.taken fresh.taken_once) fresh.left_open (rw (e, others) refl) in
        let q = rw unit at quiet in cc
    by false e =
        let all : list_all (is_false fresh.taken) d ≡ true = all_from (is_false fresh.taken) d (λ x here. false_where (same_literal fresh.found x) (is_false fresh.taken x) (all_at (λ k. same_literal fresh.found k || is_false fresh.taken k) d x others here)
        (otherwise (same_literal fresh.found x) (λ same. clash (is_true d fresh.found) (subst (λ y. is_true d y ≡ true) (sym (same_is fresh.found x same)) here) e))) in
        let q = rw (falsified_from fresh.taken d all) at quiet in cc

-- ---- a clause as a number below a power of 3, by the variables of a list

digit : ℕ → Clause → ℕ
digit x clause = cond (is_true clause (literal_of x true)) 1 (cond (is_true clause (literal_of x false)) 2 0)

code : List ℕ → Clause → ℕ
code [] clause = 0
code (x ∷ vars) clause = digit x clause + 3 * code vars clause

digit_small : (x : ℕ) (clause : Clause) → digit x clause ≤ 2
unfolding digit
digit_small x clause = by (is_true clause (literal_of x true)) (is_true clause (literal_of x false))
  where
    by : (b d : Bool) → cond b 1 (cond d 2 0) ≤ 2
    by true d = omega arith
    by false true = omega arith
    by false false = omega arith

code_small : (vars : List ℕ) (clause : Clause) → code vars clause < 3 ^ length vars
unfolding code
code_small [] clause = omega arith
code_small (x ∷ vars) clause = omega (arith, code_small vars clause, digit_small x clause, pow-succ' 3 (length vars))

same_digit : (vars : List ℕ) (c d : Clause) → code vars c ≡ code vars d → (x : ℕ) → Contains vars x → digit x c ≡ digit x d
unfolding code
same_digit [] c d same x (k, below, is) = absurd (omega arith)
same_digit (v ∷ vars) c d same x (zero, below, is) =
    let head : digit v c ≡ digit v d = omega (arith, same, digit_small v c, digit_small v d) in
    subst (λ y. digit y c ≡ digit y d) is head
same_digit (v ∷ vars) c d same x (suc k, below, is) =
    same_digit vars c d (omega (arith, same, digit_small v c, digit_small v d)) x (k, omega arith, is)

positive_digit : (x : ℕ) (clause : Clause) → digit x clause ≡ 1 → is_true clause (literal_of x true) ≡ true
unfolding digit
positive_digit x clause h = by (is_true clause (literal_of x true)) (is_true clause (literal_of x false)) h
  where
    by : (b d : Bool) → ◌≡◌ {A = ℕ} (cond b 1 (cond d 2 0)) 1 → b ≡ true
    by true d e = refl
    by false true e = absurd (omega arith)
    by false false e = absurd (omega arith)

negative_digit : (x : ℕ) (clause : Clause) → digit x clause ≡ 2 → is_true clause (literal_of x false) ≡ true
unfolding digit
negative_digit x clause h = by (is_true clause (literal_of x true)) (is_true clause (literal_of x false)) h
  where
    by : (b d : Bool) → ◌≡◌ {A = ℕ} (cond b 1 (cond d 2 0)) 2 → d ≡ true
    by true d e = absurd (omega arith)
    by false true e = refl
    by false false e = absurd (omega arith)

-- what a clause has, another of the same number has
carried : (vars : List ℕ) (c d : Clause) → HasVarsOnce d → code vars c ≡ code vars d → (x : Lit) → Contains vars x.var → is_true d x ≡ true → is_true c x ≡ true
unfolding digit
carried vars c d once same x known here = by x.positive refl
  where
    equal : digit x.var c ≡ digit x.var d
    equal = same_digit vars c d same x.var known

    by : (b : Bool) → x.positive ≡ b → is_true c x ≡ true
    by true e =
        let is : x ≡ literal_of x.var true = literal_is x (literal_of x.var true) refl e in
        let there : is_true d (literal_of x.var true) ≡ true = subst (λ y. is_true d y ≡ true) is here in
        let one : digit x.var d ≡ 1 = rw there refl in
        subst (λ y. is_true c y ≡ true) (sym is) (positive_digit x.var c (equal ∙ one))
    by false e =
        let is : x ≡ literal_of x.var false = literal_is x (literal_of x.var false) refl e in
        let there : is_true d (literal_of x.var false) ≡ true = subst (λ y. is_true d y ≡ true) is here in
        let other : is_true d (literal_of x.var true) ≡ false = once_consistent d once (literal_of x.var false) there in
        let two : digit x.var d ≡ 2 = rw (other, there) refl in
        subst (λ y. is_true c y ≡ true) (sym is) (negative_digit x.var c (equal ∙ two))

-- ---- the clauses that were learnt

-- the variables of a clause are among these
abbrev IsOver : List ℕ → Clause → Type 0
IsOver vars clause = (x : Lit) → is_true clause x ≡ true → Contains vars x.var

abbrev learnt_clause : BookEntry → Option Clause
learnt_clause (axiomatic clause) = None
learnt_clause (learnt clause hints) = Some clause
learnt_clause (final clause hints) = None
learnt_clause (mark number) = None

abbrev learnt_in : List BookEntry → List Clause
learnt_in book = filter_map learnt_clause book

abbrev EachFresh : List BookEntry → List BookEntry → Type 0
EachFresh earlier since = EachAfter (λ before entry. IfLearnt entry (IsFreshClause before)) earlier since

clauses_more : (book : List BookEntry) (e : BookEntry) (d : Clause) → Contains (clauses_of book) d → Contains (clauses_of (book ++ e ∷ [])) d
clauses_more book e d h = rw (filter_map-append clause_of book (e ∷ [])) (Contains-append_left (clauses_of book) (clauses_of (e ∷ [])) d h)

-- a fresh clause has another number than one before
other_code : (vars : List ℕ) (before : List BookEntry) (c d : Clause) → IsFreshClause before c → Contains (clauses_of before) d → HasVarsOnce d → IsOver vars d → (code vars d == code vars c) ≡ false
other_code vars before c d fresh held once over = otherwise (code vars d == code vars c)
    (λ h. not_superset before c d fresh held (λ x here. carried vars c d once (sym (eqb-true (code vars d) (code vars c) h)) x (over x here) here))

later_codes : (vars : List ℕ) (d : Clause) (before since : List BookEntry) → EachFresh before since → Contains (clauses_of before) d → HasVarsOnce d → IsOver vars d →
    AllByRecursion (λ n. (code vars d == n) ≡ false) (map (code vars) (learnt_in since))
later_codes vars d before [] each held once over = tt
later_codes vars d before (axiomatic c ∷ since) each held once over = later_codes vars d (before ++ axiomatic c ∷ []) since each.1 (clauses_more before (axiomatic c) d held) once over
later_codes vars d before (final c hints ∷ since) each held once over = later_codes vars d (before ++ final c hints ∷ []) since each.1 (clauses_more before (final c hints) d held) once over
later_codes vars d before (mark k ∷ since) each held once over = later_codes vars d (before ++ mark k ∷ []) since each.1 (clauses_more before (mark k) d held) once over
later_codes vars d before (learnt c hints ∷ since) each held once over =
    (other_code vars before c d each.0 held once over, later_codes vars d (before ++ learnt c hints ∷ []) since each.1 (clauses_more before (learnt c hints) d held) once over)

not_empty_code : (vars : List ℕ) (before : List BookEntry) (c : Clause) → IsFreshClause before c → IsOver vars c → (code vars [] == code vars c) ≡ false
not_empty_code vars before c fresh over = otherwise (code vars [] == code vars c)
    (λ h. let here = (both fresh.alone).0 in
    let gone = carried vars [] c fresh.once (eqb-true (code vars []) (code vars c) h) fresh.found (over fresh.found here) here in cc)

-- the variables of axioms of a book are among these
abbrev pub AreOver : List ℕ → List BookEntry → Type 0
AreOver vars book = (var : ℕ) → occurs var book ≡ true → Contains vars var

pub over_front : (vars : List ℕ) (front back : List BookEntry) → AreOver vars (front ++ back) → AreOver vars front
over_front vars front back over var there =
    over var (ap (list_any (has_var var)) (filter_map-append axiom_of front back) ∙ list_any-append (has_var var) (axioms_of front) (axioms_of back)
    ∙ or_left (list_any (has_var var) (axioms_of front)) (list_any (has_var var) (axioms_of back)) there)

fresh_over : (vars : List ℕ) (before : List BookEntry) (c : Clause) → AreOver vars before → IsFreshClause before c → IsOver vars c
fresh_over vars before c over fresh x here = over x.var (all_at (λ l. occurs l.var before) c x fresh.known here)

record HaveCodes (vars : List ℕ) (since : List BookEntry) : Type 0 where
  distinct : IsDistinct eqb (map (code vars) (learnt_in since))
  not_empty : AllByRecursion (λ n. (code vars [] == n) ≡ false) (map (code vars) (learnt_in since))

next_over : (vars : List ℕ) (before : List BookEntry) (x : BookEntry) (rest : List BookEntry) → AreOver vars (before ++ x ∷ rest) → AreOver vars ((before ++ x ∷ []) ++ rest)
next_over vars before x rest over = subst (AreOver vars) (sym (append_assoc before (x ∷ []) rest)) over

codes : (vars : List ℕ) (before since : List BookEntry) → AreOver vars (before ++ since) → EachFresh before since → HaveCodes vars since
unfolding IsDistinct
codes vars before [] over each = record { distinct = tt; not_empty = tt }
codes vars before (axiomatic c ∷ since) over each = let r = codes vars (before ++ axiomatic c ∷ []) since (next_over vars before (axiomatic c) since over) each.1 in record { distinct = r.distinct; not_empty = r.not_empty }
codes vars before (final c hints ∷ since) over each = let r = codes vars (before ++ final c hints ∷ []) since (next_over vars before (final c hints) since over) each.1 in record { distinct = r.distinct; not_empty = r.not_empty }
codes vars before (mark k ∷ since) over each = let r = codes vars (before ++ mark k ∷ []) since (next_over vars before (mark k) since over) each.1 in record { distinct = r.distinct; not_empty = r.not_empty }
codes vars before (learnt c hints ∷ since) over each =
    let its = fresh_over vars before c (over_front vars before (learnt c hints ∷ since) over) each.0 in
    let r = codes vars (before ++ learnt c hints ∷ []) since (next_over vars before (learnt c hints) since over) each.1 in
    let put : Contains (clauses_of (before ++ learnt c hints ∷ [])) c = rw (filter_map-append clause_of before (learnt c hints ∷ [])) (Contains-append_right (clauses_of before) (c ∷ []) c (0, omega arith, refl)) in
    record {
      distinct = (later_codes vars c (before ++ learnt c hints ∷ []) since each.1 put each.0.once its, r.distinct);
      not_empty = (not_empty_code vars before c each.0 its, r.not_empty);
    }

small_codes : (vars : List ℕ) (clauses : List Clause) (q : ℕ) → list_any (eqb q) (map (code vars) clauses) ≡ true → q < 3 ^ length vars
small_codes vars [] q h = cc
small_codes vars (c ∷ clauses) q h = by (eqb q (code vars c)) refl (small_codes vars clauses q)
  where
    by : (b : Bool) → eqb q (code vars c) ≡ b → (list_any (eqb q) (map (code vars) clauses) ≡ true → q < 3 ^ length vars) → q < 3 ^ length vars
    by true e later = omega (arith, code_small vars c, eqb-true q (code vars c) e)
    by false e later = later (rw e at h)

learnt_count : (since : List BookEntry) → count_by is_learnt since ≡ length (learnt_in since)
learnt_count [] = refl
learnt_count (axiomatic c ∷ since) = sum_by-cons (λ x. cond (is_learnt x) 1 0) (axiomatic c) since ∙ omega (arith, learnt_count since)
learnt_count (final c hints ∷ since) = sum_by-cons (λ x. cond (is_learnt x) 1 0) (final c hints) since ∙ omega (arith, learnt_count since)
learnt_count (mark k ∷ since) = sum_by-cons (λ x. cond (is_learnt x) 1 0) (mark k) since ∙ omega (arith, learnt_count since)
learnt_count (learnt c hints ∷ since) = sum_by-cons (λ x. cond (is_learnt x) 1 0) (learnt c hints) since ∙ omega (arith, learnt_count since)

-- over the variables of a list they are fewer than the power of 3
pub fresh_below : (vars : List ℕ) (earlier since : List BookEntry) (count : ℕ) → AreOver vars (earlier ++ since) → AreFresh earlier since count → count < 3 ^ length vars
unfolding IsDistinct
fresh_below vars earlier since count over fresh =
    let all = codes vars earlier since over fresh.each in
    let few = length-le_from_distinct_below (map (code vars) ([] ∷ learnt_in since)) (3 ^ length vars) (all.not_empty, all.distinct) (λ q h. small_codes vars ([] ∷ learnt_in since) q h) in
    omega (arith, few, length-map (learnt_in since) (code vars), learnt_count since, fresh.number)
