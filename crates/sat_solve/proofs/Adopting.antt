-- The clauses of a book as they are attached, one after another.
use Rattle.std.proofs.Common.{◌≡◌, ◌∙◌, ℕ, ◌+◌, ◌-◌, ◌<◌, ◌≤◌, false, ◌++◌, ◌∷◌, [], List, ap, sym, length, take, drop, zero, suc, get_or, arith, subst, inl, ⊎_elim, eqb}
use Rattle.std.specs.Prelude.{Option, Some, ◌⊎◌, Contains, IfSome}
use Rattle.std.specs.List.{AllByRecursion}
use Rattle.std.proofs.lemmas.Grind.{common_steps}
use Rattle.std.proofs.lemmas.Bool.{ne_eqb}
use Rattle.std.proofs.lemmas.List.Elements.{filter_map-append}
use Rattle.std.proofs.lemmas.Option.{slice_get-get_or}
use Rattle.prop_core.specs.Clauses.{Clause, HasValues}
use Rattle.prop_core.specs.Derivation.{clause_numbered}
use Rattle.proof_ledger.specs.Book.{BookEntry, axiomatic, clause_of, clauses_of}
use Rattle.sat_prop.specs.TrailState.{TrailState}
use Rattle.sat_prop.specs.Changes.{IsFront, with_attached_clause}
use Rattle.sat_prop.proofs.Fronts.{split_last, contains_more}
use Rattle.sat_solve.specs.Solving.{SolverState, HasAttached}
use Rattle.sat_solve.proofs.Learning.{contains_last}
use Rattle.sat_solve.proofs.Standing.{each_below}
use Rattle.prop_core.proofs.Literals.{wider}

-- the first `count` clauses are attached, where the trail began with its own
pub record IsAdopting (start t : TrailState) (all : List Clause) (count : ℕ) : Type 0 where
  pub front : IsFront t.clauses all
  pub whole : (t.clauses ≡ all) ⊎ (count ≡ length t.clauses)
  pub joined : (n : ℕ) → n < count → Contains t.attached (n + 1)
  pub literals : t.literals ≡ start.literals
  pub reasons : t.reasons ≡ start.reasons
  pub vars : t.vars ≡ start.vars
  pub spare : t.spare + count ≡ start.spare + length start.clauses

pub adopting_more : (start t u : TrailState) (all : List Clause) (count id next : ℕ) → IsAdopting start t all count → id ≡ count + 1 → next ≡ count + 1 → 1 ≤ t.spare → u ≡ with_attached_clause t all id → IsAdopting start u all next
adopting_more start t u all count id next a i x h e =
    let c : u.clauses ≡ all = ap (λ (x : TrailState). x.clauses) e in
    let s : u.spare ≡ t.spare - 1 = ap (λ (x : TrailState). x.spare) e in
    let att : u.attached ≡ t.attached ++ id ∷ [] = ap (λ (x : TrailState). x.attached) e in
    let f : take (length all) all ≡ all = grind (arith, common_steps) in
    record {
      front = rw c f;
      whole = inl c;
      joined = λ n b. subst (λ (xs : List ℕ). Contains xs (n + 1)) (sym att) (⊎_elim
          (λ m. contains_more t.attached id (n + 1) (a.joined n m))
          (λ m. let q : id ≡ n + 1 = omega arith in subst (λ (k : ℕ). Contains (t.attached ++ id ∷ []) k) q (contains_last t.attached id))
          (split_last n count (omega arith)));
      literals = ap (λ (x : TrailState). x.literals) e ∙ a.literals;
      reasons = ap (λ (x : TrailState). x.reasons) e ∙ a.reasons;
      vars = ap (λ (x : TrailState). x.vars) e ∙ a.vars;
      spare = let b = a.spare in omega arith;
    }

pub all_wider : (vars more : ℕ) (all : List Clause) → vars ≤ more → AllByRecursion (HasValues vars) all → AllByRecursion (HasValues more) all
all_wider vars more [] h a = tt
all_wider vars more (c ∷ all) h a = (wider vars more c h a.0, all_wider vars more all h a.1)

known_whole : (vars n : ℕ) (all : List Clause) → AllByRecursion (HasValues vars) (take n all) → AllByRecursion (HasValues vars) (drop n all) → AllByRecursion (HasValues vars) all
known_whole vars zero all a b = b
known_whole vars (suc n) [] a b = tt
known_whole vars (suc n) (c ∷ all) a b = (a.0, known_whole vars n all a.1 b)

-- where the old clauses have known variables and the new ones too, all have
pub known_all : (vars : ℕ) (old all : List Clause) → IsFront old all → AllByRecursion (HasValues vars) old → AllByRecursion (HasValues vars) (drop (length old) all) → AllByRecursion (HasValues vars) all
known_all vars old all f a b = known_whole vars (length old) all (subst (AllByRecursion (HasValues vars)) (sym f) a) b

-- the same, as the solver sees it
pub known_viewed : {R : Type 0} (s v : SolverState R) (all clauses : List Clause) → v ≡ s → IsFront s.adopted all → AllByRecursion (HasValues v.vars) v.adopted → AllByRecursion (HasValues s.vars) (drop (length s.adopted) all) → clauses ≡ all → AllByRecursion (HasValues v.vars) clauses
known_viewed {R} s v all clauses e f below k same =
    let g = subst (λ (x : SolverState R). IsFront x.adopted all) (sym e) f in
    let h = subst (λ (x : SolverState R). AllByRecursion (HasValues x.vars) (drop (length x.adopted) all)) (sym e) k in
    subst (AllByRecursion (HasValues v.vars)) (sym same) (known_all v.vars v.adopted all g below h)

-- a book that has one more axiom
pub record HasOneMore (old : List Clause) (new : List BookEntry) (vars : ℕ) : Type 0 where
  pub grown : IsFront old (clauses_of new)
  pub count : length (clauses_of new) ≡ length old + 1
  pub known : AllByRecursion (HasValues vars) (drop (length old) (clauses_of new))

pub one_more : (old : List Clause) (book new : List BookEntry) (c : Clause) (vars : ℕ) → old ≡ clauses_of book → new ≡ book ++ axiomatic c ∷ [] → HasValues vars c → HasOneMore old new vars
one_more old book new c vars e a h =
    let q : clauses_of new ≡ old ++ c ∷ [] = ap clauses_of a ∙ filter_map-append clause_of book (axiomatic c ∷ []) ∙ ap (λ (xs : List Clause). xs ++ c ∷ []) (sym e) in
    let t : take (length old) (old ++ c ∷ []) ≡ old = grind (arith, common_steps) in
    let d : drop (length old) (old ++ c ∷ []) ≡ c ∷ [] = grind (arith, common_steps) in
    let n : length (old ++ c ∷ []) ≡ length old + 1 = grind (arith, common_steps) in
    record { grown = rw q t; count = rw q n; known = rw (q, d) (h, tt) }
