-- A literal that is made for an event: what is put into the book, and what the solver and later calls find.
use Rattle.std.proofs.Common.{◌≡◌, ◌∙◌, ℕ, ◌+◌, ◌<◌, ◌≤◌, true, false, List, [], ◌∷◌, ◌++◌, drop, length, Result, Ok, Err, sym, ap, subst, arith, length-append}
use Rattle.std.specs.Prelude.{OnErr}
use Rattle.std.proofs.Math.Seq.{take-append_seam, drop-append_seam}
use Rattle.std.proofs.lemmas.List.Elements.{Contains-append_right as append_right}
use Rattle.std.specs.List.{AllByRecursion}
use Rattle.card_counter.specs.CounterState.{positive}
use Rattle.des_base.proofs.Elements.{here_first}
use Rattle.des_net.specs.Network.{is_fault}
use Rattle.fault_verdicts.proofs.Ready.{ready_with_literal}
use Rattle.fault_verdicts.specs.Asked.{some_step_clause}
use Rattle.fault_verdicts.specs.Judging.{HasMade, event_signed}
use Rattle.fault_verdicts.specs.Ready.{AreReadyWith}
use Rattle.sat_solve.proofs.Freshness.{known_after}
use Rattle.sat_solve.specs.Leaving.{AddsAxioms}
use Rattle.least_faults.specs.declared.parts.Parts.{Parts}
use Rattle.proof_ledger.specs.Book.{BookEntry, axiomatic, clauses_of}
use Rattle.prop_core.specs.Clauses.{Clause, HasValues}
use Rattle.prop_core.specs.declared.grid.Grid.{Grid}
use Rattle.prop_core.specs.declared.lit.Lit.{Lit}
use Rattle.sat_order.specs.Rank.{IsRanked}
use Rattle.sat_prop.specs.Changes.{IsFront}
use Rattle.sat_solve.specs.Solving.{SolverState}
use Rattle.step_encode.specs.Coded.{CodedSteps, code_grid}
use Rattle.proof_ledger.proofs.AxiomLists.{clauses_added}

-- what the loop wrote behind the new literal is the clause of the event
pub some_step_written : (steps : CodedSteps) (grid : Grid) (vars e : ℕ) (none first whole : List Lit) (l : Lit) → none ≡ [] → first ≡ none ++ l ∷ [] → l ≡ record { var = vars; positive = false } → grid ≡ code_grid steps → whole ≡ first ++ event_signed grid true e → whole ≡ some_step_clause (code_grid steps) (vars, e)
some_step_written steps grid vars e none first whole l empty pushed literal is written =
    written
    ∙ ap (λ (g : Grid). first ++ event_signed g true e) is
    ∙ ap (λ (ls : List Lit). ls ++ event_signed (code_grid steps) true e) (pushed ∙ ap (λ (ls : List Lit). ls ++ l ∷ []) empty ∙ ap (λ (x : Lit). x ∷ []) literal)

-- the clause as a further axiom
pub clause_put : (book mid entries : List BookEntry) (slice whole : Clause) → mid ≡ book → slice ≡ whole → entries ≡ mid ++ axiomatic slice ∷ [] → entries ≡ book ++ axiomatic whole ∷ []
clause_put book mid entries slice whole same is pushed = pushed ∙ ap (λ (b : List BookEntry). b ++ axiomatic slice ∷ []) same ∙ ap (λ (c : Clause). book ++ axiomatic c ∷ []) is

pub adds_one : (book entries : List BookEntry) (clause : Clause) → entries ≡ book ++ axiomatic clause ∷ [] → AddsAxioms book entries
adds_one book entries clause pushed = record { axioms = clause ∷ []; more = pushed }

-- a solver that has adopted the book can adopt it
pub record CanAdopt (adopted entries : List Clause) (spare values : ℕ) : Type 0 where
  pub grown : IsFront adopted entries
  pub room : length entries ≤ length adopted + spare
  pub known : AllByRecursion (HasValues values) (drop (length adopted) entries)

pub can_adopt : (book entries : List BookEntry) (clause : Clause) (adopted : List Clause) (spare values : ℕ) → entries ≡ book ++ axiomatic clause ∷ [] → adopted ≡ clauses_of book → 1 ≤ spare → HasValues values clause → CanAdopt adopted (clauses_of entries) spare values
can_adopt book entries clause adopted spare values pushed same enough below =
    subst (λ (cs : List Clause). CanAdopt cs (clauses_of entries) spare values) (sym same)
    (subst (λ (cs : List Clause). CanAdopt (clauses_of book) cs spare values) (sym (ap clauses_of pushed ∙ clauses_added book (clause ∷ []))) (record {
      grown = take-append_seam (clauses_of book) (clause ∷ []);
      room = omega (arith, length-append (clauses_of book) (clause ∷ []), enough);
      known = subst (AllByRecursion (HasValues values)) (sym (drop-append_seam (clauses_of book) (clause ∷ []))) (below, tt);
    }))

-- what is ready with it
pub has_made : {R : Type 0} (may : R → ℕ → Type 0) (gives : R → ℕ → ℕ → Type 0) (parts : Parts R) (solver : SolverState R) (vars : ℕ) (book entries : List BookEntry) (made : List (ℕ × ℕ)) (e : ℕ) (literal : Lit) → AreReadyWith may gives parts book made →
    e < length parts.step.net.events → is_fault parts.step.net e ≡ true → parts.vars ≤ 1000000000 → vars ≡ parts.vars + 1 → entries ≡ book ++ axiomatic (some_step_clause (code_grid parts.step) (parts.vars, e)) ∷ [] →
    solver.adopted ≡ clauses_of entries → vars ≤ solver.vars → IsRanked may gives solver.order → literal ≡ positive parts.vars → HasMade may gives (record parts { vars = vars; solver = solver }) entries e literal
has_made may gives parts solver vars book entries made e literal ready known fault few is pushed adopted enough ranked literal_is = record {
  made = made ++ (parts.vars, e) ∷ [];
  ready = ready_with_literal may gives parts solver vars book entries made e ready known fault few is pushed (known_after book entries (adds_one book entries (some_step_clause (code_grid parts.step) (parts.vars, e)) pushed) ready.beside.known) adopted enough ranked;
  there = append_right made ((parts.vars, e) ∷ []) (literal.var, e) (here_first (parts.vars, e) [] (literal.var, e) (ap (λ (l : Lit). (l.var, e)) (sym literal_is)));
  holds = literal_is ∙ ap (λ (l : Lit). positive l.var) (sym literal_is);
}

-- what holds is said of an error too
pub on_err : {A B : Type 0} (r : Result A B) (P : Type 0) → P → OnErr r P
on_err (Ok a) P p = tt
on_err (Err e) P p = p
