-- A search under way, step by step.
use Rattle.std.proofs.Common.{◌≡◌, ◌∙◌, ℕ, ◌+◌, ◌<◌, ◌≤◌, Bool, true, false, List, ◌++◌, ◌∷◌, [], ap, refl, take, length, arith}
use Rattle.std.specs.Prelude.{None, ◌⊎◌}
use Rattle.std.specs.List.{list_all}
use Rattle.std.proofs.lemmas.Grind.{common_steps}
use Rattle.prop_core.specs.declared.lit.Lit.{Lit}
use Rattle.prop_core.specs.Clauses.{is_true, is_open}
use Rattle.prop_core.specs.Trail.{no_literal}
use Rattle.prop_core.proofs.Literals.{literal_of, all_from, all_at, true_more, true_at, place_found}
use Rattle.proof_ledger.specs.Book.{BookEntry}
use Rattle.sat_order.specs.Waiting.{waits}
use Rattle.sat_prop.specs.TrailState.{TrailState}
use Rattle.sat_prop.specs.Changes.{Propagates, with_true_literal}
use Rattle.sat_prop.specs.Kept.{IsTrailState}
use Rattle.sat_prop.proofs.Fronts.{front_length, front_at}
use Rattle.sat_prop.proofs.Justifying.{room_for}
use Rattle.sat_solve.specs.Solving.{AreUnderWay, IsLonger, AreTaken}
use Rattle.sat_solve.proofs.Standing.{serving_grown, under_grown, serving_decided, under_decided}
use Rattle.sat_solve.proofs.WaitingVariables.{waiting_grown, waiting_decided}

-- assumptions that are true stay true as the trail grows
pub taken_more : (literals : List Lit) (l : Lit) (assumed : List Lit) (count : ℕ) → AreTaken literals assumed count → AreTaken (literals ++ l ∷ []) assumed count
taken_more literals l assumed count h = all_from (is_true (literals ++ l ∷ [])) (take count assumed) (λ x e. let a = all_at (is_true literals) (take count assumed) x h e in true_more literals l x ∙ (rw a refl))

pub taken_grown : (t u : TrailState) (assumed : List Lit) (count : ℕ) → Propagates t u → AreTaken t.literals assumed count → AreTaken u.literals assumed count
taken_grown t u assumed count p h = all_from (is_true u.literals) (take count assumed) (λ x e.
    let a = all_at (is_true t.literals) (take count assumed) x h e in
    let i = place_found t.literals x a in
    let w = i.1.within in
    let n = front_length t.literals u.literals p.literals in
    true_at u.literals x i.0 (omega arith) (front_at t.literals u.literals i.0 no_literal p.literals w ∙ i.1.at))

-- propagation
pub under_way_grown : (assumed : List Lit) (taken : ℕ) (waiting : List Bool) (vars spare : ℕ) (t u : TrailState) (book : List BookEntry) → AreUnderWay assumed taken waiting vars spare t book → Propagates t u → IsTrailState t → IsTrailState u → AreUnderWay assumed taken waiting vars spare u book
under_way_grown assumed taken waiting vars spare t u book w p ts us =
    let s = w.over.sound in
    record {
      over = record {
        sound = record {
          serving = serving_grown vars spare t u s.serving p ts us;
          waiting_open = waiting_grown waiting t u vars s.waiting_open p;
          variables = s.variables;
          limit = s.limit;
        };
        clauses = p.clauses ∙ w.over.clauses;
      };
      under = under_grown assumed vars t u w.under p ts us;
      taken_first = taken_grown t u assumed taken p w.taken_first;
    }

-- a decision
pub under_way_decided : (assumed : List Lit) (taken next : ℕ) (before waiting : List Bool) (vars spare : ℕ) (t u : TrailState) (book : List BookEntry) (l : Lit) → AreUnderWay assumed taken before vars spare t book → IsTrailState t → AreTaken t.literals assumed next → length waiting ≡ length before → u ≡ with_true_literal t l None → l.var < vars
    → (is_true assumed l ≡ true) ⊎ (list_all (is_true t.literals) assumed ≡ true) → ((other : ℕ) → other < vars → (other ≡ l.var → ⊥) → is_open t.literals (literal_of other false) ≡ true → waits waiting other ≡ true) → AreUnderWay assumed next waiting vars spare u book
under_way_decided assumed taken next before waiting vars spare t u book l w ts k n e b o f =
    let s = w.over.sound in
    let ls : u.literals ≡ t.literals ++ l ∷ [] = ap (λ (x : TrailState). x.literals) e in
    record {
      over = record {
        sound = record {
          serving = serving_decided vars spare t u l s.serving e b;
          waiting_open = rw ls (waiting_decided waiting t.literals l vars f);
          variables = n ∙ s.variables;
          limit = s.limit;
        };
        clauses = ap (λ (x : TrailState). x.clauses) e ∙ w.over.clauses;
      };
      under = under_decided assumed vars t u l w.under ts.justified.same e o;
      taken_first = rw ls (taken_more t.literals l assumed next k);
    }

pub longer_decided : (t u : TrailState) (l : Lit) (vars : ℕ) → IsTrailState t → is_open t.literals l ≡ true → l.var < vars → vars ≤ t.vars → u ≡ with_true_literal t l None → IsLonger t u
longer_decided t u l vars s o b h e =
    let r = room_for t.clauses t.attached t.literals t.reasons t.vars l s.justified o (omega arith) in
    let n : length u.literals ≡ length t.literals + 1 = rw e (grind (arith, common_steps)) in
    let v : u.vars ≡ t.vars = ap (λ (x : TrailState). x.vars) e in
    record { longer = n; within = omega arith }
