-- Closing clauses, and further conflicts.
use Rattle.std.proofs.Common.{◌≡◌, ◌∙◌, ℕ, ◌-◌, ◌<◌, true, false, ◌++◌, ◌∷◌, [], List, refl, ap, sym, length, take, zero, suc, get_or, arith, subst, ⊎_elim, append_assoc}
use Rattle.std.specs.Prelude.{Option, Some, None, Contains, is_none, Result, Ok, Err, IfOk, OnOk}
use Rattle.std.specs.List.{list_all}
use Rattle.std.proofs.lemmas.Grind.{common_steps}
use Rattle.std.proofs.lemmas.Bool.{or_cases}
use Rattle.std.proofs.lemmas.List.{append-nil}
use Rattle.std.proofs.lemmas.Option.{get_or_from_slice_get}
use Rattle.prop_core.specs.declared.lit.Lit.{Lit}
use Rattle.prop_core.specs.Clauses.{Clause, negation, same_literal, is_true, is_false}
use Rattle.prop_core.specs.Derivation.{clause_numbered}
use Rattle.prop_core.specs.Trail.{no_literal, HasVarsOnce, PlacedLiteral, literals_of, HasReason, EachPlaced, IsTrail, Clashes}
use Rattle.prop_core.proofs.Literals.{same_is, all_from, all_at, true_longer}
use Rattle.proof_ledger.specs.Book.{BookEntry, final, clauses_of}
use Rattle.sat_prop.specs.TrailState.{TrailState}
use Rattle.sat_prop.specs.Quiet.{IsConflict}
use Rattle.sat_prop.specs.Kept.{IsTrailState}
use Rattle.sat_prop.proofs.Fronts.{number_of}
use Rattle.sat_prop.proofs.Justifying.{justified_once}
use Rattle.sat_learn.specs.Learnt.{IsClosing}
use Rattle.sat_learn.proofs.Beginning.{conflict_false}
use Rattle.sat_learn.specs.Seen.{is_known_var}
use Rattle.sat_solve.specs.Searching.{IsRefuted}
use Rattle.sat_solve.specs.Solving.{AllJoined, IsUnder, IsFurther, HasAssumedDecisions}
use Rattle.sat_solve.proofs.Learning.{all_quiet_from}
use Rattle.sat_solve.proofs.Booking.{IsClosed}

was_none : (o : Option ℕ) → is_none o ≡ true → o ≡ None
was_none None e = refl
was_none (Some id) e = cc

-- a closing clause has negated assumptions alone
pub only_assumed : (t : TrailState) (all : List Clause) (also assumed : List Lit) (c : Clause) (hs : List ℕ) → IsClosing t all also c hs → HasAssumedDecisions t assumed (length t.literals) → ((l : Lit) → is_true also l ≡ true → is_true assumed l ≡ true) → list_all (λ l. is_true assumed (negation l)) c ≡ true
only_assumed t all also assumed c hs f d a = all_from (λ l. is_true assumed (negation l)) c (λ x e.
    ⊎_elim (λ h. a (negation x) h)
    (λ h. subst (λ (l : Lit). is_true assumed l ≡ true) h.1.is (d h.0 h.1.within (was_none (get_or t.reasons h.0 None) h.1.decided)))
    (f.decided x e))

pub one_of : (assumed : List Lit) (l k : Lit) → is_true assumed k ≡ true → is_true (k ∷ []) l ≡ true → is_true assumed l ≡ true
one_of assumed l k h e =
    let q : l ≡ k = ⊎_elim (λ r. same_is l k r) (λ r. absurd (let z = r in cc)) (or_cases (same_literal l k) false e) in
    subst (λ (x : Lit). is_true assumed x ≡ true) (sym q) h

-- the literals of a trail with the clauses that forced them
abbrev placed_at : List Clause → Lit → Option ℕ → PlacedLiteral
placed_at cs l None = record { literal = l; reason = None }
placed_at cs l (Some number) = record { literal = l; reason = clause_numbered cs number }

pub placed : List Clause → List Lit → List (Option ℕ) → List PlacedLiteral
placed cs [] ws = []
placed cs (l ∷ ls) [] = []
placed cs (l ∷ ls) (w ∷ ws) = placed_at cs l w ∷ placed cs ls ws

placed_literal : (cs : List Clause) (l : Lit) (w : Option ℕ) → (placed_at cs l w).literal ≡ l
placed_literal cs l None = refl
placed_literal cs l (Some number) = refl

placed_literals : (cs : List Clause) (ls : List Lit) (ws : List (Option ℕ)) → length ws ≡ length ls → literals_of (placed cs ls ws) ≡ ls
unfolding placed
placed_literals cs [] ws e = refl
placed_literals cs (l ∷ ls) [] e = absurd (omega arith)
placed_literals cs (l ∷ ls) (w ∷ ws) e = let a = placed_literal cs l w in let b = placed_literals cs ls ws (omega arith) in cc

-- a decision stands among them
placed_decided : (cs : List Clause) (ls : List Lit) (ws : List (Option ℕ)) (k : ℕ) → length ws ≡ length ls → k < length ls → get_or ws k None ≡ None → Contains (placed cs ls ws) (record { literal = get_or ls k no_literal; reason = None })
unfolding placed
placed_decided cs [] ws k e h n = absurd (let q : k < 0 = h in omega arith)
placed_decided cs (l ∷ ls) [] k e h n = absurd (omega arith)
placed_decided cs (l ∷ ls) (w ∷ ws) zero e h n = (0, omega arith, ap (placed_at cs l) n)
placed_decided cs (l ∷ ls) (w ∷ ws) (suc k) e h n = let r = placed_decided cs ls ws k (omega arith) (omega arith) n in (suc r.0, (let b = r.1 in omega arith), r.2)

-- each has its reason, after those before it
placed_each : (cs all : List Clause) (before ls : List Lit) (ws : List (Option ℕ)) → length ws ≡ length ls → ((k : ℕ) → k < length ls → HasReason all (before ++ take k ls) (get_or ls k no_literal) (placed_at cs (get_or ls k no_literal) (get_or ws k None)).reason) → EachPlaced all before (placed cs ls ws)
unfolding placed
placed_each cs all before [] ws e f = tt
placed_each cs all before (l ∷ ls) [] e f = absurd (omega arith)
placed_each cs all before (l ∷ ls) (w ∷ ws) e f =
    let s = placed_literal cs l w in
    let here : HasReason all before l (placed_at cs l w).reason = subst (λ (b : List Lit). HasReason all b l (placed_at cs l w).reason) (append-nil before) (f 0 (omega arith)) in (
      subst (λ (x : Lit). HasReason all before x (placed_at cs l w).reason) (sym s) here,
      subst (λ (x : Lit). EachPlaced all (before ++ x ∷ []) (placed cs ls ws)) (sym s)
          (placed_each cs all (before ++ l ∷ []) ls ws (omega arith) (λ k h. subst (λ (b : List Lit). HasReason all b (get_or ls k no_literal) (placed_at cs (get_or ls k no_literal) (get_or ws k None)).reason) (sym (append_assoc before (l ∷ []) (take k ls))) (f (suc k) (omega arith)))),
    )

contains_held : (cs : List Clause) (n : ℕ) (c : Clause) → clause_numbered cs n ≡ Some c → Contains cs c
contains_held cs n c e =
    let m = number_of cs n c e in
    let a = m.from_one in
    let b = m.in_range in
    (n - 1, omega arith, get_or_from_slice_get cs (n - 1) c c m.got)

-- a trail that is justified and quiet before its decisions is one over its clauses
trail_from : (t : TrailState) → IsTrailState t → AllJoined t.clauses t.attached → IsTrail t.clauses (placed t.clauses t.literals t.reasons)
trail_from t s j = record {
  once = subst HasVarsOnce (sym (placed_literals t.clauses t.literals t.reasons s.justified.same)) (justified_once t.clauses t.attached t.literals t.reasons t.vars s.justified);
  each = placed_each t.clauses t.clauses [] t.literals t.reasons s.justified.same (λ k h. why k h (get_or t.reasons k None) refl);
}
  where
    why : (k : ℕ) → k < length t.literals → (w : Option ℕ) → get_or t.reasons k None ≡ w → HasReason t.clauses (take k t.literals) (get_or t.literals k no_literal) (placed_at t.clauses (get_or t.literals k no_literal) w).reason
    why k h None e = all_quiet_from t.clauses t.attached (take k t.literals) j (s.quiet k h e)
    why k h (Some number) e =
        let r = s.justified.forced k number h e in
        let g = r.held in
        rw g (contains_held t.clauses number r.clause r.held, r.alone)

pub clash_from : (assumed : List Lit) (vars : ℕ) (t : TrailState) (book : List BookEntry) (number place : ℕ) → IsTrailState t → AllJoined t.clauses t.attached → IsUnder assumed vars t → t.clauses ≡ clauses_of book → IsConflict t number → IsFurther t assumed place → Clashes (clauses_of book) assumed
clash_from assumed vars t book number place s j u clauses k b = subst (λ (cs : List Clause). Clashes cs assumed) clauses (
    let same = s.justified.same in
    let ls = placed_literals t.clauses t.literals t.reasons same in
    let r = conflict_false t.literals t.clauses number k.false_now in
    record {
      trail = placed t.clauses t.literals t.reasons;
      is_trail = trail_from t s j;
      assumes = subst (λ (xs : List Lit). list_all (is_true xs) assumed ≡ true) (sym ls) (⊎_elim (λ a. absurd (let z = b.further in let y : true ≡ false = sym a ∙ z in cc))
          (λ a. all_from (is_true t.literals) assumed (λ x h.
          let g = true_longer t.literals x place (length t.literals) (let w = b.within in omega arith) (all_at (is_true (take place t.literals)) assumed x a h) in
          let e : take (length t.literals) t.literals ≡ t.literals = grind (arith, common_steps) in
          subst (λ (xs : List Lit). is_true xs x ≡ true) e g))
          (u.first place b.within b.decided));
      decision = get_or t.literals place no_literal;
      decided = placed_decided t.clauses t.literals t.reasons place same b.within b.decided;
      further = b.further;
      conflict = r.0;
      among = contains_held t.clauses number r.0 r.1.held;
      false_now = subst (λ (xs : List Lit). list_all (is_false xs) r.0 ≡ true) (sym ls) r.1.false_now;
    })

-- what is put of a closing clause
pub closed_from : (t : TrailState) (all : List Clause) (also assumed : List Lit) (clause read : Clause) (hints : List ℕ) (given : List ℕ) (book new : List BookEntry) (number : ℕ) → IsClosing t all also clause hints → all ≡ clauses_of book → HasAssumedDecisions t assumed (length t.literals) → ((l : Lit) → is_true also l ≡ true → is_true assumed l ≡ true) →
    read ≡ clause → new ≡ book ++ final read given ∷ [] → number ≡ length (clauses_of new) → IsClosed assumed book new number
closed_from t all also assumed clause read hints given book new number f e d a r put n = record {
  clause = read;
  hints = given;
  put = put;
  numbered = n;
  negated = subst (λ (c : Clause). list_all (λ l. is_true assumed (negation l)) c ≡ true) (sym r) (only_assumed t all also assumed clause hints f d a);
  known = subst (λ (c : Clause). list_all (λ l. is_known_var (clauses_of book) l.var) c ≡ true) (sym r) (subst (λ (cs : List Clause). list_all (λ l. is_known_var cs l.var) clause ≡ true) e f.known);
}

pub closed_put : {E : Type 0} (r : Result ℕ E) (t : TrailState) (all : List Clause) (also assumed : List Lit) (clause read : Clause) (hints : List ℕ) (given : List ℕ) (book new : List BookEntry) → IsClosing t all also clause hints → all ≡ clauses_of book → HasAssumedDecisions t assumed (length t.literals) → ((l : Lit) → is_true also l ≡ true → is_true assumed l ≡ true) →
    read ≡ clause → OnOk r (new ≡ book ++ final read given ∷ []) → IfOk r (λ number. number ≡ length (clauses_of new)) → IfOk r (IsClosed assumed book new)
closed_put (Ok number) t all also assumed clause read hints given book new f e d a r put n = closed_from t all also assumed clause read hints given book new number f e d a r put n
closed_put (Err error) t all also assumed clause read hints given book new f e d a r put n = tt

pub assumed_same : (t u : TrailState) (assumed : List Lit) → HasAssumedDecisions t assumed (length t.literals) → u.literals ≡ t.literals → u.reasons ≡ t.reasons → HasAssumedDecisions u assumed (length u.literals)
assumed_same t u assumed a e f = rw (e, f) a

pub none_among : (assumed : List Lit) (l : Lit) → is_true [] l ≡ true → is_true assumed l ≡ true
none_among assumed l e = absurd (let z : false ≡ true = e in cc)

-- a final entry of negated assumptions refutes them
pub refuted_from : (assumed : List Lit) (book new : List BookEntry) (number : ℕ) → IsClosed assumed book new number → IsRefuted new assumed number
refuted_from assumed book new number c = record {
  earlier = book;
  clause = c.clause;
  hints = c.hints;
  last = c.put;
  numbered = c.numbered;
  negated = c.negated;
}
