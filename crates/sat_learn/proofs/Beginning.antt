-- A conflict, which begins an analysis.
use Rattle.std.proofs.Common.{◌≡◌, ◌∙◌, ℕ, ◌-◌, ◌<◌, Bool, true, false, ◌∷◌, [], List, refl, ap, sym, length, take, drop, get_or, arith, subst, inl, ⊎_elim}
use Rattle.std.specs.Prelude.{Option, Some, None, reverse, Contains}
use Rattle.std.specs.List.{list_all}
use Rattle.std.proofs.lemmas.Grind.{common_steps}
use Rattle.std.proofs.lemmas.Bool.{cases_lt}
use Rattle.prop_core.specs.declared.lit.Lit.{Lit}
use Rattle.prop_core.specs.Clauses.{Clause, negation, is_false}
use Rattle.prop_core.specs.Derivation.{Standing, falsified, clause_numbered}
use Rattle.prop_core.specs.Trail.{no_literal, has_var, is_quiet}
use Rattle.prop_core.proofs.Literals.{place_found, true_at, has_at, has_among, all_from, all_at}
use Rattle.prop_core.proofs.Forcing.{falsified_from, falsified_parts}
use Rattle.sat_prop.specs.TrailState.{TrailState}
use Rattle.sat_prop.specs.Levels.{IsLastDecision}
use Rattle.sat_prop.specs.Quiet.{stands, AreQuiet, IsConflict, IsQuietAtDecisions}
use Rattle.sat_prop.specs.Changes.{IsFront}
use Rattle.sat_prop.proofs.Fronts.{front_held, held_same}
use Rattle.sat_learn.specs.Seen.{Refutes, IsRefutedBySeen, count_seen}
use Rattle.sat_learn.proofs.Refuting.{refutes_start}
use Rattle.sat_learn.proofs.Reasoning.{known_held}
use Rattle.sat_learn.proofs.Descending.{count_none}

-- a clause that is false
pub record IsFalse (cs : List Clause) (taken : List Lit) (n : ℕ) (c : Clause) : Type 0 where
  pub held : clause_numbered cs n ≡ Some c
  pub false_now : list_all (is_false taken) c ≡ true

pub conflict_false : (taken : List Lit) (cs : List Clause) (n : ℕ) → stands taken (clause_numbered cs n) ≡ falsified → (c : Clause) × IsFalse cs taken n c
conflict_false taken cs n e = by (clause_numbered cs n) refl e
  where
    by : (o : Option Clause) → clause_numbered cs n ≡ o → stands taken o ≡ falsified → (c : Clause) × IsFalse cs taken n c
    by None h e = cc
    by (Some c) h e = (c, record { held = h; false_now = falsified_parts taken c e })

-- the clause that is read is false
pub read_false : (t : TrailState) (all : List Clause) (id : ℕ) (c : Clause) → IsFront t.clauses all → IsConflict t id → clause_numbered all id ≡ Some c → IsFalse all t.literals id c
read_false t all id c f k g =
    let r = conflict_false t.literals t.clauses id k.false_now in
    let e = held_same all id r.0 c (front_held t.clauses all id r.0 f r.1.held) g in
    record { held = g; false_now = subst (λ (d : Clause). list_all (is_false t.literals) d ≡ true) e r.1.false_now }

pub false_on_trail : (literals c : List Lit) → list_all (is_false literals) c ≡ true → list_all (λ l. has_var l.var literals) c ≡ true
false_on_trail literals c h = all_from (λ l. has_var l.var literals) c (λ x e. let a = place_found literals (negation x) (all_at (is_false literals) c x h e) in has_at literals a.0 x.var a.1.within (ap (λ (l : Lit). l.var) a.1.at))

-- the first hint
pub refuted_start : (all : List Clause) (literals : List Lit) (seen : List Bool) (back : List ℕ) (id : ℕ) (c : Clause) → IsFalse all literals id c → length seen ≡ length literals
    → ((i : ℕ) → i < length literals → get_or seen i false ≡ has_var (get_or literals i no_literal).var c) → back ≡ id ∷ [] → IsRefutedBySeen all literals [] seen back
refuted_start all literals seen back id c f size each e = record {
  size = size;
  refutes = let q : reverse back ≡ id ∷ [] = rw e (grind (arith, common_steps)) in
      subst (λ (ns : List ℕ). Refutes (clause_numbered all) literals [] seen ns) (sym q)
      (refutes_start (clause_numbered all) literals [] seen id c f.held (λ x h.
      let a = place_found literals (negation x) (all_at (is_false literals) c x f.false_now h) in
      let v : has_var (get_or literals a.0 no_literal).var c ≡ true = subst (λ (l : Lit). has_var l.var c ≡ true) (sym a.1.at) (has_among c x h) in
      inl (a.0, a.1, each a.0 a.1.within ∙ v)));
  known = λ i m s. known_held all id c (get_or literals i no_literal).var f.held (sym (each i m) ∙ s);
}

-- a clause that was not false before a place has a literal behind it
pub some_present : (literals : List Lit) (seen : List Bool) (c : Clause) (start : ℕ) → length seen ≡ length literals → list_all (is_false literals) c ≡ true → ((i : ℕ) → i < length literals → get_or seen i false ≡ has_var (get_or literals i no_literal).var c)
    → (list_all (is_false (take start literals)) c ≡ true → ⊥) → 0 < count_seen start seen
some_present literals seen c start size h each n =
    ⊎_elim (λ e. e)
    (λ e. let z : count_seen start seen ≡ 0 = omega arith in
    absurd (n (all_from (is_false (take start literals)) c (λ x m.
    let a = place_found literals (negation x) (all_at (is_false literals) c x h m) in
    let w = a.1.within in
    let v : has_var (get_or literals a.0 no_literal).var c ≡ true = subst (λ (l : Lit). has_var l.var c ≡ true) (sym a.1.at) (has_among c x m) in
    let on : get_or seen a.0 false ≡ true = each a.0 a.1.within ∙ v in
    let b : a.0 < start = ⊎_elim (λ u. u)
    (λ q. let f : get_or (drop start seen) (a.0 - start) false ≡ get_or seen a.0 false = grind (arith, common_steps) in
    let off = count_none (drop start seen) (a.0 - start) z in
    absurd (let y : true ≡ false = sym on ∙ sym f ∙ off in cc))
    (cases_lt a.0 start) in
    let i : a.0 < length (take start literals) = grind (arith, common_steps) in
    let g : get_or (take start literals) a.0 no_literal ≡ get_or literals a.0 no_literal = grind (arith, common_steps) in
    true_at (take start literals) (negation x) a.0 i (g ∙ a.1.at)))))
    (cases_lt 0 (count_seen start seen))

pub quiet_at : (cs : List Clause) (att : List ℕ) (taken : List Lit) (id : ℕ) → Contains att id → AreQuiet cs att taken → is_quiet (stands taken (clause_numbered cs id)) ≡ true
quiet_at cs att taken id h q =
    let n : h.0 < length att = h.1 in
    let e : get_or att h.0 0 ≡ get_or att h.0 id = grind (arith, common_steps) in
    subst (λ (i : ℕ). is_quiet (stands taken (clause_numbered cs i)) ≡ true) (e ∙ h.2) (q h.0 n)

-- a clause that is quiet is not false
pub not_false : (cs : List Clause) (att : List ℕ) (taken : List Lit) (id : ℕ) (c : Clause) → Contains att id → AreQuiet cs att taken → clause_numbered cs id ≡ Some c → list_all (is_false taken) c ≡ true → ⊥
not_false cs att taken id c h q k f =
    let a = quiet_at cs att taken id h q in
    let b : stands taken (clause_numbered cs id) ≡ falsified = ap (stands taken) k ∙ falsified_from taken c f in
    let d : is_quiet falsified ≡ true = subst (λ (v : Standing). is_quiet v ≡ true) b a in
    let z : false ≡ true = d in cc

-- a conflict has a literal from the last decision on
pub conflict_present : (t : TrailState) (all : List Clause) (id : ℕ) (seen : List Bool) (start : ℕ) → IsFront t.clauses all → IsConflict t id → IsQuietAtDecisions t → IsLastDecision t.reasons start → length t.reasons ≡ length t.literals → length seen ≡ length t.literals
    → ((i : ℕ) (c : Clause) → i < length t.literals → clause_numbered all id ≡ Some c → get_or seen i false ≡ has_var (get_or t.literals i no_literal).var c) → 0 < count_seen start seen
conflict_present t all id seen start f k quiet last same size each =
    let r = conflict_false t.literals t.clauses id k.false_now in
    let h = front_held t.clauses all id r.0 f r.1.held in
    let w = last.within in
    some_present t.literals seen r.0 start size r.1.false_now (λ i m. each i r.0 m h)
    (λ e. not_false t.clauses t.attached (take start t.literals) id r.0 k.joined (quiet start (omega arith) last.decided) r.1.held e)
