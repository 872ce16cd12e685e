-- A trail stays justified, and quiet before its decisions, as it changes.
use Rattle.std.proofs.Common.{◌≡◌, ◌∙◌, ℕ, ◌+◌, ◌<◌, ◌≤◌, true, ◌||◌, ◌++◌, ◌∷◌, [], List, refl, ap, sym, map, length, take, get_or, arith, subst, ⊎_elim, Option, Some, None}
use Rattle.std.specs.Prelude.{Contains, count_by, is_none, nat_eq}
use Rattle.std.specs.List.{list_any, list_all}
use Rattle.std.proofs.lemmas.Grind.{common_steps}
use Rattle.std.proofs.lemmas.Bool.{and_parts, eqb-true, eq-eqb, or_cases, or_left, or_right}
use Rattle.std.proofs.lemmas.List.Elements.{All-push, All-take}
use Rattle.std.proofs.lemmas.Map.Steps.{length-le_from_distinct_below}
use Rattle.prop_core.specs.declared.lit.Lit.{Lit}
use Rattle.prop_core.specs.Clauses.{Clause, same_literal, is_false, is_open, AreConsistent}
use Rattle.prop_core.specs.Derivation.{unit, standing, clause_numbered}
use Rattle.prop_core.specs.Trail.{is_quiet, no_literal, has_var, HasVarsOnce}
use Rattle.prop_core.proofs.Literals.{differs, below_at, below_var, once_from_apart, once_consistent}
use Rattle.prop_core.proofs.Forcing.{unit_forces}
use Rattle.sat_prop.specs.TrailState.{TrailState, IsReason, IsJustified, IsKnownClause, AreKnownClauses}
use Rattle.sat_prop.specs.Quiet.{stands, AreQuiet, WasQuietBefore, JoinsQuietly}
use Rattle.sat_prop.specs.Changes.{IsFront, Propagates, with_true_literal, with_attached_clause}
use Rattle.sat_prop.specs.Kept.{IsTrailState}
use Rattle.des_base.proofs.Elements.{take_whole}
use Rattle.sat_prop.proofs.Fronts.{split_last, front_more, front_held, front_same, known_at, contains_more}

-- the variables of a trail are apart
pub justified_once : (cs : List Clause) (att : List ℕ) (literals : List Lit) (reasons : List (Option ℕ)) (vars : ℕ) → IsJustified cs att literals reasons vars → HasVarsOnce literals
justified_once cs att literals reasons vars t = once_from_apart literals (λ i j h k e.
    let p : i < length (take j literals) = grind (arith, common_steps) in
    let r : get_or (take j literals) i no_literal ≡ get_or literals i no_literal = grind (arith, common_steps) in
    differs (take j literals) (get_or literals j no_literal) i p (t.open_before j k) (ap (λ (l : Lit). l.var) r ∙ e))

pub justified_consistent : (cs : List Clause) (att : List ℕ) (literals : List Lit) (reasons : List (Option ℕ)) (vars : ℕ) → IsJustified cs att literals reasons vars → AreConsistent literals
justified_consistent cs att literals reasons vars t = once_consistent literals (justified_once cs att literals reasons vars t)

-- a trail is no longer than there are variables
any_var : (q : ℕ) (literals : List Lit) → list_any (nat_eq q) (map (λ (l : Lit). l.var) literals) ≡ true → has_var q literals ≡ true
any_var q [] e = cc
any_var q (l ∷ literals) e = ⊎_elim
    (λ s. or_left _ _ (eq-eqb l.var q (sym (eqb-true q l.var s))))
    (λ s. or_right _ _ (any_var q literals s))
    (or_cases (nat_eq q l.var) (list_any (nat_eq q) (map (λ (l : Lit). l.var) literals)) e)

pub length_le : (cs : List Clause) (att : List ℕ) (literals : List Lit) (reasons : List (Option ℕ)) (vars : ℕ) → IsJustified cs att literals reasons vars → length literals ≤ vars
length_le cs att literals reasons vars t =
    let a = length-le_from_distinct_below (map (λ (l : Lit). l.var) literals) vars (justified_once cs att literals reasons vars t) (λ q e. below_var vars literals q t.known (any_var q literals e)) in
    grind (arith, common_steps)

-- what holds at each place holds with one more at the end
each_more : (P : List Lit → Lit → Type 0) (literals : List Lit) (l : Lit) (k : ℕ) → k < length (literals ++ l ∷ []) → (k < length literals → P (take k literals) (get_or literals k no_literal)) → (k ≡ length literals → P literals l)
    → P (take k (literals ++ l ∷ [])) (get_or (literals ++ l ∷ []) k no_literal)
each_more P literals l k h f g =
    let n : k < length literals + 1 = grind (arith, common_steps) in
    ⊎_elim
    (λ m. let a : take k (literals ++ l ∷ []) ≡ take k literals = grind (arith, common_steps) in let b : get_or (literals ++ l ∷ []) k no_literal ≡ get_or literals k no_literal = grind (arith, common_steps) in rw (a, b) (f m))
    (λ m. let a : take k (literals ++ l ∷ []) ≡ literals = rw m (grind (arith, common_steps)) in let b : get_or (literals ++ l ∷ []) k no_literal ≡ l = rw m (grind (arith, common_steps)) in rw (a, b) (g m))
    (split_last k (length literals) n)

-- one more literal, decided or forced
justified_more : (cs : List Clause) (att : List ℕ) (literals : List Lit) (reasons : List (Option ℕ)) (vars : ℕ) (l : Lit) (reason : Option ℕ) → IsJustified cs att literals reasons vars
    → is_open literals l ≡ true → l.var < vars → ((number : ℕ) → reason ≡ Some number → IsReason cs att literals l number) → IsJustified cs att (literals ++ l ∷ []) (reasons ++ reason ∷ []) vars
justified_more cs att literals reasons vars l reason t o v r = record {
  same = let n = t.same in grind (arith, common_steps);
  known = All-push (λ (l : Lit). l.var < vars) literals l t.known v;
  open_before = λ k h. each_more (λ ts x. is_open ts x ≡ true) literals l k h (t.open_before k) (λ m. o);
  forced = λ k number h e. each_more (λ ts x. IsReason cs att ts x number) literals l k h
      (λ m. t.forced k number m (let n = t.same in let a : get_or (reasons ++ reason ∷ []) k None ≡ get_or reasons k None = grind (arith, common_steps) in sym a ∙ e))
      (λ m. r number (let n = t.same in let a : get_or (reasons ++ reason ∷ []) k None ≡ reason = rw (m, ← n) (grind (arith, common_steps)) in sym a ∙ e));
}

-- there is room for an open literal
pub room_for : (cs : List Clause) (att : List ℕ) (literals : List Lit) (reasons : List (Option ℕ)) (vars : ℕ) (l : Lit) → IsJustified cs att literals reasons vars → is_open literals l ≡ true → l.var < vars → length literals < vars
room_for cs att literals reasons vars l t o v =
    let a = length_le cs att (literals ++ l ∷ []) (reasons ++ None ∷ []) vars (justified_more cs att literals reasons vars l None t o v (λ number e. absurd (let q = e in cc))) in
    grind (arith, common_steps)

-- what is known of a literal that an attached clause forces
pub record IsForced (cs : List Clause) (att : List ℕ) (literals : List Lit) (vars : ℕ) (l : Lit) (number : ℕ) : Type 0 where
  pub reason : IsReason cs att literals l number
  pub open_now : is_open literals l ≡ true
  pub known : l.var < vars

pub forced_from : (cs all : List Clause) (att : List ℕ) (literals : List Lit) (vars : ℕ) (l : Lit) (number : ℕ) → IsFront cs all → AreKnownClauses cs att vars → Contains att number → stands literals (clause_numbered all number) ≡ unit l → IsForced cs att literals vars l number
forced_from cs all att literals vars l number front a h e =
    let at = known_at cs att vars number a h in
    let v : standing literals at.clause ≡ unit l = sym (ap (stands literals) (front_same cs all vars number front at ∙ at.held)) ∙ e in
    let f = unit_forces literals at.clause l v in
    let among = (and_parts (list_any (same_literal l) at.clause) (list_all (λ k. same_literal l k || is_false literals k) at.clause) f.alone).0 in
    record {
      reason = record { joined = h; clause = at.clause; held = at.held; alone = f.alone };
      open_now = f.open_now;
      known = below_at vars at.clause l at.known among;
    }

-- the first n places of a trail are a trail
pub justified_take : (cs : List Clause) (att : List ℕ) (literals : List Lit) (reasons : List (Option ℕ)) (vars n : ℕ) → IsJustified cs att literals reasons vars → n ≤ length reasons → IsJustified cs att (take n literals) (take n reasons) vars
justified_take cs att literals reasons vars n t h = record {
  same = let s = t.same in grind (arith, common_steps);
  known = All-take (λ (l : Lit). l.var < vars) n literals t.known;
  open_before = λ k b.
      let s = t.same in
      let m : k < n = grind (arith, common_steps) in
      let i : k < length literals = omega arith in
      let e : take k (take n literals) ≡ take k literals = grind (arith, common_steps) in
      let g : get_or (take n literals) k no_literal ≡ get_or literals k no_literal = grind (arith, common_steps) in
      rw (e, g) (t.open_before k i);
  forced = λ k number b f.
      let s = t.same in
      let m : k < n = grind (arith, common_steps) in
      let i : k < length literals = omega arith in
      let e : take k (take n literals) ≡ take k literals = grind (arith, common_steps) in
      let g : get_or (take n literals) k no_literal ≡ get_or literals k no_literal = grind (arith, common_steps) in
      let q : get_or (take n reasons) k None ≡ get_or reasons k None = grind (arith, common_steps) in
      rw (e, g) (t.forced k number i (sym q ∙ f));
}

-- a trail stays one where a clause is attached, and where the database has grown behind its front
reason_more : (cs all : List Clause) (att : List ℕ) (new : ℕ) (literals : List Lit) (l : Lit) (number : ℕ) → IsFront cs all → IsReason cs att literals l number → IsReason all (att ++ new ∷ []) literals l number
reason_more cs all att new literals l number f r = record { joined = contains_more att new number r.joined; clause = r.clause; held = front_held cs all number r.clause f r.held; alone = r.alone }

justified_attach : (cs all : List Clause) (att : List ℕ) (new : ℕ) (literals : List Lit) (reasons : List (Option ℕ)) (vars : ℕ) → IsFront cs all → IsJustified cs att literals reasons vars → IsJustified all (att ++ new ∷ []) literals reasons vars
justified_attach cs all att new literals reasons vars f t = record {
  same = t.same;
  known = t.known;
  open_before = t.open_before;
  forced = λ k number h e. reason_more cs all att new (take k literals) (get_or literals k no_literal) number f (t.forced k number h e);
}

known_front : (cs all : List Clause) (vars number : ℕ) → IsFront cs all → IsKnownClause cs vars number → IsKnownClause all vars number
known_front cs all vars number f a = record { clause = a.clause; held = front_held cs all number a.clause f a.held; known = a.known }

known_more : (cs all : List Clause) (att : List ℕ) (new vars : ℕ) → IsFront cs all → AreKnownClauses cs att vars → IsKnownClause all vars new → AreKnownClauses all (att ++ new ∷ []) vars
known_more cs all att new vars f a b k h =
    let n : k < length att + 1 = grind (arith, common_steps) in
    ⊎_elim
    (λ m. let e : get_or (att ++ new ∷ []) k 0 ≡ get_or att k 0 = grind (arith, common_steps) in subst (λ (i : ℕ). IsKnownClause all vars i) (sym e) (known_front cs all vars (get_or att k 0) f (a k m)))
    (λ m. let e : get_or (att ++ new ∷ []) k 0 ≡ new = rw m (grind (arith, common_steps)) in subst (λ (i : ℕ). IsKnownClause all vars i) (sym e) b)
    (split_last k (length att) n)

-- quiet before each decision, with one more literal
quiet_more : (cs : List Clause) (att : List ℕ) (literals : List Lit) (reasons : List (Option ℕ)) (l : Lit) (reason : Option ℕ) → length reasons ≡ length literals → WasQuietBefore cs att literals reasons → (reason ≡ None → AreQuiet cs att literals) → WasQuietBefore cs att (literals ++ l ∷ []) (reasons ++ reason ∷ [])
quiet_more cs att literals reasons l reason same q n k h e =
    let b : k < length literals + 1 = grind (arith, common_steps) in
    ⊎_elim
    (λ m. let a : take k (literals ++ l ∷ []) ≡ take k literals = grind (arith, common_steps) in
    let g : get_or (reasons ++ reason ∷ []) k None ≡ get_or reasons k None = grind (arith, common_steps) in
    subst (λ (ls : List Lit). AreQuiet cs att ls) (sym a) (q k m (sym g ∙ e)))
    (λ m. let a : take k (literals ++ l ∷ []) ≡ literals = rw m (grind (arith, common_steps)) in
    let z : k ≡ length reasons = m ∙ sym same in
    let g : get_or (reasons ++ reason ∷ []) k None ≡ reason = rw z (grind (arith, common_steps)) in
    subst (λ (ls : List Lit). AreQuiet cs att ls) (sym a) (n (sym g ∙ e)))
    (split_last k (length literals) b)

-- and with fewer
quiet_take : (cs : List Clause) (att : List ℕ) (literals : List Lit) (reasons : List (Option ℕ)) (n : ℕ) → length reasons ≡ length literals → n ≤ length reasons → WasQuietBefore cs att literals reasons → WasQuietBefore cs att (take n literals) (take n reasons)
quiet_take cs att literals reasons n same h q k b e =
    let m : k < n = grind (arith, common_steps) in
    let i : k < length literals = omega arith in
    let a : take k (take n literals) ≡ take k literals = grind (arith, common_steps) in
    let g : get_or (take n reasons) k None ≡ get_or reasons k None = grind (arith, common_steps) in
    subst (λ (ls : List Lit). AreQuiet cs att ls) (sym a) (q k i (sym g ∙ e))

-- and with one more clause
quiet_attach : (cs all : List Clause) (att : List ℕ) (vars new : ℕ) (taken : List Lit) → IsFront cs all → AreKnownClauses cs att vars → AreQuiet cs att taken → is_quiet (stands taken (clause_numbered all new)) ≡ true → AreQuiet all (att ++ new ∷ []) taken
quiet_attach cs all att vars new taken f a q n k h =
    let b : k < length att + 1 = grind (arith, common_steps) in
    ⊎_elim
    (λ m. let e : get_or (att ++ new ∷ []) k 0 ≡ get_or att k 0 = grind (arith, common_steps) in
    let s = front_same cs all vars (get_or att k 0) f (a k m) in
    subst (λ (i : ℕ). is_quiet (stands taken (clause_numbered all i)) ≡ true) (sym e) (ap (λ (o : Option Clause). is_quiet (stands taken o)) s ∙ q k m))
    (λ m. let e : get_or (att ++ new ∷ []) k 0 ≡ new = rw m (grind (arith, common_steps)) in subst (λ (i : ℕ). is_quiet (stands taken (clause_numbered all i)) ≡ true) (sym e) n)
    (split_last k (length att) b)

-- the state through its changes
pub state_more : (t : TrailState) (l : Lit) (reason : Option ℕ) → IsTrailState t → is_open t.literals l ≡ true → l.var < t.vars → ((number : ℕ) → reason ≡ Some number → IsReason t.clauses t.attached t.literals l number) →
    (reason ≡ None → AreQuiet t.clauses t.attached t.literals) → IsTrailState (with_true_literal t l reason)
state_more t l reason s o v r q = record {
  justified = justified_more t.clauses t.attached t.literals t.reasons t.vars l reason s.justified o v r;
  known = s.known;
  quiet = quiet_more t.clauses t.attached t.literals t.reasons l reason s.justified.same s.quiet q;
}

some_same : (number other : ℕ) → Some number ≡ Some other → number ≡ other
some_same number other e = cc

pub state_forced : (t : TrailState) (l : Lit) (number : ℕ) → IsTrailState t → IsForced t.clauses t.attached t.literals t.vars l number → IsTrailState (with_true_literal t l (Some number))
state_forced t l number s f = state_more t l (Some number) s f.open_now f.known (λ other e. subst (λ (i : ℕ). IsReason t.clauses t.attached t.literals l i) (some_same number other e) f.reason) (λ e. absurd (let q = e in cc))

pub state_decided : (t : TrailState) (l : Lit) → IsTrailState t → is_open t.literals l ≡ true → l.var < t.vars → AreQuiet t.clauses t.attached t.literals → IsTrailState (with_true_literal t l None)
state_decided t l s o v q = state_more t l None s o v (λ number e. absurd (let z = e in cc)) (λ e. q)

pub state_take : (t : TrailState) (n : ℕ) → IsTrailState t → n ≤ length t.reasons → IsTrailState (record t { literals = take n t.literals; reasons = take n t.reasons })
state_take t n s h = record {
  justified = justified_take t.clauses t.attached t.literals t.reasons t.vars n s.justified h;
  known = s.known;
  quiet = quiet_take t.clauses t.attached t.literals t.reasons n s.justified.same h s.quiet;
}

pub state_attach : (t : TrailState) (all : List Clause) (new : ℕ) → IsTrailState t → IsFront t.clauses all → IsKnownClause all t.vars new → JoinsQuietly t (clause_numbered all new) → IsTrailState (with_attached_clause t all new)
state_attach t all new s f k q = record {
  justified = justified_attach t.clauses all t.attached new t.literals t.reasons t.vars f s.justified;
  known = known_more t.clauses all t.attached new t.vars f s.known k;
  quiet = λ place h e. quiet_attach t.clauses all t.attached t.vars new (take place t.literals) f s.known (s.quiet place h e) (q place h e);
}

-- no more literals
pub propagates_none : (t : TrailState) → Propagates t t
propagates_none t = record { clauses = refl; attached = refl; vars = refl; spare = refl; literals = take_whole t.literals; reasons = take_whole t.reasons; level = refl }

-- one more forced literal
pub propagates_more : (old t new : TrailState) (l : Lit) (number : ℕ) → Propagates old t → new ≡ with_true_literal t l (Some number) → Propagates old new
propagates_more old t new l number p e = rw e (record {
  clauses = p.clauses;
  attached = p.attached;
  vars = p.vars;
  spare = p.spare;
  literals = front_more old.literals t.literals l p.literals;
  reasons = front_more old.reasons t.reasons (Some number) p.reasons;
  level = none_more t.reasons number ∙ p.level;
})
  where
    none_more : (reasons : List (Option ℕ)) (number : ℕ) → count_by is_none (reasons ++ Some number ∷ []) ≡ count_by is_none reasons
    none_more reasons number = grind (arith, common_steps)
