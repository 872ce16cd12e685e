-- One look at all short clauses.
use Rattle.std.proofs.Common.{◌≡◌, ◌∙◌, ℕ, ◌+◌, ◌<◌, true, List, refl, ap, sym, length, get_or, arith, subst, ⊎_elim, Some}
use Rattle.std.specs.Prelude.{Contains, slice_index}
use Rattle.std.proofs.lemmas.Grind.{common_steps}
use Rattle.std.proofs.lemmas.List.{get_or_read}
use Rattle.prop_core.specs.declared.lit.Lit.{Lit}
use Rattle.prop_core.specs.Clauses.{Clause}
use Rattle.prop_core.specs.Derivation.{Standing, standing, clause_numbered}
use Rattle.prop_core.specs.Trail.{is_quiet}
use Rattle.sat_prop.specs.TrailState.{TrailState, IsKnownClause}
use Rattle.sat_prop.specs.Quiet.{stands, AreQuietBelow}
use Rattle.sat_prop.specs.Changes.{IsFront, Propagates, with_true_literal}
use Rattle.sat_prop.specs.Kept.{IsTrailState}
use Rattle.sat_prop.specs.Watching.{WatchedState, AreWatched}
use Rattle.sat_prop.proofs.Fronts.{contains_at, front_same, front_length, split_last}
use Rattle.sat_prop.proofs.Inspecting.{IsFound, found}

-- the short clause at a place is attached, and found in a database that has grown
pub record IsFoundShort (t : TrailState) (all : List Clause) (short : List ℕ) (place number : ℕ) : Type 0 where
  pub front : IsFront t.clauses all
  pub number_is : number ≡ slice_index short place
  pub joined : Contains t.attached number
  pub found : IsFound t all number

pub short_found : (old t : TrailState) (all : List Clause) (w : WatchedState) (short : List ℕ) (place number : ℕ) → IsTrailState t → Propagates old t → AreWatched t w → IsFront old.clauses all → short ≡ w.short → place < length short → number ≡ get_or short place number
    → IsFoundShort t all w.short place number
short_found old t all w short place number s p a f e within n =
    let at : number ≡ get_or short place 0 = get_or_read short place number within n 0 in
    let number_is : number ≡ slice_index w.short place = at ∙ ap (λ (ns : List ℕ). get_or ns place 0) e in
    let front = subst (λ (cs : List Clause). IsFront cs all) (sym p.clauses) f in
    let joined = a.short number (subst (λ (ns : List ℕ). Contains ns number) e (subst (λ (k : ℕ). Contains short k) (sym at) (contains_at short place within))) in
    record { front = front; number_is = number_is; joined = joined; found = found t all number s front joined }

-- how the clause that is read stands, by the clauses of the trail
pub read_stands : (cs all : List Clause) (vars number : ℕ) (taken : List Lit) (clause : Clause) (s : Standing) → IsFront cs all → IsKnownClause cs vars number → clause_numbered all number ≡ Some clause → standing taken clause ≡ s → stands taken (clause_numbered cs number) ≡ s
read_stands cs all vars number taken clause s f k e q = ap (stands taken) (sym (front_same cs all vars number f k) ∙ e) ∙ q

pub read_quiet : (cs all : List Clause) (vars number : ℕ) (taken : List Lit) (clause : Clause) → IsFront cs all → IsKnownClause cs vars number → clause_numbered all number ≡ Some clause → is_quiet (standing taken clause) ≡ true → is_quiet (stands taken (clause_numbered cs number)) ≡ true
read_quiet cs all vars number taken clause f k e q = ap is_quiet (read_stands cs all vars number taken clause (standing taken clause) f k e refl) ∙ q

pub quiet_next : (cs : List Clause) (att : List ℕ) (taken : List Lit) (place number : ℕ) → number ≡ slice_index att place → AreQuietBelow cs att taken place → is_quiet (stands taken (clause_numbered cs number)) ≡ true → AreQuietBelow cs att taken (place + 1)
quiet_next cs att taken place number e h q k b = ⊎_elim (λ m. h k m)
    (λ m. subst (λ (n : ℕ). is_quiet (stands taken (clause_numbered cs (get_or att n 0))) ≡ true) (sym m) (subst (λ (n : ℕ). is_quiet (stands taken (clause_numbered cs n)) ≡ true) e q))
    (split_last k place b)

pub longer_by_one : (old t : TrailState) (new : TrailState) (l : Lit) (number : ℕ) → Propagates old t → new ≡ with_true_literal t l (Some number) → length old.literals < length new.literals
longer_by_one old t new l number p e =
    let n = front_length old.literals t.literals p.literals in
    let m : length new.literals ≡ length t.literals + 1 = rw e (grind (arith, common_steps)) in
    omega arith
