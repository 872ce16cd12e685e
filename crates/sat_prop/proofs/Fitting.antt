-- One more literal fits on a trail, by decision or by a clause.
use Rattle.std.proofs.Common.{◌≡◌, ◌<◌, ℕ, true, List, sym, subst, length, arith}
use Rattle.std.specs.Prelude.{Contains, vec_len, vec_capacity}
use Rattle.des_base.specs.declared.TheConstants.{VAR_LIMIT}
use Rattle.prop_core.specs.declared.lit.Lit.{Lit}
use Rattle.prop_core.specs.Clauses.{Clause, is_open}
use Rattle.prop_core.specs.Derivation.{clause_numbered, unit}
use Rattle.sat_prop.specs.declared.trail.Trail.TheInside.{Inside}
use Rattle.sat_prop.specs.TrailState.{TrailState}
use Rattle.sat_prop.specs.Quiet.{stands}
use Rattle.sat_prop.specs.Changes.{IsFront}
use Rattle.sat_prop.specs.View.{IsKeptTrail, trail_view}
use Rattle.sat_prop.proofs.Justifying.{IsForced, forced_from}
use Rattle.sat_prop.proofs.Leveling.{room_left}

-- it is open, and there is room wherever it is written
pub record HasRoomFor (a : Inside) (l : Lit) : Type 0 where
  pub undecided : is_open a.literals.items l ≡ true
  pub known : l.var < length a.places.items
  pub value : l.var < length a.values.items
  pub literals : vec_len a.literals < vec_capacity a.literals
  pub reasons : vec_len a.reasons < vec_capacity a.reasons
  pub levels : vec_len a.levels < vec_capacity a.levels
  pub starts : vec_len a.starts < vec_capacity a.starts
  pub place : vec_len a.literals < VAR_LIMIT
  pub level : vec_len a.starts < VAR_LIMIT

room_of : (a : Inside) → IsKeptTrail a → (l : Lit) → l.var < length a.places.items → is_open a.literals.items l ≡ true → HasRoomFor a l
room_of a k l known undecided =
    let r = room_left (trail_view a) a.starts.items l k.state k.starts undecided known in
    let for_literals = r.for_literals in
    let for_reasons = r.for_reasons in
    let for_starts = r.for_starts in
    let vars = a.places.ok.0 in
    let limit = k.limit in
    record {
      undecided = undecided;
      known = known;
      value = let e = k.values.enough in omega arith;
      literals = let n = a.literals.ok.0 in let c = k.room_literals in omega arith;
      reasons = let n = a.reasons.ok.0 in let c = k.room_reasons in omega arith;
      levels = let n = a.levels.ok.0 in let c = k.room_levels in let s = k.levels.same in omega arith;
      starts = let n = a.starts.ok.0 in let c = k.room_starts in omega arith;
      place = let n = a.literals.ok.0 in omega arith;
      level = let n = a.starts.ok.0 in omega arith;
    }

pub may_decide : (a : Inside) (t : TrailState) → trail_view a ≡ t → IsKeptTrail a → (l : Lit) → l.var < t.vars → is_open t.literals l ≡ true → HasRoomFor a l
may_decide a t view k l known undecided =
    room_of a k l (subst (λ (s : TrailState). l.var < s.vars) (sym view) known) (subst (λ (s : TrailState). is_open s.literals l ≡ true) (sym view) undecided)

-- an attached clause forces it
pub record MayForce (a : Inside) (l : Lit) (number : ℕ) : Type 0 where
  pub forced : IsForced a.db.value.clauses a.attached a.literals.items (length a.places.items) l number
  pub room : HasRoomFor a l

pub may_force : (a : Inside) (t : TrailState) → trail_view a ≡ t → IsKeptTrail a → (all : List Clause) (l : Lit) (number : ℕ) → IsFront t.clauses all → Contains t.attached number → stands t.literals (clause_numbered all number) ≡ unit l → MayForce a l number
may_force a t view k all l number grown attached forces =
    let forced = forced_from a.db.value.clauses all a.attached a.literals.items (length a.places.items) l number
    (subst (λ (s : TrailState). IsFront s.clauses all) (sym view) grown) k.state.known
    (subst (λ (s : TrailState). Contains s.attached number) (sym view) attached)
    (subst (λ (s : TrailState). stands s.literals (clause_numbered all number) ≡ unit l) (sym view) forces) in
    record { forced = forced; room = room_of a k l forced.known forced.open_now }
