use Rattle.std.proofs.Common.{refl, ◌≡◌, ◌∙◌, ◌+◌, ◌-◌, ◌∷◌, ◌++◌, [], List, ap, subst, length, true, arith}
use Rattle.std.specs.List.{list_all}
use Rattle.prop_core.specs.Clauses.{Clause}
use Rattle.proof_ledger.specs.Book.{learnt, clauses_of}
use Rattle.sat_prop.specs.TrailState.{TrailState}
use Rattle.sat_prop.specs.Changes.{with_attached_clause}
use Rattle.sat_learn.specs.Seen.{is_known_var}
use Rattle.sat_solve.specs.Solving.{LearnsOne}
use Rattle.sat_solve.proofs.WaitingVariables.{room_max, serving_roomier}
use Rattle.sat_solve.proofs.Booking.{searched_none, searched_learnt}
use Rattle.sat_solve.proofs.Joining.{IsJoining, joining_from}
use Rattle.sat_solve.proofs.Keeping.{sound_roomier, under_way_roomier, under_way_kept, under_way_attached}
use Rattle.sat_solve.proofs.Stepping.{under_way_grown}
use Rattle.sat_solve.proofs.Learning.{last_in_range, known_last, front_one, held_last, joins_kept, fresh_from}
use Rattle.sat_solve.proofs.search.Search.learn.Given as given
use Rattle.sat_solve.proofs.search.Search.learn.Goals as goal

pub returns-in_err-learnt-clause-under_way : goal.returns-in_err-learnt-clause-under_way
returns-in_err-learnt-clause-under_way g c =
    let s = c.args.self.now in
    under_way_roomier c.args.assumptions.now s.taken s.order.waiting s.vars s.spare s.propagator c.reserve_clauses.new.self c.args.book.now.entries c.requires.under_way (room_max s.propagator c.reserve_clauses.new.self (s.spare + 1) c.in_ok-reserve_clauses.ensures.ok)

pub returns-in_err-id-clause-under_way : goal.returns-in_err-id-clause-under_way
returns-in_err-id-clause-under_way g c =
    let s = c.args.self.now in
    rw c.in_err-id.ensures.err (under_way_roomier c.args.assumptions.now s.taken s.order.waiting s.vars s.spare s.propagator c.reserve_clauses.new.self c.args.book.now.entries c.requires.under_way (room_max s.propagator c.reserve_clauses.new.self (s.spare + 1) c.in_ok-reserve_clauses.ensures.ok))

pub backtrack-requires-clause-sound : goal.backtrack-requires-clause-sound
backtrack-requires-clause-sound g c =
    let s = c.args.self.now in
    sound_roomier s.order.waiting s.vars s.spare s.propagator c.reserve_clauses.new.self c.requires.under_way.over.sound (room_max s.propagator c.reserve_clauses.new.self (s.spare + 1) c.in_ok-reserve_clauses.ensures.ok)

-- just before the clause is attached
joining : (g : given.Over) (c : goal.After-clauses-2 g) → IsJoining c.args.self.now.spare c.reserve_clauses.new.self c.backtrack.new.self.propagator c.clauses-2.result.now.clauses c.in_ok-learnt.learnt.clause c.in_ok-id.id
joining g c = joining_from c.args.self.now.spare c.in_ok-learnt.learnt.level c.args.self.now.propagator c.reserve_clauses.new.self c.backtrack.new.self.propagator c.args.book.now.entries c.put_learnt.new.self.entries c.clauses.result.now.clauses c.clauses-2.result.now.clauses c.as_slice.result.now c.in_ok-learnt.learnt.clause c.in_ok-learnt.learnt.hints c.as_slice-2.result.now c.in_ok-id.id c.is_sound.ensures.state c.requires.under_way.over.clauses c.in_ok-reserve_clauses.ensures.ok (rw c.trail-trail.ensures at c.in_ok-learnt.ensures.learnt) c.clauses.ensures.clauses c.backtrack.ensures.trail c.in_ok-id.ensures.added c.as_slice.ensures c.clauses-2.ensures.clauses c.in_ok-id.ensures.id

-- the same, at the end
joined : (g : given.Over) (c : goal.After-drop-learnt-3 g) → IsJoining c.args.self.now.spare c.reserve_clauses.new.self c.backtrack.new.self.propagator c.clauses-2.result.now.clauses c.in_ok-learnt.learnt.clause c.in_ok-id.id
joined g c = joining_from c.args.self.now.spare c.in_ok-learnt.learnt.level c.args.self.now.propagator c.reserve_clauses.new.self c.backtrack.new.self.propagator c.args.book.now.entries c.put_learnt.new.self.entries c.clauses.result.now.clauses c.clauses-2.result.now.clauses c.as_slice.result.now c.in_ok-learnt.learnt.clause c.in_ok-learnt.learnt.hints c.as_slice-2.result.now c.in_ok-id.id c.is_sound.ensures.state c.requires.under_way.over.clauses c.in_ok-reserve_clauses.ensures.ok (rw c.trail-trail.ensures at c.in_ok-learnt.ensures.learnt) c.clauses.ensures.clauses c.backtrack.ensures.trail c.in_ok-id.ensures.added c.as_slice.ensures c.clauses-2.ensures.clauses c.in_ok-id.ensures.id

pub join-requires-clause-grown : goal.join-requires-clause-grown
join-requires-clause-grown g c = rw (joining g c).whole (front_one c.backtrack.new.self.propagator.clauses c.in_ok-learnt.learnt.clause)

pub join-requires-clause-from_one : goal.join-requires-clause-from_one
join-requires-clause-from_one g c = let j = joining g c in last_in_range c.backtrack.new.self.propagator.clauses c.in_ok-learnt.learnt.clause c.in_ok-id.id (j.numbered ∙ ap length j.whole)

pub join-requires-clause-known : goal.join-requires-clause-known
join-requires-clause-known g c =
    let j = joining g c in
    let s = c.backtrack.ensures.sound.serving in
    known_last c.backtrack.new.self.vars c.backtrack.new.self.propagator.vars c.backtrack.new.self.propagator.clauses c.clauses-2.result.now.clauses c.in_ok-learnt.learnt.clause c.in_ok-id.id j.whole j.numbered s.below j.known s.enough

pub join-requires-clause-room : goal.join-requires-clause-room
join-requires-clause-room g c = let j = (joining g c).room in omega arith

pub join-requires-clause-quiet : goal.join-requires-clause-quiet
join-requires-clause-quiet g c =
    let j = joining g c in
    joins_kept c.reserve_clauses.new.self c.backtrack.new.self.propagator c.clauses.result.now.clauses c.clauses-2.result.now.clauses c.in_ok-learnt.learnt.clause c.in_ok-learnt.learnt.hints c.in_ok-learnt.learnt.level c.in_ok-id.id j.state.justified (rw c.trail-trail.ensures at c.in_ok-learnt.ensures.learnt) c.backtrack.ensures.trail
    (rw j.whole (held_last c.backtrack.new.self.propagator.clauses c.in_ok-learnt.learnt.clause c.in_ok-id.id (j.numbered ∙ ap length j.whole)))

pub returns-clause-under_way : goal.returns-clause-under_way
returns-clause-under_way g c =
    let s = c.args.self.now in
    let t = c.backtrack.new.self in
    let roomy = c.reserve_clauses.new.self in
    let j = joined g c in
    let kept = c.backtrack.ensures.kept in
    let w = under_way_roomier c.args.assumptions.now s.taken s.order.waiting s.vars s.spare s.propagator roomy c.args.book.now.entries c.requires.under_way (room_max s.propagator roomy (s.spare + 1) c.in_ok-reserve_clauses.ensures.ok) in
    let b = under_way_kept c.args.assumptions.now s.taken t.taken s.order.waiting t.order.waiting s.vars t.vars s.spare t.spare c.in_ok-learnt.learnt.level roomy t.propagator c.args.book.now.entries w j.state c.backtrack.ensures.trail c.backtrack.ensures.sound kept.vars c.backtrack.ensures.taken in
    let attached : TrailState = with_attached_clause t.propagator c.clauses-2.result.now.clauses c.in_ok-id.id in
    let a = under_way_attached c.args.assumptions.now t.taken t.order.waiting t.vars t.spare t.propagator attached c.args.book.now.entries c.put_learnt.new.self.entries c.clauses-2.result.now.clauses c.in_ok-learnt.learnt.clause c.in_ok-id.id b (let r = j.room in let n = kept.spare in omega arith) j.whole j.numbered j.known c.clauses-2.ensures.clauses refl in
    under_way_grown c.args.assumptions.now t.taken t.order.waiting t.vars t.spare attached c.join.new.self c.put_learnt.new.self.entries a c.join.ensures.grown c.join.ensures.state c.is_sound-2.ensures.state

learns : (g : given.Over) (c : goal.After-drop-learnt-3 g) → LearnsOne c.args.book.now.entries c.put_learnt.new.self.entries c.args.budget.now (c.args.budget.now - 1)
learns g c =
    let j = joined g c in
    let s = c.args.self.now in
    let roomy = c.reserve_clauses.new.self in
    let same : roomy.clauses ≡ clauses_of c.args.book.now.entries = ap (λ (t : TrailState). t.clauses) c.in_ok-reserve_clauses.ensures.ok ∙ c.requires.under_way.over.clauses in
    let serving = serving_roomier s.vars s.spare s.propagator roomy c.requires.under_way.over.sound.serving (room_max s.propagator roomy (s.spare + 1) c.in_ok-reserve_clauses.ensures.ok) in
    let some = c.requires.some in
    record {
      clause = c.in_ok-learnt.learnt.clause;
      hints = c.as_slice-2.result.now;
      put = c.in_ok-id.ensures.added ∙ ap (λ (x : Clause). c.args.book.now.entries ++ learnt x c.as_slice-2.result.now ∷ []) c.as_slice.ensures;
      paid = omega arith;
      fresh = fresh_from roomy c.args.book.now.entries c.clauses.result.now.clauses c.in_ok-learnt.learnt.clause c.in_ok-learnt.learnt.hints c.in_ok-learnt.learnt.level j.state serving.joined same c.clauses.ensures.clauses (rw c.trail-trail.ensures at c.in_ok-learnt.ensures.learnt);
      known = subst (λ (cs : List Clause). list_all (λ l. is_known_var cs l.var) c.in_ok-learnt.learnt.clause ≡ true) c.clauses.ensures.clauses c.in_ok-learnt.ensures.learnt.known;
    }

pub returns-clause-learnt : goal.returns-clause-learnt
returns-clause-learnt g c = learns g c

pub returns-clause-searched : goal.returns-clause-searched
returns-clause-searched g c = searched_learnt c.args.book.now.entries c.args.book.now.entries c.put_learnt.new.self.entries c.args.budget.now c.args.budget.now (c.args.budget.now - 1) (searched_none c.args.book.now.entries c.args.budget.now) (learns g c)

pub returns-in_err-id-clause-searched : goal.returns-in_err-id-clause-searched
returns-in_err-id-clause-searched g c = rw c.in_err-id.ensures.err (searched_none c.args.book.now.entries c.args.budget.now)
