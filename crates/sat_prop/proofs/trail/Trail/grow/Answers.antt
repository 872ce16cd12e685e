-- Room alone changes nothing that is known of the lists.
use Rattle.std.proofs.Common.{rules, ◌≡◌, ◌≤◌, ◌<◌, refl, arith, ap, ℕ, Bool, List, Option, length}
use Rattle.std.proofs.lemmas.List.Elements.{All-weaker}
use Rattle.prop_core.specs.declared.lit.Lit.{Lit}
use Rattle.prop_core.specs.Clauses.{Clause, HasValues}
use Rattle.sat_prop.specs.Kept.{IsTrailState, ArePlaces, AreValues, AreLevels, AreStarts}
use Rattle.sat_prop.proofs.trail.Trail.grow.Goals as goal

state_same : (clauses : List Clause) (attached : List ℕ) (spare : ℕ) (vars n : ℕ) (literals ls : List Lit) (reasons rs : List (Option ℕ)) → n ≡ vars → ls ≡ literals → rs ≡ reasons
    → IsTrailState (record { clauses = clauses; attached = attached; literals = literals; reasons = reasons; vars = vars; spare = spare }) → IsTrailState (record { clauses = clauses; attached = attached; literals = ls; reasons = rs; vars = n; spare = spare })
state_same clauses attached spare vars n literals ls reasons rs a b d h = rw (a, b, d) h

places_same : (vars n : ℕ) (literals ls : List Lit) (places ps : List ℕ) → n ≡ vars → ls ≡ literals → ps ≡ places → ArePlaces vars literals places → ArePlaces n ls ps
places_same vars n literals ls places ps a b d h = rw (a, b, d) h

values_same : (vars n : ℕ) (literals ls : List Lit) (values : List (Option Bool)) → n ≡ vars → ls ≡ literals → AreValues vars literals values → AreValues n ls values
values_same vars n literals ls values a b h = rw (a, b) h

levels_same : (reasons rs : List (Option ℕ)) (levels ls : List ℕ) → rs ≡ reasons → ls ≡ levels → AreLevels reasons levels → AreLevels rs ls
levels_same reasons rs levels ls a b h = rw (a, b) h

starts_same : (reasons rs : List (Option ℕ)) (starts ss : List ℕ) → rs ≡ reasons → ss ≡ starts → AreStarts reasons starts → AreStarts rs ss
starts_same reasons rs starts ss a b h = rw (a, b) h

at_most : (l k m n : ℕ) → l ≡ k → k ≤ m → m ≤ n → l ≤ n
at_most l k m n e a b = omega arith

below : (l k n : ℕ) → l ≡ k → k ≤ n → l ≤ n
below l k n e h = omega arith

-- more variables
known_more : (vars n : ℕ) (clause : Clause) → vars ≤ n → HasValues vars clause → HasValues n clause
known_more vars n clause a h = All-weaker (λ (l : Lit). l.var < vars) (λ (l : Lit). l.var < n) (λ l b. omega arith) clause h

state_grown : (clauses : List Clause) (attached : List ℕ) (spare : ℕ) (vars n : ℕ) (literals ls : List Lit) (reasons rs : List (Option ℕ)) → vars ≤ n → ls ≡ literals → rs ≡ reasons
    → IsTrailState (record { clauses = clauses; attached = attached; literals = literals; reasons = reasons; vars = vars; spare = spare }) → IsTrailState (record { clauses = clauses; attached = attached; literals = ls; reasons = rs; vars = n; spare = spare })
state_grown clauses attached spare vars n literals ls reasons rs a b d h = state_same clauses attached spare n n literals ls reasons rs refl b d (record {
  justified = record { same = h.justified.same; known = known_more vars n literals a h.justified.known; open_before = h.justified.open_before; forced = h.justified.forced };
  known = λ place w. let k = h.known place w in record { clause = k.clause; held = k.held; known = known_more vars n k.clause a k.known };
  quiet = h.quiet;
})

pub invariant_of-self : goal.invariant_of-self
invariant_of-self c = record {
  state = state_same _ _ _ _ _ _ _ _ _ refl c.reserve_literals.ensures.literals c.reserve_literals.ensures.reasons c.self.invariant.state;
  places = places_same _ _ _ _ _ _ refl c.reserve_literals.ensures.literals refl c.self.invariant.places;
  values = values_same _ _ _ _ _ refl c.reserve_literals.ensures.literals c.self.invariant.values;
  levels = levels_same _ _ _ _ c.reserve_literals.ensures.reasons c.reserve_literals.ensures.levels c.self.invariant.levels;
  starts = starts_same _ _ _ _ c.reserve_literals.ensures.reasons c.reserve_literals.ensures.starts c.self.invariant.starts;
  limit = c.self.invariant.limit;
  few = c.self.invariant.few;
  room_literals = at_most _ _ _ _ refl c.self.invariant.room_literals c.reserve_literals.ensures.no_less.0;
  room_reasons = at_most _ _ _ _ refl c.self.invariant.room_reasons c.reserve_literals.ensures.no_less.1;
  room_levels = at_most _ _ _ _ refl c.self.invariant.room_levels c.reserve_literals.ensures.no_less.2;
  room_starts = at_most _ _ _ _ refl c.self.invariant.room_starts c.reserve_literals.ensures.no_less.3;
}

pub invariant_of-self-in_err-widen : goal.invariant_of-self-in_err-widen
invariant_of-self-in_err-widen c = record {
  state = state_same _ _ _ _ _ _ _ _ _ refl c.reserve_literals.ensures.literals c.reserve_literals.ensures.reasons c.self.invariant.state;
  places = places_same _ _ _ _ _ _ refl c.reserve_literals.ensures.literals refl c.self.invariant.places;
  values = values_same _ _ _ _ _ refl c.reserve_literals.ensures.literals (c.widen.ensures.kept _ _ c.self.invariant.state.justified.known c.self.invariant.values);
  levels = levels_same _ _ _ _ c.reserve_literals.ensures.reasons c.reserve_literals.ensures.levels c.self.invariant.levels;
  starts = starts_same _ _ _ _ c.reserve_literals.ensures.reasons c.reserve_literals.ensures.starts c.self.invariant.starts;
  limit = c.self.invariant.limit;
  few = c.self.invariant.few;
  room_literals = at_most _ _ _ _ refl c.self.invariant.room_literals c.reserve_literals.ensures.no_less.0;
  room_reasons = at_most _ _ _ _ refl c.self.invariant.room_reasons c.reserve_literals.ensures.no_less.1;
  room_levels = at_most _ _ _ _ refl c.self.invariant.room_levels c.reserve_literals.ensures.no_less.2;
  room_starts = at_most _ _ _ _ refl c.self.invariant.room_starts c.reserve_literals.ensures.no_less.3;
}

pub invariant_of-self-in_err-resize : goal.invariant_of-self-in_err-resize
invariant_of-self-in_err-resize c =
    let same : length c.resize.new.self.items ≡ length c.self.inside.places.items = ap length c.in_err-resize.ensures.items in
    record {
      state = state_same _ _ _ _ _ _ _ _ _ same c.reserve_literals.ensures.literals c.reserve_literals.ensures.reasons c.self.invariant.state;
      places = places_same _ _ _ _ _ _ same c.reserve_literals.ensures.literals c.in_err-resize.ensures.items c.self.invariant.places;
      values = values_same _ _ _ _ _ same c.reserve_literals.ensures.literals (c.widen.ensures.kept _ _ c.self.invariant.state.justified.known c.self.invariant.values);
      levels = levels_same _ _ _ _ c.reserve_literals.ensures.reasons c.reserve_literals.ensures.levels c.self.invariant.levels;
      starts = starts_same _ _ _ _ c.reserve_literals.ensures.reasons c.reserve_literals.ensures.starts c.self.invariant.starts;
      limit = at_most _ _ _ _ c.in_err-resize.ensures.len c.self.invariant.limit (omega arith);
      few = c.self.invariant.few;
      room_literals = at_most _ _ _ _ c.in_err-resize.ensures.len c.self.invariant.room_literals c.reserve_literals.ensures.no_less.0;
      room_reasons = at_most _ _ _ _ c.in_err-resize.ensures.len c.self.invariant.room_reasons c.reserve_literals.ensures.no_less.1;
      room_levels = at_most _ _ _ _ c.in_err-resize.ensures.len c.self.invariant.room_levels c.reserve_literals.ensures.no_less.2;
      room_starts = at_most _ _ _ _ c.in_err-resize.ensures.len c.self.invariant.room_starts c.reserve_literals.ensures.no_less.3;
    }

pub invariant_of-self-2 : goal.invariant_of-self-2
invariant_of-self-2 c = record {
  state = state_grown _ _ _ _ _ _ _ _ _ (let n = c.in_ok-resize.ensures.len in let more = c.max-count.ensures in omega arith) c.reserve_literals.ensures.literals c.reserve_literals.ensures.reasons c.self.invariant.state;
  places = search rules;
  values = search rules;
  levels = levels_same _ _ _ _ c.reserve_literals.ensures.reasons c.reserve_literals.ensures.levels c.self.invariant.levels;
  starts = starts_same _ _ _ _ c.reserve_literals.ensures.reasons c.reserve_literals.ensures.starts c.self.invariant.starts;
  limit = let n = c.in_ok-resize.ensures.len in omega arith;
  few = c.self.invariant.few;
  room_literals = below _ _ _ c.in_ok-resize.ensures.len c.in_ok-reserve_literals.ensures.room.0;
  room_reasons = below _ _ _ c.in_ok-resize.ensures.len c.in_ok-reserve_literals.ensures.room.1;
  room_levels = below _ _ _ c.in_ok-resize.ensures.len c.in_ok-reserve_literals.ensures.room.2;
  room_starts = below _ _ _ c.in_ok-resize.ensures.len c.in_ok-reserve_literals.ensures.room.3;
}
