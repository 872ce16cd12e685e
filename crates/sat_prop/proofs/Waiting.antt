-- Watches that wait: with which the wait begins and ends, and that the next one waits no more.
use Rattle.std.proofs.Common.{◌≡◌, ℕ, ◌+◌, ◌<◌, true, false, ◌∷◌, [], List, refl, sym, subst, length, arith, ⊎_elim}
use Rattle.std.proofs.lemmas.Bool.{cases_eq}
use Rattle.prop_core.specs.declared.lit.Lit.{Lit}
use Rattle.prop_core.specs.Clauses.{negation}
use Rattle.sat_prop.specs.TrailState.{TrailState, literal_at}
use Rattle.sat_prop.specs.Watches.{WatchState, IsLive, watch_at, is_among}
use Rattle.sat_prop.specs.Watching.{WatchedState, AreWatched, AreVisited, IsSettled}
use Rattle.sat_prop.proofs.Links.{not_both}
use Rattle.sat_prop.proofs.Settling.{settled_apart, settled_live}
use Rattle.sat_prop.proofs.Turning.{not_among}

-- all that waits being looked at again leaves the rest as it was
pub watched_waits : (t : TrailState) (w : WatchedState) (lists : WatchState) → AreWatched t w → lists.watches ≡ w.lists.watches → lists.vars ≡ w.lists.vars → lists.spare ≡ w.lists.spare → AreWatched t (record w { lists = lists })
watched_waits t w lists a e v s = record {
  front = a.front;
  vars = rw v a.vars;
  room_short = a.room_short;
  room_watches = rw s a.room_watches;
  short = a.short;
  narrow = a.narrow;
  all = rw e a.all;
  each = rw e a.each;
  settled = rw e a.settled;
}

-- where all wait that watch the literal that becomes false and weren't dropped, the others are settled by it
pub visited_begins : (t : TrailState) (w : WatchedState) (l : Lit) → AreWatched t w → literal_at t.literals w.seen ≡ negation l → ((n : ℕ) → n < length w.lists.watches → IsLive w.lists.watches n → (watch_at w.lists.watches n).lit ≡ l → is_among n w.lists.waiting ≡ true) → AreVisited t w
visited_begins t w l a falls waits n h f = settled_live t.clauses t.literals (w.seen + 1) w.lists.watches n (λ live. settled_apart t.clauses t.literals w.seen w.lists.watches n l (a.settled n h) falls (λ e. not_both _ (waits n h live e) f))

-- and where none waits any more, all are
pub visited_ends : (t : TrailState) (w : WatchedState) → AreWatched t w → AreVisited t w → w.lists.waiting ≡ [] → w.seen < length t.literals → AreWatched t (record w { seen = w.seen + 1 })
visited_ends t w a v e b = record {
  front = omega arith;
  vars = a.vars;
  room_short = a.room_short;
  room_watches = a.room_watches;
  short = a.short;
  narrow = a.narrow;
  all = a.all;
  each = a.each;
  settled = λ n h. v n h (subst (λ (xs : List ℕ). is_among n xs ≡ false) (sym e) refl);
}

-- the next one stays where it is
pub visited_stays : (t : TrailState) (w : WatchedState) (others : List ℕ) (n : ℕ) → w.lists.waiting ≡ n ∷ others → AreVisited t w → IsSettled t.clauses t.literals (w.seen + 1) w.lists.watches n → AreVisited t (record w { lists = record w.lists { waiting = others } })
visited_stays t w others n e a s m h f = ⊎_elim
    (λ q. subst (λ (k : ℕ). IsSettled t.clauses t.literals (w.seen + 1) w.lists.watches k) (sym q) s)
    (λ d. a m h (subst (λ (xs : List ℕ). is_among m xs ≡ false) (sym e) (not_among m n others d f)))
    (cases_eq m n)
