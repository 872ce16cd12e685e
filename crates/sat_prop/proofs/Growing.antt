-- More variables or more room: what is watched stays so.
use Rattle.std.proofs.Common.{◌≡◌, ℕ, ◌≤◌, max, arith}
use Rattle.std.specs.Prelude.{Result, Ok, Err, OnOk, OnErr}
use Rattle.des_base.specs.declared.memory.Memory.{Memory}
use Rattle.std.proofs.lemmas.Grind.{common_steps}
use Rattle.sat_prop.specs.TrailState.{TrailState}
use Rattle.sat_prop.specs.Watching.{WatchedState, AreWatched}

pub watched_wider : (t : TrailState) (w : WatchedState) (vars lists : ℕ) → AreWatched t w → vars ≤ lists → AreWatched (record t { vars = vars }) (record w { lists = record w.lists { vars = lists } })
watched_wider t w vars lists a h = record {
  front = a.front;
  vars = h;
  room_short = a.room_short;
  room_watches = a.room_watches;
  short = a.short;
  narrow = a.narrow;
  all = a.all;
  each = a.each;
  settled = a.settled;
}

-- whether there was memory for it or not
pub grown_either : (r : Result (Unit {0}) Memory) (t new : TrailState) (w : WatchedState) (vars : ℕ) → OnOk r (new ≡ record t { vars = max t.vars vars }) → OnErr r (new ≡ t) → AreWatched t w → AreWatched new (record w { lists = record w.lists { vars = max w.lists.vars vars } })
grown_either (Ok u) t new w vars e f a = rw e (watched_wider t w (max t.vars vars) (max w.lists.vars vars) a (let v = a.vars in grind (arith, common_steps)))
grown_either (Err m) t new w vars e f a = rw f (watched_wider t w t.vars (max w.lists.vars vars) a (let v = a.vars in grind (arith, common_steps)))

-- with more room
pub watched_roomier : (t : TrailState) (w new : WatchedState) (spare : ℕ) → AreWatched t w → new.short ≡ w.short → new.seen ≡ w.seen → new.lists.watches ≡ w.lists.watches → new.lists.vars ≡ w.lists.vars → spare ≤ new.spare → spare ≤ new.lists.spare → AreWatched (record t { spare = spare }) new
watched_roomier t w new spare a s n e v p q = record {
  front = rw n a.front;
  vars = rw v a.vars;
  room_short = p;
  room_watches = q;
  short = rw s a.short;
  narrow = rw s a.narrow;
  all = rw (s, e) a.all;
  each = rw e a.each;
  settled = rw (n, e) a.settled;
}

pub roomier_either : (r : Result (Unit {0}) Memory) (t new : TrailState) (w more : WatchedState) (clauses : ℕ) → OnOk r (new ≡ record t { spare = max t.spare clauses }) → OnErr r (new ≡ t) → AreWatched t w
    → more.short ≡ w.short → more.seen ≡ w.seen → more.lists.watches ≡ w.lists.watches → more.lists.vars ≡ w.lists.vars → t.spare ≤ more.spare → t.spare ≤ more.lists.spare → clauses ≤ more.spare → clauses ≤ more.lists.spare → AreWatched new more
roomier_either (Ok u) t new w more clauses e f a s n x v p q g h = rw e (watched_roomier t w more (max t.spare clauses) a s n x v (grind (arith, common_steps)) (grind (arith, common_steps)))
roomier_either (Err m) t new w more clauses e f a s n x v p q g h = rw f (watched_roomier t w more t.spare a s n x v p q)
