-- The runs of variables through their changes.
use Rattle.std.proofs.Common.{◌≡◌, ◌∙◌, ℕ, zero, suc, ◌+◌, ◌-◌, ◌<◌, ◌≤◌, Bool, true, false, ◌++◌, ◌∷◌, [], List, refl, ap, sym, length, get_or, arith, subst, inl, inr, ⊎_elim, slice_set, min, drop, take, append_assoc}
use Rattle.std.specs.Prelude.{Option, Some, None}
use Rattle.std.specs.List.{AllByRecursion, AllZip}
use Rattle.std.proofs.lemmas.List.{length-take, get_or_at, set_at, drop_more}
use Rattle.std.proofs.lemmas.List.Elements.{length_all_zip, all_zip_more}
use Rattle.std.proofs.lemmas.Grind.{common_steps}
use Rattle.std.proofs.lemmas.Bool.{cases_lt, cases_eq}
use Rattle.sat_order.specs.declared.queue.RankRun.{RankRun}
use Rattle.sat_order.specs.Waiting.{rank_of, waits, ComesFirst, IsNext, NoneWaits}
use Rattle.sat_order.specs.Queue.{IsRankRun, AreRuns, IsQueue, Lengthens, EndsBehind, IsPlaceOf, LetsWait, IsMovedOn, WaitsNext, GivesNext}

-- runs stay what they are where their variables keep their ranks, and those that didn't wait don't
IsRankRun-kept : (ranks new : List ℕ) (waiting now : List Bool) (first last : ℕ) (run : RankRun) → run.end ≤ last → ((var : ℕ) → var < last → rank_of new var ≡ rank_of ranks var) →
    ((var : ℕ) → first ≤ var → var < last → waits waiting var ≡ false → waits now var ≡ false) → IsRankRun ranks waiting first run → IsRankRun new now first run
IsRankRun-kept ranks new waiting now first last run e same off r = record {
  from = r.from;
  upto = r.upto;
  ranked = λ var a b. same var (omega arith) ∙ r.ranked var a b;
  passed = λ var a b. let u = r.upto in off var a (omega arith) (r.passed var a b);
}

runs_upto : (ranks : List ℕ) (waiting : List Bool) (first last : ℕ) (runs : List RankRun) → AreRuns ranks waiting first last runs → first ≤ last
runs_upto ranks waiting first last [] r = let e : first ≡ last = r in omega arith
runs_upto ranks waiting first last (run ∷ runs) r = let a = r.0.from in let b = r.0.upto in let c = runs_upto ranks waiting run.end last runs r.1 in omega arith

AreRuns-kept : (ranks new : List ℕ) (waiting now : List Bool) (first last : ℕ) (runs : List RankRun) → ((var : ℕ) → var < last → rank_of new var ≡ rank_of ranks var) →
    ((var : ℕ) → first ≤ var → var < last → waits waiting var ≡ false → waits now var ≡ false) → AreRuns ranks waiting first last runs → AreRuns new now first last runs
AreRuns-kept ranks new waiting now first last [] same off r = r
AreRuns-kept ranks new waiting now first last (run ∷ runs) same off r =
    let a = r.0.from in let b = r.0.upto in (
      IsRankRun-kept ranks new waiting now first last run (runs_upto ranks waiting run.end last runs r.1) same off r.0,
      AreRuns-kept ranks new waiting now run.end last runs same (λ var c d e. off var (omega arith) d e) r.1,
    )

-- the next variable comes in
one_more : (ranks : List ℕ) (waiting : List Bool) (rank var : ℕ) → rank_of ranks var ≡ rank → IsRankRun ranks waiting var (record { rank = rank; next = var; end = var + 1 })
one_more ranks waiting rank var e = record {
  from = omega arith;
  upto = omega arith;
  ranked = λ other a b. let o : other ≡ var = omega arith in ap (rank_of ranks) o ∙ e;
  passed = λ other a b. absurd (omega arith);
}

-- the last run becomes longer, or another one comes behind it
longer_by_same : (ranks : List ℕ) (waiting : List Bool) (rank first var place : ℕ) (runs : List RankRun) (run : RankRun) → length runs ≡ suc place → run ≡ get_or runs place run → run.rank ≡ rank → rank_of ranks var ≡ rank →
    AreRuns ranks waiting first var runs → AreRuns ranks waiting first (var + 1) (slice_set runs place (record { rank = run.rank; next = run.next; end = var + 1 }))
longer_by_same ranks waiting rank first var place [] run k e f known r = absurd (let z : 0 ≡ suc place = k in omega arith)
longer_by_same ranks waiting rank first var zero (head ∷ []) run k e f known r =
    let same : run ≡ head = e in
    let o : head.end ≡ var = r.1 in
    let u = r.0.upto in
    rw same (
      record {
        from = r.0.from;
        upto = omega arith;
        ranked = λ other a b. ⊎_elim (λ q. ap (rank_of ranks) q ∙ known ∙ sym (ap (λ (x : RankRun). x.rank) (sym same) ∙ f)) (λ n. r.0.ranked other a (omega arith)) (cases_eq other var);
        passed = r.0.passed;
      },
      refl,
    )
longer_by_same ranks waiting rank first var (suc place) (head ∷ []) run k e f known r = absurd (let z : 1 ≡ suc (suc place) = k in omega arith)
longer_by_same ranks waiting rank first var zero (head ∷ other ∷ runs) run k e f known r = absurd (let z : suc (suc (length runs)) ≡ 1 = k in omega arith)
longer_by_same ranks waiting rank first var (suc place) (head ∷ other ∷ runs) run k e f known r =
    let z : suc (suc (length runs)) ≡ suc (suc place) = k in (
      r.0,
      longer_by_same ranks waiting rank head.end var place (other ∷ runs) run (let y : suc (length runs) ≡ suc place = omega arith in y) e f known r.1,
    )

pub Lengthens-same : (rank var place : ℕ) (runs : List RankRun) (run : RankRun) → length runs ≡ suc place → run ≡ get_or runs place run → run.rank ≡ rank → Lengthens rank var runs (slice_set runs place (record { rank = run.rank; next = run.next; end = var + 1 }))
Lengthens-same rank var place runs run k e f ranks waiting known r = longer_by_same ranks waiting rank 0 var place runs run k e f known r

longer_by_other : (ranks : List ℕ) (waiting : List Bool) (rank first var : ℕ) (runs : List RankRun) → rank_of ranks var ≡ rank → AreRuns ranks waiting first var runs →
    AreRuns ranks waiting first (var + 1) (runs ++ record { rank = rank; next = var; end = var + 1 } ∷ [])
longer_by_other ranks waiting rank first var [] e r = let f : first ≡ var = r in rw f (one_more ranks waiting rank var e, refl)
longer_by_other ranks waiting rank first var (run ∷ runs) e r = (r.0, longer_by_other ranks waiting rank run.end var runs e r.1)

pub Lengthens-other : (rank var : ℕ) (runs : List RankRun) → Lengthens rank var runs (runs ++ record { rank = rank; next = var; end = var + 1 } ∷ [])
Lengthens-other rank var runs ranks waiting known r = longer_by_other ranks waiting rank 0 var runs known r

pub IsQueue-add : (ranks : List ℕ) (waiting : List Bool) (runs : List RankRun) (rank var : ℕ) (longer : List RankRun) → IsQueue ranks waiting runs → var ≡ length ranks → Lengthens rank var runs longer → IsQueue (ranks ++ rank ∷ []) (waiting ++ true ∷ []) longer
IsQueue-add ranks waiting runs rank var longer q e lengthens =
    let long : length (ranks ++ rank ∷ []) ≡ var + 1 = rw e (grind (arith, common_steps)) in
    let last : rank_of (ranks ++ rank ∷ []) var ≡ rank = rw e (grind (arith, common_steps)) in
    let same = q.same in
    record {
      same = grind (arith, common_steps);
      all = rw long (lengthens (ranks ++ rank ∷ []) (waiting ++ true ∷ []) last
          (AreRuns-kept ranks (ranks ++ rank ∷ []) waiting (waiting ++ true ∷ []) 0 var runs
          (λ other b. let l : other < length ranks = omega arith in grind (arith, common_steps))
          (λ other a b h. let l : other < length waiting = omega arith in grind (arith, common_steps))
          (rw e q.all)));
    }

drop_head : (runs : List RankRun) (place : ℕ) (run : RankRun) → place < length runs → run ≡ get_or runs place run → drop place runs ≡ run ∷ drop (place + 1) runs
drop_head runs place run k e = grind (arith, common_steps)

-- one variable waits
AreRuns-lowered : (ranks : List ℕ) (waiting now : List Bool) (first last var place : ℕ) (runs : List RankRun) (some : RankRun) → first ≤ var → ((other : ℕ) → (other ≡ var → ⊥) → waits now other ≡ waits waiting other) → IsPlaceOf var runs place → AreRuns ranks waiting first last runs →
    AreRuns ranks now first last (slice_set runs place (record { rank = (get_or runs place some).rank; next = min (get_or runs place some).next var; end = (get_or runs place some).end }))
AreRuns-lowered ranks waiting now first last var place [] some a same p r = absurd p
AreRuns-lowered ranks waiting now first last var zero (run ∷ runs) some a same p r =
    let w : var < run.end = p in
    let f = r.0.from in
    let u = r.0.upto in (
      record {
        from = omega arith;
        upto = omega arith;
        ranked = r.0.ranked;
        passed = λ other c d. let n : other ≡ var → ⊥ = λ o. absurd (omega arith) in same other n ∙ r.0.passed other c (omega arith);
      },
      AreRuns-kept ranks ranks waiting now run.end last runs (λ other c. refl) (λ other c d h. let n : other ≡ var → ⊥ = λ o. absurd (omega arith) in same other n ∙ h) r.1,
    )
AreRuns-lowered ranks waiting now first last var (suc place) (run ∷ runs) some a same p r =
    let w = p.0 in
    let u = r.0.upto in (
      record {
        from = r.0.from;
        upto = r.0.upto;
        ranked = r.0.ranked;
        passed = λ other c d. let n : other ≡ var → ⊥ = λ o. absurd (omega arith) in same other n ∙ r.0.passed other c d;
      },
      AreRuns-lowered ranks waiting now run.end last var place runs some w same p.1 r.1,
    )

pub LetsWait-lowered : (var place : ℕ) (runs : List RankRun) (some : RankRun) → IsPlaceOf var runs place →
    LetsWait var runs (slice_set runs place (record { rank = (get_or runs place some).rank; next = min (get_or runs place some).next var; end = (get_or runs place some).end }))
LetsWait-lowered var place runs some p ranks waiting last k r = AreRuns-lowered ranks waiting (slice_set waiting var true) 0 last var place runs some (omega arith) (λ other n. grind (arith, common_steps)) p r

pub IsQueue-put_back : (ranks : List ℕ) (waiting : List Bool) (runs now : List RankRun) (var : ℕ) → IsQueue ranks waiting runs → var < length waiting → LetsWait var runs now → IsQueue ranks (slice_set waiting var true) now
IsQueue-put_back ranks waiting runs now var q k waits_too =
    let same = q.same in
    record {
      same = grind (arith, common_steps);
      all = waits_too ranks waiting (length ranks) (omega arith) q.all;
    }

-- some run has each variable
pub EndsBehind-known : (ranks : List ℕ) (waiting : List Bool) (first last var : ℕ) (runs : List RankRun) → var < last → AreRuns ranks waiting first last runs → first ≤ var → EndsBehind var runs
EndsBehind-known ranks waiting first last var [] k r a = let e : first ≡ last = r in absurd (omega arith)
EndsBehind-known ranks waiting first last var (run ∷ runs) k r a = ⊎_elim (λ l. inl l) (λ g. inr (EndsBehind-known ranks waiting run.end last var runs k r.1 g)) (cases_lt var run.end)

-- the first run that ends behind a variable is sought from some place on
pub record IsSought (var : ℕ) (runs : List RankRun) (place : ℕ) : Type 0 where
  pub ahead : EndsBehind var (drop place runs)
  pub found : (more : ℕ) → IsPlaceOf var (drop place runs) more → IsPlaceOf var runs (place + more)

pub sought_inside : (var : ℕ) (runs : List RankRun) (place : ℕ) → IsSought var runs place → place < length runs
sought_inside var runs place s = ⊎_elim (λ l. l) (λ g. absurd (nothing (grind (arith, common_steps)) s.ahead)) (cases_lt place (length runs))
  where
    nothing : drop place runs ≡ [] → EndsBehind var (drop place runs) → ⊥
    nothing e a = subst (EndsBehind var) e a

pub IsSought-next : (var : ℕ) (runs : List RankRun) (place : ℕ) (run : RankRun) → run ≡ get_or runs place run → run.end ≤ var → IsSought var runs place → IsSought var runs (place + 1)
IsSought-next var runs place run e past s =
    let split = drop_head runs place run (sought_inside var runs place s) e in
    record {
      ahead = ⊎_elim (λ l. absurd (omega arith)) (λ later. later) (subst (EndsBehind var) split s.ahead);
      found = λ more p. subst (IsPlaceOf var runs) (omega arith) (s.found (suc more) (subst (λ l. IsPlaceOf var l (suc more)) (sym split) (past, p)));
    }

pub IsPlaceOf-found : (var : ℕ) (runs : List RankRun) (place : ℕ) (run : RankRun) → run ≡ get_or runs place run → var < run.end → IsSought var runs place → IsPlaceOf var runs place
IsPlaceOf-found var runs place run e behind s =
    let split = drop_head runs place run (sought_inside var runs place s) e in
    subst (IsPlaceOf var runs) (omega arith) (s.found 0 (subst (λ l. IsPlaceOf var l 0) (sym split) behind))

-- runs at the first of their variables that waits are the same runs
IsRankRun-moved : (ranks : List ℕ) (waiting : List Bool) (first : ℕ) (run moved : RankRun) → IsMovedOn waiting run moved → IsRankRun ranks waiting first run → IsRankRun ranks waiting first moved
IsRankRun-moved ranks waiting first run moved m r =
    let f = r.from in
    let a = m.next.from in
    let b = m.next.upto r.upto in
    let e = m.end in
    record {
      from = omega arith;
      upto = omega arith;
      ranked = λ var c d. r.ranked var c (omega arith) ∙ sym m.rank;
      passed = λ var c d. ⊎_elim (λ l. r.passed var c l) (λ g. m.next.passed var g d) (cases_lt var run.next);
    }

AreRuns-moved : (ranks : List ℕ) (waiting : List Bool) (first last : ℕ) (runs moved : List RankRun) → AllZip (IsMovedOn waiting) runs moved → AreRuns ranks waiting first last runs → AreRuns ranks waiting first last moved
AreRuns-moved ranks waiting first last [] [] m r = r
AreRuns-moved ranks waiting first last [] (other ∷ moved) m r = absurd m
AreRuns-moved ranks waiting first last (run ∷ runs) [] m r = absurd m
AreRuns-moved ranks waiting first last (run ∷ runs) (other ∷ moved) m r = (
  IsRankRun-moved ranks waiting first run other m.0 r.0,
  AreRuns-moved ranks waiting other.end last runs moved m.1 (subst (λ end. AreRuns ranks waiting end last runs) (sym m.0.end) r.1),
)

WaitsNext-moved : (waiting : List Bool) (runs moved : List RankRun) → AllZip (IsMovedOn waiting) runs moved → AllByRecursion (WaitsNext waiting) moved
WaitsNext-moved waiting [] [] m = tt
WaitsNext-moved waiting [] (other ∷ moved) m = absurd m
WaitsNext-moved waiting (run ∷ runs) [] m = absurd m
WaitsNext-moved waiting (run ∷ runs) (other ∷ moved) m = ((λ n. m.0.next.waits_now (let e = m.0.end in omega arith)), WaitsNext-moved waiting runs moved m.1)

pub IsQueue-moved : (ranks : List ℕ) (waiting : List Bool) (runs moved : List RankRun) → AllZip (IsMovedOn waiting) runs moved → IsQueue ranks waiting runs → IsQueue ranks waiting moved
IsQueue-moved ranks waiting runs moved m q = record { same = q.same; all = AreRuns-moved ranks waiting 0 (length ranks) runs moved m q.all }

-- one more of a list has been replaced
pub one_more_replaced : (R : RankRun → RankRun → Type 0) (before runs done : List RankRun) (place : ℕ) (old new : RankRun) → place < length before → runs ≡ done ++ drop place before → AllZip R (take place before) done → old ≡ get_or runs place old → R old new →
    (slice_set runs place new ≡ (done ++ new ∷ []) ++ drop (place + 1) before) × AllZip R (take (place + 1) before) (done ++ new ∷ [])
one_more_replaced R before runs done place old new k h z is r =
    let long : length done ≡ place = sym (length_all_zip R (take place before) done z) ∙ omega (arith, length-take place before) in
    let parts : runs ≡ done ++ get_or before place old ∷ drop (place + 1) before = h ∙ ap (λ l. done ++ l) (drop_more before place old k) in
    let read : old ≡ get_or before place old = is ∙ ap (λ l. get_or l place old) parts ∙ get_or_at done _ _ old place long in (
      ap (λ l. slice_set l place new) parts ∙ set_at done _ _ new place long ∙ sym (append_assoc done (new ∷ []) _),
      all_zip_more R before done place old new k read z r,
    )

pub all_replaced : (R : RankRun → RankRun → Type 0) (before runs done : List RankRun) (place : ℕ) → length before ≤ place → runs ≡ done ++ drop place before → AllZip R (take place before) done → AllZip R before runs
all_replaced R before runs done place k h z =
    let whole : take place before ≡ before = grind (arith, common_steps) in
    let none : runs ≡ done = let e : drop place before ≡ [] = grind (arith, common_steps) in h ∙ ap (λ l. done ++ l) e ∙ grind (arith, common_steps) in
    subst (AllZip R before) (sym none) (subst (λ l. AllZip R l done) whole z)

-- one is taken
pub IsQueue-take : (ranks : List ℕ) (waiting : List Bool) (runs : List RankRun) (var : ℕ) → IsQueue ranks waiting runs → IsQueue ranks (slice_set waiting var false) runs
IsQueue-take ranks waiting runs var q =
    let same = q.same in
    record {
      same = grind (arith, common_steps);
      all = AreRuns-kept ranks ranks waiting (slice_set waiting var false) 0 (length ranks) runs (λ other b. refl) (λ other a b h. grind (arith, common_steps)) q.all;
    }

-- the best of the runs before a place
abbrev pub IsBestBefore : List RankRun → ℕ → Option RankRun → Type 0
IsBestBefore runs place best = (ranks : List ℕ) (waiting : List Bool) (last : ℕ) → AreRuns ranks waiting 0 last runs → AllByRecursion (WaitsNext waiting) runs →
    (first : ℕ) × GivesNext ranks waiting first best × AreRuns ranks waiting first last (drop place runs) × AllByRecursion (WaitsNext waiting) (drop place runs)

pub IsBestBefore-next : (runs : List RankRun) (place : ℕ) (run : RankRun) (best better : Option RankRun) → place < length runs → run ≡ get_or runs place run →
    ((ranks : List ℕ) (waiting : List Bool) (first : ℕ) → IsRankRun ranks waiting first run → WaitsNext waiting run → GivesNext ranks waiting first best → GivesNext ranks waiting run.end better) → IsBestBefore runs place best → IsBestBefore runs (place + 1) better
IsBestBefore-next runs place run best better k e goes b ranks waiting last r w =
    let before = b ranks waiting last r w in
    let split = drop_head runs place run k e in
    let parts = subst (AreRuns ranks waiting before.0 last) split before.2 in
    let wait = subst (AllByRecursion (WaitsNext waiting)) split before.3 in
    (run.end, goes ranks waiting before.0 parts.0 wait.0 before.1, parts.1, wait.1)

pub IsBestBefore-all : (runs : List RankRun) (place : ℕ) (best : Option RankRun) → length runs ≤ place → IsBestBefore runs place best → (ranks : List ℕ) (waiting : List Bool) (last : ℕ) → AreRuns ranks waiting 0 last runs → AllByRecursion (WaitsNext waiting) runs →
    GivesNext ranks waiting last best
IsBestBefore-all runs place best k b ranks waiting last r w =
    let before = b ranks waiting last r w in
    let none : drop place runs ≡ [] = grind (arith, common_steps) in
    let end : before.0 ≡ last = subst (AreRuns ranks waiting before.0 last) none before.2 in
    subst (λ n. GivesNext ranks waiting n best) end before.1

below : (waiting : List Bool) (other : ℕ) → waits waiting other ≡ true → other < length waiting
below waiting other on = grind (arith, common_steps)

-- the best run of a queue that is moved on
pub best_of_queue : (ranks : List ℕ) (waiting : List Bool) (runs moved read : List RankRun) (best : Option RankRun) → AllZip (IsMovedOn waiting) runs moved → IsQueue ranks waiting runs → read ≡ moved →
    ((ranks : List ℕ) (waiting : List Bool) (last : ℕ) → AreRuns ranks waiting 0 last read → AllByRecursion (WaitsNext waiting) read → GivesNext ranks waiting last best) → GivesNext ranks waiting (length ranks) best
best_of_queue ranks waiting runs moved read best m q e goes =
    goes ranks waiting (length ranks) (subst (AreRuns ranks waiting 0 (length ranks)) (sym e) (AreRuns-moved ranks waiting 0 (length ranks) runs moved m q.all)) (subst (AllByRecursion (WaitsNext waiting)) (sym e) (WaitsNext-moved waiting runs moved m))

-- the best that waits comes first of all
pub best_is_next : (ranks : List ℕ) (waiting : List Bool) (runs : List RankRun) (run : RankRun) → IsQueue ranks waiting runs → GivesNext ranks waiting (length ranks) (Some run) → IsNext ranks waiting run.next
best_is_next ranks waiting runs run q k =
    let same = q.same in
    let a = k.0 in
    record {
      known = omega arith;
      waiting_now = k.1;
      first = λ other on. subst (λ n. ComesFirst run.next n other (rank_of ranks other)) (sym k.2) (k.3 other (let b = below waiting other on in omega arith) on);
    }

-- without a best one none waits
pub none_waits : (ranks : List ℕ) (waiting : List Bool) (runs : List RankRun) → IsQueue ranks waiting runs → GivesNext ranks waiting (length ranks) None → NoneWaits waiting
none_waits ranks waiting runs q k var =
    let same = q.same in
    ⊎_elim (λ l. k var (omega arith)) (λ g. past waiting var (omega arith)) (cases_lt var (length waiting))
  where
    past : (waiting : List Bool) (var : ℕ) → length waiting ≤ var → waits waiting var ≡ false
    past waiting var h = grind (arith, common_steps)

-- what is written back to a vector
pub written_back : (new old : List RankRun) (count : ℕ) → length new ≡ length old → count ≡ length old → take count (new ++ drop (length new) old) ≡ new
written_back new old count e f = grind (arith, common_steps)

-- the runs of a queue, moved on and written back
pub moved_back : (waiting seen : List Bool) (runs read moved : List RankRun) (count : ℕ) → seen ≡ waiting → read ≡ runs → AllZip (IsMovedOn seen) read moved → length moved ≡ length read → length read ≡ count →
    AllZip (IsMovedOn waiting) runs (take count (moved ++ drop (length moved) runs))
moved_back waiting seen runs read moved count e f g k h =
    subst (AllZip (IsMovedOn waiting) runs) (sym (written_back moved runs count (k ∙ ap length f) (sym h ∙ ap length f)))
    (subst (λ w. AllZip (IsMovedOn w) runs moved) e (subst (λ l. AllZip (IsMovedOn seen) l moved) f g))

pub run_at : (runs : List RankRun) (place : ℕ) (run : RankRun) → place < length runs → get_or runs place run ≡ get_or runs place (get_or runs place run)
run_at runs place run k = grind (arith, common_steps)
