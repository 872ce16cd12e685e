-- What a search keeps, through more room, a way back, and a clause that is attached.
use Rattle.std.proofs.Common.{◌≡◌, ◌∙◌, ℕ, ◌+◌, ◌<◌, ◌≤◌, Bool, true, ◌++◌, ◌∷◌, [], List, refl, ap, sym, length, subst}
use Rattle.std.specs.Prelude.{Result, Ok, Err, IfOk, OnErr}
use Rattle.std.specs.List.{list_all}
use Rattle.prop_core.specs.declared.lit.Lit.{Lit}
use Rattle.prop_core.specs.Clauses.{Clause}
use Rattle.proof_ledger.specs.Book.{BookEntry, clauses_of}
use Rattle.proof_ledger.specs.Kept.{LedgerState}
use Rattle.sat_prop.specs.TrailState.{TrailState, literal_at}
use Rattle.sat_prop.specs.Levels.{level_at}
use Rattle.sat_prop.specs.Changes.{IsKeptUpTo, with_attached_clause}
use Rattle.sat_prop.specs.Kept.{IsTrailState}
use Rattle.sat_learn.specs.Seen.{is_known_var}
use Rattle.sat_solve.specs.declared.answer.Answer.TheVariants.{Unsat}
use Rattle.sat_solve.specs.declared.search.Search.{Search}
use Rattle.sat_solve.specs.Searching.{IsSearched}
use Rattle.sat_solve.specs.Solving.{AreTaken, AreSound, AreOver, AreUnderWay, AreAtRest, IsEnded, KeepsVariables, KeepsWaiting}
use Rattle.sat_order.specs.Waiting.{waits}
use Rattle.sat_solve.proofs.WaitingVariables.{serving_roomier, waiting_roomier, waiting_kept, more_room, WithRoom}
use Rattle.sat_solve.proofs.Booking.{searched_none, searched_closed, IsClosed}
use Rattle.sat_solve.proofs.Clashing.{refuted_from}
use Rattle.sat_solve.proofs.Learning.{serving_attached, under_attached, under_same, unattached_from}
use Rattle.sat_solve.proofs.Putting.{put_closed}
use Rattle.sat_solve.proofs.Standing.{serving_kept, under_kept}

-- none is taken at first
pub taken_none : (literals assumed : List Lit) (taken : ℕ) → taken ≡ 0 → AreTaken literals assumed taken
taken_none literals assumed taken e = rw e refl

-- more room
pub sound_roomier : (waiting : List Bool) (vars spare : ℕ) (t u : TrailState) → AreSound waiting vars spare t → WithRoom t u → AreSound waiting vars spare u
sound_roomier waiting vars spare t u s r = record {
  serving = serving_roomier vars spare t u s.serving r;
  waiting_open = waiting_roomier waiting vars t u s.waiting_open r;
  variables = s.variables;
  limit = s.limit;
}

pub over_roomier : (waiting : List Bool) (vars spare : ℕ) (t u : TrailState) (book : List BookEntry) → AreOver waiting vars spare t book → WithRoom t u → AreOver waiting vars spare u book
over_roomier waiting vars spare t u book o r = record { sound = sound_roomier waiting vars spare t u o.sound r; clauses = ap (λ (x : TrailState). x.clauses) r.same ∙ o.clauses }

pub under_way_roomier : (assumed : List Lit) (taken : ℕ) (waiting : List Bool) (vars spare : ℕ) (t u : TrailState) (book : List BookEntry) → AreUnderWay assumed taken waiting vars spare t book → WithRoom t u → AreUnderWay assumed taken waiting vars spare u book
under_way_roomier assumed taken waiting vars spare t u book w r =
    let ls : u.literals ≡ t.literals = ap (λ (x : TrailState). x.literals) r.same in
    record {
      over = over_roomier waiting vars spare t u book w.over r;
      under = under_same assumed vars t u w.under ls (ap (λ (x : TrailState). x.reasons) r.same);
      taken_first = rw ls w.taken_first;
    }

-- the way back
pub sound_kept : (before waiting : List Bool) (vars spare level : ℕ) (t u : TrailState) → AreSound before vars spare t → IsTrailState t → length waiting ≡ length before → KeepsWaiting before waiting → ((place : ℕ) → place < length t.literals → level < level_at t.reasons place → waits waiting (literal_at t.literals place).var ≡ true)
    → IsKeptUpTo t u level → AreSound waiting vars spare u
sound_kept before waiting vars spare level t u s ts n k back b = record {
  serving = serving_kept vars spare level t u s.serving b;
  waiting_open = waiting_kept waiting t u vars level (λ var h o. k var (s.waiting_open var h o)) ts.justified.same back b;
  variables = n ∙ s.variables;
  limit = s.limit;
}

pub under_way_kept : (assumed : List Lit) (before_taken taken : ℕ) (before waiting : List Bool) (before_vars vars before_spare spare level : ℕ) (t u : TrailState) (book : List BookEntry) → AreUnderWay assumed before_taken before before_vars before_spare t book → IsTrailState t → IsKeptUpTo t u level → AreSound waiting vars spare u → vars ≡ before_vars → taken ≡ 0
    → AreUnderWay assumed taken waiting vars spare u book
under_way_kept assumed before_taken taken before waiting before_vars vars before_spare spare level t u book w ts k s v n = record {
  over = record { sound = s; clauses = k.clauses ∙ w.over.clauses };
  under = rw v (under_kept assumed before_vars level t u w.under ts.justified.same k);
  taken_first = taken_none u.literals assumed taken n;
}

-- one more clause
pub sound_attached : (waiting : List Bool) (vars spare : ℕ) (t u : TrailState) (all : List Clause) (c : Clause) (id : ℕ) → AreSound waiting vars spare t → spare + 1 ≤ t.spare → all ≡ t.clauses ++ c ∷ [] → id ≡ length all → list_all (λ l. is_known_var t.clauses l.var) c ≡ true → u ≡ with_attached_clause t all id → AreSound waiting vars spare u
sound_attached waiting vars spare t u all c id s room e f k g =
    let ls : u.literals ≡ t.literals = ap (λ (x : TrailState). x.literals) g in
    record {
      serving = serving_attached vars spare t u all c id (more_room vars spare t s.serving room) e f k g;
      waiting_open = rw ls s.waiting_open;
      variables = s.variables;
      limit = s.limit;
    }

pub under_way_attached : (assumed : List Lit) (taken : ℕ) (waiting : List Bool) (vars spare : ℕ) (t u : TrailState) (book new : List BookEntry) (all : List Clause) (c : Clause) (id : ℕ) → AreUnderWay assumed taken waiting vars spare t book → spare + 1 ≤ t.spare → all ≡ t.clauses ++ c ∷ [] → id ≡ length all → list_all (λ l. is_known_var t.clauses l.var) c ≡ true
    → all ≡ clauses_of new → u ≡ with_attached_clause t all id → AreUnderWay assumed taken waiting vars spare u new
under_way_attached assumed taken waiting vars spare t u book new all c id w room e f k n g =
    let ls : u.literals ≡ t.literals = ap (λ (x : TrailState). x.literals) g in
    record {
      over = record { sound = sound_attached waiting vars spare t u all c id w.over.sound room e f k g; clauses = ap (λ (x : TrailState). x.clauses) g ∙ n };
      under = under_attached assumed vars t u all id w.under g;
      taken_first = rw ls w.taken_first;
    }

-- the variables are kept by one change after another
pub keeps_both : {R : Type 0} (old mid new : Search R) → KeepsVariables old mid → KeepsVariables mid new → KeepsVariables old new
keeps_both old mid new a b = record {
  order = record { rank = b.order.rank ∙ a.order.rank; ranks = b.order.ranks ∙ a.order.ranks; variables = b.order.variables ∙ a.order.variables };
  vars = b.vars ∙ a.vars;
  spare = b.spare ∙ a.spare;
  known = b.known ∙ a.known;
}

-- at level 0
pub rest_sound : (waiting : List Bool) (vars spare : ℕ) (t u : TrailState) (values : List Bool) → AreSound waiting vars spare u → IsKeptUpTo t u 0 → vars ≤ length values → AreAtRest waiting u values vars spare
rest_sound waiting vars spare t u values s k v = record {
  level = rw k.reasons k.cut.decided;
  serving = s.serving;
  limit = s.limit;
  variables = s.variables;
  waiting_open = s.waiting_open;
  values_kept = v;
}

-- a final clause ends a search, where it was put
pub ended_put : {R E : Type 0} (r : Result ℕ E) (assumed : List Lit) (s : Search R) (t : TrailState) (old new : List BookEntry) (budget : ℕ) → AreOver s.order.waiting s.vars s.spare t old → WithRoom t s.propagator → s.spare + 1 ≤ s.propagator.spare → IfOk r (IsClosed assumed old new) → IfOk r (λ id. IsEnded assumed s old new budget (Unsat id))
ended_put (Ok id) assumed s t old new budget o w room c = record {
  sound = sound_roomier s.order.waiting s.vars s.spare t s.propagator o.sound w;
  put = put_closed assumed old new id c;
  found = refuted_from assumed old new id c;
  unfinished = unattached_from s.spare t s.propagator assumed old new id o.clauses (ap (λ (x : TrailState). x.clauses) w.same) c room;
}
ended_put (Err e) assumed s t old new budget o w room c = tt

pub searched_put : {E : Type 0} (r : Result ℕ E) (assumed : List Lit) (old new : LedgerState) (budget : ℕ) → IfOk r (IsClosed assumed old.entries new.entries) → OnErr r (new ≡ old) → IsSearched old.entries new.entries budget budget
searched_put (Ok id) assumed old new budget c e = searched_closed old.entries old.entries new.entries budget budget id assumed (searched_none old.entries budget) c
searched_put (Err error) assumed old new budget c e = subst (λ (b : LedgerState). IsSearched old.entries b.entries budget budget) (sym e) (searched_none old.entries budget)

-- and if memory ran out, all stands as it did
pub over_put : {E : Type 0} (r : Result ℕ E) (waiting : List Bool) (vars spare : ℕ) (t u : TrailState) (old new : LedgerState) → AreOver waiting vars spare t old.entries → WithRoom t u → OnErr r (new ≡ old) → OnErr r (AreOver waiting vars spare u new.entries)
over_put (Ok id) waiting vars spare t u old new o w e = tt
over_put (Err error) waiting vars spare t u old new o w e = subst (λ (b : LedgerState). AreOver waiting vars spare u b.entries) (sym e) (over_roomier waiting vars spare t u old.entries o w)

pub unput : {E : Type 0} (r : Result ℕ E) (old new : LedgerState) → OnErr r (new ≡ old) → OnErr r (new.entries ≡ old.entries)
unput (Ok id) old new e = tt
unput (Err error) old new e = ap (λ (b : LedgerState). b.entries) e
