-- A learnt clause is put and joins the trail, which went back.
use Rattle.std.proofs.Common.{◌≡◌, ◌∙◌, ℕ, ◌+◌, ◌≤◌, true, ◌++◌, ◌∷◌, [], List, ap, sym, length, subst, arith}
use Rattle.std.specs.Prelude.{max}
use Rattle.std.specs.List.{list_all}
use Rattle.prop_core.specs.Clauses.{Clause}
use Rattle.proof_ledger.specs.Book.{BookEntry, learnt, clauses_of}
use Rattle.sat_prop.specs.TrailState.{TrailState}
use Rattle.sat_prop.specs.Changes.{IsKeptUpTo}
use Rattle.sat_prop.specs.Kept.{IsTrailState}
use Rattle.sat_learn.specs.Seen.{is_known_var}
use Rattle.sat_learn.specs.Learnt.{IsLearnt}
use Rattle.sat_solve.proofs.Learning.{all_learnt}
use Rattle.sat_solve.proofs.WaitingVariables.{room_given}

-- what holds once the trail went back, and before the clause is attached
pub record IsJoining (spare : ℕ) (roomy back : TrailState) (all : List Clause) (clause : Clause) (number : ℕ) : Type 0 where
  pub whole : all ≡ back.clauses ++ clause ∷ []
  pub numbered : number ≡ length all
  pub room : spare + 1 ≤ back.spare
  pub known : list_all (λ l. is_known_var back.clauses l.var) clause ≡ true
  pub state : IsTrailState roomy

pub joining_from : (spare level : ℕ) (t roomy back : TrailState) (book new : List BookEntry) (before all : List Clause) (read clause : Clause) (hints given : List ℕ) (number : ℕ) → IsTrailState t → t.clauses ≡ clauses_of book → roomy ≡ record t { spare = max t.spare (spare + 1) }
    → IsLearnt roomy before clause hints level → before ≡ clauses_of book → IsKeptUpTo roomy back level → new ≡ book ++ learnt read given ∷ [] → read ≡ clause → all ≡ clauses_of new → number ≡ length (clauses_of new) → IsJoining spare roomy back all clause number
joining_from spare level t roomy back book new before all read clause hints given number s e ok l b k put r a n =
    let same : back.clauses ≡ clauses_of book = k.clauses ∙ ap (λ (x : TrailState). x.clauses) ok ∙ e in
    let room = room_given t roomy (spare + 1) ok in
    let spared = k.spare in
    record {
      whole = all_learnt book new back.clauses all read clause given a put r same;
      numbered = n ∙ ap length (sym a);
      room = omega arith;
      known = subst (λ (cs : List Clause). list_all (λ l. is_known_var cs l.var) clause ≡ true) (b ∙ sym same) l.known;
      state = subst IsTrailState (sym ok) (record { justified = s.justified; known = s.known; quiet = s.quiet });
    }
