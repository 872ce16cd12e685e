use Rattle.sat_solve.proofs.Clashing.{clash_from}
use Rattle.sat_solve.proofs.Putting.{put_for_spent}
use Rattle.sat_solve.proofs.search.Search.at_conflict.Goals as goal

pub returns-in-Some-clause-ended : goal.returns-in-Some-clause-ended
returns-in-Some-clause-ended g c =
    let s = c.args.self.now in
    let w = c.requires.under_way in
    record {
      sound = w.over.sound;
      put = put_for_spent c.args.book.now.entries;
      found = record {
        nothing = let z = c.if-budget-eq0.true in z;
        clashes = clash_from c.args.assumptions.now s.vars s.propagator c.args.book.now.entries c.args.conflict c.in-Some.field-0 c.is_sound.ensures.state w.over.sound.serving.joined w.under w.over.clauses c.requires.conflict (rw c.trail.ensures at c.in-Some.ensures.some);
      };
      unfinished = w.over.clauses;
    }

pub returns-in_ok-last-in-None-clause-ended : goal.returns-in_ok-last-in-None-clause-ended
returns-in_ok-last-in-None-clause-ended g c = c.in_ok-last-in-None.ensures.ended c.args.budget.now
