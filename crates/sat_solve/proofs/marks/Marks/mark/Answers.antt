use Rattle.std.proofs.Common.{◌≡◌, ◌∙◌, ◌<◌, List, Bool, true, length, get_or, ap, sym, subst, arith}
use Rattle.std.specs.Prelude.{slice_set}
use Rattle.std.proofs.lemmas.Grind.{common_steps}
use Rattle.sat_solve.proofs.Rounds.{marked_set, marked_same}
use Rattle.sat_solve.proofs.marks.Marks.mark.Goals as goal

pub returns-then-index-self-clause-marked : goal.returns-then-index-self-clause-marked
returns-then-index-self-clause-marked c =
    let k : c.args.place < length c.self.inside.rounds.items = let t = c.if-place-len.false in let e = c.len.ensures in grind (arith, common_steps) in
    let r : get_or c.self.inside.rounds.items c.args.place 0 ≡ c.self.inside.round = let a = c.index.ensures in let b = c.if-index-self.true in grind (arith, common_steps) in
    subst (λ (bs : List Bool). bs ≡ slice_set bs c.args.place true) c.self.view_is (sym (marked_same c.self.inside.round c.self.inside.rounds.items c.args.place k r))

pub returns-clause-marked : goal.returns-clause-marked
returns-clause-marked c = marked_set c.self.inside.round c.self.inside.rounds.items c.args.place ∙ ap (λ (bs : List Bool). slice_set bs c.args.place true) c.self.view_is
