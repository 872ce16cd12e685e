use Rattle.std.proofs.Common.{◌≡◌, ◌∙◌, ◌+◌, ap, subst, drop, arith}
use Rattle.std.specs.Prelude.{slice_get}
use Rattle.std.specs.List.{position_or_len}
use Rattle.std.proofs.lemmas.Grind.{common_steps}
use Rattle.std.proofs.lemmas.Option.{gets}
use Rattle.sat_solve.specs.Advice.{Tries, can_be_decided, first_open_try}
use Rattle.sat_solve.proofs.Trying.{first_stands}
use Rattle.sat_solve.proofs.first_tries.FirstTries.next_open.Goals as goal

pub returns-clause-found : goal.returns-clause-found
returns-clause-found c =
    let literals = c.self.inside.lits.items in
    let next = c.self.inside.next in
    let test = can_be_decided c.args.trail.now.literals c.args.vars in
    let place : c.first_open-self-inside.result ≡ next + position_or_len test (drop next literals) = grind (arith, common_steps) in
    let read : c.copied.result ≡ slice_get literals c.first_open-self-inside.result = grind (arith, common_steps, gets) in
    subst (λ (t : Tries). c.copied.result ≡ first_open_try t c.args.trail.now.literals c.args.vars) c.self.view_is (read ∙ ap (slice_get literals) place ∙ first_stands test literals next)
