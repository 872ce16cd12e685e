use Rattle.std.proofs.Common.{◌∙◌, ◌++◌, length, refl, sym, ap, subst, arith}
use Rattle.question_clauses.specs.Additions.{pair_added}
use Rattle.log_encode.proofs.CallLemmas.{kept_count}
use Rattle.log_encode.proofs.CodeLemmas.{grown_is_coded}
use Rattle.log_encode.proofs.DraftLemmas.{pair_brings}
use Rattle.log_encode.proofs.log_code.LogCode.draft_before.Goals as goal
use Rattle.question_clauses.specs.Drafts.{added_list}
use Rattle.log_encode.specs.CodedLog.{IsCodedLog, read_meanings, code_after}
use Rattle.log_encode.specs.Drafted.{LogCodeState}
use Rattle.prop_core.specs.Listings.{IsListed}
use Rattle.log_encode.specs.Written.{pair_written}
use Rattle.prop_core.specs.ClauseStore.{ClauseStore}

pub returns : goal.returns
returns c =
    let coded : IsCodedLog c.args.self.now.coded = (kept_count c.self.inside c.args.self.now c.self.view_is c.self.invariant).1 in
    let grown = grown_is_coded c.args.self.now.coded (pair_added c.args.first c.args.second) c.args.first_var coded c.requires.made (omega (arith, c.requires.few)) in
    let brings = pair_brings c.args.self.now.coded c.args.first c.args.second c.done.result c.done-2.result c.args.first_var grown c.done.ensures.names c.done-2.ensures.names in
    let written = c.in_ok-write_pair.ensures ∙ ap (λ (s : ClauseStore). s.clauses ++ pair_written c.self.inside.asked c.done.result c.done-2.result c.self.inside.grid.steps) c.new-clauses.ensures
    ∙ ap (λ (s : LogCodeState). pair_written s.coded.asked c.done.result c.done-2.result s.coded.grid.steps) c.self.view_is in record {
      made_by = ap (λ (s : LogCodeState). s.coded) c.of.ensures;
      adds = refl;
      begins = refl;
      width = refl;
      listed = subst (IsListed (read_meanings (code_after c.args.self.now.coded (pair_added c.args.first c.args.second) c.args.first_var)) (added_list c.args.self.now.coded.net c.args.self.now.coded.log c.args.self.now.coded.grid.steps (pair_added c.args.first c.args.second))) (sym written) brings.0;
      small = let few = brings.1 in let long = ap length written in omega (arith, few, long);
    }
