use Rattle.std.proofs.Common.{◌≡◌, rules, ◌∷◌, [], ◌++◌}
use Rattle.std.proofs.lemmas.Result.{on_ok_weaker}
use Rattle.std.specs.Prelude.{codes}
use Rattle.std.specs.Fmt.{decimal}
use Rattle.proof_text.proofs.PrintLemmas.{pieces_4}
use Rattle.proof_text.proofs.print.push_header.Goals as goal

pub returns-clause-ok : goal.returns-clause-ok
returns-clause-ok c =
    let stated : c.push_number.new.out.items ≡ c.push_bytes.new.out.items ++ (decimal c.args.vars ++ 32 ∷ []) = search rules in
    on_ok_weaker c.push_bytes-2.result
    (pieces_4 c.args.out.now.items _ _ _ _ (codes "p cnf ") (decimal c.args.vars ++ 32 ∷ []) (decimal c.args.clauses) (10 ∷ [])
    c.in_ok-push_bytes.ensures.ok stated c.in_ok-push_decimal.ensures.ok)
    c.push_bytes-2.ensures.ok
