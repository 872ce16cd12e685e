use Rattle.std.proofs.Common.{◌≡◌, ◌<◌, ◌^◌, ◌++◌, take}
use Rattle.std.specs.Prelude.{All}
use Rattle.proof_text.specs.PrintedText.{numbers_text}
use Rattle.proof_text.proofs.print.push_numbers.Given as goal

-- the numbers so far are printed
abbrev pub invariant-loop-id : goal.invariant-loop-id
invariant-loop-id l = record {
  text : l.out.items ≡ l.fn.out.items ++ numbers_text (take l.id-index l.ids);
  fit : All (λ n. n < 2 ^ 64) (take l.id-index l.ids);
}
