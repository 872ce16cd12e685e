use Rattle.std.proofs.Common.{◌∙◌, Some, ap}
use Rattle.log_csv.specs.declared.row.Row.{Row}
use Rattle.log_csv.proofs.LogLemmas.{row-ask}
use Rattle.log_csv.proofs.log_text.add_row.Goals as goal

pub returns-in-Ask : goal.returns-in-Ask
returns-in-Ask c = λ earlier of logged named is. row-ask earlier of c.args.row (is ∙ ap (λ (said : Row). Some said) c.in-Ask.is)
