use Rattle.std.proofs.Common.{◌∙◌, ◌&&◌, ◌+◌, Bool, ap, sym, drop}
use Rattle.csv.specs.Records.{fields_of}
use Rattle.log_csv.specs.Records.{are_empty}
use Rattle.log_csv.proofs.FieldLemmas.{are_empty-at, are_empty-none}
use Rattle.log_csv.proofs.fields.is_empty_at.Goals as goal

pub returns-in-Some : goal.returns-in-Some
returns-in-Some c =
    are_empty-at (fields_of c.args.fields.now) c.args.place c.in-Some.field.now c.in-Some.ensures.value
    ∙ ap (λ (b : Bool). b && are_empty (drop (c.args.place + 1) (fields_of c.args.fields.now))) (sym c.is_empty.ensures)

pub returns-in-None : goal.returns-in-None
returns-in-None c = are_empty-none (fields_of c.args.fields.now) c.args.place c.in-None.ensures.value
