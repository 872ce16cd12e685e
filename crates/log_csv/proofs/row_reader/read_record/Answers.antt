use Rattle.std.proofs.Common.{◌∙◌, sym}
use Rattle.csv.specs.Records.{fields_of}
use Rattle.log_csv.proofs.RowLemmas.{record-blank, record-row}
use Rattle.log_csv.proofs.row_reader.read_record.Goals as goal

pub returns-then-are_empty_from : goal.returns-then-are_empty_from
returns-then-are_empty_from c = record-blank (fields_of c.args.fields.now) (sym c.are_empty_from.ensures ∙ c.if-are_empty_from.true)

pub returns : goal.returns
returns c = record-row (fields_of c.args.fields.now) c.in_ok-row.row (sym c.are_empty_from.ensures ∙ c.if-are_empty_from.false) c.in_ok-row.ensures
