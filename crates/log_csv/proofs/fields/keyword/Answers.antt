use Rattle.std.proofs.Common.{◌∙◌, ap, sym, drop, Option}
use Rattle.csv.specs.Records.{fields_of}
use Rattle.log_csv.specs.declared.keyword.RecordKeyword.{RecordKeyword}
use Rattle.log_csv.specs.Records.{record_with}
use Rattle.log_csv.proofs.FieldLemmas.{keyword-none, keyword-some}
use Rattle.log_csv.proofs.fields.keyword.Goals as goal

pub returns-in-Some : goal.returns-in-Some
returns-in-Some c =
    keyword-some (fields_of c.args.fields.now) c.in-Some.text.now c.in-Some.ensures.value
    ∙ ap (λ (k : Option RecordKeyword). record_with k (drop 1 (fields_of c.args.fields.now))) (sym c.record_keyword.ensures)

pub returns-in-None : goal.returns-in-None
returns-in-None c = keyword-none (fields_of c.args.fields.now) c.in-None.ensures.value
