use Rattle.std.proofs.Common.{◌∙◌, sym}
use Rattle.csv.specs.Records.{fields_of}
use Rattle.log_csv.proofs.FieldLemmas.{two-none, two-one, two-all}
use Rattle.log_csv.proofs.fields.two_fields.Goals as goal

pub returns-in_default : goal.returns-in_default
returns-in_default c = two-none (fields_of c.args.fields.now) c.in_default.ensures.value

pub returns-in_default-get : goal.returns-in_default-get
returns-in_default-get c = two-one (fields_of c.args.fields.now) c.in_default-get.ensures.value

pub returns : goal.returns
returns c = two-all (fields_of c.args.fields.now) c.in-Some.first.now c.in-Some-get.second.now c.in-Some.ensures.value c.in-Some-get.ensures.value (sym c.are_empty_from.ensures ∙ c.if-not-are_empty_from.false)
