-- the fields passed are empty
use Rattle.std.proofs.Common.{◌≡◌, drop}
use Rattle.csv.specs.Records.{fields_of}
use Rattle.log_csv.specs.Records.{are_empty}
use Rattle.log_csv.proofs.fields.are_empty_from.Given as goal

abbrev pub invariant-loop-place : goal.invariant-loop-place
invariant-loop-place l = are_empty (drop l.from (fields_of l.fields)) ≡ are_empty (drop l.place (fields_of l.fields))
