use Rattle.std.proofs.Common.{drop}
use Rattle.csv.specs.Records.{fields_of}
use Rattle.log_csv.proofs.RowLemmas.{before-read}
use Rattle.log_csv.proofs.row_reader.read_before.Goals as goal

pub returns : goal.returns
returns c = before-read (drop 1 (fields_of c.args.fields.now)) c.in-Some.first.now c.in-Some.second.now c.in_ok-first.first c.in_ok-second.second c.in-Some.ensures c.in_ok-first.ensures c.in_ok-second.ensures
