use Rattle.csv.specs.Records.{fields_of}
use Rattle.log_csv.proofs.NextLemmas.{IsRead-from}
use Rattle.log_csv.proofs.records.next_record.Goals as goal

pub returns-clause-plain : goal.returns-clause-plain
returns-clause-plain c = (IsRead-from c.args.reader.now c.read_byte_record.new.self c.in-Ok.found (fields_of c.read_byte_record.new.row) c.requires (c.in-Ok.ensures.reads c.requires.trim c.requires.ready) (c.in-Ok.ensures.ready c.requires.trim) c.in-Ok.ensures.flexible).plain

pub returns-clause-next : goal.returns-clause-next
returns-clause-next c = (IsRead-from c.args.reader.now c.read_byte_record.new.self c.in-Ok.found (fields_of c.read_byte_record.new.row) c.requires (c.in-Ok.ensures.reads c.requires.trim c.requires.ready) (c.in-Ok.ensures.ready c.requires.trim) c.in-Ok.ensures.flexible).next
