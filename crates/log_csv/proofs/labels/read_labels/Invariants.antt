-- the labels so far, and those of what is left, are those of the field
use Rattle.std.proofs.Common.{◌≡◌, ◌+◌, ◌++◌, true, length}
use Rattle.std.specs.List.{list_all}
use Rattle.std.specs.Option.{option_map_or}
use Rattle.des_base.specs.Names.{is_name_text}
use Rattle.log_csv.specs.Records.{labels_in}
use Rattle.log_csv.specs.Reading.{pieces_in}
use Rattle.log_csv.proofs.labels.read_labels.Given as goal

abbrev pub invariant-loop-rest : goal.invariant-loop-rest
invariant-loop-rest l = record {
  labels : l.labels ++ pieces_in l.rest ≡ labels_in l.field;
  names : list_all is_name_text l.labels ≡ true;
}

abbrev pub decreases-loop-rest : goal.decreases-loop-rest
decreases-loop-rest l = option_map_or (λ rest. length rest.now + 1) l.rest 0
