-- The id of an alarm, as its code notes it.
use Rattle.std.specs.Prelude.{ℕ, List, [], Option, Some, None}
use Rattle.std.specs.declared.snapshot.Snapshot.{Snapshot}

-- the id, if it is noted; otherwise there is no text of it
abbrev pub noted_id : Option (Snapshot (List ℕ)) → List ℕ
noted_id None = []
noted_id (Some id) = id.value
