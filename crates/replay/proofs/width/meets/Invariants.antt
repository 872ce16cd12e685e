-- the part is one of the rest
use Rattle.std.proofs.Common.{◌≡◌, drop, get_or}
use Rattle.std.specs.Prelude.{◌==◌}
use Rattle.std.specs.List.{list_any}
use Rattle.replay.proofs.width.meets.Given as goal

abbrev pub invariant-loop-part : goal.invariant-loop-part
invariant-loop-part l =
    list_any (λ part. get_or l.last part.comp 0 == l.piece) (drop l.part-index l.parts) ≡ list_any (λ part. get_or l.last part.comp 0 == l.piece) l.parts
