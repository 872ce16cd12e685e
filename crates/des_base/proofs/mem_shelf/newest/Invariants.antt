use Rattle.std.proofs.Common.{◌≡◌, drop}
use Rattle.des_base.specs.Held.{file_of}
use Rattle.des_base.proofs.mem_shelf.newest.Given as goal

-- what is left to look at has the same newest file of this name
abbrev pub invariant-loop-file : goal.invariant-loop-file
invariant-loop-file l = file_of (drop l.file-index l.files) l.name ≡ file_of l.files l.name
