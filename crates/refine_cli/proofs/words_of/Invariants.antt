use Rattle.std.proofs.Common.{◌≡◌, ◌++◌, length, map, string_bytes}
use Rattle.std.specs.Vec.Iter.{into_iter_items, into_iter_len}
use Rattle.refine_cli.proofs.words_of.Given as goal

-- the words so far are copies of those that came
abbrev pub invariant-loop-arg : goal.invariant-loop-arg
invariant-loop-arg l = (l.yielded ++ into_iter_items l.arg-iterator ≡ into_iter_items l.initial.arg-iterator) × (l.words ≡ map string_bytes l.yielded) × (into_iter_len l.arg-iterator ≡ length (into_iter_items l.arg-iterator))
