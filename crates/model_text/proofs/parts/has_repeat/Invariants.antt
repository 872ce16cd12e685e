-- Two parts name one component where one that is left names a component that was seen, or two that are left name one.
use Rattle.std.proofs.Common.{◌≡◌, ℕ, List, drop, Bor}
use Rattle.std.specs.Prelude.{bytes_eq, ◌||◌}
use Rattle.std.specs.List.{list_any}
use Rattle.std.specs.HashSet.{contains}
use Rattle.model_text.specs.ModelFaults.{has_repeated}
use Rattle.model_text.proofs.RepeatLemmas.{names_of}
use Rattle.model_text.proofs.parts.has_repeat.Given as goal

abbrev pub invariant-loop-part : goal.invariant-loop-part
invariant-loop-part l =
    (list_any (λ part. contains (λ (a b : Bor (List ℕ)). bytes_eq a.now b.now) l.seen part.component) (drop l.part-index l.parts) || has_repeated (names_of (drop l.part-index l.parts))) ≡ has_repeated (names_of l.parts)
