-- A label whose place has no mark is none of them.
use Rattle.std.proofs.Common.{◌∙◌, ap, sym, get_or, bytes_eq, ℕ, Bool, false, List}
use Rattle.std.specs.Prelude.{◌&&◌}
use Rattle.std.specs.List.{list_any}
use Rattle.replay.proofs.LabelMarks.{sifted}
use Rattle.replay.proofs.label_set.LabelSet.has.Goals as goal

pub returns-else-self-mark_place : goal.returns-else-self-mark_place
returns-else-self-mark_place c =
    let marks : List Bool = c.self.inside.marks in
    let label : List ℕ = c.args.label.now in
    let labels : List (List ℕ) = c.self.inside.labels.now in
    c.if-self-mark_place.false
    ∙ sym (sifted marks label labels c.self.invariant ∙ ap (λ b. b && list_any (bytes_eq label) labels) (ap (λ p. get_or marks p false) (sym c.mark_place.ensures.is) ∙ c.if-self-mark_place.false))
    ∙ ap (λ (ls : List (List ℕ)). list_any (bytes_eq label) ls) c.self.view_is
