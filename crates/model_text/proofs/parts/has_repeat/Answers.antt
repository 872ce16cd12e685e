use Rattle.std.proofs.Common.{◌≡◌, ◌∙◌, ℕ, List, [], get_or, Bool, Bor, sym, ap, false}
use Rattle.std.specs.Prelude.{bytes_eq, ◌||◌}
use Rattle.std.specs.List.{list_any}
use Rattle.std.specs.HashSet.{contains}
use Rattle.des_base.proofs.BoolLemmas.{not_true}
use Rattle.model_text.specs.ModelFaults.{has_repeated}
use Rattle.model_text.specs.declared.part_name.PartName.{PartName}
use Rattle.model_text.proofs.RepeatLemmas.{names_of, marks-none, marks-step}
use Rattle.model_text.proofs.parts.has_repeat.Goals as goal

abbrev alike : Bor (List ℕ) → Bor (List ℕ) → Bool
alike a b = bytes_eq a.now b.now

-- what stands for a part where there is none
abbrev nameless : PartName
nameless = record { component = record { ref_ptr = (0, 0); now = [] }; action = record { ref_ptr = (0, 0); now = [] } }

pub loop-part-init : goal.loop-part-init
loop-part-init c =
    ap (λ b. b || has_repeated (names_of c.args.parts.now))
    (marks-none (λ part. contains alike c.new-seen.result part.component) (λ q. ap (list_any (alike q.component)) c.new-seen.ensures.empty) c.args.parts.now)

pub loop-part-preserved : goal.loop-part-preserved
loop-part-preserved c =
    let part = get_or c.args.parts.now c.loop-part.part-index nameless in
    let fresh : contains alike c.loop-part.seen part.component ≡ false = not_true _ (sym c.in_ok-insert.ensures.added ∙ c.if-not-branch.false) in
    marks-step c.args.parts.now c.loop-part.part-index nameless (λ part. contains alike c.loop-part.seen part.component) (λ part. contains alike c.insert.new.self part.component)
    c.loop-part-test.true fresh (λ q. c.in_ok-insert.ensures.updates.0 q.component)
    ∙ c.loop-part.invariant
