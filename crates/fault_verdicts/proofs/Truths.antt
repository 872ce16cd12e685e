-- The truth of the events of steps, by name and by variable.
use Rattle.std.proofs.Common.{◌≡◌, ◌∙◌, ℕ, zero, suc, ◌+◌, ◌<◌, Bool, true, List, [], ◌∷◌, length, sym, ap, subst, arith, Contains}
use Rattle.std.specs.List.{list_any}
use Rattle.des_net.specs.Network.{Net}
use Rattle.des_net.specs.Width.{joined}
use Rattle.des_base.proofs.Elements.{map_from, map_has, any_has, has_any}
use Rattle.des_base.proofs.BoolLemmas.{beq_true}
use Rattle.std.proofs.lemmas.List.Elements.{Contains-append_left as append_left, Contains-append_right as append_right}
use Rattle.question_clauses.proofs.Pieces.{AreFrom, pieces_are_steps}
use Rattle.prop_core.specs.Clauses.{literal_true}
use Rattle.prop_core.specs.NamedClauses.{Match}
use Rattle.prop_core.specs.VariableNames.{Meaning, happens}
use Rattle.prop_core.specs.declared.grid.Grid.{Grid}
use Rattle.question_clauses.specs.Steps.{AreSteps}
use Rattle.step_encode.specs.FaultInputs.{event_literal, event_literals}
use Rattle.question_clauses.proofs.Lists.{in_numbers, from_numbers}
use Rattle.des_base.specs.Lists.{numbers_below}
use Rattle.fault_verdicts.specs.Telling.{IsEventGrid}

-- ---- in the steps

has_from : (net : Net) (value : Meaning → Bool) (s : ℕ) (pieces : List (List ℕ)) → AreFrom net value s pieces → (e t : ℕ) → e < length net.events → t < length pieces → value (happens e (suc (s + t))) ≡ true → Contains (joined pieces) e
has_from net value s [] are e t known less is = absurd (omega arith)
has_from net value s (piece ∷ pieces) are e zero known less is =
    let same : s + 0 ≡ s = omega arith in
    append_left piece (joined pieces) e ((are.0.exact e).1 (known, subst (λ r. value (happens e (suc r)) ≡ true) same is))
has_from net value s (piece ∷ pieces) are e (suc t) known less is =
    let same : s + suc t ≡ suc s + t = omega arith in
    append_right piece (joined pieces) e (has_from net value (suc s) pieces are.1 e t known (omega arith) (subst (λ r. value (happens e (suc r)) ≡ true) same is))

pub happening : (net : Net) (n : ℕ) (value : Meaning → Bool) (pieces : List (List ℕ)) → AreSteps net n value pieces → (e t : ℕ) → e < length net.events → t < n → value (happens e (suc t)) ≡ true → Contains (joined pieces) e
happening net n value pieces are e t known less is =
    let from = (pieces_are_steps net n value pieces).0 are in
    let same : t ≡ 0 + t = omega arith in
    has_from net value 0 pieces from.1 e t known (subst (λ m. t < m) (sym from.0) less) (subst (λ r. value (happens e (suc r)) ≡ true) same is)

-- ---- by variable

module _ (net : Net) (n : ℕ) (names : List (ℕ × Meaning)) (grid : Grid) (gridded : IsEventGrid names net n grid) (assignment : ℕ → Bool) (value : Meaning → Bool) (match : Match names assignment value) where
  pub happening_is : (e t : ℕ) → e < length net.events → t < n → literal_true assignment (event_literal grid e t) ≡ value (happens e (suc t))
  happening_is e t known less = beq_true (assignment (event_literal grid e t).var) ∙ match (event_literal grid e t).var (happens e (suc t)) (gridded.1 e t known less)

  pub some_true : (e t : ℕ) → e < length net.events → t < n → value (happens e (suc t)) ≡ true → list_any (literal_true assignment) (event_literals grid e) ≡ true
  some_true e t known less is = has_any (literal_true assignment) (event_literals grid e) (event_literal grid e t)
      (map_has (event_literal grid e) (numbers_below grid.steps) t (in_numbers grid.steps t (subst (λ m. t < m) (sym gridded.0) less))) (happening_is e t known less ∙ is)

  pub true_some : (e : ℕ) → e < length net.events → list_any (literal_true assignment) (event_literals grid e) ≡ true → (t : ℕ) × (t < n) × (value (happens e (suc t)) ≡ true)
  true_some e known is =
      let found = any_has (literal_true assignment) (event_literals grid e) is in
      let step = map_from (event_literal grid e) (numbers_below grid.steps) found.0 found.1 in
      let less = subst (λ m. step.0 < m) gridded.0 (from_numbers grid.steps step.0 step.1) in
      (step.0, less, sym (happening_is e step.0 known less) ∙ ap (literal_true assignment) step.2 ∙ found.2)
