-- Steps have one trace at most, since the start of a run is a run.
use Rattle.std.proofs.Common.{◌≡◌, ◌<◌, ◌≤◌, ◌-◌, ◌⊎◌, inl, inr, ℕ, zero, suc, List, [], ◌∷◌, refl, arith, ap, sym, ◌∙◌, subst, take}
use Rattle.std.proofs.lemmas.List.{take-take}
use Rattle.des_net.specs.Network.{Net}
use Rattle.des_net.specs.Run.{Leads, IsRun}
use Rattle.replay.specs.declared.run.RunStep.{RunStep}
use Rattle.replay.specs.declared.run.RunStep.TheVariants.{Happens, Dropped}
use Rattle.replay.specs.declared.tracing.Traced.TheVariants.{Ran, Stuck}
use Rattle.replay.specs.Traced.{word_of, IsStuckAt, TracesAreUnique}

leads_take : (net : Net) (n : ℕ) (steps : List RunStep) (before after : List ℕ) → Leads net before (word_of steps) after → (mid : List ℕ) × Leads net before (word_of (take n steps)) mid
leads_take net zero steps before after leads = (before, refl)
leads_take net (suc n) [] before after leads = (after, leads)
leads_take net (suc n) (Happens e alarm ∷ steps) before after (next, step, leads) = let rest = leads_take net n steps next after leads in (rest.0, (next, step, rest.1))
leads_take net (suc n) (Dropped alarm ∷ steps) before after leads = leads_take net n steps before after leads

run_take : (net : Net) (n : ℕ) (steps : List RunStep) → IsRun net (word_of steps) → IsRun net (word_of (take n steps))
run_take net n steps (before, after, start, leads) = let front = leads_take net n steps before after leads in (before, front.0, start, front.1)

-- of two places of a first event that can't come, none is the earlier
not_earlier : (net : Net) (steps : List RunStep) (i j : ℕ) → IsStuckAt net steps i → IsStuckAt net steps j → j ≤ i
not_earlier net steps i j a b = by (le_or_lt j i)
  where
    le_or_lt : (m n : ℕ) → (m ≤ n) ⊎ (n < m)
    le_or_lt zero n = inl (omega arith)
    le_or_lt (suc m) zero = inr (omega arith)
    le_or_lt (suc m) (suc n) = elim (le_or_lt m n) [ inl h ↦ inl (omega arith) | inr h ↦ inr (omega arith) ]

    by : (j ≤ i) ⊎ (i < j) → j ≤ i
    by (inl h) = h
    by (inr h) = absurd (a.stuck (subst (λ (run : List RunStep). IsRun net (word_of run)) (take-take i (j - 1) steps (omega arith)) (run_take net i (take (j - 1) steps) b.before)))

pub traces_are_unique : TracesAreUnique
traces_are_unique net steps (Ran m) (Ran n) a b = ap Ran (a.1 ∙ sym b.1)
traces_are_unique net steps (Ran m) (Stuck j) a b = absurd (b.stuck (run_take net j steps a.0))
traces_are_unique net steps (Stuck i) (Ran n) a b = absurd (a.stuck (run_take net i steps b.0))
traces_are_unique net steps (Stuck i) (Stuck j) a b =
    let forth = not_earlier net steps i j a b in
    let back = not_earlier net steps j i b a in
    let same : i ≡ j = omega arith in ap Stuck same
