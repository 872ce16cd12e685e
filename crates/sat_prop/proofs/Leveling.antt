-- Levels by place, and where each begins.
use Rattle.std.proofs.Common.{◌≡◌, ◌∙◌, ℕ, zero, suc, ◌+◌, ◌-◌, ◌<◌, ◌≤◌, true, false, ◌++◌, ◌∷◌, [], List, refl, ap, sym, length, take, drop, get_or, arith, subst, ⊎_elim, Option, Some, None, cond}
use Rattle.std.specs.Prelude.{count_by, is_none}
use Rattle.std.proofs.lemmas.Grind.{common_steps}
use Rattle.std.proofs.lemmas.Bool.{cases_lt}
use Rattle.std.proofs.lemmas.List.Sums.{sum_by-take-drop, count_by_more_yes, count_by-le-length}
use Rattle.prop_core.specs.declared.lit.Lit.{Lit}
use Rattle.prop_core.specs.Clauses.{is_open}
use Rattle.sat_prop.specs.TrailState.{TrailState, reason_at}
use Rattle.sat_prop.specs.Levels.{level_of, level_at, IsUpToLevel, IsLastDecision}
use Rattle.sat_prop.specs.Kept.{AreLevels, AreStarts, IsTrailState}
use Rattle.sat_prop.proofs.Fronts.{split_last}
use Rattle.sat_prop.proofs.Justifying.{room_for}

-- the level of a front is no greater
pub level_front : (reasons : List (Option ℕ)) (i k : ℕ) → i ≤ k → level_of (take i reasons) ≤ level_of (take k reasons)
level_front reasons i k h =
    let e : take i (take k reasons) ≡ take i reasons = grind (arith, common_steps) in
    let s = sum_by-take-drop (λ w. cond (is_none w) 1 0) (take k reasons) i in
    let f : level_of (take i (take k reasons)) ≡ level_of (take i reasons) = ap level_of e in
    omega arith

-- a decision begins a level
pub level_step : (reasons : List (Option ℕ)) (place : ℕ) → place < length reasons → reason_at reasons place ≡ None → level_at reasons place ≡ level_of (take place reasons) + 1
level_step reasons place h e = count_by_more_yes is_none reasons place None h (rw e refl)

-- one more place
pub levels_more : (reasons : List (Option ℕ)) (levels : List ℕ) (reason : Option ℕ) (level : ℕ) → AreLevels reasons levels → level ≡ level_of (reasons ++ reason ∷ []) → AreLevels (reasons ++ reason ∷ []) (levels ++ level ∷ [])
levels_more reasons levels reason level a e = let s = a.same in record {
  same = grind (arith, common_steps);
  each = λ k h.
      let b : k < length reasons + 1 = grind (arith, common_steps) in
      ⊎_elim
      (λ m. let g : get_or (levels ++ level ∷ []) k 0 ≡ get_or levels k 0 = grind (arith, common_steps) in
      let t : take (k + 1) (reasons ++ reason ∷ []) ≡ take (k + 1) reasons = grind (arith, common_steps) in
      g ∙ a.each k m ∙ ap level_of (sym t))
      (λ m. let g : get_or (levels ++ level ∷ []) (length reasons) 0 ≡ level = grind (arith, common_steps) in
      let t : take (length reasons + 1) (reasons ++ reason ∷ []) ≡ reasons ++ reason ∷ [] = grind (arith, common_steps) in
      subst (λ (n : ℕ). get_or (levels ++ level ∷ []) n 0 ≡ level_at (reasons ++ reason ∷ []) n) (sym m) (g ∙ e ∙ ap level_of (sym t)))
      (split_last k (length reasons) b);
}

-- or fewer
pub levels_take : (reasons : List (Option ℕ)) (levels : List ℕ) (n : ℕ) → AreLevels reasons levels → AreLevels (take n reasons) (take n levels)
levels_take reasons levels n a = let s = a.same in record {
  same = grind (arith, common_steps);
  each = λ k h.
      let m : k < n = grind (arith, common_steps) in
      let b : k < length reasons = grind (arith, common_steps) in
      let g : get_or (take n levels) k 0 ≡ get_or levels k 0 = grind (arith, common_steps) in
      let t : take (k + 1) (take n reasons) ≡ take (k + 1) reasons = grind (arith, common_steps) in
      g ∙ a.each k b ∙ ap level_of (sym t);
}

cut_more : (reasons : List (Option ℕ)) (reason : Option ℕ) (level n : ℕ) → IsUpToLevel reasons level n → n < length reasons → IsUpToLevel (reasons ++ reason ∷ []) level n
cut_more reasons reason level n c h =
    let t : take n (reasons ++ reason ∷ []) ≡ take n reasons = grind (arith, common_steps) in
    let g : get_or (reasons ++ reason ∷ []) n None ≡ get_or reasons n None = grind (arith, common_steps) in
    record { within = grind (arith, common_steps); decided = ap level_of t ∙ c.decided; next = λ k. g ∙ c.next h }

-- a forced literal begins no level
pub starts_forced : (reasons : List (Option ℕ)) (starts : List ℕ) (number : ℕ) → AreStarts reasons starts → AreStarts (reasons ++ Some number ∷ []) starts
starts_forced reasons starts number a = record {
  count = let c = a.count in let n : count_by is_none (reasons ++ Some number ∷ []) ≡ count_by is_none reasons = grind (arith, common_steps) in c ∙ sym n;
  each = λ level h. cut_more reasons (Some number) level (get_or starts level 0) (a.each level h) (a.within level h);
  within = λ level h. let b = a.within level h in grind (arith, common_steps);
}

abbrev no_reason : Option ℕ
no_reason = None

-- a decision does
pub level_decided : (reasons : List (Option ℕ)) → level_of (reasons ++ None ∷ []) ≡ level_of reasons + 1
level_decided reasons = grind (arith, common_steps)

pub level_forced : (reasons : List (Option ℕ)) (number : ℕ) → level_of (reasons ++ Some number ∷ []) ≡ level_of reasons
level_forced reasons number = grind (arith, common_steps)

pub starts_decided : (reasons : List (Option ℕ)) (starts : List ℕ) → AreStarts reasons starts → AreStarts (reasons ++ None ∷ []) (starts ++ length reasons ∷ [])
starts_decided reasons starts a = record {
  count = let c = a.count in let n = level_decided reasons in grind (arith, common_steps);
  each = λ level h.
      let b : level < length starts + 1 = grind (arith, common_steps) in
      ⊎_elim
      (λ m. let g : get_or (starts ++ length reasons ∷ []) level 0 ≡ get_or starts level 0 = grind (arith, common_steps) in
      subst (λ (n : ℕ). IsUpToLevel (reasons ++ None ∷ []) level n) (sym g) (cut_more reasons None level (get_or starts level 0) (a.each level m) (a.within level m)))
      (λ m. let g : get_or (starts ++ length reasons ∷ []) level 0 ≡ length reasons = rw m (grind (arith, common_steps)) in
      let t : take (length reasons) (reasons ++ None ∷ []) ≡ reasons = grind (arith, common_steps) in
      let e : get_or (reasons ++ None ∷ []) (length reasons) None ≡ None = grind (arith, common_steps) in
      subst (λ (n : ℕ). IsUpToLevel (reasons ++ None ∷ []) level n) (sym g) (record { within = grind (arith, common_steps); decided = ap level_of t ∙ sym a.count ∙ sym m; next = λ k. e }))
      (split_last level (length starts) b);
  within = λ level h.
      let b : level < length starts + 1 = grind (arith, common_steps) in
      ⊎_elim
      (λ m. let w = a.within level m in let g : get_or (starts ++ length reasons ∷ []) level 0 ≡ get_or starts level 0 = grind (arith, common_steps) in grind (arith, common_steps))
      (λ m. let g : get_or (starts ++ length reasons ∷ []) level 0 ≡ length reasons = rw m (grind (arith, common_steps)) in grind (arith, common_steps))
      (split_last level (length starts) b);
}

-- the places up to a level
pub starts_take : (reasons : List (Option ℕ)) (starts : List ℕ) (level kept : ℕ) → AreStarts reasons starts → IsUpToLevel reasons level kept → level ≤ level_of reasons → AreStarts (take kept reasons) (take level starts)
starts_take reasons starts level kept a cut h = let n = a.count in record {
  count = let d = cut.decided in grind (arith, common_steps);
  each = λ j b.
      let m : j < level = grind (arith, common_steps) in
      let i : j < length starts = grind (arith, common_steps) in
      let g : get_or (take level starts) j 0 ≡ get_or starts j 0 = grind (arith, common_steps) in
      let c = a.each j i in
      let k = before j i m in
      let t : take (get_or starts j 0) (take kept reasons) ≡ take (get_or starts j 0) reasons = grind (arith, common_steps) in
      let w = cut.within in
      let e : get_or (take kept reasons) (get_or starts j 0) None ≡ get_or reasons (get_or starts j 0) None = grind (arith, common_steps) in
      subst (λ (n : ℕ). IsUpToLevel (take kept reasons) j n) (sym g) (record { within = grind (arith, common_steps); decided = ap level_of t ∙ c.decided; next = λ q. e ∙ c.next (a.within j i) });
  within = λ j b.
      let m : j < level = grind (arith, common_steps) in
      let i : j < length starts = grind (arith, common_steps) in
      let g : get_or (take level starts) j 0 ≡ get_or starts j 0 = grind (arith, common_steps) in
      let k = before j i m in
      let w = cut.within in
      grind (arith, common_steps);
}
  where
    before : (j : ℕ) → j < length starts → j < level → get_or starts j 0 < kept
    before j i m = ⊎_elim (λ b. b)
        (λ b. let f = level_front reasons kept (get_or starts j 0) b in let c = (a.each j i).decided in let d = cut.decided in absurd (omega arith))
        (cases_lt (get_or starts j 0) kept)

-- where nothing is counted, no place passes
counts_none : (reasons : List (Option ℕ)) (i : ℕ) → level_of reasons ≡ 0 → i < length reasons → is_none (reason_at reasons i) ≡ false
counts_none [] i e h = absurd (let q : i < 0 = h in omega arith)
counts_none (None ∷ reasons) i e h = let q : level_of (no_reason ∷ reasons) ≡ level_of reasons + 1 = grind (arith, common_steps) in absurd (omega arith)
counts_none (Some number ∷ reasons) zero e h = refl
counts_none (Some number ∷ reasons) (suc i) e h = counts_none reasons i e (omega arith)

-- the last start is that of the last decision
pub last_start : (reasons : List (Option ℕ)) (starts : List ℕ) → AreStarts reasons starts → 0 < level_of reasons → IsLastDecision reasons (get_or starts (length starts - 1) 0)
last_start reasons starts a some =
    let n = a.count in
    let i : length starts - 1 < length starts = omega arith in
    let c = a.each (length starts - 1) i in
    let w = a.within (length starts - 1) i in
    let place = get_or starts (length starts - 1) 0 in
    record {
      within = w;
      decided = c.next w;
      last = λ later h b.
          let s = level_step reasons place w (c.next w) in
          let d = c.decided in
          let total = sum_by-take-drop (λ w. cond (is_none w) 1 0) reasons (place + 1) in
          let z : level_of (drop (place + 1) reasons) ≡ 0 = omega arith in
          let m : later - (place + 1) < length (drop (place + 1) reasons) = grind (arith, common_steps) in
          let g : get_or (drop (place + 1) reasons) (later - (place + 1)) None ≡ get_or reasons later None = grind (arith, common_steps) in
          ap is_none (sym g) ∙ counts_none (drop (place + 1) reasons) (later - (place + 1)) z m;
    }

pub level_le : (reasons : List (Option ℕ)) → level_of reasons ≤ length reasons
level_le reasons = count_by-le-length is_none reasons

-- how much stands on a trail where one more literal will be decided, or forced
pub record HasRoom (vars literals reasons starts : ℕ) : Type 0 where
  pub for_literals : literals < vars
  pub for_reasons : reasons < vars
  pub for_starts : starts < vars

pub room_left : (t : TrailState) (starts : List ℕ) (l : Lit) → IsTrailState t → AreStarts t.reasons starts → is_open t.literals l ≡ true → l.var < t.vars → HasRoom t.vars (length t.literals) (length t.reasons) (length starts)
room_left t starts l s a o v =
    let n = room_for t.clauses t.attached t.literals t.reasons t.vars l s.justified o v in
    let same = s.justified.same in
    let c = a.count in
    let m = level_le t.reasons in
    record { for_literals = n; for_reasons = omega arith; for_starts = omega arith }
