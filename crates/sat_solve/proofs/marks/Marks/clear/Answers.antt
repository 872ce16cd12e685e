use Rattle.std.proofs.Common.{refl, ◌≡◌, ◌∙◌, ℕ, ◌+◌, ◌<◌, ◌≤◌, List, Bool, false, length, map, get_or, replicate, ap, arith}
use Rattle.std.proofs.lemmas.Grind.{common_steps}
use Rattle.std.proofs.lemmas.List.{get_or-replicate}
use Rattle.std.proofs.lemmas.List.Elements.{All-get_or}
use Rattle.sat_solve.proofs.Rounds.{none_marked}
use Rattle.sat_solve.proofs.marks.Marks.clear.Goals as goal
use Rattle.sat_solve.proofs.marks.Marks.clear.Goals.{then-self, else-self}

-- no round so far comes up to the next
pub record AreBefore (rounds new : List ℕ) (later : ℕ) : Type 0 where
  pub long : length new ≡ length rounds
  pub below : (i : ℕ) → i < length new → get_or new i 0 < later

all_before : (rounds new : List ℕ) (later : ℕ) → new ≡ replicate (length rounds) 0 → 0 < later → AreBefore rounds new later
all_before rounds new later e k = rw e (record { long = grind (arith, common_steps); below = λ i h. (let n : i < length rounds = grind (arith, common_steps) in let z = get_or-replicate {A = ℕ} (length rounds) i 0 0 n in rw z k) })

pub returns : goal.returns
returns c =
    let b : AreBefore c.self.inside.rounds.items c.if-self.self-inside.rounds.items (c.if-self.self-inside.round + 1) = elim c.if-self.branch [
      | then-self w ↦ rw w.self-inside-is (all_before c.self.inside.rounds.items w.zero.new.numbers.items 1 w.zero.ensures (omega arith))
      | else-self w ↦ rw w.self-inside-is (record { long = refl; below = λ i h. (let a = All-get_or (λ r. r ≤ c.self.inside.round) c.self.inside.rounds.items i 0 h c.self.invariant.earlier in omega arith) })
    ] in
    none_marked c.self.inside.round (c.if-self.self-inside.round + 1) c.self.inside.rounds.items c.if-self.self-inside.rounds.items b.long b.below ∙ ap (map (λ (b : Bool). false)) c.self.view_is
