-- The new alarm has the next place, and the others keep theirs.
use Rattle.std.proofs.Common.{◌≡◌, ◌++◌, ◌∷◌, [], ◌∙◌, ap, sym, subst, None, Some, false, get_or, ◌<◌, length, length-set, List, ℕ, Option}
use Rattle.std.specs.Prelude.{slice_set}
use Rattle.log_order.specs.Precedence.{is_in}
use Rattle.replay.specs.Placed.{Placed, place_of_alarm}
use Rattle.replay.proofs.PlacingLemmas.{each-push}
use Rattle.replay.proofs.placing.Placing.push.Goals as goal

pub invariant_of-self-2 : goal.invariant_of-self-2
invariant_of-self-2 c =
    let places : List (Option ℕ) = c.self.inside.places.items in
    let order : List ℕ = c.self.inside.order.items in
    let y : ℕ = c.args.alarm in
    let below : y < length places = subst (λ n. y < n) (sym (ap (λ (p : Placed). p.alarms) c.self.view_is)) c.requires.known in
    let fresh : is_in order y ≡ false = ap (λ (p : Placed). is_in p.order y) c.self.view_is ∙ c.requires.fresh in
    let count : length order ≡ c.len-place.result = sym (c.len-place.ensures ∙ c.self.inside.order.ok.0) in
    let long : length (slice_set places y (Some c.len-place.result)) ≡ length places = length-set places y (Some c.len-place.result) in
    let few = c.self.invariant.few in record {
      each = λ alarm l.
          subst (λ (o : List ℕ). get_or (slice_set places y (Some c.len-place.result)) alarm None ≡ place_of_alarm o alarm) (sym c.in_ok-push.ensures.items)
          (subst (λ n. get_or (slice_set places y (Some n)) alarm None ≡ place_of_alarm (order ++ y ∷ []) alarm) count
          (each-push order places y alarm below fresh (c.self.invariant.each alarm (subst (λ n. alarm < n) long l))));
      few = subst (λ n. n < 4294967296) (sym long) few;
    }
