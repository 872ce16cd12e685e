-- An alarm without a place isn't in the order.
use Rattle.std.proofs.Common.{◌≡◌, ◌∙◌, ap, sym, subst, None, get_or, ◌<◌, length, List, ℕ, Option}
use Rattle.log_order.specs.Log.{place_in}
use Rattle.replay.specs.Placed.{Placed, place_of_alarm}
use Rattle.replay.proofs.PlacingLemmas.{place-none, not_in}
use Rattle.replay.proofs.placing.Placing.place.Goals as goal

pub returns-in-None : goal.returns-in-None
returns-in-None c =
    let places : List (Option ℕ) = c.self.inside.places.items in
    let order : List ℕ = c.self.inside.order.items in
    let below : c.args.alarm < length places = subst (λ n. c.args.alarm < n) (sym (ap (λ (p : Placed). p.alarms) c.self.view_is)) c.requires in
    let kept : get_or places c.args.alarm None ≡ place_of_alarm order c.args.alarm = c.self.invariant.each c.args.alarm below in
    let none : None ≡ place_of_alarm order c.args.alarm = sym c.in-None.is ∙ c.index.ensures ∙ ap (get_or places c.args.alarm) c.in-None.is ∙ kept in
    c.len.ensures ∙ c.self.inside.order.ok.0 ∙ sym (place-none order c.args.alarm (not_in order c.args.alarm none)) ∙ ap (λ (p : Placed). place_in p.order c.args.alarm) c.self.view_is
