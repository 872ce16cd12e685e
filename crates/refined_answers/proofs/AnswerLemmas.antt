-- Networks that behave alike: costs, verdicts and twins are the same.
use Rattle.std.proofs.Common.{◌≡◌, ℕ, ◌+◌, ◌≤◌, List, length, filter, filter_map, sym, ap, ◌∙◌, subst, is_some}
use Rattle.std.specs.Prelude.{Bool, Option, sum_by, count_by, if◌then◌else◌}
use Rattle.std.specs.List.{AllByRecursion, AllZip, list_any}
use Rattle.des_base.proofs.Elements.{all_change}
use Rattle.des_base.specs.Lists.{numbers_below}
use Rattle.des_net.specs.Network.{Net, is_fault}
use Rattle.des_net.specs.Width.{IsPiece, joined}
use Rattle.log_order.specs.Log.{Log}
use Rattle.replay.specs.Explanation.{Entry, false_count}
use Rattle.cost_least.specs.Costs.{total, IsExplainedAt, NeedsCost, IsCheapest, IsDear}
use Rattle.fault_verdicts.specs.Verdicts.{IsBest, IsCertain, IsExcluded, IsPossible}
use Rattle.step_encode.specs.FaultInputs.{fault_events}
use Rattle.twin_test.specs.Twins.{AreAligned, ShowsAfter, AreTwins}
use Rattle.refined_answers.specs.Behaviour.{BehaveAlike}
use Rattle.refined_answers.specs.Laws.{BehaviourGivesTotals, BehaviourGivesVerdicts, BehaviourGivesTwins, BehaviourGivesAnswers, RefinementsAnswerAlike}
use Rattle.refined_answers.proofs.RunLemmas.{refinements_behave_alike}
use Rattle.refined_answers.proofs.TextLemmas.{behaviour_gives_prices, behaviour_gives_replays}
use Rattle.refined_answers.proofs.BehaviourLemmas.{behaviour_gives_explanations, behaviour_gives_pieces, explains_over, least_over, piece_over, same_faults, same_labels, same_marks, turned}

-- ---- costs

same_totals : (a b : Net) → BehaveAlike a b → (cost : ℕ → ℕ) (word : List ℕ) (order : List Entry) → total a cost word order ≡ total b cost word order
same_totals a b alike cost word order = ap (λ (marks : ℕ → Bool). sum_by (λ e. if marks e then cost e else 0) word + false_count order) (same_marks a b alike)

priced_over : (a b : Net) → BehaveAlike a b → (cost : ℕ → ℕ) (log : Log) (n c : ℕ) → IsExplainedAt a cost log n c → IsExplainedAt b cost log n c
priced_over a b alike cost log n c explained = record {
  word = explained.word;
  order = explained.order;
  explains = explains_over a b alike log n explained.word explained.order explained.explains;
  total_is = sym (same_totals a b alike cost explained.word explained.order) ∙ explained.total_is;
}

costs_over : (a b : Net) → BehaveAlike a b → (cost : ℕ → ℕ) (log : Log) (n c : ℕ) → NeedsCost a cost log n c → NeedsCost b cost log n c
costs_over a b alike cost log n c needed word order explains =
    subst (λ all. c ≤ all) (same_totals a b alike cost word order) (needed word order (explains_over b a (turned a b alike) log n word order explains))

cheapest_over : (a b : Net) → BehaveAlike a b → (cost : ℕ → ℕ) (log : Log) (n c : ℕ) → IsCheapest a cost log n c → IsCheapest b cost log n c
cheapest_over a b alike cost log n c cheapest = record { reached = priced_over a b alike cost log n c cheapest.reached; least = costs_over a b alike cost log n c cheapest.least }

dear_over : (a b : Net) → BehaveAlike a b → (cost : ℕ → ℕ) (log : Log) (n : ℕ) → IsDear a cost log n → IsDear b cost log n
dear_over a b alike cost log n dear = record { total = dear.total; explained = priced_over a b alike cost log n dear.total dear.explained; above = costs_over a b alike cost log n _ dear.above }

pub behaviour_gives_totals : BehaviourGivesTotals
behaviour_gives_totals net other alike =
    let back = turned net other alike in
    record {
      totals = λ cost word order. sym (same_totals net other alike cost word order);
      explained = λ cost log n c. (priced_over other net back cost log n c, priced_over net other alike cost log n c);
      needed = λ cost log n c. (costs_over other net back cost log n c, costs_over net other alike cost log n c);
      cheapest = λ cost log n c. (cheapest_over other net back cost log n c, cheapest_over net other alike cost log n c);
      dear = λ cost log n. (dear_over other net back cost log n, dear_over net other alike cost log n);
    }

-- ---- verdicts

best_over : (a b : Net) → BehaveAlike a b → (log : Log) (n k : ℕ) (word : List ℕ) (order : List Entry) → IsBest a log n k word order → IsBest b log n k word order
best_over a b alike log n k word order best = record {
  least = least_over a b alike log n k best.least;
  explains = explains_over a b alike log n word order best.explains;
  faults = sym (same_faults a b alike word order) ∙ best.faults;
}

certain_over : (a b : Net) → BehaveAlike a b → (log : Log) (n e : ℕ) → IsCertain a log n e → IsCertain b log n e
certain_over a b alike log n e certain k word order best = certain k word order (best_over b a (turned a b alike) log n k word order best)

excluded_over : (a b : Net) → BehaveAlike a b → (log : Log) (n e : ℕ) → IsExcluded a log n e → IsExcluded b log n e
excluded_over a b alike log n e excluded k word order best = excluded k word order (best_over b a (turned a b alike) log n k word order best)

possible_over : (a b : Net) → BehaveAlike a b → (log : Log) (n e : ℕ) → IsPossible a log n e → IsPossible b log n e
possible_over a b alike log n e possible =
    let one = possible.somewhere in
    let two = possible.not_everywhere in
    record {
      somewhere = record { k = one.k; word = one.word; order = one.order; best = best_over a b alike log n one.k one.word one.order one.best; has = one.has };
      not_everywhere = record { k = two.k; word = two.word; order = two.order; best = best_over a b alike log n two.k two.word two.order two.best; without = two.without };
    }

same_fault_events : (a b : Net) → BehaveAlike a b → fault_events b ≡ fault_events a
same_fault_events a b alike = ap (λ n. filter (is_fault b) (numbers_below n)) alike.events ∙ ap (λ (marks : ℕ → Bool). filter marks (numbers_below (length a.events))) (sym (same_marks a b alike))

pub behaviour_gives_verdicts : BehaviourGivesVerdicts
behaviour_gives_verdicts net other alike =
    let back = turned net other alike in
    record {
      events = same_fault_events net other alike;
      best = λ log n k word order. (best_over other net back log n k word order, best_over net other alike log n k word order);
      certain = λ log n e. (certain_over other net back log n e, certain_over net other alike log n e);
      excluded = λ log n e. (excluded_over other net back log n e, excluded_over net other alike log n e);
      possible = λ log n e. (possible_over other net back log n e, possible_over net other alike log n e);
    }

-- ---- twins

aligned_over : (a b : Net) → BehaveAlike a b → (n : ℕ) (pieces : List (List ℕ)) → AreAligned a n pieces → AreAligned b n pieces
aligned_over a b alike n pieces aligned = record {
  size = aligned.size;
  apart = all_change (IsPiece a) (IsPiece b) pieces (piece_over a b alike) aligned.apart;
  single = subst (λ (label : ℕ → Option (List ℕ)). AllByRecursion (λ piece. length (filter_map label piece) ≤ 1) pieces) (same_labels a b alike) aligned.single;
  run = (alike.runs (joined pieces)).1 aligned.run;
}

shown_over : (a b : Net) → BehaveAlike a b → (e d : ℕ) (pieces : List (List ℕ)) → ShowsAfter a e d pieces → ShowsAfter b e d pieces
shown_over a b alike e d pieces shows = record {
  before = shows.before;
  piece = shows.piece;
  after = shows.after;
  whole = shows.whole;
  has = shows.has;
  shown = subst (λ (label : ℕ → Option (List ℕ)). d ≤ count_by (λ piece. list_any (λ e. is_some (label e)) piece) shows.after) (same_labels a b alike) shows.shown;
}

twins_over : (a b : Net) → BehaveAlike a b → (e n d : ℕ) (u v : List (List ℕ)) → AreTwins a e n d u v → AreTwins b e n d u v
twins_over a b alike e n d u v twins = record {
  faulty = aligned_over a b alike n u twins.faulty;
  healthy = aligned_over a b alike n v twins.healthy;
  alike = subst (λ (label : ℕ → Option (List ℕ)). AllZip (λ p q. filter_map label p ≡ filter_map label q) u v) (same_labels a b alike) twins.alike;
  without = twins.without;
  after = shown_over a b alike e d u twins.after;
}

pub behaviour_gives_twins : BehaviourGivesTwins
behaviour_gives_twins net other alike =
    let back = turned net other alike in
    record {
      shown = λ piece. ap (λ (label : ℕ → Option (List ℕ)). filter_map label piece) (sym (same_labels net other alike));
      aligned = λ n pieces. (aligned_over other net back n pieces, aligned_over net other alike n pieces);
      shown_after = λ e d pieces. (shown_over other net back e d pieces, shown_over net other alike e d pieces);
      twins = λ e n d u v. (twins_over other net back e n d u v, twins_over net other alike e n d u v);
    }

-- ---- all of it

pub behaviour_gives_answers : BehaviourGivesAnswers
behaviour_gives_answers net other alike = record {
  behaviour = alike;
  pieces = behaviour_gives_pieces net other alike;
  explanations = behaviour_gives_explanations net other alike;
  totals = behaviour_gives_totals net other alike;
  verdicts = behaviour_gives_verdicts net other alike;
  twins = behaviour_gives_twins net other alike;
  replays = behaviour_gives_replays net other alike;
  prices = behaviour_gives_prices net other alike;
}

pub refinements_answer_alike : RefinementsAnswerAlike
refinements_answer_alike net fine network fine_network refines = behaviour_gives_answers net fine (refinements_behave_alike net fine network fine_network refines)
