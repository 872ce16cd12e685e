-- The size of a question whose log gets a further alarm or pair.
use Rattle.std.proofs.Common.{◌≡◌, ◌∙◌, ℕ, ◌+◌, ◌*◌, ◌^◌, Bool, cond, List, [], ◌∷◌, ◌++◌, length, count_by, sum_by, ap, arith, length-append}
use Rattle.alarm_session.specs.Labelled.{labelled_count}
use Rattle.des_base.specs.Lists.{numbers_below}
use Rattle.des_net.specs.Network.{Net}
use Rattle.des_net.specs.QuestionSize.{component_sizes, counter_size}
use Rattle.question_clauses.proofs.Drafts.{doubtful_more, longer, same_count, sum_more}
use Rattle.question_clauses.specs.Additions.{alarm_added, pair_added, with_addition}
use Rattle.log_encode.proofs.TakenLemmas.{suits_new}
use Rattle.log_order.specs.Log.{Log, Alarm, an_alarm}
use Rattle.replay.specs.QuestionSize.{alarm_sizes, doubtful_count, matching_count, question_size}
use Rattle.des_base.proofs.Powers.{square}

-- ---- an alarm

matching_new : (net : Net) (log : Log) (new : Alarm) → matching_count net (with_addition log (alarm_added new)) (length log.alarms) ≡ labelled_count net new.labels
matching_new net log new = ap (λ (p : ℕ → Bool). count_by p (numbers_below (length net.events))) (λ j. λ e. suits_new net log new e j)

sizes_more : (net : Net) (log : Log) (new : Alarm) → alarm_sizes net (with_addition log (alarm_added new)) ≡ alarm_sizes net log + (labelled_count net new.labels ^ 2 + 1)
sizes_more net log new =
    ap (λ k. sum_by (λ i. matching_count net (with_addition log (alarm_added new)) i ^ 2 + 1) (numbers_below k)) (longer net log 0 new)
    ∙ sum_more (λ i. matching_count net (with_addition log (alarm_added new)) i ^ 2 + 1) (λ i. matching_count net log i ^ 2 + 1) (length log.alarms) (λ i h. ap (λ k. k ^ 2 + 1) (same_count net log 0 new i h))
    ∙ ap (λ k. alarm_sizes net log + (k ^ 2 + 1)) (matching_new net log new)

pub size_with_alarm : (net : Net) (log : Log) (n : ℕ) (name : List ℕ) (labels : List (List ℕ)) (doubtful : Bool) →
    question_size net (with_addition log (alarm_added (an_alarm name labels doubtful))) n ≡ question_size net log n + n * (labelled_count net labels * labelled_count net labels + 1) + 256 * cond doubtful 1 0
size_with_alarm net log n name labels doubtful =
    ap (λ k. n * (component_sizes net + k + length log.pairs) + (counter_size net n + 256 * doubtful_count (with_addition log (alarm_added (an_alarm name labels doubtful)))))
    (sizes_more net log (an_alarm name labels doubtful) ∙ ap (λ k. alarm_sizes net log + (k + 1)) (square (labelled_count net labels)))
    ∙ ap (λ k. n * (component_sizes net + (alarm_sizes net log + (labelled_count net labels * labelled_count net labels + 1)) + length log.pairs) + (counter_size net n + 256 * k)) (doubtful_more net log 0 (an_alarm name labels doubtful))
    ∙ spread_out n (component_sizes net) (alarm_sizes net log) (length log.pairs) (counter_size net n) (labelled_count net labels * labelled_count net labels) (doubtful_count log) (cond doubtful 1 0)
  where
    spread_out : (k a b c f m d o : ℕ) → k * (a + (b + (m + 1)) + c) + (f + 256 * (d + o)) ≡ k * (a + b + c) + (f + 256 * d) + k * (m + 1) + 256 * o
    spread_out k a b c f m d o = grind arith

-- ---- a pair

pub size_with_pair : (net : Net) (log : Log) (n i j : ℕ) → question_size net (with_addition log (pair_added i j)) n ≡ question_size net log n + n
size_with_pair net log n i j =
    let more : length (log.pairs ++ (i, j) ∷ []) ≡ length log.pairs + 1 = omega (arith, length-append log.pairs ((i, j) ∷ [])) in
    ap (λ k. n * (component_sizes net + alarm_sizes net log + k) + (counter_size net n + 256 * doubtful_count log)) more ∙ spread_out n (component_sizes net) (alarm_sizes net log) (length log.pairs) (counter_size net n + 256 * doubtful_count log)
  where
    spread_out : (k a b c f : ℕ) → k * (a + b + (c + 1)) + f ≡ k * (a + b + c) + f + k
    spread_out k a b c f = grind arith
