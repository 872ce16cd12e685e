-- Networks that behave alike: the same words explain, fit, and have as many faults.
use Rattle.std.proofs.Common.{◌≡◌, ℕ, ◌+◌, ◌≤◌, List, [], ◌∷◌, filter, sym, ap, ◌∙◌, subst, arith, Contains, is_some}
use Rattle.std.specs.Prelude.{Bool, Option, IsSomeAnd, count_by}
use Rattle.std.specs.List.{AllZip}
use Rattle.std.proofs.Math.Path.{fun_ext}
use Rattle.des_base.specs.Lists.{EachPair}
use Rattle.des_base.proofs.Elements.{all_change}
use Rattle.des_net.specs.Network.{Net, label_of, is_fault}
use Rattle.des_net.specs.Width.{AreApart, IsPiece, Fits, need}
use Rattle.des_net.proofs.WidthLemmas.{need_is_least}
use Rattle.log_order.specs.Log.{Log, labels_of}
use Rattle.replay.specs.Explanation.{Entry, Explains, Linearises, faults_of, false_count, real_alarms, IsExplained, NeedsFaults, IsLeast, IsAbsent, IsMany}
use Rattle.refined_answers.specs.Behaviour.{BehaveAlike}
use Rattle.refined_answers.specs.Laws.{BehaviourGivesExplanations, BehaviourGivesPieces}

-- the other way round it is the same
pub turned : (a b : Net) → BehaveAlike a b → BehaveAlike b a
turned a b alike = record {
  event_names = sym alike.event_names;
  events = sym alike.events;
  labels = λ e. sym (alike.labels e);
  faults = λ e. sym (alike.faults e);
  apart = λ e f. let same = alike.apart e f in (same.1, same.0);
  runs = λ word. let same = alike.runs word in (same.1, same.0);
}

pub same_labels : (a b : Net) → BehaveAlike a b → label_of a ≡ label_of b
same_labels a b alike = fun_ext (λ e. sym (alike.labels e))

pub same_marks : (a b : Net) → BehaveAlike a b → is_fault a ≡ is_fault b
same_marks a b alike = fun_ext (λ e. sym (alike.faults e))

-- ---- pieces

pairs_change : {X : Type 0} (R S : X → X → Type 0) (xs : List X) → ((x y : X) → R x y → S x y) → EachPair R xs → EachPair S xs
pairs_change R S [] to pairs = tt
pairs_change R S (x ∷ xs) to pairs = (all_change (R x) (S x) xs (to x) pairs.0, pairs_change R S xs to pairs.1)

pub piece_over : (a b : Net) → BehaveAlike a b → (piece : List ℕ) → IsPiece a piece → IsPiece b piece
piece_over a b alike piece apart = pairs_change (AreApart a) (AreApart b) piece (λ e f. (alike.apart e f).1) apart

fits_over : (a b : Net) → BehaveAlike a b → (word : List ℕ) (n : ℕ) → Fits a word n → Fits b word n
fits_over a b alike word n (pieces, long, cut) =
    (pieces, long, record { whole = cut.whole; apart = all_change (IsPiece a) (IsPiece b) pieces (piece_over a b alike) cut.apart })

pub needs_over : (a b : Net) → BehaveAlike a b → (word : List ℕ) → need b word ≤ need a word
needs_over a b alike word =
    let least : need a word ≤ need a word = omega arith in
    (need_is_least b word (need a word)).0 (fits_over a b alike word (need a word) ((need_is_least a word (need a word)).1 least))

pub behaviour_gives_pieces : BehaviourGivesPieces
behaviour_gives_pieces net other alike =
    let back = turned net other alike in
    record {
      pieces = λ piece. (piece_over other net back piece, piece_over net other alike piece);
      fits = λ word n. (fits_over other net back word n, fits_over net other alike word n);
      needs = λ word. let one = needs_over net other alike word in let two = needs_over other net back word in omega arith;
      fault_counts = λ word. ap (λ marks. count_by marks word) (sym (same_marks net other alike));
    }

-- ---- what explains a log

linear_over : (a b : Net) → BehaveAlike a b → (log : Log) (word : List ℕ) (order : List Entry) → Linearises a log word order → Linearises b log word order
linear_over a b alike log word order linear = record {
  complete = linear.complete;
  doubted = linear.doubted;
  shown = subst (λ (label : ℕ → Option (List ℕ)). AllZip (λ e alarm. IsSomeAnd (label e) (Contains (labels_of log alarm))) (filter (λ e. is_some (label e)) word) (real_alarms order)) (same_labels a b alike) linear.shown;
  kept = linear.kept;
}

pub explains_over : (a b : Net) → BehaveAlike a b → (log : Log) (n : ℕ) (word : List ℕ) (order : List Entry) → Explains a log n word order → Explains b log n word order
explains_over a b alike log n word order explains = record {
  run = (alike.runs word).1 explains.run;
  fits = fits_over a b alike word n explains.fits;
  linear = linear_over a b alike log word order explains.linear;
}

pub same_faults : (a b : Net) → BehaveAlike a b → (word : List ℕ) (order : List Entry) → faults_of a word order ≡ faults_of b word order
same_faults a b alike word order = ap (λ (marks : ℕ → Bool). count_by marks word + false_count order) (same_marks a b alike)

explained_over : (a b : Net) → BehaveAlike a b → (log : Log) (n k : ℕ) → IsExplained a log n k → IsExplained b log n k
explained_over a b alike log n k explained = record {
  word = explained.word;
  order = explained.order;
  explains = explains_over a b alike log n explained.word explained.order explained.explains;
  faults = sym (same_faults a b alike explained.word explained.order) ∙ explained.faults;
}

needed_over : (a b : Net) → BehaveAlike a b → (log : Log) (n k : ℕ) → NeedsFaults a log n k → NeedsFaults b log n k
needed_over a b alike log n k needed word order explains =
    subst (λ faults. k ≤ faults) (same_faults a b alike word order) (needed word order (explains_over b a (turned a b alike) log n word order explains))

pub least_over : (a b : Net) → BehaveAlike a b → (log : Log) (n k : ℕ) → IsLeast a log n k → IsLeast b log n k
least_over a b alike log n k least = record { reached = explained_over a b alike log n k least.reached; least = needed_over a b alike log n k least.least }

absent_over : (a b : Net) → BehaveAlike a b → (log : Log) (n : ℕ) → IsAbsent a log n → IsAbsent b log n
absent_over a b alike log n absent word order explains = absent word order (explains_over b a (turned a b alike) log n word order explains)

many_over : (a b : Net) → BehaveAlike a b → (log : Log) (n : ℕ) → IsMany a log n → IsMany b log n
many_over a b alike log n many = record { faults = many.faults; explained = explained_over a b alike log n many.faults many.explained; above = needed_over a b alike log n _ many.above }

pub behaviour_gives_explanations : BehaviourGivesExplanations
behaviour_gives_explanations net other alike =
    let back = turned net other alike in
    record {
      explains = λ log n word order. (explains_over other net back log n word order, explains_over net other alike log n word order);
      faults = λ word order. sym (same_faults net other alike word order);
      explained = λ log n k. (explained_over other net back log n k, explained_over net other alike log n k);
      needed = λ log n k. (needed_over other net back log n k, needed_over net other alike log n k);
      least = λ log n k. (least_over other net back log n k, least_over net other alike log n k);
      absent = λ log n. (absent_over other net back log n, absent_over net other alike log n);
      many = λ log n. (many_over other net back log n, many_over net other alike log n);
    }
