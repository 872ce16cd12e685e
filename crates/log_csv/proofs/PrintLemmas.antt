-- The lines of a log's text, as they are appended.
use Rattle.std.proofs.Common.{◌≡◌, ◌+◌, ◌-◌, ◌≤◌, ℕ, zero, suc, Bool, List, [], ◌∷◌, ◌++◌, length, get_or, drop, take, Option, Some, refl, arith, ap, sym, ◌∙◌, append_assoc, add-one}
use Rattle.std.specs.Prelude.{codes, option_map, slice_get}
use Rattle.std.specs.List.{flat_map, join_with_byte}
use Rattle.std.proofs.lemmas.List.{append-nil, flat_map_more}
use Rattle.log_order.specs.Log.{Alarm}
use Rattle.log_csv.specs.PrintedLog.{alarm_line, alarm_with, alarm_word, line_of_ids}

-- a label behind another
abbrev pub behind_bar : List ℕ → List ℕ
behind_bar label = 124 ∷ label

pub line-pair : (v a b c d e first second : List ℕ) → a ≡ v ++ codes "before," → b ≡ a ++ first → c ≡ b ++ codes "," → d ≡ c ++ second → e ≡ d ++ codes "\n" → e ≡ v ++ line_of_ids first second
unfolding line_of_ids
line-pair v a b c d e first second h i j k l = rw (l, k, j, i, h) (simp append_assoc)

pub line-alarm : (maybe : Bool) (v word a b c d e f id : List ℕ) (labels : List (List ℕ)) → word ≡ alarm_word maybe → a ≡ v ++ word → b ≡ a ++ codes "," → c ≡ b ++ id → d ≡ c ++ codes "," → e ≡ d ++ join_with_byte 124 labels → f ≡ e ++ codes "\n" → f ≡ v ++ alarm_line (alarm_with maybe id labels)
unfolding alarm_line
line-alarm maybe v word a b c d e f id labels w g h i j k l = rw (l, k, j, i, h, g, w) (simp append_assoc)

join-first : (first : List ℕ) (others : List (List ℕ)) → join_with_byte 124 (first ∷ others) ≡ first ++ flat_map behind_bar others
join-first first [] = sym (append-nil first)
join-first first (other ∷ others) = ap (λ rest. first ++ 124 ∷ rest) (join-first other others)

take_all : (ls : List (List ℕ)) (n : ℕ) → length ls ≤ n → take n ls ≡ ls
take_all [] zero h = refl
take_all [] (suc n) h = refl
take_all (l ∷ ls) zero h = absurd (omega arith)
take_all (l ∷ ls) (suc n) h = ap (λ t. l ∷ t) (take_all ls n (omega arith))

-- the labels, where each but the first stands behind a bar
pub all-others : (labels : List (List ℕ)) → 1 ≤ length labels → take (length labels - 1) (drop 1 labels) ≡ drop 1 labels
all-others [] h = absurd (omega arith)
all-others (x ∷ xs) h = ap (λ n. take n xs) (one_less (length xs)) ∙ take_all xs (length xs) (omega arith)
  where
    one_less : (n : ℕ) → suc n - 1 ≡ n
    one_less n = omega arith

pub labels-all : (v a b : List ℕ) (labels others : List (List ℕ)) (first : List ℕ) (n : ℕ) → a ≡ v ++ first → b ≡ a ++ flat_map behind_bar (take n others) → length others ≤ n
    → 1 ≤ length labels → first ≡ get_or labels 0 first → others ≡ drop 1 labels → b ≡ v ++ join_with_byte 124 labels
labels-all v a b [] others first n h i past some is rest = absurd (omega arith)
labels-all v a b (x ∷ xs) others first n h i past some is rest =
    i ∙ ap (λ t. t ++ flat_map behind_bar (take n others)) h
    ∙ append_assoc v first (flat_map behind_bar (take n others))
    ∙ ap (λ t. v ++ (first ++ flat_map behind_bar t)) (take_all others n past)
    ∙ ap (λ t. v ++ (t ++ flat_map behind_bar others)) is
    ∙ ap (λ t. v ++ (x ++ flat_map behind_bar t)) rest
    ∙ ap (λ t. v ++ t) (sym (join-first x xs))

-- one more alarm
one_alarm : (a : Alarm) (maybe : Bool) (id : List ℕ) (labels : List (List ℕ)) → ◌≡◌ {A = Option Bool} (Some a.doubtful) (Some maybe) → ◌≡◌ {A = Option (List ℕ)} (Some a.name) (Some id) → ◌≡◌ {A = Option (List (List ℕ))} (Some a.labels) (Some labels) → a ≡ alarm_with maybe id labels
one_alarm a maybe id labels m h k =
    let d : a.doubtful ≡ maybe = cc in let n : a.name ≡ id = cc in let l : a.labels ≡ labels = cc in
    ap (λ b. alarm_with b a.name a.labels) d ∙ ap (λ x. alarm_with maybe x a.labels) n ∙ ap (alarm_with maybe id) l

alarm-taken : (alarms : List Alarm) (i : ℕ) (maybe : Bool) (id : List ℕ) (labels : List (List ℕ)) → option_map (λ a. a.doubtful) (slice_get alarms i) ≡ Some maybe → option_map (λ a. a.name) (slice_get alarms i) ≡ Some id
    → option_map (λ a. a.labels) (slice_get alarms i) ≡ Some labels → take (suc i) alarms ≡ take i alarms ++ alarm_with maybe id labels ∷ []
alarm-taken [] i maybe id labels m h k = cc
alarm-taken (a ∷ as') zero maybe id labels m h k = ap (λ x. x ∷ []) (one_alarm a maybe id labels m h k)
alarm-taken (a ∷ as') (suc i) maybe id labels m h k = ap (λ xs. a ∷ xs) (alarm-taken as' i maybe id labels m h k)

pub alarms-on : (v a b : List ℕ) (alarms : List Alarm) (i : ℕ) (maybe : Bool) (id : List ℕ) (labels : List (List ℕ)) → option_map (λ a. a.doubtful) (slice_get alarms i) ≡ Some maybe → option_map (λ a. a.name) (slice_get alarms i) ≡ Some id
    → option_map (λ a. a.labels) (slice_get alarms i) ≡ Some labels → a ≡ v ++ flat_map alarm_line (take i alarms) → b ≡ a ++ alarm_line (alarm_with maybe id labels) → b ≡ v ++ flat_map alarm_line (take (i + 1) alarms)
alarms-on v a b alarms i maybe id labels m h k p q =
    q ∙ ap (λ t. t ++ alarm_line (alarm_with maybe id labels)) p
    ∙ flat_map_more alarm_line v (take i alarms) (alarm_with maybe id labels)
    ∙ ap (λ xs. v ++ flat_map alarm_line xs) (sym (alarm-taken alarms i maybe id labels m h k) ∙ ap (λ n. take n alarms) (sym (add-one i)))
