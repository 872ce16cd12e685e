-- What is written of a log reads as its clauses, by the names of its variables.
use Rattle.std.proofs.Common.{◌≡◌, ◌∙◌, ℕ, zero, suc, ◌+◌, ◌<◌, ◌≤◌, Bool, true, false, List, [], ◌∷◌, ◌++◌, length, map, flat_map, Some, refl, sym, ap, subst, arith, slice_get, append-nil}
use Rattle.std.specs.List.{AllZip, range_with_len}
use Rattle.std.proofs.lemmas.List.{length-map}
use Rattle.std.proofs.lemmas.List.FromFn.{length-range_with_len}
use Rattle.card_counter.proofs.Listed.{exclusions_read}
use Rattle.card_counter.specs.AtMostOne.{exclusion_clauses, IsNamedChain}
use Rattle.card_counter.specs.Exclusions.{exclusion_list}
use Rattle.des_base.proofs.Elements.{zip_append}
use Rattle.des_base.specs.ChainCount.{chain_count}
use Rattle.des_base.specs.Lists.{numbers_below}
use Rattle.des_net.specs.Network.{Net}
use Rattle.log_order.specs.Log.{Log, is_doubtful}
use Rattle.question_clauses.specs.Drafts.{alarm_link_clauses, match_clauses, done_clauses, real_clauses}
use Rattle.question_clauses.specs.LogClauses.{LogClause, log_clause, matching_events, one_match, match_is_real, not_done_first, done_if_asked, or_false}
use Rattle.question_clauses.proofs.Numbered.{ordered_names}
use Rattle.card_counter.specs.CounterState.{positive, negative}
use Rattle.log_encode.specs.AlarmVariables.{match_variable, done_variable, chain_variable, dropped_variable}
use Rattle.log_encode.specs.declared.alarm_vars.AlarmVars.{AlarmVars}
use Rattle.log_encode.specs.declared.writing.LinkVars.{LinkVars}
use Rattle.log_encode.specs.Written.{link_written, matches_at, step_written, done_written, dropped_written, real_of_link, reals_written, real_written}
use Rattle.prop_core.specs.declared.lit.Lit.{Lit}
use Rattle.prop_core.specs.Clauses.{Clause}
use Rattle.prop_core.specs.VariableNames.{Meaning, NamedLiteral, meaning_of, yes, no, asked, matches, done, dropped, closed, remaining, of_matches, named_clause}

-- ---- lists side by side

pub zip_flat : {A B : Type 0} (R : A → B → Type 0) (f : ℕ → List A) (g : ℕ → List B) (a k : ℕ) → ((t : ℕ) → t < a + k → AllZip R (f t) (g t)) → AllZip R (flat_map f (range_with_len a k)) (flat_map g (range_with_len a k))
zip_flat R f g a zero each = tt
zip_flat R f g a (suc k) each = zip_append R (f a) (g a) (flat_map f (range_with_len (a + 1) k)) (flat_map g (range_with_len (a + 1) k)) (each a (omega arith)) (zip_flat R f g (a + 1) k (λ t h. each t (omega (arith, h))))

-- numbered things beside the elements of a list
pub zip_numbered : {A B : Type 0} (R : A → B → Type 0) (f : ℕ → A) (g : ℕ → B) (a : ℕ) (xs : List ℕ) → ((p x : ℕ) → slice_get xs p ≡ Some x → R (f (a + p)) (g x)) → AllZip R (map f (range_with_len a (length xs))) (map g xs)
zip_numbered R f g a [] each = tt
zip_numbered R f g a (x ∷ xs) each = (
  subst (λ k. R (f k) (g x)) (omega arith) (each 0 x refl),
  zip_numbered R f g (a + 1) xs (λ p y at. subst (λ k. R (f k) (g y)) (omega arith) (each (suc p) y at)),
)

pub zip_count : {A B : Type 0} (R : A → B → Type 0) (xs : List A) (ys : List B) → AllZip R xs ys → length xs ≡ length ys
zip_count R [] [] h = refl
zip_count R [] (y ∷ ys) h = absurd h
zip_count R (x ∷ xs) [] h = absurd h
zip_count R (x ∷ xs) (y ∷ ys) h = ap suc (zip_count R xs ys h.1)

-- ---- clauses of one to three literals

abbrev pub Reads : Net → Log → ℕ → List (ℕ × Meaning) → Clause → LogClause → Type 0
Reads net log n names clause which = named_clause names clause ≡ Some (log_clause net log n which)

pub reads_two : (names : List (ℕ × Meaning)) (v w : ℕ) (a b : Bool) (x y : Meaning) → meaning_of names v ≡ Some x → meaning_of names w ≡ Some y →
    named_clause names (record { var = v; positive = a } ∷ record { var = w; positive = b } ∷ []) ≡ Some (record { meaning = x; positive = a } ∷ record { meaning = y; positive = b } ∷ [])
reads_two names v w a b x y h k = ordered_names names (record { var = v; positive = a } ∷ record { var = w; positive = b } ∷ []) (record { meaning = x; positive = a } ∷ record { meaning = y; positive = b } ∷ []) ((h, refl), ((k, refl), tt))

pub reads_three : (names : List (ℕ × Meaning)) (u v w : ℕ) (a b c : Bool) (x y z : Meaning) → meaning_of names u ≡ Some x → meaning_of names v ≡ Some y → meaning_of names w ≡ Some z →
    named_clause names (record { var = u; positive = a } ∷ record { var = v; positive = b } ∷ record { var = w; positive = c } ∷ [])
    ≡ Some (record { meaning = x; positive = a } ∷ record { meaning = y; positive = b } ∷ record { meaning = z; positive = c } ∷ [])
reads_three names u v w a b c x y z h k l =
    ordered_names names (record { var = u; positive = a } ∷ record { var = v; positive = b } ∷ record { var = w; positive = c } ∷ [])
    (record { meaning = x; positive = a } ∷ record { meaning = y; positive = b } ∷ record { meaning = z; positive = c } ∷ []) ((h, refl), ((k, refl), ((l, refl), tt)))

-- ---- a link in one step

pub record AreLinkNames (names : List (ℕ × Meaning)) (i e k t : ℕ) (v : LinkVars) : Type 0 where
  pub closing : meaning_of names v.closed ≡ Some (closed e (suc k))
  pub rest : meaning_of names v.rest ≡ Some (remaining e k (suc t))
  pub matching : meaning_of names v.matched ≡ Some (matches i e (suc t))
  pub passing : meaning_of names v.passed ≡ Some (remaining e (suc k) (suc t))
  pub before : meaning_of names v.before ≡ Some (done i t)
  pub after : meaning_of names v.after ≡ Some (done i (suc t))

pub link_reads : (net : Net) (log : Log) (n : ℕ) (names : List (ℕ × Meaning)) (i e k t : ℕ) (v : LinkVars) → AreLinkNames names i e k t v → AllZip (Reads net log n names) (link_written v) (alarm_link_clauses i e k t)
link_reads net log n names i e k t v are = (
  reads_two names v.closed v.passed false false _ _ are.closing are.passing,
  (
    reads_two names v.matched v.rest false true _ _ are.matching are.rest,
    (
      reads_two names v.matched v.passed false false _ _ are.matching are.passing,
      (
        reads_two names v.passed v.rest false true _ _ are.passing are.rest,
        (
          reads_three names v.rest v.matched v.passed false true true _ _ _ are.rest are.matching are.passing,
          (
            reads_two names v.matched v.after false true _ _ are.matching are.after,
            (reads_two names v.matched v.before false false _ _ are.matching are.before, tt),
          ),
        ),
      ),
    ),
  ),
)

-- ---- whether the alarm is matched

pub record AreAlarmNames (names : List (ℕ × Meaning)) (n i : ℕ) (events : List ℕ) (vars : AlarmVars) : Type 0 where
  pub links : vars.links ≡ length events
  pub steps : vars.steps ≡ n
  pub matching : (p e t : ℕ) → slice_get events p ≡ Some e → t < n → meaning_of names (match_variable vars p t) ≡ Some (matches i e (suc t))
  pub being_done : (t : ℕ) → t ≤ n → meaning_of names (done_variable vars t) ≡ Some (done i t)
  pub chaining : (t : ℕ) → t < n → IsNamedChain names (of_matches i (suc t)) (chain_variable vars t) (chain_count vars.links)
  pub being_false : vars.doubtful ≡ true → meaning_of names (dropped_variable vars) ≡ Some (dropped i)

abbrev IsNamed : List (ℕ × Meaning) → Lit → NamedLiteral → Type 0
IsNamed names l m = (meaning_of names l.var ≡ Some m.meaning) × (l.positive ≡ m.positive)

-- what reads as clauses of a list reads as what these become
zip_renamed : {A B C : Type 0} (R : A → C → Type 0) (f : B → C) (xs : List A) (ys : List B) → AllZip (λ x y. R x (f y)) xs ys → AllZip R xs (map f ys)
zip_renamed R f [] [] h = tt
zip_renamed R f [] (y ∷ ys) h = absurd h
zip_renamed R f (x ∷ xs) [] h = absurd h
zip_renamed R f (x ∷ xs) (y ∷ ys) h = (h.0, zip_renamed R f xs ys h.1)

map_twice : (f : ℕ → Meaning) (xs : List ℕ) → map (λ x. yes (f x)) xs ≡ map (λ meaning. yes meaning) (map f xs)
map_twice f [] = refl
map_twice f (x ∷ xs) = ap (λ rest. yes (f x) ∷ rest) (map_twice f xs)

-- at most one match in a step
one_reads : (net : Net) (log : Log) (n : ℕ) (names : List (ℕ × Meaning)) (i t : ℕ) (events : List ℕ) (vars : AlarmVars) → t < n → AreAlarmNames names n i events vars → AllZip (IsNamed names) (matches_at vars t) (map (λ e. yes (matches i e (suc t))) events) →
    AllZip (Reads net log n names) (exclusion_clauses (matches_at vars t) (chain_variable vars t)) (match_clauses i t events)
one_reads net log n names i t events vars time are matched =
    let named = ordered_names names (matches_at vars t) (map (λ e. yes (matches i e (suc t))) events) matched in
    let reads = named ∙ ap Some (map_twice (λ e. matches i e (suc t)) events) in
    let count : length (matches_at vars t) ≡ vars.links = length-map (numbers_below vars.links) (λ link. positive (match_variable vars link t)) ∙ length-range_with_len 0 vars.links in
    let chain = subst (λ m. IsNamedChain names (of_matches i (suc t)) (chain_variable vars t) (chain_count m)) (sym count) (are.chaining t time) in
    zip_renamed (Reads net log n names) (one_match i t) (exclusion_clauses (matches_at vars t) (chain_variable vars t)) (exclusion_list (map (λ e. matches i e (suc t)) events))
    (exclusions_read names (of_matches i (suc t)) (map (λ e. matches i e (suc t)) events) (matches_at vars t) (chain_variable vars t) reads chain)

-- where it is doubtful, that it is false comes before the others
dropped_reads : (names : List (ℕ × Meaning)) (log : Log) (i : ℕ) (vars : AlarmVars) (lits : List Lit) (named : List NamedLiteral) → is_doubtful log i ≡ vars.doubtful → (vars.doubtful ≡ true → meaning_of names (dropped_variable vars) ≡ Some (dropped i)) →
    AllZip (IsNamed names) lits named → AllZip (IsNamed names) (dropped_written vars ++ lits) (or_false log i named)
dropped_reads names log i vars lits named mark h zip = by vars.doubtful refl
  where
    by : (b : Bool) → vars.doubtful ≡ b → AllZip (IsNamed names) (dropped_written vars ++ lits) (or_false log i named)
    by true e = let d : is_doubtful log i ≡ true = mark ∙ e in let at = h e in rw (e, d) ((at, refl), zip)
    by false e = let d : is_doubtful log i ≡ false = mark ∙ e in rw (e, d) zip

not_first_reads : (names : List (ℕ × Meaning)) (log : Log) (n i : ℕ) (events : List ℕ) (vars : AlarmVars) → is_doubtful log i ≡ vars.doubtful → AreAlarmNames names n i events vars →
    named_clause names (negative (done_variable vars 0) ∷ dropped_written vars) ≡ Some (no (done i 0) ∷ or_false log i [])
not_first_reads names log n i events vars mark are =
    ordered_names names (negative (done_variable vars 0) ∷ dropped_written vars) (no (done i 0) ∷ or_false log i [])
    ((are.being_done 0 (omega arith), refl), subst (λ ls. AllZip (IsNamed names) ls (or_false log i [])) (append-nil (dropped_written vars)) (dropped_reads names log i vars [] [] mark are.being_false tt))

-- the matches of a step
matches_read : (names : List (ℕ × Meaning)) (n i t : ℕ) (events : List ℕ) (vars : AlarmVars) → t < n → AreAlarmNames names n i events vars → AllZip (IsNamed names) (matches_at vars t) (map (λ e. yes (matches i e (suc t))) events)
matches_read names n i t events vars time are =
    subst (λ k. AllZip (IsNamed names) (map (λ p. positive (match_variable vars p t)) (range_with_len 0 k)) (map (λ e. yes (matches i e (suc t))) events)) (sym are.links)
    (zip_numbered (IsNamed names) (λ p. positive (match_variable vars p t)) (λ e. yes (matches i e (suc t))) 0 events
    (λ p e at. (subst (λ q. meaning_of names (match_variable vars q t) ≡ Some (matches i e (suc t))) (omega arith) (are.matching p e t at time), refl)))

-- done after a step, by a match there or before
by_match_reads : (names : List (ℕ × Meaning)) (log : Log) (n i t : ℕ) (events : List ℕ) (vars : AlarmVars) → t < n → is_doubtful log i ≡ vars.doubtful → AreAlarmNames names n i events vars →
    named_clause names (negative (done_variable vars (suc t)) ∷ positive (done_variable vars t) ∷ (dropped_written vars ++ matches_at vars t)) ≡ Some (no (done i (suc t)) ∷ yes (done i t) ∷ or_false log i (map (λ e. yes (matches i e (suc t))) events))
by_match_reads names log n i t events vars time mark are =
    ordered_names names (negative (done_variable vars (suc t)) ∷ positive (done_variable vars t) ∷ (dropped_written vars ++ matches_at vars t)) (no (done i (suc t)) ∷ yes (done i t) ∷ or_false log i (map (λ e. yes (matches i e (suc t))) events)) (
      (are.being_done (suc t) (omega arith), refl),
      (
        (are.being_done t (omega arith), refl),
        dropped_reads names log i vars (matches_at vars t) (map (λ e. yes (matches i e (suc t))) events) mark are.being_false (matches_read names n i t events vars time are),
      ),
    )

step_reads : (net : Net) (log : Log) (n : ℕ) (names : List (ℕ × Meaning)) (i t : ℕ) (events : List ℕ) (vars : AlarmVars) → t < n → matching_events net log i ≡ events → is_doubtful log i ≡ vars.doubtful → AreAlarmNames names n i events vars →
    AllZip (Reads net log n names) (step_written vars t) (done_clauses i events t)
step_reads net log n names i t events vars time same mark are = (
  reads_two names (done_variable vars t) (done_variable vars (suc t)) false true _ _ (are.being_done t (omega arith)) (are.being_done (suc t) (omega arith)),
  (
    subst (λ es. named_clause names (negative (done_variable vars (suc t)) ∷ positive (done_variable vars t) ∷ (dropped_written vars ++ matches_at vars t)) ≡ Some (no (done i (suc t)) ∷ yes (done i t) ∷ or_false log i (map (λ e. yes (matches i e (suc t))) es))) (sym same) (by_match_reads names log n i t events vars time mark are),
    one_reads net log n names i t events vars time are (matches_read names n i t events vars time are),
  ),
)

-- ---- a false alarm isn't matched

zip_maps : {A B : Type 0} (R : A → B → Type 0) (f : ℕ → A) (g : ℕ → B) (a k : ℕ) → ((t : ℕ) → t < a + k → R (f t) (g t)) → AllZip R (map f (range_with_len a k)) (map g (range_with_len a k))
zip_maps R f g a zero each = tt
zip_maps R f g a (suc k) each = (each a (omega arith), zip_maps R f g (a + 1) k (λ t h. each t (omega (arith, h))))

zip_flat_numbered : {A B : Type 0} (R : A → B → Type 0) (f : ℕ → List A) (g : ℕ → List B) (a : ℕ) (xs : List ℕ) → ((p x : ℕ) → slice_get xs p ≡ Some x → AllZip R (f (a + p)) (g x)) → AllZip R (flat_map f (range_with_len a (length xs))) (flat_map g xs)
zip_flat_numbered R f g a [] each = tt
zip_flat_numbered R f g a (x ∷ xs) each =
    zip_append R (f a) (g x) (flat_map f (range_with_len (a + 1) (length xs))) (flat_map g xs) (subst (λ k. AllZip R (f k) (g x)) (omega arith) (each 0 x refl))
    (zip_flat_numbered R f g (a + 1) xs (λ p y at. subst (λ k. AllZip R (f k) (g y)) (omega arith) (each (suc p) y at)))

pub real_reads : (net : Net) (log : Log) (n : ℕ) (names : List (ℕ × Meaning)) (i : ℕ) (events : List ℕ) (vars : AlarmVars) → AreAlarmNames names n i events vars → AllZip (Reads net log n names) (real_written vars) (real_clauses vars.doubtful i events n)
real_reads net log n names i events vars are = by vars.doubtful refl
  where
    all : vars.doubtful ≡ true → AllZip (Reads net log n names) (reals_written vars vars.links) (flat_map (λ e. map (λ t. match_is_real i e t) (numbers_below n)) events)
    all e =
        subst (λ k. AllZip (Reads net log n names) (reals_written vars k) (flat_map (λ e. map (λ t. match_is_real i e t) (numbers_below n)) events)) (sym are.links)
        (zip_flat_numbered (Reads net log n names) (λ link. real_of_link vars link vars.steps) (λ e. map (λ t. match_is_real i e t) (numbers_below n)) 0 events
        (λ p x at. subst (λ k. AllZip (Reads net log n names) (real_of_link vars (0 + p) k) (map (λ t. match_is_real i x t) (numbers_below n))) (sym are.steps)
        (zip_maps (Reads net log n names) (λ t. negative (match_variable vars (0 + p) t) ∷ negative (dropped_variable vars) ∷ []) (λ t. match_is_real i x t) 0 n
        (λ t h. reads_two names (match_variable vars (0 + p) t) (dropped_variable vars) false false (matches i x (suc t)) (dropped i)
        (subst (λ q. meaning_of names (match_variable vars q t) ≡ Some (matches i x (suc t))) (omega arith) (are.matching p x t at (omega (arith, h)))) (are.being_false e)))))

    by : (b : Bool) → vars.doubtful ≡ b → AllZip (Reads net log n names) (real_written vars) (real_clauses vars.doubtful i events n)
    by true e = let whole = all e in rw e whole
    by false e = rw e tt

pub done_reads : (net : Net) (log : Log) (n : ℕ) (names : List (ℕ × Meaning)) (i ask : ℕ) (events : List ℕ) (vars : AlarmVars) → meaning_of names ask ≡ Some asked → matching_events net log i ≡ events → is_doubtful log i ≡ vars.doubtful → AreAlarmNames names n i events vars →
    AllZip (Reads net log n names) (done_written ask vars) (not_done_first i ∷ done_if_asked i ∷ flat_map (done_clauses i events) (numbers_below n))
done_reads net log n names i ask events vars asks same mark are =
    let last : meaning_of names (done_variable vars vars.steps) ≡ Some (done i n) = subst (λ k. meaning_of names (done_variable vars k) ≡ Some (done i n)) (sym are.steps) (are.being_done n (omega arith)) in (
      not_first_reads names log n i events vars mark are,
      (
        reads_two names ask (done_variable vars vars.steps) false true _ _ asks last,
        subst (λ k. AllZip (Reads net log n names) (flat_map (step_written vars) (numbers_below k)) (flat_map (done_clauses i events) (numbers_below n))) (sym are.steps)
            (zip_flat (Reads net log n names) (step_written vars) (done_clauses i events) 0 n (λ t h. step_reads net log n names i t events vars (omega (arith, h)) same mark are)),
      ),
    )
