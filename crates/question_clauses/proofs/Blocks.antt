-- An order of alarms, cut into blocks where the pieces are cut, and what stands at one place of a piece and its block.
use Rattle.std.proofs.Common.{◌≡◌, ◌≢◌, ℕ, zero, suc, ◌<◌, Bool, true, false, List, [], ◌∷◌, ◌++◌, ◌∙◌, length, refl, sym, ap, subst, arith, Contains, map, flat_map, is_some, inl, inr, ◌⊎◌, ◌&&◌, ◌==◌, get_or}
use Rattle.std.specs.Prelude.{⊤}
use Rattle.std.specs.List.{AllZip}
use Rattle.std.proofs.lemmas.Bool.{eqb-true, eq-eqb, or_right}
use Rattle.std.proofs.lemmas.List.Elements.{filter-append, Contains-append_left, Contains-append_right}
use Rattle.des_base.proofs.BoolLemmas.{either, or_left, both, join}
use Rattle.des_base.proofs.Elements.{cons_cases, here_first, here_later, none_in_nil}
use Rattle.des_base.specs.Lists.{EachPair}
use Rattle.des_net.specs.Network.{Net, label_of}
use Rattle.des_net.specs.Width.{joined}
use Rattle.question_clauses.proofs.Entries.{real_true, real_false, alarms_append}
use Rattle.question_clauses.proofs.Lists.{all_at}
use Rattle.log_order.specs.Log.{Log}
use Rattle.replay.specs.Explanation.{Entry, alarms_of, real_alarms, observables, Shows}
use Rattle.question_clauses.proofs.CodedTruth.{is_paired}

-- the order doesn't begin with a false alarm
abbrev StartsTrue : List Entry → Type 0
StartsTrue [] = ⊤
StartsTrue (entry ∷ order) = entry.real ≡ true

-- An order whose true alarms go with the elements of two lists, cut where these are cut. False alarms go with the true one before them.
pub record Cut (R : ℕ → ℕ → Type 0) (xs ys : List ℕ) (order : List Entry) : Type 0 where
  pub front : List Entry
  pub rest : List Entry
  pub whole : order ≡ front ++ rest
  pub here : AllZip R xs (real_alarms front)
  pub later : AllZip R ys (real_alarms rest)
  pub starts : StartsTrue rest

pub cut_zip : (R : ℕ → ℕ → Type 0) (xs ys : List ℕ) (order : List Entry) → AllZip R (xs ++ ys) (real_alarms order) → Cut R xs ys order
cut_zip R [] ys [] h = record { front = []; rest = []; whole = refl; here = tt; later = h; starts = tt }
cut_zip R (x ∷ xs) ys [] h = absurd h
cut_zip R xs ys (entry ∷ order) h = by xs entry.real refl h (λ zs k. cut_zip R zs ys order k)
  where
    by : (zs : List ℕ) (b : Bool) → entry.real ≡ b → AllZip R (zs ++ ys) (real_alarms (entry ∷ order)) → ((ws : List ℕ) → AllZip R (ws ++ ys) (real_alarms order) → Cut R ws ys order) → Cut R zs ys (entry ∷ order)
    by [] true e zip later = record { front = []; rest = entry ∷ order; whole = refl; here = tt; later = zip; starts = e }
    by (z ∷ zs) true e zip later =
        let parts = subst (λ is. AllZip R (z ∷ (zs ++ ys)) is) (real_true entry order e) zip in
        let cut = later zs parts.1 in
        record { front = entry ∷ cut.front; rest = cut.rest; whole = ap (λ es. entry ∷ es) cut.whole; here = subst (λ is. AllZip R (z ∷ zs) is) (sym (real_true entry cut.front e)) (parts.0, cut.here); later = cut.later; starts = cut.starts }
    by zs false e zip later =
        let cut = later zs (subst (λ is. AllZip R (zs ++ ys) is) (real_false entry order e) zip) in
        record { front = entry ∷ cut.front; rest = cut.rest; whole = ap (λ es. entry ∷ es) cut.whole; here = subst (λ is. AllZip R zs is) (sym (real_false entry cut.front e)) cut.here; later = cut.later; starts = cut.starts }

-- An order of alarms in blocks: the false ones before all true ones, and one for each piece, whose true alarms go with its events.
pub record Blocks (net : Net) (log : Log) (pieces : List (List ℕ)) (order : List Entry) : Type 0 where
  pub before : List Entry
  pub blocks : List (List Entry)
  pub whole : order ≡ flat_map (λ block. block) (before ∷ blocks)
  pub none : real_alarms before ≡ []
  pub matched : AllZip (λ piece block. AllZip (Shows net log) (observables net piece) (real_alarms block)) pieces blocks

-- the blocks of the pieces, where none is before them
record Rest (net : Net) (log : Log) (pieces : List (List ℕ)) (order : List Entry) : Type 0 where
  blocks : List (List Entry)
  whole : order ≡ flat_map (λ block. block) blocks
  matched : AllZip (λ piece block. AllZip (Shows net log) (observables net piece) (real_alarms block)) pieces blocks

cut_rest : (net : Net) (log : Log) (pieces : List (List ℕ)) (order : List Entry) → StartsTrue order → AllZip (Shows net log) (observables net (joined pieces)) (real_alarms order) → Rest net log pieces order
cut_rest net log [] [] starts h = record { blocks = []; whole = refl; matched = tt }
cut_rest net log [] (entry ∷ order) starts h = absurd (subst (λ is. AllZip (Shows net log) [] is) (real_true entry order starts) h)
cut_rest net log (piece ∷ pieces) order starts h =
    let shown = subst (λ xs. AllZip (Shows net log) xs (real_alarms order)) (filter-append (λ e. is_some (label_of net e)) piece (joined pieces)) h in
    let cut = cut_zip (Shows net log) (observables net piece) (observables net (joined pieces)) order shown in
    let rest = cut_rest net log pieces cut.rest cut.starts cut.later in
    record { blocks = cut.front ∷ rest.blocks; whole = cut.whole ∙ ap (λ xs. cut.front ++ xs) rest.whole; matched = (cut.here, rest.matched) }

pub cut_order : (net : Net) (log : Log) (pieces : List (List ℕ)) (order : List Entry) → AllZip (Shows net log) (observables net (joined pieces)) (real_alarms order) → Blocks net log pieces order
cut_order net log pieces order h =
    let cut = cut_zip (Shows net log) [] (observables net (joined pieces)) order h in
    let rest = cut_rest net log pieces cut.rest cut.starts cut.later in
    record { before = cut.front; blocks = rest.blocks; whole = cut.whole ∙ ap (λ xs. cut.front ++ xs) rest.whole; none = is_nil (real_alarms cut.front) cut.here; matched = rest.matched }
  where
    is_nil : (is : List ℕ) → AllZip (Shows net log) [] is → is ≡ []
    is_nil [] k = refl
    is_nil (i ∷ is) k = absurd k

pub blocks_length : {X Y : Type 0} (R : List X → List Y → Type 0) (xs : List (List X)) (ys : List (List Y)) → AllZip R xs ys → length xs ≡ length ys
blocks_length R [] [] h = refl
blocks_length R [] (y ∷ ys) h = absurd h
blocks_length R (x ∷ xs) [] h = absurd h
blocks_length R (x ∷ xs) (y ∷ ys) h = ap suc (blocks_length R xs ys h.1)

pub block_at : {X Y : Type 0} (R : List X → List Y → Type 0) (xs : List (List X)) (ys : List (List Y)) (t : ℕ) → AllZip R xs ys → t < length xs → R (get_or xs t []) (get_or ys t [])
block_at R [] ys t h less = absurd (omega arith)
block_at R (x ∷ xs) [] t h less = absurd h
block_at R (x ∷ xs) (y ∷ ys) zero h less = h.0
block_at R (x ∷ xs) (y ∷ ys) (suc t) h less = block_at R xs ys t h.1 (omega arith)

-- the alarms of a block
pub block_alarms : (blocks : List (List Entry)) (t : ℕ) → get_or (map alarms_of blocks) t [] ≡ alarms_of (get_or blocks t [])
block_alarms [] t = refl
block_alarms (block ∷ blocks) zero = refl
block_alarms (block ∷ blocks) (suc t) = block_alarms blocks t

pub joined_alarms : (blocks : List (List Entry)) → alarms_of (flat_map (λ block. block) blocks) ≡ joined (map alarms_of blocks)
joined_alarms [] = refl
joined_alarms (block ∷ blocks) = alarms_append block (flat_map (λ b. b) blocks) ∙ ap (λ xs. alarms_of block ++ xs) (joined_alarms blocks)

pub block_has : (blocks : List (List Entry)) (t : ℕ) (entry : Entry) → Contains (get_or blocks t []) entry → Contains (flat_map (λ block. block) blocks) entry
block_has [] t entry in' = absurd (none_in_nil entry in')
block_has (block ∷ blocks) zero entry in' = Contains-append_left block (flat_map (λ b. b) blocks) entry in'
block_has (block ∷ blocks) (suc t) entry in' = Contains-append_right block (flat_map (λ b. b) blocks) entry (block_has blocks t entry in')

-- What is paired.
pub paired : (R : ℕ → ℕ → Type 0) (e i : ℕ) (xs js : List ℕ) → AllZip R xs js → is_paired e i xs js ≡ true → R e i × Contains xs e × Contains js i
paired R e i [] js zip h = cc
paired R e i (x ∷ xs) [] zip h = cc
paired R e i (x ∷ xs) (j ∷ js) zip h = by (either ((x == e) && (j == i)) (is_paired e i xs js) h) (paired R e i xs js zip.1)
  where
    by : ((x == e) && (j == i) ≡ true) ⊎ (is_paired e i xs js ≡ true) → (is_paired e i xs js ≡ true → R e i × Contains xs e × Contains js i) → R e i × Contains (x ∷ xs) e × Contains (j ∷ js) i
    by (inl here) later =
        let parts = both (x == e) (j == i) here in
        let a = eqb-true x e parts.0 in
        let b = eqb-true j i parts.1 in
        (subst (λ k. R e k) b (subst (λ y. R y j) a zip.0), here_first x xs e a, here_first j js i b)
    by (inr rest) later = let found' = later rest in (found'.0, here_later x xs e found'.1, here_later j js i found'.2)

pub pair_here : (e i : ℕ) (xs js : List ℕ) → is_paired e i (e ∷ xs) (i ∷ js) ≡ true
pair_here e i xs js = or_left ((e == e) && (i == i)) (is_paired e i xs js) (join (e == e) (i == i) (eq-eqb e e refl) (eq-eqb i i refl))

pub partner : (R : ℕ → ℕ → Type 0) (e : ℕ) (xs js : List ℕ) → AllZip R xs js → Contains xs e → (i : ℕ) × (is_paired e i xs js ≡ true)
partner R e [] js zip in' = absurd (none_in_nil e in')
partner R e (x ∷ xs) [] zip in' = absurd zip
partner R e (x ∷ xs) (j ∷ js) zip in' = by (cons_cases x xs e in') (partner R e xs js zip.1)
  where
    by : (x ≡ e) ⊎ Contains xs e → (Contains xs e → (i : ℕ) × (is_paired e i xs js ≡ true)) → (i : ℕ) × (is_paired e i (x ∷ xs) (j ∷ js) ≡ true)
    by (inl is) later = (j, subst (λ y. is_paired e j (y ∷ xs) (j ∷ js) ≡ true) (sym is) (pair_here e j xs js))
    by (inr rest) later = let found' = later rest in (found'.0, or_right ((x == e) && (j == found'.0)) (is_paired e found'.0 xs js) found'.1)

pub partner_back : (R : ℕ → ℕ → Type 0) (i : ℕ) (xs js : List ℕ) → AllZip R xs js → Contains js i → (e : ℕ) × (is_paired e i xs js ≡ true)
partner_back R i [] [] zip in' = absurd (none_in_nil i in')
partner_back R i [] (j ∷ js) zip in' = absurd zip
partner_back R i (x ∷ xs) [] zip in' = absurd zip
partner_back R i (x ∷ xs) (j ∷ js) zip in' = by (cons_cases j js i in') (partner_back R i xs js zip.1)
  where
    by : (j ≡ i) ⊎ Contains js i → (Contains js i → (e : ℕ) × (is_paired e i xs js ≡ true)) → (e : ℕ) × (is_paired e i (x ∷ xs) (j ∷ js) ≡ true)
    by (inl is) later = (x, subst (λ k. is_paired x i (x ∷ xs) (k ∷ js) ≡ true) (sym is) (pair_here x i xs js))
    by (inr rest) later = let found' = later rest in (found'.0, or_right ((x == found'.0) && (j == i)) (is_paired found'.0 i xs js) found'.1)

pub paired_in : (e i : ℕ) (xs js : List ℕ) → is_paired e i xs js ≡ true → Contains xs e × Contains js i
paired_in e i [] js h = cc
paired_in e i (x ∷ xs) [] h = cc
paired_in e i (x ∷ xs) (j ∷ js) h = by (either ((x == e) && (j == i)) (is_paired e i xs js) h) (paired_in e i xs js)
  where
    by : ((x == e) && (j == i) ≡ true) ⊎ (is_paired e i xs js ≡ true) → (is_paired e i xs js ≡ true → Contains xs e × Contains js i) → Contains (x ∷ xs) e × Contains (j ∷ js) i
    by (inl here) later =
        let parts = both (x == e) (j == i) here in
        (here_first x xs e (eqb-true x e parts.0), here_first j js i (eqb-true j i parts.1))
    by (inr rest) later = let found' = later rest in (here_later x xs e found'.0, here_later j js i found'.1)

pub same_alarm : (e i k : ℕ) (xs js : List ℕ) → EachPair (λ a b. a ≢ b) xs → is_paired e i xs js ≡ true → is_paired e k xs js ≡ true → i ≡ k
same_alarm e i k [] js once h l = cc
same_alarm e i k (x ∷ xs) [] once h l = cc
same_alarm e i k (x ∷ xs) (j ∷ js) once h l =
    by (either ((x == e) && (j == i)) (is_paired e i xs js) h) (either ((x == e) && (j == k)) (is_paired e k xs js) l) (same_alarm e i k xs js once.1)
  where
    by : ((x == e) && (j == i) ≡ true) ⊎ (is_paired e i xs js ≡ true) → ((x == e) && (j == k) ≡ true) ⊎ (is_paired e k xs js ≡ true) → (is_paired e i xs js ≡ true → is_paired e k xs js ≡ true → i ≡ k) → i ≡ k
    by (inl a) (inl b) later = sym (eqb-true j i (both (x == e) (j == i) a).1) ∙ eqb-true j k (both (x == e) (j == k) b).1
    by (inl a) (inr b) later = absurd (all_at (λ y. x ≢ y) xs once.0 e (paired_in e k xs js b).0 (eqb-true x e (both (x == e) (j == i) a).0))
    by (inr a) (inl b) later = absurd (all_at (λ y. x ≢ y) xs once.0 e (paired_in e i xs js a).0 (eqb-true x e (both (x == e) (j == k) b).0))
    by (inr a) (inr b) later = later a b

pub same_event : (e f i : ℕ) (xs js : List ℕ) → EachPair (λ a b. a ≢ b) js → is_paired e i xs js ≡ true → is_paired f i xs js ≡ true → e ≡ f
same_event e f i [] js once h l = cc
same_event e f i (x ∷ xs) [] once h l = cc
same_event e f i (x ∷ xs) (j ∷ js) once h l =
    by (either ((x == e) && (j == i)) (is_paired e i xs js) h) (either ((x == f) && (j == i)) (is_paired f i xs js) l) (same_event e f i xs js once.1)
  where
    by : ((x == e) && (j == i) ≡ true) ⊎ (is_paired e i xs js ≡ true) → ((x == f) && (j == i) ≡ true) ⊎ (is_paired f i xs js ≡ true) → (is_paired e i xs js ≡ true → is_paired f i xs js ≡ true → e ≡ f) → e ≡ f
    by (inl a) (inl b) later = sym (eqb-true x e (both (x == e) (j == i) a).0) ∙ eqb-true x f (both (x == f) (j == i) b).0
    by (inl a) (inr b) later = absurd (all_at (λ y. j ≢ y) js once.0 i (paired_in f i xs js b).1 (eqb-true j i (both (x == e) (j == i) a).1))
    by (inr a) (inl b) later = absurd (all_at (λ y. j ≢ y) js once.0 i (paired_in e i xs js a).1 (eqb-true j i (both (x == f) (j == i) b).1))
    by (inr a) (inr b) later = later a b
