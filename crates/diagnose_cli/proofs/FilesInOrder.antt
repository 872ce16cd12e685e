-- A command goes on from its files, whichever it has, or stops at one of them.
use Rattle.std.proofs.Common.{◌≡◌, ◌≢◌, ◌≤◌, ◌<◌, ◌⊎◌, inl, inr, ℕ, ◌+◌, List, [], ◌∷◌, ◌++◌, length, Option, Some, None, IfSome, MatchOption, Result, Ok, Err, IfErr, IsErrAnd, ◌∙◌, append-nil, append_assoc, ap, refl, sym, subst, arith}
use Rattle.endings.specs.declared.stop.Stop.{Stop}
use Rattle.endings.specs.declared.stop.Stop.TheVariants.{Faulty, Memory}
use Rattle.endings.specs.declared.stop.FaultyText.{FaultyText}
use Rattle.des_base.specs.CommandWords.{word_at}
use Rattle.endings.specs.Files.{Holds, IsFileFault, IsReadAs, IsText, Loads, StopsIn}
use Rattle.endings.specs.Texts.{FileKind, fault_of_text, limit_of}
use Rattle.endings.specs.Transcripts.{Ending}
use Rattle.diagnose_cli.specs.Due.{InOrder}
use Rattle.diagnose_cli.specs.FilesRead.{AreBytes, AreReadAs, AreReadThen, StopsAmong}
use Rattle.diagnose_cli.specs.Rows.{AreTold}
use Rattle.endings.proofs.Earlier.{stops_earlier}

-- the stop is handed on from where it is found
pub stop_handed : {A : Type 0} (r : Result A Stop) (stop : Stop) (P : Stop → Type 0) → IsErrAnd r (λ e. e ≡ stop) → (stop ≢ Memory → P stop) → IfErr r (λ s. s ≢ Memory → P s)
stop_handed (Ok x) stop P is h = tt
stop_handed (Err e) stop P is h = λ never. subst P (sym is) (h (λ p. never (is ∙ p)))

-- ---- it goes on from file to file

module _ (l : Loads) (words : List (List ℕ)) (closes : List (List ℕ) → Ending → Type 0) where
  pub all_read : (i : ℕ) (kinds : List FileKind) (files texts : List (List ℕ)) (e : Ending) → AreBytes l.held words i kinds files texts → closes (files ++ texts) e → InOrder l words i kinds files closes e
  all_read i [] files [] e read h = subst (λ (f : List (List ℕ)). closes f e) (append-nil files) h
  all_read i (kind ∷ kinds) files (text ∷ texts) e read h =
      let rest = all_read (i + 1) kinds (files ++ text ∷ []) texts e read.1 (subst (λ (f : List (List ℕ)). closes f e) (sym (append_assoc files (text ∷ []) texts)) h) in
      inr (text, read.0.holds, subst (λ (o : Option FaultyText). MatchOption o (InOrder l words (i + 1) kinds (files ++ text ∷ []) closes e) (λ t. e ≡ Err (Faulty t))) (sym read.0.well) rest)
  all_read i _ files _ e read h = absurd read

  pub stops_among : (i : ℕ) (kinds : List FileKind) (files : List (List ℕ)) (stop : Stop) → StopsAmong l words i kinds files stop → InOrder l words i kinds files closes (Err stop)
  stops_among i [] files stop h = absurd h
  stops_among i (kind ∷ kinds) files stop h =
      let next : List ℕ → Option FaultyText → Type 0 = λ text o. MatchOption o (InOrder l words (i + 1) kinds (files ++ text ∷ []) closes (Err stop)) (λ t. ◌≡◌ {A = Ending} (Err stop) (Err (Faulty t))) in
      elim h [
        | inl (inl at) ↦ inl at
        | inl (inr b) ↦ inr (b.bytes, b.holds, subst (next b.bytes) (sym b.faulty) (ap (λ s. Err s) b.told))
        | inr b ↦ inr (b.0, b.1.holds, subst (next b.0) (sym b.1.well) (stops_among (i + 1) kinds (files ++ b.0 ∷ []) stop b.2))
      ]

-- ---- and back: it stopped at one of them, or closes over their bytes

pub record StopsAtFile (l : Loads) (words : List (List ℕ)) (i : ℕ) (kinds : List FileKind) (stop : Stop) : Type 0 where
  pub place : ℕ
  pub kind : FileKind
  pub files : List (List ℕ)
  pub first : i ≤ place
  pub within : place < i + length kinds
  pub stops : StopsIn l place (word_at words place) (limit_of kind) (fault_of_text kind files) stop

pub record ClosesOver (l : Loads) (words : List (List ℕ)) (i : ℕ) (kinds : List FileKind) (files : List (List ℕ)) (closes : List (List ℕ) → Ending → Type 0) (e : Ending) : Type 0 where
  pub texts : List (List ℕ)
  pub bytes : AreBytes l.held words i kinds files texts
  pub closed : closes (files ++ texts) e

err_weaker : {P Q : Stop → Type 0} (e : Ending) → IsErrAnd e P → ((stop : Stop) → P stop → Q stop) → IsErrAnd e Q
err_weaker (Ok told) h f = h
err_weaker (Err stop) h f = f stop h

module _ (l : Loads) (words : List (List ℕ)) (closes : List (List ℕ) → Ending → Type 0) (e : Ending) where
  abbrev Went : ℕ → List FileKind → List (List ℕ) → Type 0
  Went i kinds files = IsErrAnd e (StopsAtFile l words i kinds) ⊎ ClosesOver l words i kinds files closes e

  at_first : (i : ℕ) (kind : FileKind) (kinds : List FileKind) (files : List (List ℕ)) (stop : Stop) → StopsIn l i (word_at words i) (limit_of kind) (fault_of_text kind files) stop → StopsAtFile l words i (kind ∷ kinds) stop
  at_first i kind kinds files stop at = record { place = i; kind = kind; files = files; first = omega arith; within = omega arith; stops = at }

  past : (i : ℕ) (kind : FileKind) (kinds : List FileKind) (files : List (List ℕ)) (text : List ℕ) → Holds l.held (word_at words i) (limit_of kind) text → (o : Option FaultyText) → fault_of_text kind files text ≡ o
      → (InOrder l words (i + 1) kinds (files ++ text ∷ []) closes e → Went (i + 1) kinds (files ++ text ∷ [])) → MatchOption o (InOrder l words (i + 1) kinds (files ++ text ∷ []) closes e) (λ t. e ≡ Err (Faulty t)) → Went i (kind ∷ kinds) files
  past i kind kinds files text holds None well rest h =
      elim (rest h) [
        | inl at ↦ inl (err_weaker e at (λ stop a. record { place = a.place; kind = a.kind; files = a.files; first = omega (arith, a.first); within = omega (arith, a.within); stops = a.stops }))
        | inr c ↦ inr (record { texts = text ∷ c.texts; bytes = (record { holds = holds; well = well }, c.bytes); closed = subst (λ (f : List (List ℕ)). closes f e) (append_assoc files (text ∷ []) c.texts) c.closed })
      ]
  past i kind kinds files text holds (Some fault) faulty rest h =
      let at = at_first i kind kinds files (Faulty fault) (inr (record { bytes = text; holds = holds; text = fault; faulty = faulty; told = refl })) in
      inl (subst (λ (x : Ending). IsErrAnd x (StopsAtFile l words i (kind ∷ kinds))) (sym h) at)

  pub in_order : (i : ℕ) (kinds : List FileKind) (files : List (List ℕ)) → InOrder l words i kinds files closes e → Went i kinds files
  in_order i [] files h = inr (record { texts = []; bytes = tt; closed = subst (λ (f : List (List ℕ)). closes f e) (sym (append-nil files)) h })
  in_order i (kind ∷ kinds) files h =
      elim h [
        | inl at ↦ inl (err_weaker e at (λ stop a. at_first i kind kinds files stop (inl a)))
        | inr b ↦ past i kind kinds files b.0 b.1 (fault_of_text kind files b.0) refl (in_order (i + 1) kinds (files ++ b.0 ∷ [])) b.2
      ]

-- what is told is held
pub same_text : (o : Option (List ℕ)) (text held : List ℕ) → o ≡ Some text → IfSome o (λ there. there ≡ held) → text ≡ held
same_text o text held told is = subst (λ (o : Option (List ℕ)). IfSome o (λ there. there ≡ held)) told is

-- as many bytes as are told are those that are read
pub bytes_told : (held : List ℕ → Option (List ℕ)) (words : List (List ℕ)) (i : ℕ) (kinds : List FileKind) (files texts others : List (List ℕ)) → AreBytes held words i kinds files texts → AreTold held words i others → length others ≡ length kinds → texts ≡ others
bytes_told held words i [] files [] [] read told long = refl
bytes_told held words i [] files [] (other ∷ others) read told long = absurd (omega (arith, long))
bytes_told held words i (kind ∷ kinds) files (text ∷ texts) [] read told long = absurd (omega (arith, long))
bytes_told held words i (kind ∷ kinds) files (text ∷ texts) (other ∷ others) read told long =
    let first : other ≡ text = same_text _ other text told.0 read.0.holds.told in
    let rest = bytes_told held words (i + 1) kinds (files ++ text ∷ []) texts others read.1 told.1 (omega (arith, long)) in
    cc
bytes_told held words i _ files _ others read told long = absurd read

-- ---- one more behind others

module _ (words : List (List ℕ)) (kind : FileKind) where
  -- the last place and the files before it
  last_of : (P : ℕ → List (List ℕ) → Type 0) (i k : ℕ) (files all : List (List ℕ)) → 0 + i ≡ k → files ++ [] ≡ all → P k all → P i files
  last_of P i k files all place whole h =
      let here : k ≡ i = omega (arith, place) in
      subst (P i) (sym whole ∙ append-nil files) (subst (λ (j : ℕ). P j all) here h)

  bytes_then : (held : List ℕ → Option (List ℕ)) (i k : ℕ) (kinds : List FileKind) (files texts all : List (List ℕ)) (text : List ℕ) → length kinds + i ≡ k → files ++ texts ≡ all → AreBytes held words i kinds files texts
      → IsText held (word_at words k) (limit_of kind) (fault_of_text kind all) text → AreBytes held words i (kinds ++ kind ∷ []) files (texts ++ text ∷ [])
  bytes_then held i k [] files [] all text place whole read last = (last_of (λ j f. IsText held (word_at words j) (limit_of kind) (fault_of_text kind f) text) i k files all place whole last, tt)
  bytes_then held i k (first ∷ kinds) files (other ∷ texts) all text place whole read last = (read.0, bytes_then held (i + 1) k kinds (files ++ other ∷ []) texts all text (omega (arith, place)) (append_assoc files (other ∷ []) texts ∙ whole) read.1 last)
  bytes_then held i k _ files _ all text place whole read last = absurd read

  -- it stops at one of the others
  pub stops_before : (l : Loads) (i : ℕ) (kinds : List FileKind) (files : List (List ℕ)) (stop : Stop) → StopsAmong l words i kinds files stop → StopsAmong l words i (kinds ++ kind ∷ []) files stop
  stops_before l i [] files stop h = absurd h
  stops_before l i (first ∷ kinds) files stop h =
      elim h [
        | inl at ↦ inl at
        | inr b ↦ inr (b.0, b.1, stops_before l (i + 1) kinds (files ++ b.0 ∷ []) stop b.2)
      ]

  stops_then : (l : Loads) (i k : ℕ) (kinds : List FileKind) (files texts all : List (List ℕ)) (stop : Stop) → length kinds + i ≡ k → files ++ texts ≡ all → AreBytes l.held words i kinds files texts
      → StopsIn l k (word_at words k) (limit_of kind) (fault_of_text kind all) stop → StopsAmong l words i (kinds ++ kind ∷ []) files stop
  stops_then l i k [] files [] all stop place whole read last = inl (last_of (λ j f. StopsIn l j (word_at words j) (limit_of kind) (fault_of_text kind f) stop) i k files all place whole last)
  stops_then l i k (first ∷ kinds) files (other ∷ texts) all stop place whole read last =
      inr (other, read.0, stops_then l (i + 1) k kinds (files ++ other ∷ []) texts all stop (omega (arith, place)) (append_assoc files (other ∷ []) texts ∙ whole) read.1 last)
  stops_then l i k _ files _ all stop place whole read last = absurd read

  -- ---- at a later moment

  module _ (held now : List ℕ → Option (List ℕ)) (start before after : List ℕ → ℕ) (same : now ≡ held) (later : (n : List ℕ) → start n ≤ before n) (kinds : List FileKind) {A B : Type 0} (reads : List (List ℕ) → A → Type 0) (tells : A → List ℕ → B → Type 0) (fault : A → List ℕ → Option FaultyText) (faulty : (a : A) (texts : List (List ℕ)) → reads texts a → fault a ≡ fault_of_text kind texts) (a : A) (first : AreReadAs held words kinds (λ texts. reads texts a)) where
    pub then_read : (b : B) → IsReadAs now (word_at words (length kinds + 1)) (limit_of kind) (fault a) (λ text. tells a text b) → AreReadAs held words (kinds ++ kind ∷ []) (λ texts. AreReadThen reads tells texts a b)
    then_read b (text, read, is) = record {
      texts = first.texts ++ text ∷ [];
      bytes = bytes_then held 1 (length kinds + 1) kinds [] first.texts first.texts text refl refl first.bytes
          (subst (λ (f : List ℕ → Option FaultyText). IsText held (word_at words (length kinds + 1)) (limit_of kind) f text) (faulty a first.texts first.are) (subst (λ (f : List ℕ → Option (List ℕ)). IsText f (word_at words (length kinds + 1)) (limit_of kind) (fault a) text) same read));
      are = record { front = first.texts; text = text; texts_are = refl; first = first.are; is = is };
    }

    pub then_stops : (stop : Stop) → StopsIn (record { held = now; before = before; after = after }) (length kinds + 1) (word_at words (length kinds + 1)) (limit_of kind) (fault a) stop
        → StopsAmong (record { held = held; before = start; after = after }) words 1 (kinds ++ kind ∷ []) [] stop
    then_stops stop at =
        let l : Loads = record { held = held; before = start; after = after } in
        let place = length kinds + 1 in
        let earlier : StopsIn l place (word_at words place) (limit_of kind) (fault a) stop = elim at [
          | inl before_it ↦ inl (stops_earlier held now start before after place (word_at words place) (limit_of kind) stop same later before_it)
          | inr b ↦ inr (subst (λ (f : List ℕ → Option (List ℕ)). IsFileFault f (word_at words place) (limit_of kind) (fault a) stop) same b)
        ] in
        stops_then l 1 place kinds [] first.texts first.texts stop refl refl first.bytes
        (subst (λ (f : List ℕ → Option FaultyText). StopsIn l place (word_at words place) (limit_of kind) f stop) (faulty a first.texts first.are) earlier)

-- there is one file at least
pub never_none : (kinds : List FileKind) (kind : FileKind) → kinds ++ kind ∷ [] ≡ [] → ⊥
never_none [] kind none = cc
never_none (first ∷ kinds) kind none = cc
