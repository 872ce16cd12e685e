-- What words call: the command that has the first one as its name, if they spell something for it.
use Rattle.std.proofs.Common.{◌≡◌, ◌≢◌, [], ◌∷◌, bytes_eq, ◌∙◌, ℕ, List, Bool, true, false, Option, Some, None, if◌then◌else◌, nat_eq, length, ap, refl, subst, sym, option_map}
use Rattle.std.proofs.lemmas.Bool.{eqb-true, eq-eqb}
use Rattle.std.proofs.lemmas.Slice.Eq.{bytes_eq-Decides}
use Rattle.std.specs.Prelude.{⊤, cond}
use Rattle.des_base.specs.CommandWords.{word_at}
use Rattle.endings.specs.Transcripts.{Transcript}
use Rattle.diagnose_cli.specs.Commands.{IsInList, command_of, named_commands}
use Rattle.diagnose_cli.specs.Run.{CallsNone}
use Rattle.diagnose_cli.specs.Tasks.{AreWords, Called, Calls, MatchCalled, NamedCommand, NoCommand, Task, called_among, calls_by, read_words}

-- ---- what so many words spell

module _ {S : Type 0} (c : NamedCommand S) (words : List (List ℕ)) where
  abbrev so : Bool → Option c.Word
  so many = if many then c.spelled words else None

  pub reads_all : length words ≡ c.count → read_words c words ≡ c.spelled words
  reads_all many = ap so (eq-eqb (length words) c.count many)

  pub counted : (word : c.Word) → read_words c words ≡ Some word → length words ≡ c.count
  counted word = by (nat_eq (length words) c.count) refl
    where
      by : (many : Bool) → nat_eq (length words) c.count ≡ many → so many ≡ Some word → length words ≡ c.count
      by true is read = eqb-true (length words) c.count is
      by false is read = cc

  reads_none : (length words ≡ c.count → ⊥) → read_words c words ≡ None
  reads_none never = by (nat_eq (length words) c.count) refl
    where
      by : (many : Bool) → nat_eq (length words) c.count ≡ many → so many ≡ None
      by true is = absurd (never (eqb-true (length words) c.count is))
      by false is = refl

-- ---- what they call

module _ (c : NamedCommand Transcript) (words : List (List ℕ)) (listed : IsInList c words) where
  pub called_by_name : word_at words 0 ≡ c.name → command_of words ≡ calls_by c (read_words c words)
  called_by_name name = ap (λ (n : List ℕ). called_among named_commands n words) name ∙ listed

  pub called_so : (word : c.Word) → AreWords c word words → command_of words ≡ Calls (c.task word)
  called_so word are = called_by_name are.name ∙ ap (calls_by c) are.read

module _ (words : List (List ℕ)) {k : Called} (N : Type 0) (P : Task Transcript → Type 0) (called : command_of words ≡ k) where
  -- what is so of what is called is so by the words, and back
  pub for_called : MatchCalled k N P → MatchCalled (command_of words) N P
  for_called h = subst (λ (j : Called). MatchCalled j N P) (sym called) h

  pub of_called : MatchCalled (command_of words) N P → MatchCalled k N P
  of_called h = subst (λ (j : Called). MatchCalled j N P) called h

none_called : (words : List (List ℕ)) → command_of words ≡ NoCommand → CallsNone words
none_called words none = for_called words _ _ none tt

module _ (c : NamedCommand Transcript) (words : List (List ℕ)) (listed : IsInList c words) (name : word_at words 0 ≡ c.name) where
  -- nothing, by their number,
  pub too_many : (length words ≡ c.count → ⊥) → CallsNone words
  too_many never = none_called words (called_by_name c words listed name ∙ ap (calls_by c) (reads_none c words never))

  -- or by what they spell
  pub not_spelled : {X : Type 0} (word : X → c.Word) → length words ≡ c.count → (r : Option X) → option_map word r ≡ c.spelled words → r ≡ None → CallsNone words
  not_spelled word many None is none = none_called words (called_by_name c words listed name ∙ ap (calls_by c) (reads_all c words many ∙ sym is))
  not_spelled word many (Some x) is none = cc

-- ---- another name

-- none of these has the name
abbrev pub NoneHas : List ℕ → List (NamedCommand Transcript) → Type 0
NoneHas name [] = ⊤
NoneHas name (c ∷ others) = (name ≢ c.name) × NoneHas name others

another : (b : Bool) (c : NamedCommand Transcript) (name : List ℕ) (words : List (List ℕ)) (rest : Called) → bytes_eq name c.name ≡ b → name ≢ c.name → MatchCalled rest ⊤ (λ t. ⊥) → MatchCalled (cond b (calls_by c (read_words c words)) rest) ⊤ (λ t. ⊥)
another true c name words rest is other none = absurd (other ((bytes_eq-Decides name c.name).0 is))
another false c name words rest is other none = none

pub none_among : (name : List ℕ) (words : List (List ℕ)) (cs : List (NamedCommand Transcript)) → NoneHas name cs → MatchCalled (called_among cs name words) ⊤ (λ t. ⊥)
none_among name words [] none = tt
none_among name words (c ∷ others) none = another (bytes_eq name c.name) c name words (called_among others name words) refl none.0 (none_among name words others none.1)
