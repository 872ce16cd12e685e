-- What is told of items one after another: the stages that it passes through, the texts, what a sink took of these, and whether a put failed.
use Rattle.std.specs.Prelude.{◌≡◌, ℕ, List, [], ◌∷◌, ◌++◌, Option, Some, option_map, Result, Ok, Err}
use Rattle.std.specs.Option.{option_to_list}
use Rattle.des_base.specs.Outside.{Output, Took, TookFront, raised}
use Rattle.telling.specs.declared.each.Broken.{Broken}
use Rattle.telling.specs.declared.each.Broken.TheVariants.{Memory, Put}

-- ---- what is said

-- From stage s all items in turn lead to stage t, each from stage to stage with the text that it has, and these are the texts. An item may have none.
abbrev pub TellsEach : {S I : Type 0} → (S → I → S → Option (List ℕ) → Type 0) → S → List I → S → List (List ℕ) → Type 0
TellsEach goes s [] t texts = (t ≡ s) × (texts ≡ [])
TellsEach goes s (item ∷ items) t texts =
    (mid : _) × (first : Option (List ℕ)) × (rest : List (List ℕ)) × goes s item mid first × TellsEach goes mid items t rest × (texts ≡ option_to_list first ++ rest)

-- The items before one of them led to this stage, with these texts.
pub record ComesTo {S I : Type 0} (goes : S → I → S → Option (List ℕ) → Type 0) (s : S) (items : List I) (item : I) (t : S) (texts : List (List ℕ)) : Type 0 where
  pub front : List I
  pub others : List I
  pub split : items ≡ front ++ item ∷ others
  pub told : TellsEach goes s front t texts

-- It ran out of memory at one of the items: these are the texts of those before it, and this one led to stage t without a text.
pub record BreaksOff {S I : Type 0} (goes : S → I → S → Option (List ℕ) → Type 0) (undone : S → I → S → Type 0) (s : S) (items : List I) (t : S) (texts : List (List ℕ)) : Type 0 where
  pub item : I
  pub mid : S
  pub comes : ComesTo goes s items item mid texts
  pub untold : undone mid item t

-- The last text is that of one of the items, which led to stage t. No item behind it was told.
pub record IsCutShort {S I : Type 0} (goes : S → I → S → Option (List ℕ) → Type 0) (s : S) (items : List I) (t : S) (texts : List (List ℕ)) : Type 0 where
  pub item : I
  pub mid : S
  pub earlier : List (List ℕ)
  pub last : List ℕ
  pub comes : ComesTo goes s items item mid earlier
  pub told : goes mid item t (Some last)
  pub are : texts ≡ earlier ++ last ∷ []

-- what is said by the way that it ends: of all items, or of those that it came to
abbrev pub TellsUpTo : {S I : Type 0} → (S → I → S → Option (List ℕ) → Type 0) → (S → I → S → Type 0) → S → List I → S → List (List ℕ) → Result (Unit {0}) Broken → Type 0
TellsUpTo goes undone s items t texts (Ok done) = TellsEach goes s items t texts
TellsUpTo goes undone s items t texts (Err Memory) = BreaksOff goes undone s items t texts
TellsUpTo goes undone s items t texts (Err Put) = IsCutShort goes s items t texts

-- ---- what is taken

-- all texts were taken but the last one, and of this a front
pub record TookCut (texts : List (List ℕ)) (before now : Output) : Type 0 where
  pub earlier : List (List ℕ)
  pub last : List ℕ
  pub mid : Output
  pub are : texts ≡ earlier ++ last ∷ []
  pub whole : Took before mid earlier
  pub front : TookFront mid now last

-- What a sink took of the texts, by the way that it ends: all, but where a put failed. Here rose says that the sink's count of faults rose.
abbrev pub TookTexts : List (List ℕ) → Output → Output → Type 0 → Result (Unit {0}) Broken → Type 0
TookTexts texts before now rose (Ok done) = Took before now texts
TookTexts texts before now rose (Err Memory) = Took before now texts
TookTexts texts before now rose (Err Put) = rose × TookCut texts before now

-- ---- both

-- texts are said of the items, and taken, by the way that it ends
pub record EachGoes {S I : Type 0} (goes : S → I → S → Option (List ℕ) → Type 0) (undone : S → I → S → Type 0) (s : S) (items : List I) (t : S) (before now : Output) (rose : Type 0) (result : Result (Unit {0}) Broken) : Type 0 where
  pub texts : List (List ℕ)
  pub says : TellsUpTo goes undone s items t texts result
  pub put : TookTexts texts before now rose result

-- ---- what fails

-- A count went up by one where this is so, and stays where it isn't: of puts that failed there was one then, and else none. Nothing is said of a count that isn't told.
pub record RisesExactlyIf (P : Type 0) (before now : Option ℕ) : Type 0 where
  pub rises : P → now ≡ option_map raised before
  pub stays : (P → ⊥) → now ≡ before
