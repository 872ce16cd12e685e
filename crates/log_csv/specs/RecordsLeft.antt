-- The records that a reader of comma-separated fields has left.
use Rattle.std.specs.Prelude.{◌≡◌, ◌+◌, ℕ, Bool, true, false, List, [], ◌∷◌, length, Option, Some}
use Rattle.std.specs.Borrow.{Bor}
use Rattle.std.specs.Option.{option_map_or}
use Rattle.csv.specs.Reading.{default_config, is_flexible, reader_config, reader_state, reader_trim, Ready, records_from, source_of}
use Rattle.csv.specs.declared.parser.State.{State}
use Rattle.csv.specs.declared.reader.Reader.{Reader}
use Rattle.csv.specs.declared.reader.Trim.TheVariants as trim

-- the bytes that the reader has left
abbrev pub text_left : Reader (Bor (List ℕ)) → Option (List ℕ)
text_left rdr = source_of (λ (s : Bor (List ℕ)). Some s.now) rdr

-- all records from a state on
abbrev pub records_in : State → List ℕ → List (List (List ℕ))
records_in state text = records_from default_config (length text + 1) state text

-- the records that the reader has left, each as its fields: none if it has failed
abbrev pub records_left : Reader (Bor (List ℕ)) → List (List (List ℕ))
records_left rdr = option_map_or (λ text. records_in (reader_state rdr) text) (text_left rdr) []

-- a reader of the plain format that hasn't failed
pub record IsPlain (rdr : Reader (Bor (List ℕ))) : Type 0 where
  pub trim : reader_trim rdr ≡ trim.None
  pub ready : Ready rdr
  pub config : reader_config rdr ≡ default_config
  pub flexible : is_flexible rdr ≡ true
  pub text : List ℕ
  pub known : text_left rdr ≡ Some text

-- whether there was a record, its fields, and the records after it
abbrev pub IsNextRecord : List (List (List ℕ)) → Bool → List (List ℕ) → List (List (List ℕ)) → Type 0
IsNextRecord old true fields new = old ≡ fields ∷ new
IsNextRecord old false fields new = old ≡ []
