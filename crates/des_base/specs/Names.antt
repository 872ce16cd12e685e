-- Names: what one is, and where it stands in a list.
use Rattle.std.specs.Prelude.{◌≡◌, ⊤, ℕ, suc, ◌^◌, ◌<◌, Bool, ◌&&◌, ◌||◌, ◌==◌, nat_le, List, [], ◌∷◌, length, Option, None, Some, if◌then◌else◌, option_map, IsTrue, bytes_eq}
use Rattle.std.specs.List.{list_all, AllByRecursion}

-- an ASCII letter, a digit, `_` or `-`
unfoldable pub is_name_byte : ℕ → Bool
is_name_byte c = (nat_le 97 c && nat_le c 122) || (nat_le 65 c && nat_le c 90) || (nat_le 48 c && nat_le c 57) || c == 95 || c == 45

-- 1 to 64 such bytes
unfoldable pub is_name_text : List ℕ → Bool
is_name_text bytes = nat_le 1 (length bytes) && nat_le (length bytes) 64 && list_all is_name_byte bytes

-- the bytes are a name: the test as a proposition
abbrev pub IsName : List ℕ → Type 0
IsName bytes = IsTrue (is_name_text bytes)

-- the first place at which the test passes
abbrev pub place_by : {X : Type 0} → (X → Bool) → List X → Option ℕ
place_by p [] = None
place_by p (x ∷ xs) = if p x then Some 0 else option_map suc (place_by p xs)

-- the first place at which the text stands among the names, counted from 0
abbrev pub place_of : List ℕ → List (List ℕ) → Option ℕ
place_of text names = place_by (bytes_eq text) names

-- no text stands twice
abbrev pub AreDistinct : List (List ℕ) → Type 0
AreDistinct [] = ⊤
AreDistinct (name ∷ names) = (place_of name names ≡ None) × AreDistinct names

-- what a table of names has: names, no two alike, few enough to be counted in 32 bits
pub record AreNames (names : List (List ℕ)) : Type 0 where
  pub each : AllByRecursion IsName names
  pub distinct : AreDistinct names
  pub few : length names < 2 ^ 32
