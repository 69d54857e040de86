-- Going through the selected entries one by one.
use Rattle.std.specs.Prelude.{List, [], ◌∷◌, ◌≡◌, ℕ, Option, Some, None}
use Rattle.ascii.specs.Ascii.{Bytes, text}
use Rattle.json_text.specs.Reader.{got, Reader, ◌>>◌, give, fail, one_of, if_next◌then◌else◌}
use Rattle.json_text.specs.Lexical.{ws, read_string}
use Rattle.json_text.specs.code.Places.{read_at, place_of}

-- behind the opening bracket: blanks, and an array that is not at its end
unfoldable pub to_first : Reader (Unit {0})
to_first = one_of (text "[") >> ws >> (if_next text "]" then fail else give tt)

-- a comma with blanks around it
unfoldable pub to_next : Reader (Unit {0})
to_next = ws >> one_of (text ",") >> ws

-- the place of the first string of the array at a place; none where it has none
unfoldable pub first_entry : Bytes → ℕ → Option ℕ
first_entry s p = place_of (read_at to_first s p)

-- the place of the string behind one that ends at a place; none where it is the last
unfoldable pub next_entry : Bytes → ℕ → Option ℕ
next_entry s j = place_of (read_at to_next s j)

-- the strings to come, in order, where the next of them stands at a place
pub data Coming (s : Bytes) : Option ℕ → List Bytes → Type 0 where
  over : Coming s None []
  comes : {i j : ℕ} {e : Bytes} {es : List Bytes} → read_at read_string s i ≡ got e j → Coming s (next_entry s j) es → Coming s (Some i) (e ∷ es)
