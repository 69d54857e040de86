-- A string without escapes is its own bytes between the quotation marks.
use Rattle.std.specs.Prelude.{◌≡◌, Bool, ◌&&◌, not, ℕ, ◌+◌, ◌-◌, ◌≤◌, ◌<◌, eqb, length, take, drop, Option, Some, None}
use Prim.Native.Char.{code}
use Rattle.ascii.specs.Ascii.{Bytes, between}
use Rattle.json_text.specs.Reader.{got}
use Rattle.json_text.specs.Lexical.{read_string}
use Rattle.json_text.specs.code.Places.{Peeked, read_at, place_of}

-- neither the quotation mark nor the backslash
unfoldable pub is_plain : ℕ → Bool
is_plain b = not (eqb b (code "\"")) && not (eqb b (code "\\"))

-- a character of one byte that is not escaped
unfoldable pub is_ascii_char : ℕ → Bool
is_ascii_char b = between 0x20 0x7F b && is_plain b

-- a string stands there, and the place behind it; or it may be another one
pub data AsciiString (s : Bytes) (from : ℕ) : Option ℕ → Type 0 where
  is_short : {j : ℕ} → Peeked s from (Some 34) → Some j ≡ place_of (read_at read_string s from) → AsciiString s from (Some j)
  is_unknown : AsciiString s from None

-- a place behind the opening quotation mark, in the text
pub data Within (s : Bytes) (from : ℕ) : Option ℕ → Type 0 where
  in_the_text : {q : ℕ} → from + 1 ≤ q → q < length s → Within s from (Some q)
  no_place : Within s from None

-- the string `entry`, which ends before `end`: its closing quotation mark, and its bytes as they stand; or there may be escapes
pub data Plain (s : Bytes) (from : ℕ) (entry : Bytes) (end : ℕ) : Option ℕ → Type 0 where
  plain_string : {q : ℕ} → end ≡ q + 1 → entry ≡ take (q - (from + 1)) (drop (from + 1) s) → Plain s from entry end (Some q)
  other_string : Plain s from entry end None

-- the same of the string at a place, where there is one
pub record PlainIs (s : Bytes) (from : ℕ) (r : Option ℕ) : Type 0 where
  pub within : Within s from r
  pub is : (entry : Bytes) (end : ℕ) → read_at read_string s from ≡ got entry end → Plain s from entry end r
