-- What a reader finds at a place of a text, and the answers of the code.
use Rattle.std.specs.Prelude.{◌≡◌, slice_get, Bool, false, ◌++◌, ℕ, leb, length, drop, if◌then◌else◌, Option, None, Some}
use Rattle.ascii.specs.Ascii.{Bytes, same}
use Rattle.json_text.specs.Reader.{Read, got, bad, Reader, more, peek}
use Rattle.json_text.specs.Lexical.{hex_value}

-- what p reads at the place i of s, and the place behind it
unfoldable pub read_at : {A : Type 0} → Reader A → Bytes → ℕ → Read A
read_at p s i = more i (p (drop i s))

unfoldable pub place_of : {A : Type 0} → Read A → Option ℕ
place_of (got a j) = Some j
place_of bad = None

unfoldable pub point_of : Read ℕ → Option (ℕ × ℕ)
point_of (got c j) = Some (c, j)
point_of bad = None

-- b is the byte at the place i, if there is one
pub record Peeked (s : Bytes) (i : ℕ) (b : Option ℕ) : Type 0 where
  pub is : b ≡ slice_get s i

-- the number of the hexadecimal digit at the place i
unfoldable pub hex_at : Bytes → ℕ → Option ℕ
hex_at s i = hex_value (peek (drop i s))

-- ---- decoded strings

-- at most 512 bytes are held; none: there are more, or the string is wrong
unfoldable pub fit : Bytes → Option Bytes
fit t = if leb (length t) 512 then Some t else None

unfoldable pub content_of : Read Bytes → Option Bytes
content_of (got t j) = fit t
content_of bad = None

-- more bytes behind those that are held
unfoldable pub push : Option Bytes → Bytes → Option Bytes
push None x = None
push (Some t) x = fit (t ++ x)

unfoldable pub push_read : Option Bytes → Read Bytes → Option Bytes
push_read h (got x j) = push h x
push_read h bad = None

unfoldable pub is_text : Option Bytes → Bytes → Bool
is_text None name = false
is_text (Some t) name = same t name

-- ---- while a string is decoded

-- what is read is put behind what is held, and r is the place behind it; none: it is wrong
pub record PutsRead (before : Option Bytes) (read : Read Bytes) (after : Option Bytes) (r : Option ℕ) : Type 0 where
  pub place : r ≡ place_of read
  pub is : {x : Bytes} {j : ℕ} → read ≡ got x j → after ≡ push before x
