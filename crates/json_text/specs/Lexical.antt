-- The lexical grammar of JSON (RFC 8259, sections 2, 6 and 7), with its ABNF above each definition.
use Rattle.std.specs.Prelude.{[], ◌++◌, Bool, ◌||◌, ℕ, zero, suc, ◌+◌, ◌-◌, ◌*◌, eqb, if◌then◌else◌, Option, None, Some}
use Prim.Native.Char.{code}
use Rattle.ascii.specs.Ascii.{Bytes, between, is_digit, text}
use Rattle.json_text.specs.Reader.{Reader, ◌>>=◌, ◌>>◌, give, fail, peek, satisfy, one_byte, one_of, byte_range, many, word, if_next◌then◌else◌, lead◌to◌then◌else◌, ◌or◌, optional, ◌giving◌, verbatim, counted}
use Rattle.json_text.specs.Utf8.{multibyte_char, encode_utf8}

-- ---- section 2: blanks

unfoldable pub is_blank : ℕ → Bool
is_blank b = eqb b 0x20 || eqb b 0x09 || eqb b 0x0A || eqb b 0x0D

-- ws = *( %x20 / %x09 / %x0A / %x0D )
abbrev pub ws : Reader (Unit {0})
ws = many is_blank

-- ---- section 6: numbers

-- 1*DIGIT ; DIGIT = %x30-39
unfoldable pub digits : Reader (Unit {0})
digits = satisfy is_digit >> many is_digit

-- int = zero / ( digit1-9 *DIGIT )
unfoldable pub int : Reader (Unit {0})
int = one_of (text "0") or byte_range 0x31 0x39 >> many is_digit

-- frac = decimal-point 1*DIGIT
unfoldable pub frac : Reader (Unit {0})
frac = one_of (text ".") >> digits

-- exp = e [ minus / plus ] 1*DIGIT
unfoldable pub exp : Reader (Unit {0})
exp = one_of (text "Ee") >> optional (one_of (text "+-")) >> digits

-- number = [ minus ] int [ frac ] [ exp ]
unfoldable pub read_number : Reader (Unit {0})
read_number = optional (one_of (text "-")) >> int >> optional frac >> optional exp

-- ---- section 7: strings

-- unescaped = %x20-21 / %x23-5B / %x5D-10FFFF
unfoldable pub unescaped : Reader (Unit {0})
unescaped =
    lead 0x20 to 0x21 then give tt else
    lead 0x23 to 0x5B then give tt else
    lead 0x5D to 0x7F then give tt else
    multibyte_char

-- HEXDIG = DIGIT / "A" / "B" / "C" / "D" / "E" / "F" (RFC 5234, B.1), letters in either case (section 7): its number;
-- none for any other byte
unfoldable pub hex_value : ℕ → Option ℕ
hex_value b =
    if between (code "0") (code "9") b then Some (b - code "0") else
    if between (code "A") (code "F") b then Some (b - code "A" + 10) else
    if between (code "a") (code "f") b then Some (b - code "a" + 10) else
    None

unfoldable pub hex_digit : Reader ℕ
hex_digit s = one_byte (hex_value (peek s))

-- 4HEXDIG
unfoldable pub hex4 : Reader ℕ
hex4 = do
  a ← hex_digit
  b ← hex_digit
  c ← hex_digit
  d ← hex_digit
  give (a * 0x1000 + b * 0x100 + c * 0x10 + d)

-- after a high surrogate: the low one, and the code point of the two
unfoldable pub low_after : ℕ → Reader ℕ
low_after high = do
  word (text "\\u")
  low ← hex4
  if between 0xDC00 0xDFFF low then give (0x10000 + (high - 0xD800) * 0x400 + (low - 0xDC00)) else fail

-- after `\u`: a code point, no surrogate but in a pair
unfoldable pub code_point : Reader ℕ
code_point = do
  c ← hex4
  if between 0xD800 0xDBFF c then low_after c else
      if between 0xDC00 0xDFFF c then fail else
      give c

-- %x22 / %x5C / %x2F / %x62 / %x66 / %x6E / %x72 / %x74 / %x75 4HEXDIG, after a backslash: the code point that is meant
unfoldable pub escaped : Reader ℕ
escaped =
    lead 0x22 to 0x22 then give 0x22 else
    lead 0x5C to 0x5C then give 0x5C else
    lead 0x2F to 0x2F then give 0x2F else
    lead 0x62 to 0x62 then give 0x08 else
    lead 0x66 to 0x66 then give 0x0C else
    lead 0x6E to 0x6E then give 0x0A else
    lead 0x72 to 0x72 then give 0x0D else
    lead 0x74 to 0x74 then give 0x09 else
    lead 0x75 to 0x75 then code_point else
    fail

-- char = unescaped / escape ( .. ): the bytes that it means in UTF-8
unfoldable pub read_char : Reader Bytes
read_char = if_next text "\\" then one_of (text "\\") >> escaped giving encode_utf8 else verbatim unescaped

-- *char quotation-mark
unfoldable pub read_chars : ℕ → Reader Bytes
read_chars zero = fail
read_chars (suc n) = if_next text "\"" then one_of (text "\"") >> give [] else do
  c ← read_char
  cs ← read_chars n
  give (c ++ cs)

-- string = quotation-mark *char quotation-mark
unfoldable pub read_string : Reader Bytes
read_string = one_of (text "\"") >> counted read_chars
