-- The grammar without UTF-8: an unescaped character of a string is any one byte from 0x20 on but the quotation mark and the backslash.
-- proofs/Utf8First.antt: read_json reads what this reads, where the whole text is UTF-8, and nothing else.
use Rattle.std.specs.Prelude.{[], ◌++◌, ℕ, zero, suc, Option}
use Rattle.ascii.specs.Ascii.{Bytes, text}
use Rattle.json_text.specs.Reader.{Reader, ◌>>=◌, ◌>>◌, give, fail, end_of_text, one_of, word, if_next◌then◌else◌, lead◌to◌then◌else◌, ◌giving◌, verbatim, counted}
use Rattle.json_text.specs.Utf8.{encode_utf8}
use Rattle.json_text.specs.Lexical.{ws, read_number, escaped}
use Rattle.json_values.specs.Json.{Json, literal, number, string, array, object, to_items, to_members, listed, value_read}

unfoldable pub raw_unescaped : Reader (Unit {0})
raw_unescaped =
    lead 0x20 to 0x21 then give tt else
    lead 0x23 to 0x5B then give tt else
    lead 0x5D to 0xFF then give tt else
    fail

-- what follows is as in Lexical and Json

unfoldable pub raw_char : Reader Bytes
raw_char = if_next text "\\" then one_of (text "\\") >> escaped giving encode_utf8 else verbatim raw_unescaped

unfoldable pub raw_chars : ℕ → Reader Bytes
raw_chars zero = fail
raw_chars (suc n) = if_next text "\"" then one_of (text "\"") >> give [] else do
  c ← raw_char
  cs ← raw_chars n
  give (c ++ cs)

unfoldable pub raw_string : Reader Bytes
raw_string = one_of (text "\"") >> counted raw_chars

unfoldable pub raw_member : Reader Json → Reader (Bytes × Json)
raw_member value = do
  name ← raw_string
  ws
  one_of (text ":")
  ws
  value giving λ v. (name, v)

unfoldable pub raw_array : Reader Json → Reader Json
raw_array value = one_of (text "[") >> listed value (text "]") giving λ vs. array (to_items vs)

unfoldable pub raw_object : Reader Json → Reader Json
raw_object value = one_of (text "{") >> listed (raw_member value) (text "}") giving λ ms. object (to_members ms)

unfoldable pub raw_value_of : Reader Json → Reader Json → Reader Json
raw_value_of read_array read_object =
    if_next text "f" then word (text "false") giving (λ u. literal) else
    if_next text "n" then word (text "null") giving (λ u. literal) else
    if_next text "t" then word (text "true") giving (λ u. literal) else
    if_next text "{" then read_object else
    if_next text "[" then read_array else
    if_next text "\"" then raw_string giving string else
    verbatim read_number giving number

unfoldable pub raw_value : ℕ → Reader Json
raw_value zero = raw_value_of fail fail
raw_value (suc d) = raw_value_of (raw_array (raw_value d)) (raw_object (raw_value d))

unfoldable pub raw_text : Reader Json
raw_text = do
  ws
  v ← raw_value 16
  ws
  end_of_text
  give v

unfoldable pub raw_json : Bytes → Option Json
raw_json s = value_read (raw_text s)
