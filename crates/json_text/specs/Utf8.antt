-- UTF-8 (RFC 3629).
use Rattle.std.specs.Prelude.{[], ◌∷◌, Bool, true, false, ℕ, zero, suc, ◌+◌, ◌/◌, ◌%◌, leb, ltb, if◌then◌else◌}
use Rattle.ascii.specs.Ascii.{Bytes, between}
use Rattle.json_text.specs.Reader.{Reader, ◌>>◌, fail, byte_range, lead◌to◌then◌else◌}

-- UTF8-tail = %x80-BF
abbrev pub utf8_tail : Reader (Unit {0})
utf8_tail = byte_range 0x80 0xBF

-- a byte from lo to hi and one UTF8-tail
abbrev pub then_tail : ℕ → ℕ → Reader (Unit {0})
then_tail lo hi = byte_range lo hi >> utf8_tail

-- a byte from lo to hi and two
abbrev pub then_tails : ℕ → ℕ → Reader (Unit {0})
then_tails lo hi = byte_range lo hi >> utf8_tail >> utf8_tail

-- UTF8-2 / UTF8-3 / UTF8-4 (RFC 3629, section 4)
unfoldable pub multibyte_char : Reader (Unit {0})
multibyte_char =
    lead 0xC2 to 0xDF then utf8_tail else
    lead 0xE0 to 0xE0 then then_tail 0xA0 0xBF else
    lead 0xE1 to 0xEC then then_tail 0x80 0xBF else
    lead 0xED to 0xED then then_tail 0x80 0x9F else
    lead 0xEE to 0xEF then then_tail 0x80 0xBF else
    lead 0xF0 to 0xF0 then then_tails 0x90 0xBF else
    lead 0xF1 to 0xF3 then then_tails 0x80 0xBF else
    lead 0xF4 to 0xF4 then then_tails 0x80 0x8F else
    fail

-- the bytes of a code point
unfoldable pub encode_utf8 : ℕ → Bytes
encode_utf8 c =
    if ltb c 0x80 then c ∷ [] else
    if ltb c 0x800 then (0xC0 + c / 64) ∷ (0x80 + c % 64) ∷ [] else
    if ltb c 0x10000 then (0xE0 + c / 4096) ∷ (0x80 + c / 64 % 64) ∷ (0x80 + c % 64) ∷ [] else
    (0xF0 + c / 262144 % 8) ∷ (0x80 + c / 4096 % 64) ∷ (0x80 + c / 64 % 64) ∷ (0x80 + c % 64) ∷ []

-- ---- a whole text in UTF-8 (crate json_values, proofs/Utf8First.antt: read_json reads no other)

-- So many bytes are still due, the next of them from lo to hi; or the text is wrong.
pub data Due : Type 0 where
  due : ℕ → ℕ → ℕ → Due
  wrong : Due

-- what a first byte asks for (RFC 3629, section 4)
unfoldable pub lead_byte : ℕ → Due
lead_byte b =
    if leb b 0x7F then due 0 0 0 else
    if between 0xC2 0xDF b then due 1 0x80 0xBF else
    if between 0xE0 0xE0 b then due 2 0xA0 0xBF else
    if between 0xE1 0xEC b then due 2 0x80 0xBF else
    if between 0xED 0xED b then due 2 0x80 0x9F else
    if between 0xEE 0xEF b then due 2 0x80 0xBF else
    if between 0xF0 0xF0 b then due 3 0x90 0xBF else
    if between 0xF1 0xF3 b then due 3 0x80 0xBF else
    if between 0xF4 0xF4 b then due 3 0x80 0x8F else
    wrong

unfoldable pub next_byte : Due → ℕ → Due
next_byte (due zero lo hi) b = lead_byte b
next_byte (due (suc k) lo hi) b = if between lo hi b then due k 0x80 0xBF else wrong
next_byte wrong b = wrong

abbrev pub complete : Due → Bool
complete (due zero lo hi) = true
complete (due (suc k) lo hi) = false
complete wrong = false

unfoldable pub utf8_from : Due → Bytes → Bool
utf8_from d [] = complete d
utf8_from d (b ∷ s) = utf8_from (next_byte d b) s

unfoldable pub is_utf8 : Bytes → Bool
is_utf8 s = utf8_from (due 0 0 0) s
