-- The hexadecimal digits among all 256 bytes (document 02, S-3; RFC 8259, section 7): one statement about `hex_value`.
use Rattle.std.specs.Prelude.{◌≡◌, not, List, [], ◌∷◌, map, ℕ, zero, suc, ◌+◌, length, Some}
use Rattle.ascii.specs.Ascii.{Bytes, filter_by, is_none, text}
use Rattle.json_text.specs.Lexical.{hex_value}

-- n bytes, from b on
abbrev pub bytes_from : ℕ → ℕ → Bytes
bytes_from b zero = []
bytes_from b (suc n) = b ∷ bytes_from (b + 1) n

abbrev pub hex_digits : Bytes
hex_digits = text "0123456789ABCDEFabcdef"

abbrev pub their_numbers : List ℕ
their_numbers = 0 ∷ 1 ∷ 2 ∷ 3 ∷ 4 ∷ 5 ∷ 6 ∷ 7 ∷ 8 ∷ 9 ∷ 10 ∷ 11 ∷ 12 ∷ 13 ∷ 14 ∷ 15 ∷ 10 ∷ 11 ∷ 12 ∷ 13 ∷ 14 ∷ 15 ∷ []

-- of all bytes just these 22 give a number, each its own; 234 give none
abbrev pub HexDigits : Type 0
HexDigits =
    (filter_by (λ b. not (is_none (hex_value b))) (bytes_from 0 256) ≡ hex_digits) ×
    (map hex_value hex_digits ≡ map Some their_numbers) ×
    (length hex_digits ≡ 22) ×
    (length (filter_by (λ b. is_none (hex_value b)) (bytes_from 0 256)) ≡ 234)
