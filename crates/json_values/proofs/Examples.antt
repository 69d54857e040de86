-- Worked examples.
use mathlib.Core.Path.{◌≡◌, refl}
use mathlib.Core.List.{[], ◌∷◌}
use Rattle.std.specs.Prelude.{None, Some}
use Rattle.ascii.specs.Ascii.{is_digit, text}
use Rattle.json_text.specs.Reader.{more, behind, ◌>>=◌, give, fail, end_of_text, peek, satisfy, one_byte, count_while, many, word, if_next◌then◌else◌, lead◌to◌then◌else◌, either_read, ◌or◌, mapped, ◌giving◌, as_written, verbatim, counted}
use Rattle.json_text.specs.Utf8.{multibyte_char, encode_utf8}
use Rattle.json_text.specs.Lexical.{is_blank, digits, int, frac, exp, read_number, unescaped, hex_value, hex_digit, hex4, low_after, code_point, escaped, read_char, read_chars, read_string}
use Rattle.json_values.specs.Json.{literal, number, string, array, object, no_item, item, no_member, member, to_items, to_members, items, listed, read_member, read_array, read_object, value_of, read_value, read_text, value_read, read_json}

-- opens every definition
everything : Unit {0}
unfolding is_digit more behind ◌>>=◌ give fail end_of_text peek satisfy count_while many word if_next◌then◌else◌ lead◌to◌then◌else◌ either_read ◌or◌ mapped ◌giving◌ as_written verbatim counted multibyte_char encode_utf8 to_items to_members is_blank digits int frac exp read_number unescaped hex_value one_byte hex_digit hex4 low_after code_point escaped read_char read_chars read_string items listed read_member read_array read_object value_of read_value read_text value_read read_json
everything = tt

nested : read_json (text " [1, {\"a\": [true, null]}, -2.5e+3 ] ") ≡ Some (array (item (number (text "1")) (item (object (member (text "a") (array (item literal (item literal no_item))) no_member)) (item (number (text "-2.5e+3")) no_item))))
unfolding everything
nested = refl

escapes : read_json (text "\"a\\n\\u00e9\\ud834\\udd1e\\/\"") ≡ Some (string (0x61 ∷ 0x0A ∷ 0xC3 ∷ 0xA9 ∷ 0xF0 ∷ 0x9D ∷ 0x84 ∷ 0x9E ∷ 0x2F ∷ []))
unfolding everything
escapes = refl

trailing_comma : read_json (text "[1,]") ≡ None
unfolding everything
trailing_comma = refl

leading_zero : read_json (text "[01]") ≡ None
unfolding everything
leading_zero = refl

no_digit : read_json (text "[1.]") ≡ None
unfolding everything
no_digit = refl

lone_high : read_json (text "\"\\ud834\"") ≡ None
unfolding everything
lone_high = refl

lone_low : read_json (text "\"\\udd1e\"") ≡ None
unfolding everything
lone_low = refl

control : read_json (0x22 ∷ 0x0A ∷ 0x22 ∷ []) ≡ None
unfolding everything
control = refl

-- U+D800 as three bytes, an overlong slash, and U+10FFFF
surrogate_bytes : read_json (0x22 ∷ 0xED ∷ 0xA0 ∷ 0x80 ∷ 0x22 ∷ []) ≡ None
unfolding everything
surrogate_bytes = refl

overlong : read_json (0x22 ∷ 0xC0 ∷ 0xAF ∷ 0x22 ∷ []) ≡ None
unfolding everything
overlong = refl

last_character : read_json (0x22 ∷ 0xF4 ∷ 0x8F ∷ 0xBF ∷ 0xBF ∷ 0x22 ∷ []) ≡ Some (string (0xF4 ∷ 0x8F ∷ 0xBF ∷ 0xBF ∷ []))
unfolding everything
last_character = refl

sixteen : read_json (text "[[[[[[[[[[[[[[[[]]]]]]]]]]]]]]]]") ≡ Some (array (item (array (item (array (item (array (item (array (item (array (item (array (item (array (item (array (item (array (item (array (item (array (item (array (item (array (item (array (item (array no_item) no_item)) no_item)) no_item)) no_item)) no_item)) no_item)) no_item)) no_item)) no_item)) no_item)) no_item)) no_item)) no_item)) no_item)) no_item))
unfolding everything
sixteen = refl

seventeen : read_json (text "[[[[[[[[[[[[[[[[[]]]]]]]]]]]]]]]]]") ≡ None
unfolding everything
seventeen = refl
