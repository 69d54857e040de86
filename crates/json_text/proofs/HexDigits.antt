-- The statement about hexadecimal digits holds, by computation. Assumes nothing.
use mathlib.Core.Path.{refl}
use Rattle.ascii.specs.Ascii.{filter_by}
use Rattle.json_text.specs.Lexical.{hex_value}
use Rattle.json_text.specs.HexDigits.{HexDigits}

pub hex_digits_lem : HexDigits
unfolding hex_value filter_by
hex_digits_lem = (refl, refl, refl, refl)
