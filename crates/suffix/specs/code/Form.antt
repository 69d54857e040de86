-- The form of what is read of a line.
use Rattle.std.specs.Prelude.{if◌then◌else◌}
use Rattle.ascii.specs.Ascii.{Bytes, same, begins_with, text}
use Rattle.suffix.specs.Suffix.{is_skipped}
use Rattle.suffix.specs.declared.Form.{Form}
use Rattle.suffix.specs.declared.Form.TheVariants.{Nothing, Star, Wild, Exception, Name}

-- nothing or a comment; `*`; `*.` and a name; `!` and a name; a name
unfoldable pub form_of : Bytes → Form
form_of w =
    if is_skipped w then Nothing else
    if same w (text "*") then Star else
    if begins_with (text "*.") w then Wild else
    if begins_with (text "!") w then Exception else
    Name
