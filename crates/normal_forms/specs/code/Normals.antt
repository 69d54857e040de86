-- What a normal form keeps, what its bytes are, and how it is made of its parts.
use Rattle.std.specs.Prelude.{[], ◌++◌, Bool, ◌&&◌, ◌||◌, not, ℕ, ◌+◌, eqb, if◌then◌else◌, Option, None, Some}
use Prim.Native.Char.{code}
use Rattle.ascii.specs.Ascii.{Bytes, is_empty, between, lower, same, text}
use Rattle.origin.specs.Origin.{Authority, shown_port}
use Rattle.origin.specs.code.Parts.{part}
use Rattle.normal_forms.specs.declared.web.Web.{Web}

-- the port is absent or 443
unfoldable pub is_hidden : Bytes → Bool
is_hidden p = is_empty p || same p (text "443")

-- what is read of the normal form: the host in lower case, the port where it is shown, no tail
unfoldable pub normal_authority : Authority → Authority
normal_authority a = record { host = lower a.host; port = if is_hidden a.port then [] else a.port; tail = [] }

-- printable ASCII that a JSON string holds as it is
unfoldable pub is_plain_byte : ℕ → Bool
is_plain_byte b = between 0x20 0x7E b && not (eqb b (code "\"")) && not (eqb b (code "\\"))

-- the port of a web origin
abbrev pub port_in : Web → Bytes
port_in w = part w.s.now (w.end + 1) w.tail

-- the normal form of a web origin by its places
unfoldable pub web_at : Web → Bytes
web_at w = text "https://" ++ lower (part w.s.now 8 w.end) ++ shown_port (port_in w)

-- the normal form of a text that is this web origin, or none
unfoldable pub normal_by : Bytes → Option Web → Bytes
normal_by s None = s
normal_by s (Some w) = web_at w
