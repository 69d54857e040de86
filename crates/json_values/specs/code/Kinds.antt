-- The two kinds of JSON values that have elements: arrays and objects.
use Rattle.std.specs.Prelude.{ℕ}
use Rattle.ascii.specs.Ascii.{Bytes}
use Rattle.json_values.specs.Json.{Json}
use Rattle.json_values.specs.declared.Kind.{Kind}
use Rattle.json_values.specs.declared.Kind.TheVariants.{Array, Object}

-- an element: a value, or a member
abbrev pub Item : Kind → Type 0
Item Array = Json
Item Object = Bytes × Json

unfoldable pub opening : Kind → ℕ
opening Array = 91
opening Object = 123

unfoldable pub closing : Kind → ℕ
closing Array = 93
closing Object = 125
