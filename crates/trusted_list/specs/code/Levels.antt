-- One level of a body: an array or an object, by what stands between its brackets.
use Rattle.std.specs.Prelude.{◌≡◌, List, ℕ, None}
use Rattle.ascii.specs.Ascii.{Bytes}
use Rattle.json_text.specs.Reader.{got, Reader}
use Rattle.json_text.specs.code.Places.{read_at}
use Rattle.json_values.specs.Json.{Json, array, object, to_items, to_members, read_member, read_value}
use Rattle.json_values.specs.code.Kinds.{Item}
use Rattle.trusted_list.specs.TrustedList.{as_object, as_array}
use Rattle.json_values.specs.declared.Kind.{Kind}
use Rattle.json_values.specs.declared.Kind.TheVariants.{Array, Object}
use Rattle.trusted_list.specs.declared.Slot.{Slot}
use Rattle.trusted_list.specs.declared.Slot.TheVariants.{Absent, Other, Spoiled}
use Rattle.trusted_list.specs.declared.Two.{Two}

-- ---- an array or an object

-- what is held before the first element
unfoldable pub start : Kind → Two
start Array = record { first = Other; second = Absent }
start Object = record { first = Absent; second = Absent }

-- an element, in whose value so many arrays and objects may be open together
abbrev pub read_item : (kind : Kind) → ℕ → Reader (Item kind)
read_item Array left = read_value left
read_item Object left = read_member (read_value left)

-- the value with these elements
abbrev pub whole : (kind : Kind) → List (Item kind) → Json
whole Array vs = array (to_items vs)
whole Object ms = object (to_members ms)

-- a value of another kind
abbrev pub Another : Kind → Json → Type 0
Another Array v = as_array v ≡ None
Another Object v = as_object v ≡ None

-- ---- from what is held of the elements to what is held of the value

-- where x stands for the elements of a value at the place i, by R, y stands for the value, by P
pub record Closes (kind : Kind) (left i : ℕ) (R : Bytes → List (Item kind) → Two → Type 0) (x : Two) (P : Bytes → Json → Slot → Type 0) (y : Slot) : Type 0 where
  pub is : (s : Bytes) (j : ℕ) (es : List (Item kind)) → read_at (read_value left) s i ≡ got (whole kind es) j → R s es x → P s (whole kind es) y

-- a value of another kind has not the shape: it is spoiled
pub record ElseSpoiled (kind : Kind) (P : Json → Slot → Type 0) : Type 0 where
  pub is : (v : Json) → Another kind v → P v Spoiled
