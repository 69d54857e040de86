-- The trusted facets list: its shape and the selected entries (document 01, "The list").
use Rattle.std.specs.Prelude.{◌≡◌, List, [], ◌∷◌, Bool, ◌&&◌, ℕ, length, eqb, ltb, if◌then◌else◌, Option, None, Some, unwrap_or}
use Rattle.ascii.specs.Ascii.{Bytes, ◌>>=◌, is_none, same, text, number16}
use Rattle.json_values.specs.Json.{Json, literal, number, string, array, object, Jsons, no_item, item, Members, no_member, member, read_json}
use Rattle.refusals.specs.declared.Refusal.{Refusal}
use Rattle.refusals.specs.declared.Refusal.TheVariants.{LongList, Unreadable, Misshapen, NoVersion}

-- ---- values of one kind

abbrev pub as_object : Json → Option Members
as_object literal = None
as_object (number x) = None
as_object (string x) = None
as_object (array vs) = None
as_object (object ms) = Some ms

abbrev pub as_array : Json → Option Jsons
as_array literal = None
as_array (number x) = None
as_array (string x) = None
as_array (array vs) = Some vs
as_array (object ms) = None

abbrev pub as_string : Json → Option Bytes
as_string literal = None
as_string (number x) = None
as_string (string x) = Some x
as_string (array vs) = None
as_string (object ms) = None

abbrev pub as_number : Json → Option Bytes
as_number literal = None
as_number (number x) = Some x
as_number (string x) = None
as_number (array vs) = None
as_number (object ms) = None

-- ---- members

-- the values of the members of this name; names compare after escapes are decoded
unfoldable pub values_of : Bytes → Members → List Json
values_of name no_member = []
values_of name (member n v ms) = if same n name then v ∷ values_of name ms else values_of name ms

abbrev pub only : List Json → Option Json
only [] = None
only (v ∷ []) = Some v
only (v ∷ w ∷ vs) = None

-- the value of the member of this name, which stands once; other members are skipped
unfoldable pub once : Bytes → Members → Option Json
once name ms = only (values_of name ms)

-- ---- the shape; none: misshapen

-- written as digits only and at most 65535
unfoldable pub read_number16 : Json → Option ℕ
read_number16 v = as_number v >>= number16

pub record Version : Type 0 where
  pub major : ℕ
  pub minor : ℕ

-- an object with `major` and `minor` once each
unfoldable pub read_version : Json → Option Version
read_version v = do
  ms ← as_object v
  major ← once (text "major") ms >>= read_number16
  minor ← once (text "minor") ms >>= read_number16
  Some (record { major = major; minor = minor })

unfoldable pub strings : Jsons → Option (List Bytes)
strings no_item = Some []
strings (item v vs) = as_string v >>= λ x. strings vs >>= λ xs. Some (x ∷ xs)

-- an array of strings
unfoldable pub read_ids : Json → Option (List Bytes)
read_ids v = as_array v >>= strings

-- one object of the list
pub record Listing : Type 0 where
  pub version : Version
  pub ids : List Bytes

-- each has `version` once and `ids` once
unfoldable pub read_listing : Json → Option Listing
read_listing v = do
  ms ← as_object v
  version ← once (text "version") ms >>= read_version
  ids ← once (text "ids") ms >>= read_ids
  Some (record { version = version; ids = ids })

unfoldable pub listings : Jsons → Option (List Listing)
listings no_item = Some []
listings (item v vs) = read_listing v >>= λ x. listings vs >>= λ xs. Some (x ∷ xs)

-- an array of objects
unfoldable pub read_listings : Json → Option (List Listing)
read_listings v = as_array v >>= listings

-- an object with `trustedFacets` once
unfoldable pub read_list : Json → Option (List Listing)
read_list v = as_object v >>= λ ms. once (text "trustedFacets") ms >>= read_listings

-- ---- selection

unfoldable pub is_wanted : ℕ → ℕ → Version → Bool
is_wanted major minor v = eqb v.major major && eqb v.minor minor

-- the ids of the first object whose version equals the wanted major and minor
unfoldable pub select : ℕ → ℕ → List Listing → Option (List Bytes)
select major minor [] = None
select major minor (v ∷ vs) = if is_wanted major minor v.version then Some v.ids else select major minor vs

-- ---- a body

-- its objects, where it is readable and of the right shape
unfoldable pub read_body : Bytes → Option (List Listing)
read_body body = read_json body >>= read_list

unfoldable pub selected : ℕ → ℕ → Bytes → Option (List Bytes)
selected major minor body = read_body body >>= select major minor

-- refusals 9 to 12
unfoldable pub list_refusal : ℕ → ℕ → Bytes → Option Refusal
list_refusal major minor body =
    if ltb 65536 (length body) then Some LongList else
    if is_none (read_json body) then Some Unreadable else
    if is_none (read_body body) then Some Misshapen else
    if is_none (selected major minor body) then Some NoVersion else
    None

-- the selected list; empty where nothing is selected
unfoldable pub entries : ℕ → ℕ → Bytes → List Bytes
entries major minor body = unwrap_or (selected major minor body) []

-- a body is accepted when none of refusals 9 to 12 fits it
abbrev pub Accepted : ℕ → ℕ → Bytes → Type 0
Accepted major minor body = list_refusal major minor body ≡ None
