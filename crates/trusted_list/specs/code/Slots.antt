-- What the one pass over a body holds of the values that it reads, and how that stands to the tree.
use Rattle.std.specs.Prelude.{◌≡◌, List, [], ◌∷◌, ◌++◌, Bool, true, false, ◌&&◌, not, ℕ, eqb, if◌then◌else◌, Option, None, Some, Result, Ok, Err}
use Rattle.ascii.specs.Ascii.{Bytes, is_none, all}
use Rattle.json_text.specs.code.Places.{read_at}
use Rattle.json_values.specs.Json.{Json, to_items, to_members, read_value, value_read}
use Rattle.refusals.specs.declared.Refusal.{Refusal}
use Rattle.trusted_list.specs.TrustedList.{Version, Listing, values_of, as_string, read_number16, read_version, read_ids, read_listing, listings, read_listings, read_list, is_wanted, select, list_refusal, entries}
use Rattle.trusted_list.specs.declared.Slot.{Slot}
use Rattle.trusted_list.specs.declared.Slot.TheVariants.{Absent, Held, Other, Spoiled}
use Rattle.trusted_list.specs.declared.Two.{Two}

-- ---- elements

-- x stands for the elements before a, and y for those and a
pub record Extends {A B : Type 0} (R : List A → B → Type 0) (x : B) (a : A) (y : B) : Type 0 where
  pub is : (done : List A) → R done x → R (done ++ a ∷ []) y

-- ---- members

-- what is held of a value, which came
pub record Came (P : Json → Slot → Type 0) (v : Json) (x : Slot) : Type 0 where
  pub is : P v x
  pub there : x ≡ Absent → ⊥

-- the values of one name: it stands once, or what is held says that it does not
pub data Once (P : Json → Slot → Type 0) : List Json → Slot → Type 0 where
  never : Once P [] Absent
  one : {v : Json} {x : Slot} → Came P v x → Once P (v ∷ []) x
  again : {v w : Json} {vs : List Json} → Once P (v ∷ w ∷ vs) Spoiled

-- a second member of one name spoils the first
unfoldable pub fill : Slot → Slot → Slot
fill Absent y = y
fill (Held p) y = Spoiled
fill Other y = Spoiled
fill Spoiled y = Spoiled

-- what is held, with what is held of a value of the first name more, or of the second
unfoldable pub first_filled : Two → Option (ℕ × Slot) → Option (ℕ × Two)
first_filled x None = None
first_filled x (Some p) = Some (p.0, record { first = fill x.first p.1; second = x.second })

unfoldable pub second_filled : Two → Option (ℕ × Slot) → Option (ℕ × Two)
second_filled x None = None
second_filled x (Some p) = Some (p.0, record { first = x.first; second = fill x.second p.1 })

-- one name of an object
pub record Name (a : Bytes) (P : Json → Slot → Type 0) (ms : List (Bytes × Json)) (x : Two) : Type 0 where
  pub is : Once P (values_of a (to_members ms)) x.first

-- two names of an object
pub record Names (a b : Bytes) (P Q : Json → Slot → Type 0) (ms : List (Bytes × Json)) (x : Two) : Type 0 where
  pub first_is : Once P (values_of a (to_members ms)) x.first
  pub second_is : Once Q (values_of b (to_members ms)) x.second

-- ---- `major`, `minor`

unfoldable pub number_slot : Option ℕ → Slot
number_slot None = Spoiled
number_slot (Some n) = Held n

pub record NumberIs (v : Json) (x : Slot) : Type 0 where
  pub is : x ≡ number_slot (read_number16 v)

-- ---- `version`

-- Held 0 where it is the wanted one
unfoldable pub version_slot : ℕ → ℕ → Option Version → Slot
version_slot major minor None = Spoiled
version_slot major minor (Some v) = if is_wanted major minor v then Held 0 else Other

pub record VersionIs (major minor : ℕ) (v : Json) (x : Slot) : Type 0 where
  pub is : x ≡ version_slot major minor (read_version v)

-- of what is held of `major` and `minor`
unfoldable pub version_of : ℕ → ℕ → Slot → Slot → Slot
version_of major minor (Held a) (Held b) = if eqb a major && eqb b minor then Held 0 else Other
version_of major minor (Held a) Absent = Spoiled
version_of major minor (Held a) Other = Spoiled
version_of major minor (Held a) Spoiled = Spoiled
version_of major minor Absent y = Spoiled
version_of major minor Other y = Spoiled
version_of major minor Spoiled y = Spoiled

-- ---- `ids`: held by the place of its array

unfoldable pub ids_at : Bytes → ℕ → Option (List Bytes)
ids_at s p = ids_in (value_read (read_at (read_value 13) s p))
  where
    ids_in : Option Json → Option (List Bytes)
    ids_in None = None
    ids_in (Some v) = read_ids v

pub data IdsIs (s : Bytes) (v : Json) : Slot → Type 0 where
  no_ids : read_ids v ≡ None → IdsIs s v Spoiled
  ids_held : {xs : List Bytes} {p : ℕ} → read_ids v ≡ Some xs → ids_at s p ≡ Some xs → IdsIs s v (Held p)

unfoldable pub is_string : Json → Bool
is_string v = not (is_none (as_string v))

-- the items so far are all strings
unfoldable pub strings_slot : List Json → Slot
strings_slot vs = if all is_string vs then Other else Spoiled

pub record Strings (vs : List Json) (x : Two) : Type 0 where
  pub is : x.first ≡ strings_slot vs

-- of what is held of the items of the array at p
unfoldable pub ids_of : ℕ → Slot → Slot
ids_of p Other = Held p
ids_of p Absent = Spoiled
ids_of p (Held q) = Spoiled
ids_of p Spoiled = Spoiled

-- ---- an object of the list

pub data ListingIs (s : Bytes) (major minor : ℕ) (v : Json) : Slot → Type 0 where
  no_listing : read_listing v ≡ None → ListingIs s major minor v Spoiled
  not_wanted : {l : Listing} → read_listing v ≡ Some l → is_wanted major minor l.version ≡ false → ListingIs s major minor v Other
  the_wanted : {l : Listing} {p : ℕ} → read_listing v ≡ Some l → is_wanted major minor l.version ≡ true → ids_at s p ≡ Some l.ids → ListingIs s major minor v (Held p)

-- of what is held of `version` and `ids`
unfoldable pub listing_of : Slot → Slot → Slot
listing_of (Held n) (Held p) = Held p
listing_of Other (Held p) = Other
listing_of (Held n) Absent = Spoiled
listing_of (Held n) Other = Spoiled
listing_of (Held n) Spoiled = Spoiled
listing_of Other Absent = Spoiled
listing_of Other Other = Spoiled
listing_of Other Spoiled = Spoiled
listing_of Absent y = Spoiled
listing_of Spoiled y = Spoiled

-- ---- the list

-- the place of the selected ids; Other where nothing is selected
pub data Selects (s : Bytes) (major minor : ℕ) : Option (List Listing) → Slot → Type 0 where
  misshapen : Selects s major minor None Spoiled
  nothing : {ls : List Listing} → select major minor ls ≡ None → Selects s major minor (Some ls) Other
  selects : {ls : List Listing} {xs : List Bytes} {p : ℕ} → select major minor ls ≡ Some xs → ids_at s p ≡ Some xs → Selects s major minor (Some ls) (Held p)

pub record Listings (s : Bytes) (major minor : ℕ) (vs : List Json) (x : Two) : Type 0 where
  pub is : Selects s major minor (listings (to_items vs)) x.first

pub record ListIs (s : Bytes) (major minor : ℕ) (v : Json) (x : Slot) : Type 0 where
  pub is : Selects s major minor (read_listings v) x

-- the first selected stays; what is misshapen spoils all
unfoldable pub earlier : Slot → Slot → Slot
earlier Other y = y
earlier (Held p) Absent = Spoiled
earlier (Held p) (Held q) = Held p
earlier (Held p) Other = Held p
earlier (Held p) Spoiled = Spoiled
earlier Absent y = Spoiled
earlier Spoiled y = Spoiled

-- ---- the body

-- Absent where there is no `trustedFacets`
pub data BodyIs (s : Bytes) (major minor : ℕ) (v : Json) : Slot → Type 0 where
  no_list : read_list v ≡ None → BodyIs s major minor v Absent
  list_is : {x : Slot} → Selects s major minor (read_list v) x → BodyIs s major minor v x

-- the answer for a body: its refusal, or the place of the selected ids
pub data Answers (major minor : ℕ) (body : Bytes) : Result ℕ Refusal → Type 0 where
  is_refused : {r : Refusal} → list_refusal major minor body ≡ Some r → Answers major minor body (Err r)
  is_selected : {p : ℕ} → list_refusal major minor body ≡ None → ids_at body p ≡ Some (entries major minor body) → Answers major minor body (Ok p)
