-- What is held of the entry at a place, and the walk over the entries.
use Rattle.std.specs.Prelude.{◌≡◌, List, [], ◌∷◌, ℕ, zero, suc, ◌-◌, length, Option, None, Some, unwrap_or}
use Rattle.ascii.specs.Ascii.{Bytes, ◌>>=◌}
use Rattle.json_text.specs.Reader.{Read, got, bad}
use Rattle.json_text.specs.Lexical.{read_string}
use Rattle.json_text.specs.code.Places.{read_at, fit}
use Rattle.json_text.specs.code.Held.{content}
use Rattle.json_text.specs.declared.decoding.Decoded.{Decoded}
use Rattle.trusted_list.specs.code.Slots.{ids_at}
use Rattle.trusted_list.specs.code.Entries.{next_entry}
use Rattle.entries.specs.Causes.{cause}
use Rattle.entries.specs.code.Owner.{Owned}
use Rattle.label_lookup.specs.declared.Owner.{Owner}
use Rattle.entries.specs.declared.Entry.{Entry}

-- ---- one entry

-- where a string stands at a place, it is held, or found to be longer, and r is the place behind it
pub record Decodes (body : Bytes) (at : ℕ) (d : Decoded) (r : Option ℕ) : Type 0 where
  pub place : (e : Bytes) (j : ℕ) → read_at read_string body at ≡ got e j → r ≡ Some j
  pub is : (e : Bytes) (j : ℕ) → read_at read_string body at ≡ got e j → content d ≡ fit e

-- the entry e, which ends before j
pub record EntryIs (appid table body e : Bytes) (j : ℕ) (d : Decoded) (r : Entry) : Type 0 where
  -- it is held, or found to have more than 512 bytes
  pub content_is : content d ≡ fit e
  -- it is kept, or discarded for its first cause
  pub cause_is : r.cause ≡ cause appid table e
  -- the next one
  pub next_is : r.next ≡ next_entry body j

-- the entry at a place, for an AppID and table
pub record ReadsOf (body : Bytes) (at : ℕ) (appid table : Bytes) (d : Decoded) (r : Entry) : Type 0 where
  pub is : (e : Bytes) (j : ℕ) → read_at read_string body at ≡ got e j → EntryIs appid table body e j d r

-- the same for every AppID for which this is held
pub record Reads (body : Bytes) (at : ℕ) (o : Option Owner) (table : Bytes) (d : Decoded) (r : Entry) : Type 0 where
  pub is : (appid : Bytes) → ∥ Owned appid table o ∥₁ → ReadsOf body at appid table d r

-- ---- all of them

unfoldable pub entries_at : Bytes → ℕ → List Bytes
entries_at body ids = unwrap_or (ids_at body ids) []

-- the ids at a place are an array of strings
pub record IdsThere (body : Bytes) (ids : ℕ) : Type 0 where
  pub is : ids_at body ids ≡ Some (entries_at body ids)

-- the bytes that are left from the next entry on
unfoldable pub left : Bytes → Option ℕ → ℕ
left body None = 0
left body (Some i) = suc (length body - i)

-- a string, and those behind it
unfoldable pub string_then : Read Bytes → (ℕ → Option (List Bytes)) → Option (List Bytes)
string_then bad behind = None
string_then (got e j) behind = behind j >>= λ es. Some (e ∷ es)

-- at most n strings, one behind the other, the first of them at a place; none: no string stands at one of the places
unfoldable pub strings_from : ℕ → Bytes → Option ℕ → Option (List Bytes)
strings_from n body None = Some []
strings_from zero body (Some i) = None
strings_from (suc n) body (Some i) = string_then (read_at read_string body i) (λ j. strings_from n body (next_entry body j))

-- the entries from a place on
unfoldable pub entries_from : Bytes → Option ℕ → List Bytes
entries_from body at = unwrap_or (strings_from (left body at) body at) []

-- strings stand from there on
pub record Stands (body : Bytes) (at : Option ℕ) : Type 0 where
  pub is : strings_from (left body at) body at ≡ Some (entries_from body at)
