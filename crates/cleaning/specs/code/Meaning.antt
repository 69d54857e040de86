-- What the code of cleaning answers, in the terms of Clean.
use Rattle.std.specs.Prelude.{◌≡◌, Bool, true, false, List, ◌++◌, map, ℕ, ◌+◌, ◌≤◌, length, None, Some, Result, Ok, Err}
use Prim.Native.Char.{code}
use Rattle.ascii.specs.Ascii.{Bytes, text, prefixed, join_with, decimal, written_over}
use Rattle.origin.specs.Origin.{normal_form}
use Rattle.normal_forms.specs.code.Writing.{Puts}
use Rattle.normal_forms.specs.declared.writer.Writer.{Writer}
use Rattle.entries.specs.Causes.{kept}
use Rattle.entries.specs.code.Selecting.{listed}
use Rattle.entries.specs.declared.selected.Selected.{Selected}
use Rattle.refusals.specs.declared.Refusal.{Refusal}
use Rattle.trusted_list.specs.TrustedList.{list_refusal, entries}
use Rattle.cleaning.specs.Clean.{quoted, render, clean_refusal, Cleaned, not_cleaned, cleaned}

-- ---- the ids

-- the normal forms of the kept entries
unfoldable pub names : Bytes → Bytes → List Bytes → List Bytes
names appid table es = map normal_form (kept appid table es)

-- the same of the list that is selected
abbrev pub names_of : Selected → List Bytes
names_of l = names l.appid.now l.table.now (listed l)

-- what stands before an id: its quotation mark, and a comma unless it is the first
unfoldable pub opening : Bool → Bytes
opening true = text "\""
opening false = text ",\""

-- one id as it is written
unfoldable pub id_text : Bool → Bytes → Bytes
id_text first x = opening first ++ x ++ text "\""

-- the ids as they are written, the first of them or later ones
unfoldable pub ids_text : Bool → List Bytes → Bytes
ids_text true xs = join_with (code ",") (map quoted xs)
ids_text false xs = prefixed (code ",") (map quoted xs)

-- an id is written, where there is room for it
pub record IdPuts (first : Bool) (entry : Bytes) (before after : Writer) : Type 0 where
  pub is : before.at + length (id_text first (normal_form entry)) ≤ length before.out.now → Puts (id_text first (normal_form entry)) before after

-- ---- the whole list

-- what stands before the ids
unfoldable pub list_head : ℕ → ℕ → Bytes
list_head major minor =
    text "{\"trustedFacets\":[{\"version\":{\"major\":" ++ decimal major
    ++ text ",\"minor\":" ++ decimal minor
    ++ text "},\"ids\":["

-- the list as it is written, for a version
abbrev pub list_of : ℕ → ℕ → Selected → Bytes
list_of major minor l = render major minor (names_of l)

-- the body has this version's entries selected
pub record ListedAs (major minor : ℕ) (l : Selected) : Type 0 where
  pub accepted : list_refusal major minor l.body.now ≡ None
  pub is : listed l ≡ entries major minor l.body.now

-- refusals 2, 3 and 9 to 13; or the list that the body selects
pub data Prepares (appid : Bytes) (major minor : ℕ) (body table : Bytes) : Result Selected Refusal → Type 0 where
  is_refused : {x : Refusal} → clean_refusal appid major minor body table ≡ Some x → Prepares appid major minor body table (Err x)
  is_listed : {l : Selected} → clean_refusal appid major minor body table ≡ None → ListedAs major minor l → l.appid.now ≡ appid → l.table.now ≡ table → l.body.now ≡ body
      → Prepares appid major minor body table (Ok l)

-- what the code answers, and the output's bytes before and after
pub data Cleans (before after : Bytes) : Cleaned → Result ℕ Refusal → Type 0 where
  refuses : {x : Refusal} → after ≡ before → Cleans before after (not_cleaned x) (Err x)
  writes : {list : Bytes} {n : ℕ} → n ≡ length list → after ≡ written_over list before → Cleans before after (cleaned list) (Ok n)
