-- Cleaning (document 01, "The list", last paragraphs).
use Rattle.std.specs.Prelude.{List, ◌++◌, map, not, ℕ, length, ltb, if◌then◌else◌, Option, None, Some}
use Prim.Native.Char.{code}
use Rattle.ascii.specs.Ascii.{Bytes, ◌when◌, ◌or_else◌, is_none, written_over, text, join_with, decimal}
use Rattle.suffix.specs.Suffix.{read_table}
use Rattle.origin.specs.Origin.{begins_https, normal_form}
use Rattle.refusals.specs.declared.Refusal.{Refusal}
use Rattle.refusals.specs.declared.Refusal.TheVariants.{BadAppId, ForeignAppId, BadTable, Full}
use Rattle.trusted_list.specs.TrustedList.{list_refusal, entries}
use Rattle.entries.specs.AppId.{is_bad_app_id}
use Rattle.entries.specs.Causes.{kept}

-- ---- the list as it is written

unfoldable pub quoted : Bytes → Bytes
quoted s = text "\"" ++ s ++ text "\""

-- without blanks: the list object, its one version object, the ids
unfoldable pub render : ℕ → ℕ → List Bytes → Bytes
render major minor ids =
    text "{\"trustedFacets\":[{\"version\":{\"major\":" ++ decimal major
    ++ text ",\"minor\":" ++ decimal minor
    ++ text "},\"ids\":[" ++ join_with (code ",") (map quoted ids)
    ++ text "]}]}"

-- one list holding the normal forms of the kept entries
unfoldable pub cleaned_list : Bytes → ℕ → ℕ → Bytes → Bytes → Bytes
cleaned_list appid major minor body table = render major minor (map normal_form (kept appid table (entries major minor body)))

-- ---- cleaning

-- refusals 2, 3, 9 to 13; the empty AppID gives 3
unfoldable pub clean_refusal : Bytes → ℕ → ℕ → Bytes → Bytes → Option Refusal
clean_refusal appid major minor body table =
    (BadAppId when is_bad_app_id appid)
    or_else (ForeignAppId when not (begins_https appid))
    or_else list_refusal major minor body
    or_else (BadTable when is_none (read_table table))

-- the refusal, or the list that is written
pub data Cleaned : Type 0 where
  not_cleaned : Refusal → Cleaned
  cleaned : Bytes → Cleaned

-- refusal 15 where the output is shorter than the list
unfoldable pub fitting : ℕ → Bytes → Cleaned
fitting room list = if ltb room (length list) then not_cleaned Full else cleaned list

unfoldable pub or_clean : Option Refusal → Cleaned → Cleaned
or_clean None c = c
or_clean (Some r) c = not_cleaned r

-- before: the output's bytes before the call
unfoldable pub clean : Bytes → ℕ → ℕ → Bytes → Bytes → Bytes → Cleaned
clean appid major minor body table before =
    or_clean (clean_refusal appid major minor body table) (fitting (length before) (cleaned_list appid major minor body table))

-- the length that is reported; a refusal carries 0
abbrev pub cleaned_length : Cleaned → ℕ
cleaned_length (not_cleaned r) = 0
cleaned_length (cleaned list) = length list

-- the output's bytes after the call: bytes beyond the list's length remain, and a refusal changes none
abbrev pub output_after : Bytes → Cleaned → Bytes
output_after before (not_cleaned r) = before
output_after before (cleaned list) = written_over list before
