-- The list that a body selects for an AppID.
use Rattle.std.specs.Prelude.{◌≡◌, List, ℕ, false, None, Some, Result, Ok, Err}
use Rattle.ascii.specs.Ascii.{Bytes, is_none}
use Rattle.suffix.specs.Suffix.{read_table}
use Rattle.refusals.specs.declared.Refusal.{Refusal}
use Rattle.refusals.specs.declared.Refusal.TheVariants.{BadTable}
use Rattle.trusted_list.specs.TrustedList.{list_refusal, entries}
use Rattle.entries.specs.Causes.{kept}
use Rattle.entries.specs.code.Reading.{entries_at}
use Rattle.entries.specs.declared.selected.Selected.{Selected}

-- the body's entries, and those that are kept
abbrev pub listed : Selected → List Bytes
listed l = entries_at l.body.now l.ids

abbrev pub kept_of : Selected → List Bytes
kept_of l = kept l.appid.now l.table.now (listed l)

-- refusals 9 to 13; or the list that the body selects, for this AppID and table
pub data Selects (appid : Bytes) (major minor : ℕ) (body table : Bytes) : Result Selected Refusal → Type 0 where
  unselected : {x : Refusal} → list_refusal major minor body ≡ Some x → Selects appid major minor body table (Err x)
  no_table : list_refusal major minor body ≡ None → read_table table ≡ None → Selects appid major minor body table (Err BadTable)
  selects : {l : Selected} → list_refusal major minor body ≡ None → is_none (read_table table) ≡ false → l.appid.now ≡ appid → l.table.now ≡ table → l.body.now ≡ body
      → listed l ≡ entries major minor body → Selects appid major minor body table (Ok l)
