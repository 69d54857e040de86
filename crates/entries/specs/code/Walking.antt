-- The walk over the entries of a list.
use Rattle.std.specs.Prelude.{◌≡◌, List, [], ◌∷◌, Option, None, Some}
use Rattle.ascii.specs.Ascii.{Bytes}
use Rattle.json_text.specs.code.Places.{fit}
use Rattle.json_text.specs.code.Held.{content}
use Rattle.entries.specs.Causes.{cause}
use Rattle.entries.specs.code.Reading.{entries_from}
use Rattle.entries.specs.declared.Cause.{Cause}
use Rattle.entries.specs.declared.selected.Selected.{Selected}
use Rattle.entries.specs.declared.walk.Entries.{Entries}

-- the entries that are to come
unfoldable pub to_come : Entries → List Bytes
to_come w = entries_from w.list.now.body.now w.next

-- what is held of the entry that was read last; none: it has more than 512 bytes
abbrev pub held_of : Entries → Option Bytes
held_of w = content w.last

-- a walk over the entries of a list, of which these are to come
pub record Walk (l : Selected) (es : List Bytes) (w : Entries) : Type 0 where
  pub list_is : w.list.now ≡ l
  pub coming_is : to_come w ≡ es

-- none is to come, and none after; or the first is taken: it is held, or found to have more than 512 bytes, and its cause is told
pub data Advances (before after : Entries) : Option (Option Cause) → Type 0 where
  at_end : to_come before ≡ [] → Walk before.list.now [] after → Advances before after None
  advanced : {e : Bytes} {es : List Bytes} {c : Option Cause} → to_come before ≡ e ∷ es → Walk before.list.now es after → held_of after ≡ fit e
      → c ≡ cause before.list.now.appid.now before.list.now.table.now e → Advances before after (Some c)
