-- The fetch location as three numbers: which lent slice, where its part starts, and how long it is (document 01, after the decision).
use Rattle.std.specs.Prelude.{[], ℕ, length, take, drop, eqb, if◌then◌else◌}
use Rattle.ascii.specs.Ascii.{Bytes}
use Rattle.decision.specs.Location.{Source, nowhere, the_app_id, redirect}

-- 0 none, 1 the AppID, 2 the text
abbrev pub source_number : Source → ℕ
source_number nowhere = 0
source_number the_app_id = 1
source_number (redirect h) = 2

abbrev pub source_start : Source → ℕ
source_start nowhere = 0
source_start the_app_id = 0
source_start (redirect h) = h.start

abbrev pub source_length : Bytes → Source → ℕ
source_length appid nowhere = 0
source_length appid the_app_id = length appid
source_length appid (redirect h) = h.size

-- the lent slice that the first number names
unfoldable pub named_slice : Bytes → Bytes → ℕ → Bytes
named_slice appid lent source =
    if eqb source 1 then appid else
    if eqb source 2 then lent else
    []

-- the part that three numbers name; it is to be "the last redirect's part of the text, or the AppID where there is none, and an empty part
-- unless the decision is fetch"
unfoldable pub named : Bytes → Bytes → ℕ → ℕ → ℕ → Bytes
named appid lent source start len = take len (drop start (named_slice appid lent source))
