-- The fetch location (document 01, after the decision).
use Rattle.std.specs.Prelude.{[], Option, None, Some, unwrap_or}
use Rattle.ascii.specs.Ascii.{Bytes, ◌>>=◌}
use Rattle.fetch_record.specs.Record.{last_location, read_record, last_hop}
use Rattle.fetch_record.specs.declared.item.Redirect.{Redirect}
use Rattle.decision.specs.Answer.{rule1, rule2, rule3, rule4, fetch, refused}
use Rattle.decision.specs.Decide.{Stage, settled, list_due, before_list}

-- the last redirect's part of the text, or the AppID where there is none
unfoldable pub fetch_from : Bytes → Bytes → Bytes → Bytes
fetch_from appid items lent = unwrap_or (read_record items lent >>= λ f. last_location lent f.redirects) appid

-- an empty part unless the decision is fetch
unfoldable pub if_fetch : Stage → Bytes → Bytes
if_fetch (list_due a) s = []
if_fetch (settled rule1) s = []
if_fetch (settled rule2) s = []
if_fetch (settled rule3) s = []
if_fetch (settled (rule4 n)) s = []
if_fetch (settled (refused r)) s = []
if_fetch (settled fetch) s = s

-- caller, AppID, record and text
unfoldable pub fetch_location : Bytes → Bytes → Bytes → Bytes → Bytes
fetch_location caller appid items lent = if_fetch (before_list caller appid items lent) (fetch_from appid items lent)

-- ---- the same by its place

-- no part, the AppID, or the last redirect's part of the text
pub data Source : Type 0 where
  nowhere : Source
  the_app_id : Source
  redirect : Redirect → Source

unfoldable pub source_from : Option Redirect → Source
source_from None = the_app_id
source_from (Some h) = redirect h

unfoldable pub source_if_fetch : Stage → Source → Source
source_if_fetch (list_due a) s = nowhere
source_if_fetch (settled rule1) s = nowhere
source_if_fetch (settled rule2) s = nowhere
source_if_fetch (settled rule3) s = nowhere
source_if_fetch (settled (rule4 n)) s = nowhere
source_if_fetch (settled (refused r)) s = nowhere
source_if_fetch (settled fetch) s = s

-- caller, AppID, record and text
unfoldable pub fetch_source : Bytes → Bytes → Bytes → Bytes → Source
fetch_source caller appid items lent = source_if_fetch (before_list caller appid items lent) (source_from (last_hop items lent))
