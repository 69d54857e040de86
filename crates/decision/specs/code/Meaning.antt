-- What the answers of the code mean, in the terms of Answer, Decide and Location.
use Rattle.std.specs.Prelude.{◌≡◌, [], ℕ, ◌+◌, ◌≤◌, ◌<◌, length, Option, None, Some, Result, Ok, Err}
use Rattle.ascii.specs.Ascii.{Bytes}
use Rattle.ascii.specs.declared.Span.{Span}
use Rattle.refusals.specs.declared.Refusal.{Refusal}
use Rattle.origin.specs.code.Parts.{part}
use Rattle.fetch_record.specs.declared.item.Redirect.{Redirect}
use Rattle.decision.specs.Answer.{Answer, rule1, rule2, rule3, rule4, fetch, refused}
use Rattle.decision.specs.Decide.{Stage, settled, list_due, before_list}
use Rattle.decision.specs.Location.{Source, nowhere, the_app_id, redirect}
use Rattle.decision.specs.declared.Due.{Due}
use Rattle.decision.specs.declared.Answer.{Answer as Given}
use Rattle.decision.specs.declared.Answer.TheVariants.{Rule1, Rule2, Rule3, Rule4, Fetch, Refused}
use Rattle.decision.specs.declared.Location.{Location}
use Rattle.decision.specs.declared.Location.TheVariants.{AppId, Text}

-- ---- answers

unfoldable pub answer_of : Given → Answer
answer_of Rule1 = rule1
answer_of Rule2 = rule2
answer_of Rule3 = rule3
answer_of (Rule4 n) = rule4 n
answer_of Fetch = fetch
answer_of (Refused r) = refused r

unfoldable pub stage_of : Result Due Given → Stage
stage_of (Err a) = settled (answer_of a)
stage_of (Ok d) = list_due d.response

-- rule 4 by the place of an entry, or a refusal
unfoldable pub listed_of : Result ℕ Refusal → Answer
listed_of (Ok n) = rule4 n
listed_of (Err x) = refused x

-- the list is due of this AppID
pub data Asks (appid : Bytes) : Result Due Given → Type 0 where
  settled_so : {a : Given} → Asks appid (Err a)
  due_of : {d : Due} → d.url.appid.now ≡ appid → Asks appid (Ok d)

pub record Before (caller appid items lent : Bytes) (r : Result Due Given) : Type 0 where
  pub is : stage_of r ≡ before_list caller appid items lent
  pub appid_is : Asks appid r

-- ---- the fetch location

-- its part of the AppID or of the text, empty for none
unfoldable pub location_of : Bytes → Bytes → Option Location → Bytes
location_of appid lent None = []
location_of appid lent (Some AppId) = appid
location_of appid lent (Some (Text t)) = part lent t.from t.to

pub data Inside (lent : Bytes) : Option Location → Type 0 where
  no_place : Inside lent None
  app_place : Inside lent (Some AppId)
  text_place : {t : Span} → t.from ≤ t.to → t.to ≤ length lent → Inside lent (Some (Text t))

-- its places are those of the source
pub data Stands : Source → Option Location → Type 0 where
  at_nowhere : Stands nowhere None
  at_app : Stands the_app_id (Some AppId)
  at_hop : {h : Redirect} {t : Span} → t.from ≡ h.start → t.to ≡ h.start + h.size → t.from < 65536 → t.to < 131072 → Stands (redirect h) (Some (Text t))

pub record Locates (appid lent : Bytes) (s : Bytes) (source : Source) (r : Option Location) : Type 0 where
  pub is : location_of appid lent r ≡ s
  pub inside : Inside lent r
  pub stands : Stands source r
