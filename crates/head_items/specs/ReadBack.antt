-- What the record reader is to read of written items: just what the heads say (document 02, S-2).
use Rattle.std.specs.Prelude.{◌≡◌, Bool, List, [], ◌∷◌, ◌++◌, map, ℕ, ◌+◌, ◌≤◌, length, take, drop, Option, None, Some}
use Rattle.ascii.specs.Ascii.{Bytes}
use Rattle.fetch_record.specs.Record.{Fetched, location as location_in, read_record}
use Rattle.fetch_record.specs.declared.item.Redirect.{Redirect}
use Rattle.fetch_record.specs.declared.item.Answer.{Answer}
use Rattle.response_head.specs.ResponseHead.{Head, redirect, answer, read_head}
use Rattle.head_items.specs.HeadItem.{written, head_item}

-- the lent text holds these bytes at that start
pub record Holds (lent : Bytes) (start : ℕ) (x : Bytes) : Type 0 where
  pub inside : start + length x ≤ length lent
  pub is : take (length x) (drop start lent) ≡ x

-- a redirect's Location at its start; an answer has none
unfoldable pub HoldsLocation : Bytes → ℕ → Head → Type 0
HoldsLocation lent start (redirect status authorized x) = Holds lent start x
HoldsLocation lent start (answer status type_seen) = Unit {0}

-- the starts in a record of this one head
abbrev pub starts_of : ℕ → Head → List ℕ
starts_of start (redirect status authorized x) = start ∷ []
starts_of start (answer status type_seen) = []

-- a head that says h, with this start and whatever outputs, is not refused, and this is the item that is written; the export's equations say that it stands at
-- the front of the first output
pub record Item (start : ℕ) (h : Head) (item : Bytes) : Type 0 where
  pub head : Bytes
  pub item_before : Bytes
  pub text_before : Bytes
  pub location : Bytes
  pub reads : read_head head ≡ Some h
  pub writes : head_item head start item_before text_before ≡ written item location

-- ---- what a record says

-- a redirect of a record, as its head says it: status, authorized header, and the Location, its part of the lent text
abbrev pub redirect_said : Bytes → Redirect → Head
redirect_said lent r = redirect r.status r.authorized (location_in lent r)

abbrev pub answer_said : Option Answer → List Head
answer_said None = []
answer_said (Some a) = answer a.status a.type_seen ∷ []

-- its redirects in order, then its answer where there is one
abbrev pub said_by : Bytes → Fetched → List Head
said_by lent f = map (redirect_said lent) f.redirects ++ answer_said f.answer

-- ---- a record put together

-- the items of redirect heads one behind the other, none refused, over one text that holds every Location at its item's start: their starts, what the
-- heads say, and the items
pub data RedirectItems (lent : Bytes) : List ℕ → List Head → Bytes → Type 0 where
  no_redirect : RedirectItems lent [] [] []
  next_redirect : {start status : ℕ} {authorized : Bool} {x item items : Bytes} {starts : List ℕ} {hs : List Head}
      → Item start (redirect status authorized x) item → Holds lent start x → RedirectItems lent starts hs items
      → RedirectItems lent (start ∷ starts) (redirect status authorized x ∷ hs) (item ++ items)

-- at most one answer head, not refused, whatever start was given with it: what it says, and its item
pub data AnswerItem : List Head → Bytes → Type 0 where
  no_answer : AnswerItem [] []
  one_answer : {start status : ℕ} {type_seen : Bool} {item : Bytes} → Item start (answer status type_seen) item → AnswerItem (answer status type_seen ∷ []) item

-- these items are read as a record that says just these heads in order, each redirect's Location at its start
pub record ReadsBack (items lent : Bytes) (starts : List ℕ) (hs : List Head) : Type 0 where
  pub fetched : Fetched
  pub is : read_record items lent ≡ Some fetched
  pub says : said_by lent fetched ≡ hs
  pub starts_are : map (λ (r : Redirect). r.start) fetched.redirects ≡ starts
