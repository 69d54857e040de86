-- The record item that a response head makes, and its Location text (document 02, S-2).
use Rattle.std.specs.Prelude.{[], ◌∷◌, ◌++◌, Bool, true, false, ◌&&◌, ℕ, ◌/◌, ◌%◌, length, leb, if◌then◌else◌, Option, None, Some}
use Rattle.ascii.specs.Ascii.{Bytes, written_over}
use Rattle.refusals.specs.declared.Refusal.{Refusal}
use Rattle.refusals.specs.declared.Refusal.TheVariants.{Full, BadHead}
use Rattle.response_head.specs.ResponseHead.{Head, redirect, answer, read_head}

-- ---- what is written

-- numbers are big-endian
unfoldable pub two_bytes : ℕ → Bytes
two_bytes n = n / 256 % 256 ∷ n % 256 ∷ []

-- seen: value 0 or 1
unfoldable pub seen : Bool → ℕ
seen true = 1
seen false = 0

-- kind 1, redirect: status (2 bytes), authorized header seen (1), start and length (2 each) of its Location, the start being a number given with the head;
-- kind 2, answer: status (2), right content type seen (1)
unfoldable pub item_of : ℕ → Head → Bytes
item_of start (redirect status authorized location) = 1 ∷ two_bytes status ++ seen authorized ∷ two_bytes start ++ two_bytes (length location)
item_of start (answer status type_seen) = 2 ∷ two_bytes status ++ seen type_seen ∷ []

-- its Location text; an answer has none
unfoldable pub location_text : Head → Bytes
location_text (redirect status authorized location) = location
location_text (answer status type_seen) = []

-- ---- refusals

pub data HeadItem : Type 0 where
  refused : Refusal → HeadItem
  written : (item location : Bytes) → HeadItem

-- a redirect's start fits 2 bytes; nothing is asked of an answer's
unfoldable pub start_fits : ℕ → Head → Bool
start_fits start (redirect status authorized location) = leb start 65535
start_fits start (answer status type_seen) = true

-- item_before, text_before: the two outputs' bytes before the call

-- 15, where either output is short or a redirect's start doesn't fit 2 bytes
unfoldable pub fitting : ℕ → Bytes → Bytes → Head → HeadItem
fitting start item_before text_before h =
    if leb (length (item_of start h)) (length item_before) && leb (length (location_text h)) (length text_before) && start_fits start h
    then written (item_of start h) (location_text h)
    else refused Full

-- before it 16, head not in this form or a redirect without its one Location
unfoldable pub item_for : ℕ → Bytes → Bytes → Option Head → HeadItem
item_for start item_before text_before None = refused BadHead
item_for start item_before text_before (Some h) = fitting start item_before text_before h

unfoldable pub head_item : Bytes → ℕ → Bytes → Bytes → HeadItem
head_item head start item_before text_before = item_for start item_before text_before (read_head head)

-- ---- the two outputs after the call: a refusal changes none, and what is not written remains

abbrev pub item_after : Bytes → HeadItem → Bytes
item_after before (refused r) = before
item_after before (written item location) = written_over item before

abbrev pub text_after : Bytes → HeadItem → Bytes
text_after before (refused r) = before
text_after before (written item location) = written_over location before
