-- A response head's reading as three numbers: the refusal, and the lengths that are written (document 02, S-2).
use Rattle.std.specs.Prelude.{ℕ, length}
use Rattle.refusals.specs.Number.{refusal_number}
use Rattle.head_items.specs.HeadItem.{HeadItem, refused, written}

-- 0 where the item is written
abbrev pub head_refusal : HeadItem → ℕ
head_refusal (refused r) = refusal_number r
head_refusal (written item location) = 0

-- a refusal carries zero lengths
abbrev pub item_length : HeadItem → ℕ
item_length (refused r) = 0
item_length (written item location) = length item

abbrev pub text_length : HeadItem → ℕ
text_length (refused r) = 0
text_length (written item location) = length location
