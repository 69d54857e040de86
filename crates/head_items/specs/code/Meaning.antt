-- What the answers of the code mean, in the terms of HeadItem.
use Rattle.std.specs.Prelude.{◌≡◌, Bool, ◌&&◌, ◌∷◌, ◌++◌, ℕ, length, leb, Option, Some, Result, Ok, Err}
use Rattle.ascii.specs.Ascii.{Bytes}
use Rattle.response_head.specs.ResponseHead.{Head, answer}
use Rattle.refusals.specs.declared.Refusal.{Refusal}
use Rattle.head_items.specs.HeadItem.{two_bytes, seen, HeadItem, refused, written, item_for, item_after, text_after}
use Rattle.head_items.specs.declared.Lengths.{Lengths}

-- a redirect's item and a Location of so many bytes fit into outputs of these lengths, and its start into 2 bytes
unfoldable pub has_room : ℕ → ℕ → ℕ → ℕ → Bool
has_room start size item_room text_room = leb 8 item_room && leb size text_room && leb start 65535

-- a redirect's item, for a Location of so many bytes
unfoldable pub redirect_item : ℕ → Bool → ℕ → ℕ → Bytes
redirect_item status authorized start size = 1 ∷ two_bytes status ++ seen authorized ∷ two_bytes start ++ two_bytes size

unfoldable pub lengths_of : HeadItem → Result Lengths Refusal
lengths_of (refused r) = Err r
lengths_of (written item location) = Ok (record { item = length item; text = length location })

-- both outputs before and after the call, and the answer
pub record Answers (start : ℕ) (o : Option Head) (item_before item_then text_before text_then : Bytes) (r : Result Lengths Refusal) : Type 0 where
  pub is : r ≡ lengths_of (item_for start item_before text_before o)
  pub item_is : item_then ≡ item_after item_before (item_for start item_before text_before o)
  pub text_is : text_then ≡ text_after text_before (item_for start item_before text_before o)

-- an answer leaves the second output as it is
pub record WritesAnswer (status : ℕ) (typed : Bool) (item_before item_then : Bytes) (r : Result Lengths Refusal) : Type 0 where
  pub is : (start : ℕ) (text_before : Bytes) → Answers start (Some (answer status typed)) item_before item_then text_before text_before r
