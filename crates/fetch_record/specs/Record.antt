-- The fetch record (document 01, "Fetch record and decision").
use mathlib.Core.List.{List, [], ◌∷◌, map}
use Rattle.std.specs.Prelude.{Bool, ◌&&◌, not, ℕ, zero, suc, ◌+◌, ◌*◌, length, take, drop, get_or, eqb, leb, if◌then◌else◌, Option, None, Some}
use Rattle.ascii.specs.Ascii.{Bytes, ◌>>=◌, is_none, all, is_empty, last_of, between, begins_with}
use Rattle.origin.specs.Origin.{https_url}
use Rattle.refusals.specs.declared.Refusal.{Refusal}
use Rattle.refusals.specs.declared.Refusal.TheVariants.{OpenRedirect, BadLocation}
use Rattle.fetch_record.specs.declared.item.Redirect.{Redirect}
use Rattle.fetch_record.specs.declared.item.Answer.{Answer}

-- redirects, then at most one answer
pub record Fetched : Type 0 where
  pub redirects : List Redirect
  pub answer : Option Answer

-- ---- items

-- numbers are big-endian: the two bytes at a place
unfoldable pub number : Bytes → ℕ → ℕ
number s at = get_or s at 0 * 256 + get_or s (at + 1) 0

-- the body of kind 1, 7 bytes: status from 300 to 399, authorized header seen (0 or 1), start and length of its Location
unfoldable pub read_redirect : Bytes → Option Redirect
read_redirect s =
    if leb 7 (length s) && between 300 399 (number s 0) && leb (get_or s 2 0) 1
    then Some (record { status = number s 0; authorized = eqb (get_or s 2 0) 1; start = number s 3; size = number s 5 })
    else None

-- the body of kind 2, 3 bytes: status, right content type seen (0 or 1)
unfoldable pub read_answer : Bytes → Option Answer
read_answer s =
    if leb 3 (length s) && leb (get_or s 2 0) 1
    then Some (record { status = number s 0; type_seen = eqb (get_or s 2 0) 1 })
    else None

-- at most one answer, then the end
unfoldable pub read_end : Bytes → Option Fetched
read_end s =
    if is_empty s then Some (record { redirects = []; answer = None }) else
    if begins_with (2 ∷ []) s && eqb (length s) 4
    then (read_answer (drop 1 s) >>= λ a. Some (record { redirects = []; answer = Some a }))
    else None

abbrev pub in_front : Redirect → Fetched → Fetched
in_front h f = record { redirects = h ∷ f.redirects; answer = f.answer }

-- at most so many redirects, then the rest
unfoldable pub read_items : ℕ → Bytes → Option Fetched
read_items zero s = read_end s
read_items (suc n) s =
    if begins_with (1 ∷ []) s
    then (read_redirect (drop 1 s) >>= λ h. read_items n (drop 8 s) >>= λ f. Some (in_front h f))
    else read_end s

-- ---- Locations in the lent text

-- the first element, where there is one
abbrev pub first_of : {A : Type 0} → List A → Option A
first_of [] = None
first_of (x ∷ xs) = Some x

-- its start plus length does not pass the text's end
unfoldable pub in_text : Bytes → Redirect → Bool
in_text lent h = leb (h.start + h.size) (length lent)

unfoldable pub location : Bytes → Redirect → Bytes
location lent h = take h.size (drop h.start lent)

-- the last redirect's part of the text; none where there is no redirect
unfoldable pub last_location : Bytes → List Redirect → Option Bytes
last_location lent hs = first_of (map (location lent) (last_of 1 hs))

-- the last redirect; none where there is no redirect
unfoldable pub last_redirect : List Redirect → Option Redirect
last_redirect hs = first_of (last_of 1 hs)

-- ---- the record and its refusals

-- at most 8 redirects, then at most one answer, then the end; none: a bad record
unfoldable pub read_record : Bytes → Bytes → Option Fetched
read_record items lent = read_items 8 items >>= λ f. if all (in_text lent) f.redirects then Some f else None

-- hop by hop, refusal 5 before 6
unfoldable pub hop_refusal : Bytes → List Redirect → Option Refusal
hop_refusal lent [] = None
hop_refusal lent (h ∷ hs) =
    if not h.authorized then Some OpenRedirect else
    if is_none (https_url (location lent h)) then Some BadLocation else
    hop_refusal lent hs

-- the last redirect of the record; none where there is none, or the record is bad
unfoldable pub last_hop : Bytes → Bytes → Option Redirect
last_hop items lent = read_record items lent >>= λ f. last_redirect f.redirects
