-- The suffix table, its rules, and the private label of a host (document 01, "Hosts and private labels").
use Rattle.std.specs.Prelude.{List, [], ◌∷◌, Bool, true, false, ◌&&◌, ◌||◌, not, ℕ, ◌+◌, ◌-◌, length, drop, eqb, leb, ltb, if◌then◌else◌, Option, None, Some, unwrap_or}
use Prim.Native.Char.{code}
use Rattle.ascii.specs.Ascii.{Bytes, ◌>>=◌, ◌or_else◌, filter_by, is_empty, take_while, last_of, split_at, join_with, same, same_no_case, begins_with, text}
use Rattle.hosts.specs.Host.{labels, is_host, is_address}

-- ---- the table

pub record Rule : Type 0 where
  pub exception : Bool
  pub names : List Bytes

abbrev pub normal : List Bytes → Rule
normal ls = record { exception = false; names = ls }

abbrev pub exceptional : List Bytes → Rule
exceptional ls = record { exception = true; names = ls }

-- a line is read up to its first space, tab or CR
unfoldable pub is_blank : ℕ → Bool
is_blank b = eqb b (code " ") || eqb b (code "\t") || eqb b (code "\r")

unfoldable pub content : Bytes → Bytes
content line = take_while (λ b. not (is_blank b)) line

-- nothing left, or a line beginning `//`
unfoldable pub is_skipped : Bytes → Bool
is_skipped s = is_empty s || begins_with (text "//") s

-- a host; `*`; `*.` and a host; `!` and a host of two labels or more
unfoldable pub read_rule : Bytes → Option Rule
read_rule s =
    if is_host s then Some (normal (labels s)) else
    if same s (text "*") then Some (normal (labels s)) else
    if begins_with (text "*.") s && is_host (drop 2 s) && leb (length s) 253 then Some (normal (labels s)) else
    if begins_with (text "!") s && is_host (drop 1 s) && leb 2 (length (labels (drop 1 s))) then Some (exceptional (labels (drop 1 s))) else
    None

unfoldable pub read_lines : List Bytes → Option (List Rule)
read_lines [] = Some []
read_lines (l ∷ ls) =
    if is_skipped (content l) then read_lines ls else
    (read_rule (content l) >>= λ r. read_lines ls >>= λ rs. Some (r ∷ rs))

-- none: a bad table
unfoldable pub read_table : Bytes → Option (List Rule)
read_table table = if leb (length table) 1048576 then read_lines (split_at (code "\n") table) else None

-- ---- matching

-- `*` equals any one label
unfoldable pub name_matches : Bytes → Bytes → Bool
name_matches name label = same name (text "*") || same_no_case name label

unfoldable pub all_match : List Bytes → List Bytes → Bool
all_match [] [] = true
all_match [] (l ∷ ls) = false
all_match (n ∷ ns) [] = false
all_match (n ∷ ns) (l ∷ ls) = name_matches n l && all_match ns ls

-- the host has at least as many labels, and its last labels equal the rule's
unfoldable pub matches : List Bytes → Rule → Bool
matches host r = leb (length r.names) (length host) && all_match r.names (last_of (length r.names) host)

-- ---- the prevailing rule

-- the rule `*`
abbrev pub star : Rule
star = normal (text "*" ∷ [])

abbrev pub longer : Rule → Option Rule → Rule
longer r None = r
longer r (Some s) = if ltb (length r.names) (length s.names) then s else r

-- the one with most labels; none where there is no rule
unfoldable pub most_labels : List Rule → Option Rule
most_labels [] = None
most_labels (r ∷ rules) = Some (longer r (most_labels rules))

-- of matching rules an exception prevails, else the one with most labels; among exceptions, most labels; with no match the rule `*`
unfoldable pub prevailing : List Rule → Rule
prevailing matching = unwrap_or (most_labels (filter_by (λ r. r.exception) matching) or_else most_labels matching) star

-- the labels matched, less the leftmost one under an exception
unfoldable pub suffix_size : Rule → ℕ
suffix_size r = if r.exception then length r.names - 1 else length r.names

unfoldable pub public_suffix : List Rule → List Bytes → List Bytes
public_suffix rules host = last_of (suffix_size (prevailing (filter_by (matches host) rules))) host

-- ---- the private label

unfoldable pub private_labels : List Rule → List Bytes → Option (List Bytes)
private_labels rules host =
    if is_address host then None else
    if leb (length host) (length (public_suffix rules host)) then None else
    Some (last_of (length (public_suffix rules host) + 1) host)

-- under these rules, of a well-formed host
unfoldable pub label_under : List Rule → Bytes → Option Bytes
label_under rules host = private_labels rules (labels host) >>= λ ls. Some (join_with (code ".") ls)

-- under this table; none where the host is malformed, the table bad, or no label exists
unfoldable pub private_label : Bytes → Bytes → Option Bytes
private_label table host = if is_host host then (read_table table >>= λ rules. label_under rules host) else None

-- "an empty part where the host is malformed, the table is bad or too long, or no label exists"
abbrev pub or_empty : Option Bytes → Bytes
or_empty None = []
or_empty (Some l) = l
