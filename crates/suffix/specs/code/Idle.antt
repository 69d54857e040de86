-- Lines of the table that find nothing for a host, as one loop over their bytes passes over them.
use Rattle.std.specs.Prelude.{◌≡◌, Bool, true, false, ◌&&◌, ◌||◌, ℕ, suc, ◌+◌, ◌-◌, ◌*◌, ◌≤◌, ◌<◌, length, take, drop, get_or, slice_get, eqb, leb, ltb, if◌then◌else◌, Option, None, Some}
use Prim.Native.Char.{code}
use Rattle.ascii.specs.Class.{Classifies}
use Rattle.ascii.specs.Ascii.{Bytes, take_while, last_of, split_at, is_digit, is_letter, lower_byte, begins_with, text}
use Rattle.hosts.specs.Host.{labels, is_host}
use Rattle.hosts.specs.code.Place.{Stands}
use Rattle.suffix.specs.Suffix.{read_lines}
use Rattle.suffix.specs.code.Pass.{sized, best_of, join_best, in_line, in_content}
use Rattle.suffix.specs.code.Passed.{Passed}
use Rattle.suffix.specs.declared.skips.Stop.{Stop}
use Rattle.suffix.specs.declared.skips.Stop.TheVariants.{Host, Other}

-- the lines of the table from one place to another find nothing for the host
pub record Idle (host table : Bytes) (from to : ℕ) : Type 0 where
  pub onward : from ≤ to
  pub inside : to ≤ length table + 1
  pub best : best_of (labels host) (read_lines (split_at (code "\n") (drop from table))) ≡ best_of (labels host) (read_lines (split_at (code "\n") (drop to table)))
  -- which lines these are
  pub passed : Passed host table 0 from to

-- the same for every host: comments and empty lines
pub record Skipped (table : Bytes) (from to : ℕ) : Type 0 where
  pub onward : from ≤ to
  pub inside : to ≤ length table + 1
  pub is : (host : Bytes) → Idle host table from to

-- an empty line, of no byte before its LF, or a comment
unfoldable pub begins_skipped : Bytes → Bool
begins_skipped s = begins_with (text "\n") s || begins_with (text "//") s

-- where the line behind the one at a place begins, which finds nothing; none exactly where neither an empty line nor a comment begins
-- there, as behind the end
pub data SkippedLine (table : Bytes) (at : ℕ) : Option ℕ → Type 0 where
  no_line : begins_skipped (drop at table) ≡ false → SkippedLine table at None
  one_line : {next : ℕ} → begins_skipped (drop at table) ≡ true → at < length table → at < next → Skipped table at next → SkippedLine table at (Some next)

-- none where there is no byte
unfoldable pub last_byte : Bytes → Option ℕ
last_byte s = slice_get s (length s - 1)

-- b is alike to the last byte that there is
unfoldable pub is_like : Option ℕ → ℕ → Bool
is_like None b = false
is_like (Some last) b = eqb (lower_byte b) (lower_byte last)

unfoldable pub is_alphanumeric : ℕ → Bool
is_alphanumeric b = is_letter b || is_digit b

-- 0 a letter or digit, 1 one alike to `last`, 6 the hyphen, 7 the dot, 8 LF, 9 the rest. With these numbers b may stand behind a
-- in a line that is a host not alike to `last` in its last byte exactly where kind_of a + 3 * kind_of b is at most 24, where a is LF
-- at a line's start.
unfoldable pub kind_of : Option ℕ → ℕ → ℕ
kind_of last b =
    if is_alphanumeric b then (if is_like last b then 1 else 0) else
    if eqb b (code "-") then 6 else
    if eqb b (code ".") then 7 else
    if eqb b (code "\n") then 8 else
    9

-- a table of the kinds for a host
pub record KindsOf (host kinds : Bytes) : Type 0 where
  pub is : (b : ℕ) → b < 256 → get_or kinds b 0 ≡ kind_of (last_byte host) b

-- the kind that a table gives to b, 9 where b is no byte
unfoldable pub kind_in : Bytes → ℕ → ℕ
kind_in kinds b = if ltb b 256 then get_or kinds b 0 else 9

-- a byte's kind, and the table of the kinds, where the class table that is lent gives each byte its class
pub record KindBy (classes : Bytes) (last : Option ℕ) (b r : ℕ) : Type 0 where
  pub is : Classifies classes → r ≡ kind_of last b

pub record KindsBy (classes host r : Bytes) : Type 0 where
  pub is : Classifies classes → KindsOf host r

-- a byte of the kind k behind one of the kind p, in a line that begins at start: where the next byte's line begins, and k
unfoldable pub step_of : ℕ → ℕ → ℕ → ℕ → Option (ℕ × ℕ)
step_of k p start next = if leb (p + 3 * k) 24 then Some ((if eqb k 8 then next else start), k) else None

-- such a byte that may not stand there, at a place: the LF behind a host that is alike in its last byte, or another
unfoldable pub stop_of : ℕ → ℕ → ℕ → ℕ → Stop
stop_of k p start at = if eqb k 8 && eqb p 1 then Host start at else Other start

-- the line of the table from start to the LF at to is a host
pub record HostLine (table : Bytes) (start to : ℕ) : Type 0 where
  pub onward : start ≤ to
  pub inside : to < length table
  pub ends : to ≡ start + length (take_while in_line (drop start table))
  pub whole : take_while in_content (drop start table) ≡ take (to - start) (drop start table)
  pub host : is_host (take (to - start) (drop start table)) ≡ true

-- the lines up to start find nothing, and perhaps the line there is a host
pub data Stopped (host table : Bytes) (from : ℕ) : Stop → Type 0 where
  at_host : {start to : ℕ} → Idle host table from start → HostLine table start to → Stopped host table from (Host start to)
  at_other : {start : ℕ} → Idle host table from start → start ≤ length table → Stopped host table from (Other start)

-- where the line begins at which the pass stopped, and where it ends if it is a host
unfoldable pub start_of : Stop → ℕ
start_of (Host start to) = start
start_of (Other start) = start

unfoldable pub end_of : Stop → ℕ
end_of (Host start to) = to
end_of (Other start) = start

-- Stopped, where the table of kinds that is lent is the host's; the places are in order by any table
pub record StoppedBy (kinds host table : Bytes) (from : ℕ) (r : Stop) : Type 0 where
  pub begun : from ≤ start_of r
  pub onward : start_of r ≤ end_of r
  pub inside : end_of r ≤ length table
  pub is : KindsOf host kinds → Stopped host table from r

-- what the pass over such lines is lent: the depth d that is known and where the labels begin that are one more, and a place of a
-- table that is not too long
pub record Passes (host table : Bytes) (d start from : ℕ) : Type 0 where
  pub stands : Stands (last_of (suc d) (labels host)) host start
  pub inside : from ≤ length table + 1
  pub short : length table ≤ 1048576

-- the lines from one place to another find nothing but rules of at most m labels, no exceptions, that go deeper than at most d
pub record Shallow (host table : Bytes) (m d from to : ℕ) : Type 0 where
  pub onward : from ≤ to
  pub inside : to ≤ length table + 1
  pub best : join_best (sized 0 m) (best_of (labels host) (read_lines (split_at (code "\n") (drop from table)))) ≡ join_best (sized 0 m) (best_of (labels host) (read_lines (split_at (code "\n") (drop to table))))
  -- which lines these are
  pub passed : Passed host table d from to

-- the same where the pass is lent what it needs; the places are in order in any case
pub record Shallows (host table : Bytes) (m d last from to : ℕ) : Type 0 where
  pub onward : from ≤ to
  pub is : Passes host table d last from → Shallow host table m d from to

-- and where the table of kinds that is lent is the host's
pub record ShallowBy (kinds host table : Bytes) (m d last from to : ℕ) : Type 0 where
  pub onward : from ≤ to
  pub is : KindsOf host kinds → Passes host table d last from → Shallow host table m d from to
