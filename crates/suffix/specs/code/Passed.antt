-- Lines from one place of a table to another, that go no deeper than some labels of a host.
use Rattle.std.specs.Prelude.{◌≡◌, List, [], ◌++◌, ℕ, ◌≤◌, length, drop, leb, if◌then◌else◌, Some}
use Prim.Native.Char.{code}
use Rattle.ascii.specs.Ascii.{Bytes, split_at}
use Rattle.hosts.specs.Host.{labels}
use Rattle.suffix.specs.Suffix.{Rule, read_lines}
use Rattle.suffix.specs.code.Depth.{deepest}

-- the lines that begin at a place or behind it; behind the table's end there is none
unfoldable pub lines_from : Bytes → ℕ → List Bytes
lines_from table at = if leb at (length table) then split_at (code "\n") (drop at table) else []

-- good lines from one place to another, whose rules go deeper than at most d last labels of the host
pub record Passed (host table : Bytes) (d from to : ℕ) : Type 0 where
  pub lines : List Bytes
  pub rules : List Rule
  pub are : lines_from table from ≡ lines ++ lines_from table to
  pub read : read_lines lines ≡ Some rules
  pub depth : deepest (labels host) rules ≤ d
