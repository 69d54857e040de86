-- The search for the next line of a good table that has a rule deeper than a label.
use Rattle.std.specs.Prelude.{◌≡◌, false, ℕ, ◌+◌, ◌≤◌, ◌<◌, length, drop, Option, None, Some}
use Rattle.ascii.specs.Ascii.{Bytes, is_none, take_while}
use Rattle.ascii.specs.declared.Span.{Span}
use Rattle.hosts.specs.Host.{labels}
use Rattle.suffix.specs.Suffix.{read_lines}
use Rattle.suffix.specs.code.Pass.{in_content}
use Rattle.suffix.specs.code.Idle.{Shallows}
use Rattle.suffix.specs.code.Passed.{lines_from, Passed}

-- what it is lent: how many labels the label has, and a line's start, from which on every line is good
pub record Seeks (label table : Bytes) (count from : ℕ) : Type 0 where
  pub some : 1 ≤ count
  pub inside : from ≤ length table + 1
  pub short : length table ≤ 1048576
  pub labels_are : count ≡ length (labels label)
  pub good : is_none (read_lines (lines_from table from)) ≡ false

-- the lines up to the place where it stops go deeper than at most d labels
pub record Sought (label table : Bytes) (d from to : ℕ) : Type 0 where
  pub onward : from ≤ to
  pub inside : to ≤ length table + 1
  pub passed : Passed label table d from to

-- the first line from a place on that has a rule which goes deeper, where d is one label less than the label; none where there is none
pub data Found (label table : Bytes) (d from : ℕ) : Option ℕ → Type 0 where
  all_passed : {to : ℕ} → length table ≤ to → Sought label table d from to → Found label table d from None
  stops_at : {to : ℕ} → to < length table → Sought label table d from to → Found label table d from (Some to)

-- what is read of a line behind those that the pass over a table goes on over
pub record Behind (host table : Bytes) (m d last from : ℕ) (part : Span) : Type 0 where
  pub passed : Shallows host table m d last from part.from
  pub inside : part.from < length table
  pub part_is : part.to ≡ part.from + length (take_while in_content (drop part.from table))

-- none where there is no such line
pub data NextLine (host table : Bytes) (m d last from : ℕ) : Option Span → Type 0 where
  no_line : {at : ℕ} → length table ≤ at → Shallows host table m d last from at → NextLine host table m d last from None
  one_line : {part : Span} → Behind host table m d last from part → NextLine host table m d last from (Some part)
