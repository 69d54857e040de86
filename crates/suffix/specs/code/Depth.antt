-- How deep the rules of a table go along a host's last labels: what one pass needs to know, beside the sizes, of deeper rules.
use Rattle.std.specs.Prelude.{◌≡◌, List, [], ◌∷◌, Bool, false, not, ℕ, suc, max, length, if◌then◌else◌, Option, None, Some}
use Rattle.ascii.specs.Ascii.{Bytes, is_none, last_of}
use Rattle.hosts.specs.Host.{labels}
use Rattle.suffix.specs.Suffix.{Rule, content}
use Rattle.suffix.specs.code.Pass.{read_line}
use Rattle.suffix.specs.code.Deeper.{goes_deeper, is_deeper}

-- the most last labels of the host that the rule goes deeper than
unfoldable pub depth_of : List Bytes → Rule → ℕ
depth_of [] r = 0
depth_of (l ∷ ls) r = if goes_deeper (l ∷ ls) r then suc (length ls) else depth_of ls r

unfoldable pub deepest : List Bytes → List Rule → ℕ
deepest host [] = 0
deepest host (r ∷ rules) = max (depth_of host r) (deepest host rules)

unfoldable pub line_depth : List Bytes → Option (List Rule) → ℕ
line_depth host None = 0
line_depth host (Some rules) = deepest host rules

unfoldable pub lines_depth : List Bytes → List Bytes → ℕ
lines_depth host [] = 0
lines_depth host (l ∷ ls) = max (line_depth host (read_line (content l))) (lines_depth host ls)

-- the line is none that makes the table bad
pub record Good (line : Bytes) : Type 0 where
  pub is : is_none (read_line line) ≡ false

unfoldable pub is_good : Bytes → Bool
is_good line = not (is_none (read_line line))

-- tail has the host's last labels, one more than d, or all
pub record Past (host tail : Bytes) (d : ℕ) : Type 0 where
  pub is : labels tail ≡ last_of (suc d) (labels host)

-- a rule goes deeper than the label that there is
unfoldable pub deeper_than : Bytes → Option Bytes → Bool
deeper_than table None = false
deeper_than table (Some label) = is_deeper table label
