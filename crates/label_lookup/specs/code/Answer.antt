-- What one pass tells of a host: sizes and depth, the private label, and whether a rule goes deeper.
use Rattle.std.specs.Prelude.{◌≡◌, List, false, ℕ, max, Option, None, Some, is_some}
use Rattle.ascii.specs.Ascii.{Bytes, is_none, filter_by}
use Rattle.hosts.specs.Host.{labels}
use Rattle.suffix.specs.Suffix.{Rule, read_table, matches, private_label}
use Rattle.suffix.specs.code.Pass.{sizes, best_of}
use Rattle.suffix.specs.code.Deeper.{is_deeper}
use Rattle.suffix.specs.code.Depth.{deepest}
use Rattle.suffix.specs.declared.Sizes.{Sizes}
use Rattle.label_lookup.specs.declared.Depths.{Depths}
use Rattle.label_lookup.specs.declared.Lookup.{Lookup}

abbrev pub depths : Sizes → ℕ → Depths
depths s d = record { sizes = s; depth = d }

-- the two sizes, and the depth; none for a bad table
unfoldable pub depths_of : List Bytes → Option (List Rule) → Option Depths
depths_of host None = None
depths_of host (Some rules) = Some (depths (sizes (filter_by (matches host) rules)) (deepest host rules))

-- the same with the larger of its depth and d
unfoldable pub deepened : ℕ → Option Depths → Option Depths
deepened d None = None
deepened d (Some f) = Some (depths f.sizes (max d f.depth))

-- the label, whether a rule goes deeper, and what the table finds for the host then
pub record LabelFound (table host : Bytes) (l : Lookup) : Type 0 where
  pub label_is : private_label table host ≡ Some l.label.now
  pub deeper_is : is_some l.deeper ≡ is_deeper table l.label.now
  pub found : (z : Sizes) → l.deeper ≡ Some z → Some z ≡ best_of (labels host) (read_table table)

-- none where the table is bad; none within, where the host has no private label
pub data LookupIs (table host : Bytes) : Option (Option Lookup) → Type 0 where
  unread : read_table table ≡ None → LookupIs table host None
  unlabelled : is_none (read_table table) ≡ false → private_label table host ≡ None → LookupIs table host (Some None)
  looked_up : {l : Lookup} → is_none (read_table table) ≡ false → LabelFound table host l → LookupIs table host (Some (Some l))
