-- A span of the table's lines that has every rule deeper than a private label. Any such span is right; that it is short is measured, not proved.
use Rattle.std.specs.Prelude.{◌≡◌, List, ◌++◌, false, ℕ, ◌-◌, ◌≤◌, length, take, drop, Option, None, Some, is_some}
use Prim.Native.Char.{code}
use Rattle.ascii.specs.Ascii.{Bytes, is_none, split_at}
use Rattle.hosts.specs.Host.{labels}
use Rattle.suffix.specs.Suffix.{read_lines, read_table, private_label}
use Rattle.suffix.specs.code.Pass.{best_of}
use Rattle.suffix.specs.code.Deeper.{deeper_in, is_deeper}
use Rattle.label_lookup.specs.declared.Deeper.{Deeper}
use Rattle.label_lookup.specs.declared.Owner.{Owner}

-- the table's lines are those before the span, in it and behind it; no rule before or behind it goes deeper than the label
pub record Spans (table label : Bytes) (from to : ℕ) : Type 0 where
  pub before : List Bytes
  pub behind : List Bytes
  pub onward : from ≤ to
  pub inside : to ≤ length table
  pub lines : split_at (code "\n") table ≡ before ++ (split_at (code "\n") (take (to - from) (drop from table)) ++ behind)
  pub before_not : deeper_in (labels label) (read_lines before) ≡ false
  pub behind_not : deeper_in (labels label) (read_lines behind) ≡ false

-- what is held of a host where rules go deeper than its private label: what the table finds for it, and the span of these rules
pub record Held (table host label : Bytes) (d : Deeper) : Type 0 where
  pub label_is : private_label table host ≡ Some label
  pub found : best_of (labels host) (read_table table) ≡ Some d.sizes
  pub spans : Spans table label d.span.from d.span.to

-- the label of a host that has one, whether a rule goes deeper, and what is held then
pub record OwnerFound (table host : Bytes) (o : Owner) : Type 0 where
  pub label_is : private_label table host ≡ Some o.label.now
  pub present_is : is_some o.deeper ≡ is_deeper table o.label.now
  pub held : (d : Deeper) → o.deeper ≡ Some d → Held table host o.label.now d

-- none where the host has no private label
pub data Owns (table host : Bytes) : Option Owner → Type 0 where
  no_label : private_label table host ≡ None → Owns table host None
  has_label : {o : Owner} → OwnerFound table host o → Owns table host (Some o)

-- none where the table is bad
pub data OwnerIs (table host : Bytes) : Option (Option Owner) → Type 0 where
  bad_table : read_table table ≡ None → OwnerIs table host None
  owner_is : {o : Option Owner} → is_none (read_table table) ≡ false → Owns table host o → OwnerIs table host (Some o)
