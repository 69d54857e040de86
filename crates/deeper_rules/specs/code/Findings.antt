-- What a good table finds for a host, and what the span of the deeper rules tells of its label.
use Rattle.std.specs.Prelude.{◌≡◌, Bool, true, false, Some}
use Rattle.ascii.specs.Ascii.{Bytes, is_none}
use Rattle.hosts.specs.Host.{labels, is_host}
use Rattle.suffix.specs.Suffix.{read_table, private_label}
use Rattle.suffix.specs.code.Pass.{best_of}
use Rattle.suffix.specs.code.Deeper.{is_the_label}
use Rattle.label_lookup.specs.code.Span.{Held}
use Rattle.suffix.specs.declared.Sizes.{Sizes}
use Rattle.label_lookup.specs.declared.Deeper.{Deeper}

-- the table s, where it is good
pub record FindsTable (host s : Bytes) (r : Sizes) : Type 0 where
  pub is : is_none (read_table s) ≡ false → Some r ≡ best_of (labels host) (read_table s)

-- r tells whether the host has the label, for any host of which this is held
pub record Tells (table label : Bytes) (held : Deeper) (host : Bytes) (r : Bool) : Type 0 where
  pub is : (home : Bytes) → Held table home label held → is_host host ≡ true → r ≡ is_the_label label (private_label table host)
