-- A host judged by a table of classes that is lent, of which a public function knows nothing.
use Rattle.std.specs.Prelude.{◌≡◌, Bool, ℕ, ◌+◌, ◌≤◌, length, drop, get_or, ltb}
use Rattle.ascii.specs.Ascii.{Bytes, take_while}
use Rattle.ascii.specs.Class.{Classifies}
use Rattle.hosts.specs.Host.{is_label_byte, is_host}

-- a byte to which the table gives one of the classes 0, 1 and 2: letters, digits and the hyphen
unfoldable pub has_label_class : Bytes → ℕ → Bool
has_label_class classes b = ltb (get_or classes b 0) 3

-- where such bytes end from a place on: in order by any table, and a label's bytes where it gives each byte its class
pub record LabelEnds (classes s : Bytes) (from to : ℕ) : Type 0 where
  pub onward : from ≤ to
  pub inside : from ≤ length s → to ≤ length s
  pub is : Classifies classes → to ≡ from + length (take_while is_label_byte (drop from s))

-- r tells whether s is a host, where the table gives each byte its class
pub record HostBy (classes s : Bytes) (r : Bool) : Type 0 where
  pub is : Classifies classes → r ≡ is_host s
