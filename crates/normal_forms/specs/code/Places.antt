-- Where the parts of a web origin stand.
use Rattle.std.specs.Prelude.{◌≡◌, ℕ, ◌≤◌, ◌<◌, length, get_or}
use Prim.Native.Char.{code}
use Rattle.ascii.specs.Ascii.{Bytes}

-- a host, and a colon and a port or nothing, that end at these places
pub record Placed (s : Bytes) (end tail : ℕ) : Type 0 where
  pub low : 8 ≤ end
  pub middle : end ≤ tail
  pub high : tail ≤ length s
  pub colon : end < tail → get_or s end 0 ≡ code ":"
