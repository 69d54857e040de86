-- What the code answers: where the parts of an identifier stand in it.
use Rattle.std.specs.Prelude.{◌≡◌, [], Bool, ◌||◌, ℕ, ◌+◌, ◌-◌, ◌≤◌, ◌<◌, length, take, drop, get_or, if◌then◌else◌, Option, None, Some}
use Prim.Native.Char.{code}
use Rattle.ascii.specs.Ascii.{Bytes, is_empty, same, begins_with, text, number16}
use Rattle.origin.specs.Origin.{Authority, effective_port}
use Rattle.origin.specs.declared.Parts.{Parts}

-- the bytes of s from the place a up to the place b
unfoldable pub part : Bytes → ℕ → ℕ → Bytes
part s a b = take (b - a) (drop a s)

-- the host stands behind `https://`, the port behind the host and its colon
unfoldable pub authority_in : Bytes → Option Parts → Option Authority
authority_in s None = None
authority_in s (Some p) = Some (record { host = part s 8 p.end; port = part s (p.end + 1) p.tail; tail = drop p.tail s })

pub record Inside (s : Bytes) (p : Parts) : Type 0 where
  pub low : 8 ≤ p.end
  pub middle : p.end ≤ p.tail
  pub high : p.tail ≤ length s
  -- behind the host stands the colon, where there is a port
  pub colon : p.end < p.tail → get_or s p.end 0 ≡ code ":"
  -- the port by its value, 443 where it is absent
  pub port_is : p.port ≡ effective_port (part s (p.end + 1) p.tail)

pub data Within (s : Bytes) : Option Parts → Type 0 where
  nowhere : Within s None
  within : {p : Parts} → Inside s p → Within s (Some p)

-- r is where the parts of the authority o stand in s
pub record Reads (s : Bytes) (o : Option Authority) (r : Option Parts) : Type 0 where
  pub is : authority_in s r ≡ o
  pub places : Within s r

-- ---- what single steps of the code answer

-- a host behind `https://` ends at this place
pub record HostEnd (s : Bytes) (end : ℕ) : Type 0 where
  pub low : 8 ≤ end
  pub high : end ≤ length s

-- the number of a port
unfoldable pub port_of : Bytes → Option ℕ
port_of p = if begins_with (text "0") p then None else number16 p

-- a host that ends at this place, and no port
abbrev pub without_port : Bytes → ℕ → Authority
without_port s end = record { host = part s 8 end; port = []; tail = drop end s }

-- nothing, or one final `/`
unfoldable pub is_end : Bytes → Bool
is_end t = is_empty t || same t (text "/")

-- `/` or `?`
unfoldable pub begins_tail : Bytes → Bool
begins_tail t = begins_with (text "/") t || begins_with (text "?") t
