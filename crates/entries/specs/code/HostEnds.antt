-- Where the host of an AppID ends.
use Rattle.std.specs.Prelude.{◌≡◌, ℕ, Some, option_map}
use Rattle.ascii.specs.Ascii.{Bytes}
use Rattle.origin.specs.Origin.{https_url}
use Rattle.origin.specs.code.Parts.{part}

-- an HTTPS URL whose host ends at this place
pub record HostEnds (appid : Bytes) (end : ℕ) : Type 0 where
  pub is : option_map (λ u. u.host) (https_url appid) ≡ Some (part appid 8 end)
