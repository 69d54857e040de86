-- When a caller matches the AppID or an entry (document 01, "Fetch record and decision", rules 3 and 4).
use Rattle.std.specs.Prelude.{Bool, ◌&&◌, eqb, if◌then◌else◌, Option}
use Rattle.ascii.specs.Ascii.{Bytes, is_none, both_pass, same, same_no_case}
use Rattle.origin.specs.Origin.{Authority, effective_port, web_origin}

-- rule 3: both have a host, and the two are equal, ports aside
unfoldable pub same_host : Option Authority → Option Authority → Bool
same_host = both_pass (λ a b. same_no_case a.host b.host)

-- origins in the sense of RFC 6454: both are web origins, and their hosts and ports are equal
unfoldable pub same_origin : Option Authority → Option Authority → Bool
same_origin = both_pass (λ a b. same_no_case a.host b.host && eqb (effective_port a.port) (effective_port b.port))

-- rule 4: native in bytes, web by host and port
unfoldable pub facet_matches : Bytes → Bytes → Bool
facet_matches caller entry =
    if is_none (web_origin caller) then same caller entry else same_origin (web_origin caller) (web_origin entry)
