-- Two identifiers compared where their parts stand.
use Rattle.std.specs.Prelude.{Bool, ◌&&◌, eqb}
use Rattle.ascii.specs.Ascii.{Bytes, same_no_case}
use Rattle.origin.specs.code.Parts.{part}
use Rattle.origin.specs.declared.Parts.{Parts}

-- hosts and ports at these places are equal
unfoldable pub same_at : Bytes → Parts → Bytes → Parts → Bool
same_at s p t q = same_no_case (part s 8 p.end) (part t 8 q.end) && eqb p.port q.port
