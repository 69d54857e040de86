-- A quick test that two identifiers do not match (proofs/UnlikeSteps.antt: `unlike_none`).
use Rattle.std.specs.Prelude.{[], ◌∷◌, Bool, true, ◌&&◌, ◌||◌, not, ℕ, eqb, if◌then◌else◌}
use Prim.Native.Char.{code}
use Rattle.ascii.specs.Ascii.{Bytes, lower_byte}

-- what may follow a host
unfoldable pub is_stop : ℕ → Bool
is_stop b = eqb b (code ":") || eqb b (code "/")

-- a host may end here
unfoldable pub may_end : Bytes → Bool
may_end [] = true
may_end (b ∷ s) = is_stop b

-- not both hosts may end here
unfoldable pub apart : Bytes → Bytes → Bool
apart x y = not (may_end x && may_end y)

-- behind the bytes that are alike, none of which ends a host, not both hosts may end
unfoldable pub unlike : Bytes → Bytes → Bool
unlike [] y = apart [] y
unlike (b ∷ x) [] = apart (b ∷ x) []
unlike (b ∷ x) (c ∷ y) = if not (is_stop b) && eqb (lower_byte b) (lower_byte c) then unlike x y else apart (b ∷ x) (c ∷ y)
