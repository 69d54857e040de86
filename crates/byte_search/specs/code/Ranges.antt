-- The first byte from lo to hi, by blocks of 64.
use Rattle.std.specs.Prelude.{Bool, ◌||◌, ℕ, length, take, drop, ltb, if◌then◌else◌, Option}
use Rattle.ascii.specs.Ascii.{Bytes, ◌when◌, take_while}

-- a byte that is not one from lo to hi
unfoldable pub outside : ℕ → ℕ → ℕ → Bool
outside lo hi b = ltb b lo || ltb hi b

-- how many of the 64 bytes at a place are before the first one from lo to hi
unfoldable pub block_end : ℕ → ℕ → Bytes → ℕ → ℕ
block_end lo hi s from = length (take_while (outside lo hi) (take 64 (drop from s)))

-- which of the 64 bytes at a place is the first one from lo to hi, none where none is
unfoldable pub block_first : ℕ → ℕ → Bytes → ℕ → Option ℕ
block_first lo hi s from = block_end lo hi s from when ltb (block_end lo hi s from) 64

-- the place k of a byte from lo to hi, 64 of another one
unfoldable pub place_in : ℕ → ℕ → ℕ → ℕ → ℕ
place_in lo hi k b = if outside lo hi b then 64 else k
