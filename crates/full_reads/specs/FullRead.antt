-- What a read until a buffer is full or the input ends does to the bytes that a reader has left, where those are known.
use Rattle.std.specs.Prelude.{ℕ, ◌≤◌, ◌<◌, List, length, take, Option, Result, MatchResult}
use Rattle.std.specs.Io.KnownBytes.{Consumes, IsAtEnd}

-- the first n bytes of buf are the next known bytes, which the reader loses
abbrev pub TakesFirst : Option (List ℕ) → Option (List ℕ) → List ℕ → ℕ → Type 0
TakesFirst old new buf n = (n ≤ length buf) × Consumes old new (take n buf)

-- at `Ok(n)` the first n bytes of buf are those that were read, and fewer than buf holds only where the input ends; at `Err` some first ones are
abbrev pub ReadsFull : {E : Type 0} → Option (List ℕ) → Option (List ℕ) → Result ℕ E → List ℕ → Type 0
ReadsFull old new r buf = MatchResult r
    (λ n. TakesFirst old new buf n × (n < length buf → IsAtEnd new))
    (λ _. (n : ℕ) × TakesFirst old new buf n)
