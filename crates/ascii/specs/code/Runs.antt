-- Where a run of bytes ends.
use Rattle.std.specs.Prelude.{◌≡◌, ℕ, ◌+◌, ◌<◌, Bool, length, drop}
use Rattle.ascii.specs.Ascii.{Bytes, take_while}

-- each answer of the code's test is f's
abbrev pub Answers : (ℕ → Bool → Type 0) → (ℕ → Bool) → Type 0
Answers post f = (b : ℕ) (q : Bool) → b < 256 → post b q → q ≡ f b

-- the bytes from a place on that pass the test end at r
pub record RunEnds (post : ℕ → Bool → Type 0) (s : Bytes) (from r : ℕ) : Type 0 where
  pub is : (f : ℕ → Bool) → Answers post f → r ≡ from + length (take_while f (drop from s))
