-- What the code needs of a place.
use Rattle.std.specs.Prelude.{◌≡◌, ℕ, ◌<◌}
use Rattle.decision.specs.Answer.{Answer, rule4}

-- the place of an answer fits the number that it is written to
pub record SmallPlace (a : Answer) : Type 0 where
  pub is : (n : ℕ) → a ≡ rule4 n → n < 65536
