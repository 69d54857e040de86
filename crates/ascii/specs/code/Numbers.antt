-- Decimal numbers as the code answers them.
use Rattle.std.specs.Prelude.{◌≡◌, ℕ, ◌-◌, ◌≤◌, take}
use Prim.Native.Char.{code}
use Rattle.ascii.specs.Ascii.{decimal}
use Rattle.ascii.specs.declared.decimals.Decimal.{Decimal}

-- n is the value of the digit b
pub record DigitIs (b n : ℕ) : Type 0 where
  pub small : n ≤ 9
  pub is : n ≡ b - code "0"

-- the digits at the front of the array are those of n
pub record Writes (n : ℕ) (r : Decimal) : Type 0 where
  pub room : r.len ≤ 5
  pub is : take r.len r.digits ≡ decimal n
