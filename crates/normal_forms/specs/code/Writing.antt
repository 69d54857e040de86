-- Bytes written into a lent slice.
use Rattle.std.specs.Prelude.{◌≡◌, ◌++◌, ℕ, ◌+◌, length, take, drop, leb, if◌then◌else◌}
use Rattle.ascii.specs.Ascii.{Bytes}
use Rattle.normal_forms.specs.declared.writer.Writer.{Writer}

-- x written into s at a place, the bytes before and behind unchanged; s itself where there is no room
unfoldable pub written_at : Bytes → ℕ → Bytes → Bytes
written_at s at x = if leb (at + length x) (length s) then take at s ++ x ++ drop (at + length x) s else s

-- the place behind x, or the same place where there is no room
unfoldable pub behind : Bytes → ℕ → Bytes → ℕ
behind s at x = if leb (at + length x) (length s) then at + length x else at

-- x is written, and r is the place behind it
pub record Wrote (x : Bytes) (at : ℕ) (before after : Bytes) (r : ℕ) : Type 0 where
  pub is : after ≡ written_at before at x
  pub place : r ≡ behind before at x

-- x is written behind what was written before, into the same output
pub record Puts (x : Bytes) (before after : Writer) : Type 0 where
  pub wrote : Wrote x before.at before.out.now after.out.now after.at
  pub same : after.out.ghost_name ≡ before.out.ghost_name
