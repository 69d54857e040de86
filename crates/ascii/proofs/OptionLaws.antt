-- What holds of an optional value where it is there, and of two readings one after the other. Assumes nothing.
use mathlib.Core.Path.{◌≡◌, refl}
use Rattle.std.specs.Prelude.{Option, None, Some}
use Prim.Native.Nat.{ℕ}
use native.Mathlib.Omega.{arith}
use Rattle.ascii.specs.Ascii.{◌>>=◌}

abbrev pub Holds : {A : Type 0} → (A → Type 0) → Option A → Type 0
Holds P None = Unit {0}
Holds P (Some a) = P a

pub holds : {A : Type 0} (P : A → Type 0) (o : Option A) (a : A) → Holds P o → o ≡ Some a → P a
holds P None a h e = let z : ◌≡◌ {A = ℕ} 0 1 = cc in absurd (omega arith)
holds P (Some b) a h e = let z : b ≡ a = cc in rw (← z) h

pub and_then : {A B : Type 0} (Q : B → Type 0) (o : Option A) (f : A → Option B) → ((a : A) → o ≡ Some a → Holds Q (f a)) → Holds Q (o >>= f)
and_then Q None f h = tt
and_then Q (Some a) f h = h a refl

-- what stands between two readings
pub record Chained {A B : Type 0} (o : Option A) (f : A → Option B) (b : B) : Type 0 where
  pub between : A
  pub before : o ≡ Some between
  pub after : f between ≡ Some b

pub chained : {A B : Type 0} (o : Option A) (f : A → Option B) (b : B) → (o >>= f) ≡ Some b → Chained o f b
chained None f b e = let z : ◌≡◌ {A = ℕ} 0 1 = cc in absurd (omega arith)
chained (Some a) f b e = record { between = a; before = refl; after = e }
